use Rattle.std.proofs.Common.{◌≡◌, ◌<◌, ◌≤◌, length, take, ap, arith}
use Rattle.std.proofs.lemmas.List.{length-take-le}
use Rattle.netlist_link.specs.Clashes.{clash_is, texts_in}
use Rattle.netlist_link.proofs.Clashing.{clash_there, named_there, named_step, refused_step, named_distinct, all_named, none_named}
use Rattle.netlist_link.proofs.name_clashes.check_names.Goals as goal

pub loop-i-init : goal.loop-i-init
loop-i-init c = none_named (texts_in c.in_ok-seen.seen.keys) c.in_ok-seen.ensures

pub loop-i-preserved : goal.loop-i-preserved
loop-i-preserved c =
    let texts = c.args.names.now in
    let i = c.loop-i.i in
    let names = texts_in c.loop-i.seen.keys in
    let after = texts_in c.place_among.new.seen.keys in
    let text = c.text-text.result.now in
    let so_far = c.loop-i.invariant in
    let past : length names ≤ c.in_ok-place.place =
    (let same = ap length so_far.are in let many = length-take-le i texts (let end = c.len-i-end.ensures in let test = c.loop-i-test.true in omega arith) in
    let test = c.if-place-i.false in omega arith) in
    named_step texts names i text c.text-text.ensures so_far after
    (named_there names after text c.in_ok-place.place c.in_ok-place.ensures.held c.in_ok-place.ensures.added c.in_ok-place.ensures.named
    c.place_among.ensures.distinct past)

pub returns-then-place-i-clause-refused : goal.returns-then-place-i-clause-refused
returns-then-place-i-clause-refused c =
    let texts = c.args.names.now in
    let i = c.loop-i.i in
    let names = texts_in c.loop-i.seen.keys in
    let after = texts_in c.place_among.new.seen.keys in
    let text = c.text-text.result.now in
    let so_far = c.loop-i.invariant in
    let before : c.in_ok-place.place < length names =
    (let same = ap length so_far.are in let many = length-take-le i texts (let end = c.len-i-end.ensures in let test = c.loop-i-test.true in omega arith) in
    let test = c.if-place-i.true in omega arith) in
    rw c.in_ok-from_bytes.ensures (refused_step texts names i text c.text-text.ensures so_far _
    (clash_is text (clash_there names after text c.in_ok-place.place c.in_ok-place.ensures.held c.in_ok-place.ensures.added c.in_ok-place.ensures.named
    (named_distinct (take i texts) names so_far) before)))

pub returns-clause-distinct : goal.returns-clause-distinct
returns-clause-distinct c =
    let texts = c.args.names.now in
    let i = c.loop-i.i in
    let whole : i ≡ length texts =
    (let end = c.len-i-end.ensures in let test = c.loop-i-test.false in let fits = c.loop-i.auto.i-end in omega arith) in
    (all_named texts (texts_in c.loop-i.seen.keys) i c.loop-i.invariant whole).distinct
