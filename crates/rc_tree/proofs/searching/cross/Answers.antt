use Rattle.std.proofs.Common.{◌-◌, length, slice_index, refl, ap, arith, inl, inr}
use Rattle.std.proofs.lemmas.List.{get_or_read}
use Rattle.rc_tree.specs.FoundSearch.{search_of}
use Rattle.rc_tree.proofs.Finding.{crossed}
use Rattle.rc_tree.proofs.searching.cross.Goals as goal

-- src/searching.rt
pub returns-then-number-ne0 : goal.returns-then-number-ne0
returns-then-number-ne0 c =
    let from = slice_index c.args.froms.now c.args.resistor in
    let to = slice_index c.args.tos.now c.args.resistor in
    let read = get_or_read c.args.found.now.numbers.items from c.index-number.result.now (c.requires.froms c.args.resistor 0 c.requires.within) c.index-number.ensures 0 in
    crossed (length c.args.found.now.numbers.items) c.args.froms.now c.args.tos.now (search_of c.args.found.now) (search_of c.reach.new.found) c.args.resistor to from (c.index-number.result.now - 1) c.requires.search c.requires.within
    (c.requires.tos c.args.resistor 0 (omega (arith, c.requires.within, c.requires.same))) (omega (arith, read, c.if-number-ne0.true)) (ap (λ k. k - 1) read) (inl (refl, refl)) c.in_ok-reach.ensures

pub returns-then-number-ne0-2 : goal.returns-then-number-ne0-2
returns-then-number-ne0-2 c =
    let from = slice_index c.args.froms.now c.args.resistor in
    let to = slice_index c.args.tos.now c.args.resistor in
    let read = get_or_read c.args.found.now.numbers.items to c.index-number-2.result.now (c.requires.tos c.args.resistor 0 (omega (arith, c.requires.within, c.requires.same))) c.index-number-2.ensures 0 in
    crossed (length c.args.found.now.numbers.items) c.args.froms.now c.args.tos.now (search_of c.args.found.now) (search_of c.reach-then-number-ne0-2.new.found) c.args.resistor from to (c.index-number-2.result.now - 1) c.requires.search c.requires.within
    (c.requires.froms c.args.resistor 0 c.requires.within) (omega (arith, read, c.if-number-ne0-2.true)) (ap (λ k. k - 1) read) (inr (refl, refl)) c.in_ok-reach-2.ensures
