use Rattle.std.proofs.Common.{◌≡◌, ℕ, ◌+◌, ◌<◌, [], ◌∷◌, ◌++◌, length, refl, sym, ap, ◌∙◌, arith, append-nil}
use Rattle.std.proofs.lemmas.Result.{on_ok_weaker}
use Rattle.verilog_netlist.specs.NetModules.{module_at}
use Rattle.hierarchy.specs.Walks.{joined_from}
use Rattle.netlist_link.specs.NamePlaces.{bits_before}
use Rattle.netlist_link.proofs.NamePlacing.{bits_more, places_more}
use Rattle.netlist_link.proofs.flat_bits.add_module.Goals as goal

pub loop-i-init : goal.loop-i-init
loop-i-init c =
    let starts = c.args.places.now.starts.items in
    let bits = c.args.places.now.bits in
    let len : c.len.result ≡ length bits.items = (let len = c.len.ensures in let ok = bits.ok in omega arith) in
    record {
      bits_are = sym (append-nil bits.items);
      starts_are = c.in_ok-push.ensures.ok ∙ ap (λ (n : ℕ). starts ++ n ∷ []) (c.in_ok-to_u32.ensures ∙ len);
      before_is = refl;
    }

pub loop-i-preserved : goal.loop-i-preserved
loop-i-preserved c =
    let names = (module_at c.args.modules.now c.args.m).names in
    let i = c.loop-i.i in
    let below : i < length names = (let end = c.name_count-i-end.ensures in let test = c.loop-i-test.true in omega arith) in
    record {
      bits_are = places_more names c.args.places.now c.loop-i.places i c.loop-i.before c.push-in-loop-i.new.items.items c.loop-i.invariant
          c.in_ok-push-2.ensures.ok;
      starts_are = c.loop-i.invariant.starts_are;
      before_is = (let more = bits_more names c.args.places.now i below in let now = c.in_ok-before.ensures in let width = c.width.ensures.width in
          let before = c.loop-i.invariant.before_is in omega arith);
    }

pub returns-clause-starts : goal.returns-clause-starts
returns-clause-starts c = on_ok_weaker c.push-2.result (λ pushed. c.loop-i.invariant.starts_are) c.push-2.ensures.ok

pub returns-clause-bits : goal.returns-clause-bits
returns-clause-bits c =
    let names = (module_at c.args.modules.now c.args.m).names in
    let bits = c.args.places.now.bits.items in
    let done : c.loop-i.i ≡ length names =
    (let end = c.name_count-i-end.ensures in let test = c.loop-i-test.false in let fits = c.loop-i.auto.i-end in omega arith) in
    on_ok_weaker c.push-2.result
    (λ pushed. places_more names c.args.places.now c.loop-i.places c.loop-i.i c.loop-i.before c.push-2.new.items.items c.loop-i.invariant pushed
    ∙ ap (λ (n : ℕ). bits ++ joined_from (λ k. bits_before names k ∷ []) 0 (n + 1)) done) c.push-2.ensures.ok
