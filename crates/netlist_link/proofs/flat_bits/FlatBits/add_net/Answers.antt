use Rattle.std.proofs.Common.{◌≡◌, ℕ, [], ◌∷◌, ◌++◌, length, Some, refl, ap, ◌∙◌, arith}
use Rattle.std.proofs.lemmas.Result.{on_ok_weaker}
use Rattle.netlist_link.proofs.KeepingBits.{net_step}
use Rattle.netlist_link.proofs.flat_bits.FlatBits.add_net.Goals as goal

pub returns : goal.returns
returns c = λ d started targets nets held inside.
    let old = c.args.self.now in
    let len : c.len.result ≡ length old.nets.items = (let len = c.len.ensures in let ok = old.nets.ok in omega arith) in
    on_ok_weaker c.push-2.result
    (λ pushed. net_step d started targets nets old (record { starts = old.starts; bits = c.push.new.items; nets = c.push-2.new.items; names = old.names })
    held c.args.place refl refl
    (c.in_ok-push.ensures.ok ∙ ap (λ (n : ℕ). old.bits.items ++ Some n ∷ []) (c.in_ok-to_u32.ensures ∙ len)) pushed inside) c.push-2.ensures.ok
