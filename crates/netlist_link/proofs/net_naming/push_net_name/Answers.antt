use Rattle.std.proofs.Common.{◌≡◌, ℕ, List, [], ◌∷◌, ◌++◌, Option, sym, subst, append-nil}
use Rattle.std.specs.Prelude.{OnOk}
use Rattle.verilog_netlist.specs.declared.entries.Range.{Range}
use Rattle.netlist_link.specs.FlatNames.{bit_suffix}
use Rattle.netlist_link.proofs.net_naming.push_net_name.Goals as goal

pub returns-in-None : goal.returns-in-None
returns-in-None c =
    let named = c.args.path.now ++ c.args.name.now in
    subst (λ (r : Option Range). OnOk c.push.result (c.push.new.self ≡ c.args.names.now ++ (named ++ bit_suffix r c.args.bit) ∷ [])) (sym c.in-None.is)
    (subst (λ (text : List ℕ). OnOk c.push.result (c.push.new.self ≡ c.args.names.now ++ text ∷ [])) (sym (append-nil named)) c.push.ensures.ok)
