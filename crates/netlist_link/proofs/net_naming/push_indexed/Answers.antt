use Rattle.std.proofs.Common.{◌≡◌, ℕ, List, [], ◌∷◌, ◌++◌, ap, ◌∙◌, subst}
use Rattle.std.specs.Prelude.{OnOk}
use Rattle.netlist_link.specs.FlatNames.{bit_suffix}
use Rattle.netlist_link.proofs.net_naming.push_indexed.Goals as goal

pub returns : goal.returns
returns c =
    let index_is : c.bytes.result.now ≡ bit_suffix c.args.range c.args.bit =
    c.bytes.ensures ∙ c.in_ok-push_bit.ensures ∙ ap (λ (l : List ℕ). l ++ bit_suffix c.args.range c.args.bit) c.new-index.ensures in
    subst (λ (suffix : List ℕ). OnOk c.push_joined.result (c.push_joined.new.self ≡ c.args.names.now ++ (c.args.path.now ++ c.args.name.now ++ suffix) ∷ []))
    index_is c.push_joined.ensures.ok
