-- The key at the place that is found is the one that was looked for.
use Rattle.std.proofs.Common.{◌≡◌, ℕ, List, Option, None, Some, slice_get, IfSome, sym, ap, ◌∙◌}
use Rattle.std.specs.List.{position}
use Rattle.std.proofs.lemmas.List.Quantifiers.{position-Some}
use Rattle.std.proofs.lemmas.Option.{slice_get-get_or}
use Rattle.name_table.specs.NodeKeys.{same_key}
use Rattle.name_table.specs.SameKeys.{same_key_is}
use Rattle.rc_tree.specs.Nodes.{Node}
use Rattle.rc_tree.proofs.node_table.place_in.Goals as goal

found_at : (key : Node) (keys : List Node) (found : Option ℕ) → found ≡ position (same_key key) keys → IfSome found (λ place. slice_get keys place ≡ Some key)
found_at key keys None is = tt
found_at key keys (Some place) is =
    let at = position-Some (same_key key) keys place key (sym is) in
    slice_get-get_or keys place key at.0 ∙ ap Some (sym (same_key_is key _ at.1))

-- src/node_table.rt
pub returns-clause-found : goal.returns-clause-found
returns-clause-found c = found_at c.args.key.now c.args.keys.now.keys c.get_index_of.result c.get_index_of.ensures.index
