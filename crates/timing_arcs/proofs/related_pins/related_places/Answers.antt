use Rattle.std.proofs.Common.{◌∙◌, codes, [], List, ℕ, IfOk, IfErr, unwrap_or, ap, subst}
use Rattle.liberty_groups.specs.Tables.{group_at}
use Rattle.liberty_tables.specs.Library.{value_in}
use Rattle.timing_arcs.specs.PinTable.{entries_in}
use Rattle.token_texts.specs.Blanks.{is_blank}
use Rattle.token_texts.specs.Pieces.{pieces_between}
use Rattle.timing_arcs.specs.DelayGroups.{related_names}
use Rattle.timing_arcs.specs.RelatedPins.{ArePlaces, IsUnrelated}
use Rattle.timing_arcs.proofs.related_pins.related_places.Goals as goal

pub returns-in-Some-clause-ok : goal.returns-in-Some-clause-ok
unfolding related_names
returns-in-Some-clause-ok c =
    let e = ap (λ v. unwrap_or v []) (c.in-Some.ensures ∙ ap (λ t. value_in (codes "related_pin") (group_at t c.args.group.0)) c.tree.ensures.tree) in
    subst (λ (text : List ℕ). IfOk c.places_in.result (λ places. ArePlaces (entries_in c.args.cell.now.tree c.args.cell.now.names c.args.cell.now.groups) c.args.cell.now.names (pieces_between is_blank text) places.items)) e c.places_in.ensures.ok

pub returns-in-Some-clause-err : goal.returns-in-Some-clause-err
unfolding related_names
returns-in-Some-clause-err c =
    let e = ap (λ v. unwrap_or v []) (c.in-Some.ensures ∙ ap (λ t. value_in (codes "related_pin") (group_at t c.args.group.0)) c.tree.ensures.tree) in
    subst (λ (text : List ℕ). IfErr c.places_in.result (IsUnrelated (entries_in c.args.cell.now.tree c.args.cell.now.names c.args.cell.now.groups) (pieces_between is_blank text))) e c.places_in.ensures.err

pub returns-in-None-clause-ok : goal.returns-in-None-clause-ok
unfolding related_names
returns-in-None-clause-ok c =
    let e = ap (λ v. unwrap_or v []) (c.in-None.ensures ∙ ap (λ t. value_in (codes "related_pin") (group_at t c.args.group.0)) c.tree.ensures.tree) in
    subst (λ (text : List ℕ). IfOk c.places_in-in-None.result (λ places. ArePlaces (entries_in c.args.cell.now.tree c.args.cell.now.names c.args.cell.now.groups) c.args.cell.now.names (pieces_between is_blank text) places.items)) e c.places_in-in-None.ensures.ok

pub returns-in-None-clause-err : goal.returns-in-None-clause-err
unfolding related_names
returns-in-None-clause-err c =
    let e = ap (λ v. unwrap_or v []) (c.in-None.ensures ∙ ap (λ t. value_in (codes "related_pin") (group_at t c.args.group.0)) c.tree.ensures.tree) in
    subst (λ (text : List ℕ). IfErr c.places_in-in-None.result (IsUnrelated (entries_in c.args.cell.now.tree c.args.cell.now.names c.args.cell.now.groups) (pieces_between is_blank text))) e c.places_in-in-None.ensures.err
