-- The last of the group's own.
use Rattle.std.proofs.Common.{◌≡◌, ◌+◌, ◌<◌, ℕ, List, length, map, get_or, take, drop, Option, sym, ap, ◌∙◌, subst, arith}
use Rattle.std.specs.Option.{IfNone}
use Rattle.std.proofs.lemmas.List.{length-map}
use Rattle.liberty_groups.specs.declared.rows.AttrId.{AttrId}
use Rattle.liberty_groups.specs.Groups.{Attribute, attributes_of}
use Rattle.liberty_groups.specs.Tables.{Tables, no_attribute, group_at, attribute_at, IsLastOf, HasNone}
use Rattle.liberty_groups.specs.TableRows.{attribute_of, part_of, IsSpanIn}
use Rattle.liberty_groups.specs.declared.rows.Span.{Span}
use Rattle.liberty_groups.specs.declared.rows.AttributeRow.{AttributeRow}
use Rattle.liberty_groups.proofs.Spans.{row_in, attributes_are, cut_out, part_of_map, part_entry}
use Rattle.liberty_groups.proofs.tree.GroupTree.attribute.Goals as goal

pub returns-in_err-place-clause-absent : goal.returns-in_err-place-clause-absent
returns-in_err-place-clause-absent c =
    let span : Span = c.index.result.now.attributes in
    let names : List (List ℕ) = c.self.inside.names in
    let texts : List (List ℕ) = c.self.inside.texts.items in
    let rows : List AttributeRow = c.self.inside.attributes.items in
    let own : c.split_at-2.result.1.now ≡ part_of rows span = c.split_at-2.ensures.back ∙ ap (drop span.from) (c.split_at.ensures.front ∙ ap (take span.end) c.as_slice.ensures.value) ∙ cut_out rows span (row_in c.self.inside.names c.self.inside.texts.items c.self.inside.attributes.items c.self.inside.children.items c.self.inside.groups.items c.self.invariant.tables c.args.self.now c.self.view_is c.args.g.0 c.requires c.index.result.now c.index.ensures).own.0 in
    let all : map (attribute_of names texts) c.split_at-2.result.1.now ≡ attributes_of (group_at c.args.self.now c.args.g.0) = ap (map (attribute_of names texts)) own ∙ sym (part_of_map (attribute_of names texts) rows span) ∙ sym (attributes_are c.self.inside.names c.self.inside.texts.items c.self.inside.attributes.items c.self.inside.children.items c.self.inside.groups.items c.self.invariant.tables c.args.self.now c.self.view_is c.args.g.0 c.requires c.index.result.now c.index.ensures) in
    subst (λ (r : Option AttrId). IfNone r (HasNone c.args.key.now (attributes_of (group_at c.args.self.now c.args.g.0)))) (sym c.from_residual.ensures)
    (subst (HasNone c.args.key.now) all (c.in_err-place.ensures.absent texts))

pub returns-clause-last : goal.returns-clause-last
returns-clause-last c =
    let span : Span = c.index.result.now.attributes in
    let names : List (List ℕ) = c.self.inside.names in
    let texts : List (List ℕ) = c.self.inside.texts.items in
    let rows : List AttributeRow = c.self.inside.attributes.items in
    let own : c.split_at-2.result.1.now ≡ part_of rows span = c.split_at-2.ensures.back ∙ ap (drop span.from) (c.split_at.ensures.front ∙ ap (take span.end) c.as_slice.ensures.value) ∙ cut_out rows span (row_in c.self.inside.names c.self.inside.texts.items c.self.inside.attributes.items c.self.inside.children.items c.self.inside.groups.items c.self.invariant.tables c.args.self.now c.self.view_is c.args.g.0 c.requires c.index.result.now c.index.ensures).own.0 in
    let all : map (attribute_of names texts) c.split_at-2.result.1.now ≡ attributes_of (group_at c.args.self.now c.args.g.0) = ap (map (attribute_of names texts)) own ∙ sym (part_of_map (attribute_of names texts) rows span) ∙ sym (attributes_are c.self.inside.names c.self.inside.texts.items c.self.inside.attributes.items c.self.inside.children.items c.self.inside.groups.items c.self.invariant.tables c.args.self.now c.self.view_is c.args.g.0 c.requires c.index.result.now c.index.ensures) in
    let place : ℕ = c.in_ok-place.place in
    let every : List Attribute = map (attribute_of names texts) rows in
    let inside = subst (λ (n : ℕ). IsSpanIn n span) (sym (length-map rows (attribute_of names texts))) (row_in c.self.inside.names c.self.inside.texts.items c.self.inside.attributes.items c.self.inside.children.items c.self.inside.groups.items c.self.invariant.tables c.args.self.now c.self.view_is c.args.g.0 c.requires c.index.result.now c.index.ensures).own in
    let own_all = all ∙ attributes_are c.self.inside.names c.self.inside.texts.items c.self.inside.attributes.items c.self.inside.children.items c.self.inside.groups.items c.self.invariant.tables c.args.self.now c.self.view_is c.args.g.0 c.requires c.index.result.now c.index.ensures in
    let below : place < length (part_of every span) = let w = c.in_ok-place.ensures.within in let l = length-map c.split_at-2.result.1.now (attribute_of names texts) in let m = ap length own_all in omega arith in
    let here : get_or (map (attribute_of names texts) c.split_at-2.result.1.now) place no_attribute ≡ attribute_at c.args.self.now (span.from + place) =
    ap (λ (l : List Attribute). get_or l place no_attribute) own_all ∙ part_entry every span place no_attribute inside below ∙ ap (λ (t : Tables). attribute_at t (span.from + place)) c.self.view_is in
    subst (IsLastOf c.args.key.now (attributes_of (group_at c.args.self.now c.args.g.0))) here
    (subst (λ (l : List Attribute). IsLastOf c.args.key.now l (get_or (map (attribute_of names texts) c.split_at-2.result.1.now) place no_attribute)) all (c.in_ok-place.ensures.last texts))
