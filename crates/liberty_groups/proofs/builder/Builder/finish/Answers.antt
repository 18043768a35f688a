-- The library ends, or there is none.
use Rattle.std.proofs.Common.{ℕ, List, [], length, refl, ap, ◌∙◌, subst, arith}
use Rattle.std.specs.List.{All}
use Rattle.liberty_groups.specs.Tables.{Row, tree_in, tree_of, trees_of}
use Rattle.liberty_groups.specs.Opened.{row_of_open, IsOpenIn}
use Rattle.liberty_groups.specs.Built.{tables_in}
use Rattle.liberty_groups.specs.declared.rows.OpenGroup.{OpenGroup}
use Rattle.liberty_groups.specs.declared.flat.FlatTree.{FlatTree}
use Rattle.liberty_groups.proofs.Opening.{last_is}
use Rattle.liberty_groups.proofs.Ending.{last_tree, root_last, root_none, empty_tree}
use Rattle.liberty_groups.proofs.builder.Builder.finish.Goals as goal
use Rattle.liberty_groups.proofs.builder.Builder.finish.Goals.{in-Some, in-None}

pub add_group-requires-clause-group : goal.add_group-requires-clause-group
add_group-requires-clause-group c =
    let f : FlatTree = c.args.self.flat in
    elim c.match-pop.branch [
      | in-Some w ↦
          rw w.last-is (last_is (length f.names) (length f.texts.items) (length f.groups.items) c.pop.new.self.items w.in-Some.group
          (subst (All (IsOpenIn (length f.names) (length f.texts.items) (length f.groups.items))) w.in-Some.ensures.items c.requires.sound.opened))
      | in-None w ↦
          rw w.last-is (record {
            args = (omega arith, omega arith);
            own = rw w.new-in-None.ensures.items (λ k d lt. absurd (omega arith));
            inner = rw w.new-in-None-2.ensures.items (λ k d lt. absurd (omega arith));
          })
    ]

pub returns : goal.returns
returns c =
    let f : FlatTree = c.args.self.flat in
    let names : List (List ℕ) = f.names in
    let texts : List (List ℕ) = f.texts.items in
    let rows : List Row = (tables_in f).rows in
    let opens : List OpenGroup = c.args.self.open_groups.items in
    ap tree_of c.of.ensures
    ∙ ap (λ (all : List Row). tree_of (record { rows = all; attributes = [] })) c.in_ok-_root.ensures.rows
    ∙ last_tree rows (row_of_open names texts c.match-pop.last) []
    ∙ elim c.match-pop.branch [
      | in-Some w ↦
          ap (λ (last : OpenGroup). tree_in (trees_of rows) (row_of_open names texts last)) w.last-is
          ∙ root_last names texts (trees_of rows) opens c.pop.new.self.items w.in-Some.group w.in-Some.ensures.items
      | in-None w ↦
          empty_tree names texts (trees_of rows) c.match-pop.last (rw w.last-is w.new.ensures) (rw w.last-is refl) (rw w.last-is w.new-in-None.ensures.items) (rw w.last-is w.new-in-None-2.ensures.items)
          ∙ root_none names texts (trees_of rows) opens (let e = w.in-None.ensures.cases.0 in let o = c.args.self.open_groups.ok.0 in omega arith)
    ]
