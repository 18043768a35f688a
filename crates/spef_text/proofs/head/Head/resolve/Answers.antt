use Rattle.std.proofs.Common.{◌≡◌, refl, sym, ◌∙◌}
use Rattle.spef_text.specs.Heads.{text_of}
use Rattle.spef_text.specs.References.{marks_of, mapped_node, IsNodeOf, IsUnknown}
use Rattle.name_table.specs.SpefNames.{node_name}
use Rattle.spef_text.proofs.ReferenceLemmas.{in_ok, is_unknown, plain_named, mapped_named, one_node, names_nothing}
use Rattle.spef_text.proofs.head.Head.resolve.Goals as goal
use Rattle.spef_text.proofs.head.Head.resolve.Goals.{then-is_starred+in-Some, else-is_starred}

unknown : (c : goal.In-None) → IsUnknown c.args.file.now (text_of c.args.file.now c.args.token)
unknown c =
    is_unknown c.args.file.now c.text_of-word.result.now (text_of c.args.file.now c.args.token) c.before-then-is_starred.result.now c.index_end-end.result c.text_of-word.ensures
    (sym c.is_starred.ensures ∙ c.if-is_starred.true) (rw c.marks-marks.ensures at c.index_end-end.ensures.value) c.before-then-is_starred.ensures c.in-None.ensures.unknown

pub returns-in-None-clause-refused : goal.returns-in-None-clause-refused
returns-in-None-clause-refused c = (refl, unknown c)

pub returns-in-None-clause-only : goal.returns-in-None-clause-only
returns-in-None-clause-only c node is = absurd (names_nothing c.args.file.now c.args.cut (text_of c.args.file.now c.args.token) node (unknown c) is)

named : (c : goal.In-Ok) → IsNodeOf c.args.file.now c.args.cut (text_of c.args.file.now c.args.token) c.in-Ok.node
named c =
    elim c.if-is_starred.branch [
      | then-is_starred+in-Some w ↦
          mapped_named c.args.file.now c.args.cut c.text_of-word.result.now (text_of c.args.file.now c.args.token) w.before-then-is_starred.result.now w.in-Some.name.now w.index_end-end.result c.in-Ok.node c.text_of-word.ensures
          (sym c.is_starred.ensures ∙ w.if-is_starred.true) (rw c.marks-marks.ensures at w.index_end-end.ensures.value) w.before-then-is_starred.ensures w.in-Some.ensures.mapped
          (in_ok (λ node. node ≡ mapped_node (marks_of c.args.file.now) c.args.cut w.in-Some.name.now c.text_of-word.result.now w.index_end-end.result) w.mapped_node.result c.in-Ok.node (sym w.found-is ∙ c.in-Ok.is)
          (rw c.marks-marks.ensures at w.mapped_node.ensures))
      | else-is_starred w ↦
          plain_named c.args.file.now c.args.cut c.text_of-word.result.now (text_of c.args.file.now c.args.token) c.in-Ok.node c.text_of-word.ensures (sym c.is_starred.ensures ∙ w.if-is_starred.false)
          (in_ok (λ node. node ≡ node_name (marks_of c.args.file.now) c.args.cut c.text_of-word.result.now) w.read_spef_node-found.result c.in-Ok.node (sym w.found-is ∙ c.in-Ok.is)
          (rw c.marks-marks.ensures at w.read_spef_node-found.ensures.named))
    ]

pub returns-in-Ok-clause-named : goal.returns-in-Ok-clause-named
returns-in-Ok-clause-named c = named c

pub returns-in-Ok-clause-only : goal.returns-in-Ok-clause-only
returns-in-Ok-clause-only c node is =
    one_node c.args.file.now c.args.cut (text_of c.args.file.now c.args.token) c.in-Ok.node node c.requires.distinct (named c) is
