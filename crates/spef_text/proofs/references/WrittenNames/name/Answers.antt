use Rattle.std.proofs.Common.{sym, subst, ◌∙◌}
use Rattle.std.specs.Prelude.{IfSome}
use Rattle.spef_text.specs.Heads.{HeadedFile, text_of}
use Rattle.spef_text.specs.Classes.{index_digits}
use Rattle.spef_text.specs.References.{IsMapped, NamesAsWritten}
use Rattle.spef_text.proofs.ReferenceLemmas.{written_named}
use Rattle.spef_text.proofs.references.WrittenNames.name.Goals as goal

-- src/references.rt
pub returns-clause-name : goal.returns-clause-name
returns-clause-name c =
    let file = c.self.inside.file.now in
    subst (λ (h : HeadedFile). IfSome c.written_mapped.result (NamesAsWritten h.file c.args.cut (text_of h.file c.args.token))) c.self.view_is
    (written_named file c.args.cut c.text_of-word.result.now (text_of file c.args.token) c.before-2.result.now c.in_ok-name.name.now c.index_end-end.result c.written_mapped.result c.text_of-word.ensures
    (sym c.is_starred.ensures ∙ c.if-not-is_starred.false) (rw c.marks-marks.ensures at c.index_end-end.ensures.value) c.before-2.ensures (subst (λ (h : HeadedFile). IsMapped h.file (index_digits c.before-2.result.now) c.in_ok-name.name.now) (sym c.self.view_is) c.in_ok-name.ensures.mapped)
    (rw c.marks-marks.ensures at c.written_mapped.ensures))
