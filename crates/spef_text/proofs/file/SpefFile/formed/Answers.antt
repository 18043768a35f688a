use Rattle.std.proofs.Common.{◌≤◌, length, subst}
use Rattle.spef_text.specs.SpefFiles.{SpefText}
use Rattle.spef_text.proofs.SectionOrder.{few_sections}
use Rattle.spef_text.proofs.file.SpefFile.formed.Goals as goal

pub returns-clause-sections : goal.returns-clause-sections
returns-clause-sections c = subst (λ (file : SpefText). length file.reading.sections ≤ length file.texts) c.self.view_is (few_sections _ c.self.invariant.0.formed)
