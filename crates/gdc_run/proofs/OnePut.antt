-- What is put into what is written is one where the phases have one answer.
use Rattle.std.proofs.Common.{sym, ap, ◌∙◌}
use Rattle.verdict_phases.specs.Phases.{Step, Go, Halt}
use Rattle.refusals.specs.OneStep.{HasOneAnswer}
use Rattle.refusals.specs.declared.refusal.FileKey.{FileKey}
use Rattle.refusals.specs.declared.refusal.Refusal.{Refusal}
use Rattle.gdc_run.specs.Putting.{As}

pub one_put : {A B : Type 0} (put : A → B) (phase : Step Refusal FileKey A → Type 0) → HasOneAnswer phase → HasOneAnswer (As put phase)
one_put put phase law (Go x) (Go y) r s d e = let same = law (Go r.0) (Go s.0) r.1 s.1 tt tt in r.2 ∙ ap put same ∙ sym s.2
one_put put phase law (Go x) (Halt w) r s d e = law (Go r.0) (Halt w) r.1 s tt e
one_put put phase law (Halt w) (Go y) r s d e = law (Halt w) (Go s.0) r s.1 d tt
one_put put phase law (Halt w) (Halt v) r s d e = law (Halt w) (Halt v) r s d e
