-- A file ends behind its library.
use Rattle.std.proofs.Common.{◌≡◌, List, Ok, Err, refl, sym, ap, ◌∙◌}
use Rattle.liberty_groups.specs.Modes.{Frame, finish_in}
use Rattle.liberty_groups.specs.ReaderStates.{state_of}
use Rattle.liberty_groups.specs.declared.modes.Mode.{Mode}
use Rattle.liberty_groups.specs.declared.modes.Mode.TheVariants.{End}
use Rattle.liberty_groups.specs.declared.faults.Cause.TheVariants.{EndInside}
use Rattle.liberty_groups.proofs.SoFar.{ends_well, ends_inside}
use Rattle.liberty_groups.proofs.reader.ReaderTokenReader.finish.Goals as goal

inside : (mode : Mode) (frames : List Frame) → (mode ≡ End → ⊥) → finish_in mode frames ≡ Err EndInside
inside End frames ended = absurd (ended refl)
inside _ frames ended = refl

pub returns-in_ok-tree-in-End : goal.returns-in_ok-tree-in-End
returns-in_ok-tree-in-End c = record {
  state = λ before leads.
      ends_well before c.args.self c.in_ok-tree-in-End.tree leads (ap (λ mode. finish_in mode (state_of c.args.self).frames) c.in-End.is ∙ ap Ok (sym c.in_ok-tree-in-End.ensures));
}

pub returns-in_default : goal.returns-in_default
returns-in_default c = record {
  state = λ before leads. ends_inside before c.args.self EndInside leads (inside c.args.self.mode (state_of c.args.self).frames c.in_default.not-End);
}
