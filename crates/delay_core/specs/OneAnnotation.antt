-- That the delays of a design have one answer.
use Rattle.std.specs.Prelude.{Some}
use Rattle.edge_io.specs.Holding.{Held}
use Rattle.spef_nets.specs.Sections.{Corners}
use Rattle.refusals.specs.OneStep.{HasOneAnswer}
use Rattle.delay_core.specs.Annotation.{Annotates}
use Rattle.delay_core.specs.declared.settings.Files.{Files}
use Rattle.delay_core.specs.declared.settings.Settings.{Settings}

-- the files of a design and its settings have one answer at these corners: the design with its delays, or why it has none
abbrev pub OneAnnotation : {I : Type 0} → Corners I → Type 0
OneAnnotation corners = (held : Held) (files : Files) (settings : Settings) → HasOneAnswer (Annotates (Some held) corners files settings)
