-- That the phases of the loads and Elmore sums, and those of the slews, have one answer.
use Rattle.std.specs.Prelude.{◌<◌, Result}
use Rattle.name_table.specs.Names.{AreDistinct}
use Rattle.spef_nets.specs.NetElements.{net_names}
use Rattle.net_delays.specs.NetTimes.{NetTimes}
use Rattle.slew_order.specs.Slews.{SlewTables}
use Rattle.slew_order.specs.Timings.{SlewSource}
use Rattle.net_parasitics.specs.Inputs.{Inputs}
use Rattle.corner_set.specs.declared.choices.Missing.{Missing}
use Rattle.refusals.specs.SameAnswers.{SameAnswer}
use Rattle.refusals.specs.declared.refusal.Refusal.{Refusal}
use Rattle.delay_core.specs.DelayPhase.{FindsDelays}
use Rattle.delay_core.specs.SlewPhase.{FindsSlews}

-- where the sections are of different nets, the nets have one answer: loads and Elmore sums, or a refusal
abbrev pub OneDelays : Type 0
OneDelays = (inputs : Inputs) (missing : Missing) (one other : Result NetTimes Refusal) → AreDistinct (net_names inputs.sections)
    → 0 < inputs.count → FindsDelays inputs missing one → FindsDelays inputs missing other → SameAnswer one other

-- a design with its loads and Elmore sums has one answer: slews, or a refusal, in which one of the loops is named
abbrev pub OneSlews : Type 0
OneSlews = (source : SlewSource) (one other : Result SlewTables Refusal) → FindsSlews source one → FindsSlews source other
    → SameAnswer one other
