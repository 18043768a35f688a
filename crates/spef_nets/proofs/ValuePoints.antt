-- The points of values: one that is read has no fault.
use Rattle.std.proofs.Common.{ℕ}
use Rattle.delay_units.specs.declared.numbers.Unit.{Unit}
use Rattle.spef_text.specs.Entries.{Section}
use Rattle.spef_text.specs.Heads.{text_of}
use Rattle.spef_text.specs.SpefFiles.{SpefText}
use Rattle.spef_nets.specs.Values.{triple_of, AreGrains}
use Rattle.spef_nets.specs.Faults.{amount, IsGood}
use Rattle.spef_nets.specs.declared.amounts.Grains.{Grains}
use Rattle.spef_nets.specs.declared.amounts.AmountFault.TheVariants as fault
use Rattle.spef_nets.specs.declared.ends.SectionEnd.TheVariants.{UnknownIndex, BadNumber, ValueTooLarge, RepeatedNet, ForeignCoupling, OutOfMemory}
use Rattle.spef_nets.proofs.AmountLemmas.{no_value_fault}

pub good_amount : (file : SpefText) (place : ℕ) (section : Section) (unit : Unit) (most token : ℕ) (grains : Grains) → AreGrains unit most (triple_of (text_of file token)) grains → IsGood file place section (amount unit most token)
good_amount file place section unit most token grains are (BadNumber at) (same, is) = no_value_fault unit most (triple_of (text_of file token)) grains fault.BadNumber are is
good_amount file place section unit most token grains are (ValueTooLarge at) (same, is) = no_value_fault unit most (triple_of (text_of file token)) grains fault.ValueTooLarge are is
good_amount file place section unit most token grains are (UnknownIndex at) is = is
good_amount file place section unit most token grains are (RepeatedNet net at) is = is
good_amount file place section unit most token grains are (ForeignCoupling net at) is = is
good_amount file place section unit most token grains are OutOfMemory is = is
