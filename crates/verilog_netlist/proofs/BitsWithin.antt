-- The bits of runs that are within the ranges of their names are within them, too.
use Rattle.std.proofs.Common.{◌≡◌, ℕ, zero, suc, ◌-◌, inl, inr, List, [], ◌∷◌, length, slice_get, Some, refl, sym, ◌∙◌, subst, arith}
use Rattle.std.proofs.lemmas.Option.{none-some, same_Some}
use Rattle.verilog_netlist.specs.ModuleNames.{NetName}
use Rattle.verilog_netlist.specs.NetModules.{bits_from, bit_after, bits_of_run, bits_in}
use Rattle.verilog_netlist.specs.SoundModules.{AreWithin}
use Rattle.verilog_netlist.specs.declared.runs.Bit.{Bit}
use Rattle.verilog_netlist.specs.declared.runs.Bit.TheVariants.{Tied, Wire}
use Rattle.verilog_netlist.specs.declared.runs.Run.{Run}
use Rattle.verilog_netlist.proofs.PartsFound.{le_or_lt}
use Rattle.verilog_netlist.proofs.TableReading.{slice_get_before, slice_get_behind}

first_within : (names : List NetName) (first : Bit) (n : ℕ) → AreWithin names first (suc n) → AreWithin names first 1
first_within names Tied n h = tt
first_within names (Wire name bit) n h = (h.0, (let w = h.1 in omega arith))

rest_within : (names : List NetName) (first : Bit) (n : ℕ) → AreWithin names first (suc n) → AreWithin names (bit_after first 1) n
rest_within names Tied n h = tt
rest_within names (Wire name bit) n h = (h.0, (let w = h.1 in omega arith))

run_bit_within : (names : List NetName) (first : Bit) (n b : ℕ) (bit : Bit) → AreWithin names first n → slice_get (bits_from first n) b ≡ Some bit → AreWithin names bit 1
run_bit_within names first zero b bit h is = absurd (none-some bit is)
run_bit_within names first (suc n) zero bit h is = subst (λ (x : Bit). AreWithin names x 1) (same_Some first bit is) (first_within names first n h)
run_bit_within names first (suc n) (suc b) bit h is = run_bit_within names (bit_after first 1) n b bit (rest_within names first n h) is

pub bit_within : (names : List NetName) (runs : List Run) → ((r : ℕ) (run : Run) → slice_get runs r ≡ Some run → AreWithin names run.first run.count)
    → (b : ℕ) (bit : Bit) → slice_get (bits_in runs) b ≡ Some bit → AreWithin names bit 1
bit_within names [] h b bit is = absurd (none-some bit is)
bit_within names (run ∷ runs) h b bit is = elim (le_or_lt (length (bits_of_run run)) b) [
  | inr less ↦ run_bit_within names run.first run.count b bit (h 0 run refl) (sym (slice_get_before (bits_of_run run) (bits_in runs) b less) ∙ is)
  | inl more ↦ bit_within names runs (λ r. h (suc r)) (b - length (bits_of_run run)) bit (sym (slice_get_behind (bits_of_run run) (bits_in runs) b (b - length (bits_of_run run)) (omega arith)) ∙ is)
]
