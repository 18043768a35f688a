-- What a look-up answers is small.
use Rattle.std.proofs.Common.{ℕ, ◌≤◌, Result, Ok, Err, ℤ, unsigned_abs, IfOk}
use Rattle.nldm_lookup.specs.Tables.{TimingTable}
use Rattle.nldm_lookup.specs.Interpolant.{IsLookup, most_in}
use Rattle.corner_set.specs.declared.choices.Beyond.{Beyond}
use Rattle.nldm_lookup.specs.declared.grain.Grain.{Grain}
use Rattle.nldm_lookup.specs.declared.faults.LookupEnd.{LookupEnd}

pub lookup_small : (table : TimingTable) (slew load : ℕ) (grain : Grain) (beyond : Beyond) (answer : Result ℤ LookupEnd)
    → IsLookup table slew load grain beyond answer → IfOk answer (λ value. unsigned_abs value ≤ most_in grain)
lookup_small table slew load grain beyond (Ok value) is = is.small
lookup_small table slew load grain beyond (Err end) is = tt
