-- How the reading of the words ends without a value.
use Rattle.std.specs.Prelude.{◌≡◌, ℕ, List, Result, Ok, Err}
use Rattle.gdc_words.specs.declared.commands.Key.{Key}
use Rattle.gdc_words.specs.declared.faults.UsageFault.{UsageFault}
use Rattle.gdc_words.specs.declared.faults.UsageKind.{UsageKind}
use Rattle.gdc_words.specs.declared.faults.UsageKind.TheVariants.{BadValue}
use Rattle.gdc_words.specs.declared.faults.WordsEnd.{WordsEnd}
use Rattle.gdc_words.specs.declared.faults.WordsEnd.TheVariants.{Usage, OutOfMemory}
use Rattle.gdc_words.specs.CommandLine.{Request, IsValue, fault_at, keyed_fault}

-- the fault that is answered is that of the words; want of memory says nothing of them
abbrev pub FaultOf : {A : Type 0} → (Result A UsageFault → Type 0) → WordsEnd → Type 0
FaultOf Says (Usage fault) = Says (Err fault)
FaultOf Says OutOfMemory = Unit {0}

-- a value that is not in the form of its key
abbrev pub IsValueEnd : Key → ℕ → List ℕ → WordsEnd → Type 0
IsValueEnd key place value (Usage fault) = (fault ≡ fault_at BadValue place) × (¬ IsValue key value)
IsValueEnd key place value OutOfMemory = Unit {0}

-- a fault of a key
abbrev pub IsKeyEnd : UsageKind → Key → WordsEnd → Type 0
IsKeyEnd kind key (Usage fault) = fault ≡ keyed_fault kind key
IsKeyEnd kind key OutOfMemory = Unit {0}

-- this is answered, unless memory ran out
abbrev pub Answers : Result Request WordsEnd → Result Request UsageFault → Type 0
Answers (Ok asked) answer = answer ≡ Ok asked
Answers (Err (Usage fault)) answer = answer ≡ Err fault
Answers (Err OutOfMemory) answer = Unit {0}
