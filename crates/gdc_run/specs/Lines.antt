-- The line that is printed for every answer but done. It begins with the program's name and ends with the byte 10.
use Rattle.std.specs.Prelude.{ℕ, List, [], ◌∷◌, ◌++◌, Option, Some, None, codes, decimal}
use Rattle.gdc_words.specs.declared.faults.UsageKind.{UsageKind}
use Rattle.gdc_words.specs.declared.faults.UsageKind.TheVariants.{NoCommand, UnknownCommand, UnknownWord, Repeated, MissingValue, BadValue, Mixed, MissingKey}
use Rattle.gdc_run.specs.declared.outcome.Outcome.{Outcome}
use Rattle.gdc_run.specs.declared.outcome.Outcome.TheVariants.{Done, Refused, Usage, ReadFault, WriteFault, OutOfMemory}
use Rattle.refusals.specs.RefusalLine.{key_text, refusal_line}

-- the words of a fault of the command line
abbrev pub kind_text : UsageKind → List ℕ
kind_text NoCommand = codes "no command"
kind_text UnknownCommand = codes "unknown command"
kind_text UnknownWord = codes "unknown word"
kind_text Repeated = codes "repeated"
kind_text MissingValue = codes "missing value"
kind_text BadValue = codes "bad value"
kind_text Mixed = codes "mixed"
kind_text MissingKey = codes "missing"

-- the line of a fault that names a key, or of one at a word
abbrev pub usage_line : UsageKind → ℕ → Option (List ℕ) → List ℕ
usage_line kind place (Some key) = codes "gdc: usage: " ++ (kind_text kind ++ (codes " " ++ (key ++ 10 ∷ [])))
usage_line kind place None = codes "gdc: usage at word " ++ (decimal place ++ (codes ": " ++ (kind_text kind ++ 10 ∷ [])))

-- the line of an answer of a run with so many corners, which is nothing where the run is done
abbrev pub line_of : ℕ → Outcome → List ℕ
line_of corners Done = []
line_of corners (Refused refusal) = refusal_line corners refusal
line_of corners (Usage fault) = usage_line fault.kind fault.place fault.key
line_of corners (ReadFault key) = codes "gdc: read fault " ++ (key_text key ++ 10 ∷ [])
line_of corners WriteFault = codes "gdc: write fault" ++ 10 ∷ []
line_of corners OutOfMemory = codes "gdc: out of memory" ++ 10 ∷ []
