-- Words taken from the front of those that are left.
use Rattle.std.proofs.Common.{◌≡◌, ℕ, ◌+◌, ◌-◌, ◌<◌, ◌≤◌, List, [], ◌∷◌, ◌++◌, length, take, drop, get_or, Result, Ok, Err, refl, sym, ap, subst, arith}
use Rattle.std.specs.Prelude.{IsErrAnd, IfErr}
use Rattle.std.proofs.lemmas.Grind.{common_steps}
use Rattle.gdc_words.specs.declared.commands.Command.{Command}
use Rattle.gdc_words.specs.declared.commands.Key.{Key}
use Rattle.gdc_words.specs.declared.asked.Given.{Given}
use Rattle.gdc_words.specs.declared.faults.UsageFault.{UsageFault}
use Rattle.gdc_words.specs.declared.faults.UsageKind.{UsageKind}
use Rattle.gdc_words.specs.declared.faults.WordsEnd.{WordsEnd}
use Rattle.gdc_words.specs.declared.faults.WordsEnd.TheVariants.{Usage, OutOfMemory}
use Rattle.gdc_words.specs.CommandLine.{PairsFrom, and_pair, bad_value, IsValue, new_key, key_of, keyed_fault, AsksFor, bad_pair}
use Rattle.gdc_words.specs.WordsEnds.{IsValueEnd, IsKeyEnd, FaultOf}

-- an error that is handed on keeps what holds of it
pub handed_on : {A : Type 0} (result : Result A WordsEnd) (end : WordsEnd) (P : WordsEnd → Type 0) → IsErrAnd result (λ other. other ≡ end) → P end → IfErr result P
handed_on (Ok value) end P is holds = tt
handed_on (Err other) end P is holds = subst P (sym is) holds

after_two : (x y : List ℕ) (rest : List (List ℕ)) → take (length (x ∷ y ∷ rest) - 2) (drop 2 (x ∷ y ∷ rest)) ≡ rest
after_two x y rest = grind (arith, common_steps)

after_one : (x : List ℕ) (rest : List (List ℕ)) → take (length (x ∷ rest) - 1) (drop 1 (x ∷ rest)) ≡ rest
after_one x rest = grind (arith, common_steps)

-- no word, one word, and two words or more
pub no_word : (rest : List (List ℕ)) → length rest < 1 → rest ≡ []
no_word [] few = refl
no_word (word ∷ rest) few = absurd (omega arith)

pub one_word : (rest : List (List ℕ)) (word : List ℕ) → 1 ≤ length rest → length rest < 2 → word ≡ get_or rest 0 word → rest ≡ word ∷ []
one_word [] word some few is = absurd (omega arith)
one_word (first ∷ []) word some few is = ap (λ w. w ∷ []) (sym is)
one_word (first ∷ second ∷ rest) word some few is = absurd (omega arith)

pub two_words : (rest : List (List ℕ)) (word value : List ℕ) → 2 ≤ length rest → word ≡ get_or rest 0 word → value ≡ get_or rest 1 value → rest ≡ word ∷ value ∷ take (length rest - 2) (drop 2 rest)
two_words [] word value some is value_is = absurd (omega arith)
two_words (first ∷ []) word value some is value_is = absurd (omega arith)
two_words (first ∷ second ∷ rest) word value some is value_is = rw (is, value_is, after_two first second rest) refl

pub length-after_two : (rest : List (List ℕ)) → 2 ≤ length rest → 2 + length (take (length rest - 2) (drop 2 rest)) ≡ length rest
length-after_two rest n = grind (arith, common_steps)

-- one pair more
pub pair_more : (command : Command) (given : List Given) (place : ℕ) (rest : List (List ℕ)) (word value : List ℕ) (key : Key) (pair : Given) (answer : Result (List Given) UsageFault)
    → 2 ≤ length rest → word ≡ get_or rest 0 word → value ≡ get_or rest 1 value → new_key command given place (key_of word) ≡ Ok key → pair ≡ record { key = key; value = value } → IsValue key value
    → PairsFrom command (given ++ pair ∷ []) (place + 2) (take (length rest - 2) (drop 2 rest)) answer → PairsFrom command given place rest answer
pair_more command given place rest word value key pair answer some is value_is names pair_is good later =
    subst (λ (words : List (List ℕ)). PairsFrom command given place words answer) (sym (two_words rest word value some is value_is))
    (and_pair names good (subst (λ (p : Given). PairsFrom command (given ++ p ∷ []) (place + 2) (take (length rest - 2) (drop 2 rest)) answer) pair_is later))

-- a value that has not the form of its key ends the pairs
pub value_end : (command : Command) (given : List Given) (place : ℕ) (rest : List (List ℕ)) (word value : List ℕ) (key : Key) (end : WordsEnd) (Says : Result (List Given) UsageFault → Type 0)
    → 2 ≤ length rest → word ≡ get_or rest 0 word → value ≡ get_or rest 1 value → new_key command given place (key_of word) ≡ Ok key → IsValueEnd key (place + 1) value end
    → ((answer : Result (List Given) UsageFault) → PairsFrom command given place rest answer → Says answer) → FaultOf Says end
value_end command given place rest word value key OutOfMemory Says some is value_is names bad later = tt
value_end command given place rest word value key (Usage fault) Says some is value_is names bad later =
    later (Err fault)
    (subst (λ (words : List (List ℕ)). PairsFrom command given place words (Err fault)) (sym (two_words rest word value some is value_is))
    (subst (λ (f : UsageFault). PairsFrom command given place (word ∷ value ∷ take (length rest - 2) (drop 2 rest)) (Err f)) (sym bad.0) (bad_value names bad.1)))

-- the fault of the pairs is that of the words
pub pair_end : (command : Command) (words : List (List ℕ)) (end : WordsEnd) → FaultOf (PairsFrom command [] 2 words) end → FaultOf (AsksFor command words) end
pair_end command words OutOfMemory is = tt
pair_end command words (Usage fault) is = bad_pair is

-- the fault of a key is that of the words
pub key_fault : (command : Command) (words : List (List ℕ)) (kind : UsageKind) (key : Key) (end : WordsEnd) → IsKeyEnd kind key end → AsksFor command words (Err (keyed_fault kind key)) → FaultOf (AsksFor command words) end
key_fault command words kind key OutOfMemory is asks = tt
key_fault command words kind key (Usage fault) is asks = subst (λ (f : UsageFault). AsksFor command words (Err f)) (sym is) asks

-- the first word, and those behind it
pub first_word : (words : List (List ℕ)) (word : List ℕ) → 1 ≤ length words → word ≡ get_or words 0 word → words ≡ word ∷ take (length words - 1) (drop 1 words)
first_word [] word some is = absurd (omega arith)
first_word (first ∷ rest) word some is = rw (is, after_one first rest) refl
