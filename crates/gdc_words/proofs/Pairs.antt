-- The pairs of the words: that each has its form, and that words ask for one thing, or have one first fault.
use Rattle.std.proofs.Common.{◌≡◌, ℕ, ◌+◌, Bool, true, false, Option, None, Some, Result, Ok, Err, List, [], ◌∷◌, ◌++◌, cond, refl, sym, ap, ◌∙◌, subst}
use Rattle.std.specs.Prelude.{All, IsTrue, IfOk, IfErr, IfNone}
use Rattle.std.specs.Str.{bytes_eq}
use Rattle.std.specs.List.{find, AllByRecursion}
use Rattle.std.proofs.lemmas.List.Elements.{All-from_recursion, All-push, recursion_from_All}
use Rattle.gdc_words.specs.declared.commands.Command.{Command}
use Rattle.gdc_words.specs.declared.commands.Key.{Key}
use Rattle.gdc_words.specs.declared.commands.Key.TheVariants.{Slew, Load, Spef, Triple, Sdf, Netlist, Top, Lib, LibMin, LibTyp, LibMax, Cell, InputSlew, PortLoad, Missing, WireSlew, Outside, Shape, Size}
use Rattle.gdc_words.specs.declared.asked.Given.{Given}
use Rattle.gdc_words.specs.declared.faults.UsageFault.{UsageFault}
use Rattle.gdc_words.specs.declared.faults.WordsEnd.{WordsEnd}
use Rattle.gdc_words.specs.declared.faults.WordsEnd.TheVariants.{Usage, OutOfMemory}
use Rattle.gdc_words.specs.WordsEnds.{FaultOf, Answers}
use Rattle.gdc_words.specs.Decimals.{IsGrains}
use Rattle.gdc_words.proofs.NeededKeys.{same_key_is}
use Rattle.gdc_words.specs.CommandLine.{Request, same_key, key_word, pair_at, IsValue, is_decimal, command_of, mixed_key, first_missing, PairsFrom, no_more, bad_key, no_value, bad_value, and_pair, AsksFor, bad_pair, mixed_keys, no_key, with_keys, Asks, no_command, unknown_command, for_command, IsWhole}

-- a pair whose value has the form that its key wants
abbrev pub IsFormed : Given → Type 0
IsFormed pair = IsValue pair.key pair.value

formed_all : (command : Command) (given : List Given) (place : ℕ) (words : List (List ℕ)) (pairs : List Given) → PairsFrom command given place words (Ok pairs) → All IsFormed given → All IsFormed pairs
formed_all command given place [] pairs no_more all = all
formed_all command given place (word ∷ []) pairs are all = elim are [ ]
formed_all command given place (word ∷ value ∷ rest) pairs (and_pair {key = key} names good later) all =
    formed_all command _ (place + 2) rest pairs later (All-push IsFormed given (record { key = key; value = value }) all good)

pub pairs_formed : (command : Command) (words : List (List ℕ)) (pairs : List Given) → PairsFrom command [] 2 words (Ok pairs) → All IsFormed pairs
pairs_formed command words pairs are = formed_all command [] 2 words pairs are (All-from_recursion IsFormed [] tt)

-- a pair that is found is one of them
found_formed : (test : Given → Bool) (pairs : List Given) (pair : Given) → AllByRecursion IsFormed pairs → find test pairs ≡ Some pair → IsFormed pair
found_formed test [] pair all e = cc
found_formed test (first ∷ rest) pair all e = at_head (test first) (found_formed test rest pair all.1) e
  where
    at_head : (here : Bool) → (find test rest ≡ Some pair → IsFormed pair) → cond here (Some first) (find test rest) ≡ Some pair → IsFormed pair
    at_head true later is = let same : first ≡ pair = cc in subst IsFormed same all.0
    at_head false later is = later is

found_passes : (test : Given → Bool) (pairs : List Given) (pair : Given) → find test pairs ≡ Some pair → test pair ≡ true
found_passes test [] pair e = cc
found_passes test (first ∷ rest) pair e = at_head (test first) refl (found_passes test rest pair) e
  where
    at_head : (here : Bool) → test first ≡ here → (find test rest ≡ Some pair → test pair ≡ true) → cond here (Some first) (find test rest) ≡ Some pair → test pair ≡ true
    at_head true passes later is = let same : first ≡ pair = cc in ap test (sym same) ∙ passes
    at_head false passes later is = later is

pub found_is_formed : (test : Given → Bool) (pairs : List Given) (pair : Given) → All IsFormed pairs → find test pairs ≡ Some pair → IsFormed pair
found_is_formed test pairs pair all e = found_formed test pairs pair (recursion_from_All IsFormed pairs all) e

-- the pair that is found for a key has the form that the key wants
pub value_formed : (pairs : List Given) (key : Key) (pair : Given) → All IsFormed pairs → find (λ (g : Given). same_key g.key key) pairs ≡ Some pair → IsValue key pair.value
value_formed pairs key pair all e =
    let formed = found_is_formed (λ (g : Given). same_key g.key key) pairs pair all e in
    let is : pair.key ≡ key = same_key_is pair.key key (found_passes (λ (g : Given). same_key g.key key) pairs pair e) in
    subst (λ (k : Key). IsValue k pair.value) is formed

-- the value of a decimal key has grains
pub decimal_reads : (key : Key) (value : List ℕ) → IsTrue (is_decimal key) → IsValue key value → (grains : ℕ) × IsGrains value grains
decimal_reads Slew value decimal is = is
decimal_reads Load value decimal is = is
decimal_reads InputSlew value decimal is = is
decimal_reads PortLoad value decimal is = is
decimal_reads Spef value decimal is = cc
decimal_reads Triple value decimal is = cc
decimal_reads Sdf value decimal is = cc
decimal_reads Netlist value decimal is = cc
decimal_reads Top value decimal is = cc
decimal_reads Lib value decimal is = cc
decimal_reads LibMin value decimal is = cc
decimal_reads LibTyp value decimal is = cc
decimal_reads LibMax value decimal is = cc
decimal_reads Cell value decimal is = cc
decimal_reads Missing value decimal is = cc
decimal_reads WireSlew value decimal is = cc
decimal_reads Outside value decimal is = cc
decimal_reads Shape value decimal is = cc
decimal_reads Size value decimal is = cc

-- pairs are read in one way
one_key : (a b : Result Key UsageFault) (key other : Key) → a ≡ Ok key → a ≡ Ok other → key ≡ other
one_key a b key other e f = cc

pub one_pairs : (command : Command) (given : List Given) (place : ℕ) (words : List (List ℕ)) (one other : Result (List Given) UsageFault) → PairsFrom command given place words one → PairsFrom command given place words other → one ≡ other
one_pairs command given place [] one other no_more no_more = refl
one_pairs command given place (word ∷ []) one other (bad_key a) (bad_key b) = cc
one_pairs command given place (word ∷ []) one other (bad_key a) (no_value b) = cc
one_pairs command given place (word ∷ []) one other (no_value a) (bad_key b) = cc
one_pairs command given place (word ∷ []) one other (no_value a) (no_value b) = refl
one_pairs command given place (word ∷ value ∷ rest) one other (bad_key a) (bad_key b) = cc
one_pairs command given place (word ∷ value ∷ rest) one other (bad_key a) (bad_value b bad) = cc
one_pairs command given place (word ∷ value ∷ rest) one other (bad_key a) (and_pair b good later) = cc
one_pairs command given place (word ∷ value ∷ rest) one other (bad_value a bad) (bad_key b) = cc
one_pairs command given place (word ∷ value ∷ rest) one other (bad_value a bad) (bad_value b worse) = refl
one_pairs command given place (word ∷ value ∷ rest) one other (bad_value {key = key} a bad) (and_pair {key = same} b good later) =
    let is : same ≡ key = cc in
    absurd (bad (subst (λ (k : Key). IsValue k value) is good))
one_pairs command given place (word ∷ value ∷ rest) one other (and_pair a good later) (bad_key b) = cc
one_pairs command given place (word ∷ value ∷ rest) one other (and_pair {key = same} a good later) (bad_value {key = key} b bad) =
    let is : same ≡ key = cc in
    absurd (bad (subst (λ (k : Key). IsValue k value) is good))
one_pairs command given place (word ∷ value ∷ rest) one other (and_pair {key = key} a good later) (and_pair {key = same} b fine more) =
    let is : same ≡ key = cc in
    one_pairs command (given ++ record { key = key; value = value } ∷ []) (place + 2) rest one other later
    (subst (λ (k : Key). PairsFrom command (given ++ record { key = k; value = value } ∷ []) (place + 2) rest other) is more)

-- the words ask for one thing, or have one first fault
same_given : (command : Command) (words : List (List ℕ)) (one other : List Given) → PairsFrom command [] 2 words (Ok one) → PairsFrom command [] 2 words (Ok other) → one ≡ other
same_given command words one other a b = let e = one_pairs command [] 2 words (Ok one) (Ok other) a b in cc

pub one_request_for : (command : Command) (words : List (List ℕ)) (one other : Result Request UsageFault) → AsksFor command words one → AsksFor command words other → one ≡ other
one_request_for command words one other (bad_pair {fault = f} a) (bad_pair {fault = k} b) = let e = one_pairs command [] 2 words (Err f) (Err k) a b in cc
one_request_for command words one other (bad_pair {fault = f} a) (mixed_keys {given = h} b n) = let e = one_pairs command [] 2 words (Err f) (Ok h) a b in cc
one_request_for command words one other (bad_pair {fault = f} a) (no_key {given = h} b v n) = let e = one_pairs command [] 2 words (Err f) (Ok h) a b in cc
one_request_for command words one other (bad_pair {fault = f} a) (with_keys {given = h} b v n) = let e = one_pairs command [] 2 words (Err f) (Ok h) a b in cc
one_request_for command words one other (mixed_keys {given = g} a m) (bad_pair {fault = k} b) = let e = one_pairs command [] 2 words (Ok g) (Err k) a b in cc
one_request_for command words one other (mixed_keys {given = g} a m) (mixed_keys {given = h} b n) = let e = same_given command words g h a b in cc
one_request_for command words one other (mixed_keys {given = g} a m) (no_key {given = h} b v n) = let e = same_given command words g h a b in cc
one_request_for command words one other (mixed_keys {given = g} a m) (with_keys {given = h} b v n) = let e = same_given command words g h a b in cc
one_request_for command words one other (no_key {given = g} a u m) (bad_pair {fault = k} b) = let e = one_pairs command [] 2 words (Ok g) (Err k) a b in cc
one_request_for command words one other (no_key {given = g} a u m) (mixed_keys {given = h} b n) = let e = same_given command words g h a b in cc
one_request_for command words one other (no_key {given = g} a u m) (no_key {given = h} b v n) = let e = same_given command words g h a b in cc
one_request_for command words one other (no_key {given = g} a u m) (with_keys {given = h} b v n) = let e = same_given command words g h a b in cc
one_request_for command words one other (with_keys {given = g} a u m) (bad_pair {fault = k} b) = let e = one_pairs command [] 2 words (Ok g) (Err k) a b in cc
one_request_for command words one other (with_keys {given = g} a u m) (mixed_keys {given = h} b n) = let e = same_given command words g h a b in cc
one_request_for command words one other (with_keys {given = g} a u m) (no_key {given = h} b v n) = let e = same_given command words g h a b in cc
one_request_for command words one other (with_keys {given = g} a u m) (with_keys {given = h} b v n) = let e = same_given command words g h a b in cc

pub one_request : (words : List (List ℕ)) (one other : Result Request UsageFault) → Asks words one → Asks words other → one ≡ other
one_request [] one other no_command no_command = refl
one_request (word ∷ words) one other (unknown_command a) (unknown_command b) = refl
one_request (word ∷ words) one other (unknown_command a) (for_command b asks) = cc
one_request (word ∷ words) one other (for_command a asks) (unknown_command b) = cc
one_request (word ∷ words) one other (for_command {command = c} a asks) (for_command {command = d} b more) =
    let is : d ≡ c = cc in
    one_request_for c words one other asks (subst (λ (x : Command). AsksFor x words other) is more)

-- what was asked for is whole
pub asked_whole : (command : Command) (words : List (List ℕ)) (given : List Given) → PairsFrom command [] 2 words (Ok given) → mixed_key given ≡ None → first_missing command given ≡ None → IsWhole (record { command = command; given = given })
asked_whole command words given pairs unmixed none = record { unmixed = unmixed; complete = none; formed = pairs_formed command words given pairs }

-- grains are found in the value of a decimal key that stands
pub decimal_found : (pairs : List Given) (word : List ℕ) (pair : Given) (found : Option ℕ) (P : Type 0) → All IsFormed pairs → pair_at pairs word ≡ Some pair → is_decimal pair.key ≡ true → IfNone found ((grains : ℕ) → ¬ IsGrains pair.value grains) → IfNone found P
decimal_found pairs word pair (Some grains) P all stands decimal none = tt
decimal_found pairs word pair None P all stands decimal none =
    let reads = decimal_reads pair.key pair.value decimal (found_is_formed (λ (g : Given). bytes_eq (key_word g.key) word) pairs pair all stands) in
    absurd (none reads.0 reads.1)

-- one answer alone is that of the words
pub answers_only : (words : List (List ℕ)) (result : Result Request WordsEnd) → IfOk result (λ asked. Asks words (Ok asked)) → IfErr result (FaultOf (Asks words)) → (answer : Result Request UsageFault) → Asks words answer → Answers result answer
answers_only words (Ok asked) ok err answer asks = one_request words answer (Ok asked) asks ok
answers_only words (Err (Usage fault)) ok err answer asks = one_request words answer (Err fault) asks err
answers_only words (Err OutOfMemory) ok err answer asks = tt

-- what the words behind a known command ask for is what all ask for
pub known_ok : (word : List ℕ) (words : List (List ℕ)) (command : Command) (result : Result Request WordsEnd) → command_of word ≡ Some command → IfOk result (λ asked. AsksFor command words (Ok asked)) → IfOk result (λ asked. Asks (word ∷ words) (Ok asked))
known_ok word words command (Ok asked) known is = for_command known is
known_ok word words command (Err end) known is = tt

pub known_err : (word : List ℕ) (words : List (List ℕ)) (command : Command) (result : Result Request WordsEnd) → command_of word ≡ Some command → IfErr result (FaultOf (AsksFor command words)) → IfErr result (FaultOf (Asks (word ∷ words)))
known_err word words command (Ok asked) known is = tt
known_err word words command (Err (Usage fault)) known is = for_command known is
known_err word words command (Err OutOfMemory) known is = tt
