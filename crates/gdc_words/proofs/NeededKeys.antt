-- A key that the command needs is found among the pairs where no needed key is missing.
use Rattle.std.proofs.Common.{◌≡◌, Bool, true, false, not, ◌||◌, Option, None, Some, List, [], ◌∷◌, cond, refl, sym, ap, ◌∙◌}
use Rattle.std.specs.List.{find, list_any}
use Rattle.std.proofs.lemmas.Slice.Eq.{bytes_eq-Decides}
use Rattle.gdc_words.specs.declared.commands.Command.{Command}
use Rattle.gdc_words.specs.declared.commands.Key.{Key}
use Rattle.gdc_words.specs.declared.commands.Key.TheVariants.{Spef, Triple, Sdf, Netlist, Top, Lib, LibMin, LibTyp, LibMax, Cell, Slew, Load, InputSlew, PortLoad, Missing, WireSlew, Outside, Shape, Size}
use Rattle.gdc_words.specs.declared.asked.Given.{Given}
use Rattle.gdc_words.specs.CommandLine.{first_missing, needs_key, needed_keys, libraries_of, is_given, same_key, key_word, key_of}

none_at_head : {X : Type 0} (here : Bool) (x : X) (rest : Option X) (others : Bool) → (rest ≡ None → others ≡ false) → cond here (Some x) rest ≡ None → (here || others) ≡ false
none_at_head true x rest others later e = cc
none_at_head false x rest others later e = later e

-- what is not found is not there
pub none_found : {X : Type 0} (p : X → Bool) (xs : List X) → find p xs ≡ None → list_any p xs ≡ false
none_found p [] e = refl
none_found p (x ∷ xs) e = none_at_head (p x) x (find p xs) (list_any p xs) (none_found p xs) e

word_names : (key : Key) → key_of (key_word key) ≡ Some key
word_names Spef = refl
word_names Triple = refl
word_names Sdf = refl
word_names Netlist = refl
word_names Top = refl
word_names Lib = refl
word_names LibMin = refl
word_names LibTyp = refl
word_names LibMax = refl
word_names Cell = refl
word_names Slew = refl
word_names Load = refl
word_names InputSlew = refl
word_names PortLoad = refl
word_names Missing = refl
word_names WireSlew = refl
word_names Outside = refl
word_names Shape = refl
word_names Size = refl

some_is : {X : Type 0} (a b : X) → Some a ≡ Some b → a ≡ b
some_is a b e = cc

-- keys of one word are one key
pub same_key_is : (a b : Key) → same_key a b ≡ true → a ≡ b
same_key_is a b e = some_is a b (sym (word_names a) ∙ ap key_of ((bytes_eq-Decides (key_word a) (key_word b)).0 e) ∙ word_names b)

stands_at_head : (here others stands : Bool) (wanted wanted_later : Bool) → (not here || others) ≡ false → (wanted ≡ true → here ≡ stands) → (others ≡ false → wanted_later ≡ true → stands ≡ true) → (wanted || wanted_later) ≡ true → stands ≡ true
stands_at_head false others stands wanted wanted_later none first later e = cc
stands_at_head true others stands true wanted_later none first later e = sym (first refl)
stands_at_head true others stands false wanted_later none first later e = later none e

-- where none of the keys is missing, each of them stands
each_stands : (given : List Given) (key : Key) (keys : List Key) → list_any (λ k. not (is_given given k)) keys ≡ false → list_any (λ k. same_key k key) keys ≡ true → is_given given key ≡ true
each_stands given key [] none e = cc
each_stands given key (k ∷ keys) none e =
    stands_at_head (is_given given k) (list_any (λ k. not (is_given given k)) keys) (is_given given key) (same_key k key) (list_any (λ k. same_key k key) keys) none
    (λ same. ap (is_given given) (same_key_is k key same)) (each_stands given key keys) e

pub needed_is_found : (command : Command) (given : List Given) (key : Key) → first_missing command given ≡ None → needs_key command given key ≡ true → find (λ g. same_key g.key key) given ≡ None → ⊥
needed_is_found command given key complete needed missing =
    let stands = each_stands given key (needed_keys command (libraries_of given)) (none_found (λ k. not (is_given given k)) (needed_keys command (libraries_of given)) complete) needed in
    let absent = none_found (λ (g : Given). same_key g.key key) given missing in
    cc (stands, absent)
