-- The last delimiter of a word that is read byte by byte, and of its characters.
use Rattle.std.proofs.Common.{◌≡◌, ◌≢◌, ℕ, ◌+◌, ◌-◌, ◌<◌, Bool, true, false, List, [], ◌∷◌, ◌++◌, length, take, drop, get_or, Option, Some, None, refl, sym, ap, subst, ◌∙◌, append_assoc, length-append, arith}
use Rattle.std.specs.Prelude.{◌==◌, ⊤, Result, IfOk}
use Rattle.std.proofs.lemmas.Bool.Decides.{Decides-eqb}
use Rattle.std.proofs.lemmas.Result.{IfOk-weaker}
use Rattle.std.proofs.lemmas.List.{map-append, take-append-le, drop-append-le, take_more, take_rest, length-take-le}
use Rattle.std.proofs.Math.Seq.{take-length, drop-append-add}
use Rattle.name_table.specs.Characters.{Character, bare, escaped, characters}
use Rattle.edge_io.specs.Bytes.{backslash}
use Rattle.name_table.specs.SpefNames.{Halves, HasNone, is_delimiter, cut_with, cut_last, halves_at, byte_of, text_of, cut_node, node_of, node_name, joined}
use Rattle.name_table.specs.declared.spef_names.SpefMarks.{SpefMarks}
use Rattle.name_table.specs.declared.spef_names.NodeName.{NodeName}
use Rattle.name_table.proofs.Reading.{ends_inside, ended, goes_inside, bare_ended, not_equal, characters_push, ends_inside_push}

-- a cut with more characters behind it
abbrev pub lengthened : List Character → Option Halves → Option Halves
lengthened more None = None
lengthened more (Some halves) = Some (record { front = halves.front; back = halves.back ++ more })

cut_with-lengthened : (here : Bool) (first : Character) (rest more : List Character) (cut : Option Halves) → cut_with here first (rest ++ more) (lengthened more cut) ≡ lengthened more (cut_with here first rest cut)
cut_with-lengthened true first rest more None = refl
cut_with-lengthened false first rest more None = refl
cut_with-lengthened true first rest more (Some halves) = refl
cut_with-lengthened false first rest more (Some halves) = refl

-- characters without a delimiter leave the cut where it was
cut_last-append : (delimiter : ℕ) (name more : List Character) → cut_last delimiter more ≡ None → cut_last delimiter (name ++ more) ≡ lengthened more (cut_last delimiter name)
cut_last-append delimiter [] more none = none
cut_last-append delimiter (first ∷ rest) more none =
    ap (cut_with (is_delimiter delimiter first) first (rest ++ more)) (cut_last-append delimiter rest more none)
    ∙ cut_with-lengthened (is_delimiter delimiter first) first rest more (cut_last delimiter rest)

cut_with-some : (here : Bool) (first : Character) (rest : List Character) (halves : Halves) → cut_with here first rest (Some halves) ≡ Some (record { front = first ∷ halves.front; back = halves.back })
cut_with-some true first rest halves = refl
cut_with-some false first rest halves = refl

-- a last character that is a delimiter cuts there
cut_last-at : (delimiter : ℕ) (name : List Character) (last : Character) → is_delimiter delimiter last ≡ true → cut_last delimiter (name ++ last ∷ []) ≡ Some (record { front = name; back = [] })
cut_last-at delimiter [] last is = ap (λ here. cut_with here last [] None) is
cut_last-at delimiter (first ∷ rest) last is =
    ap (cut_with (is_delimiter delimiter first) first (rest ++ last ∷ [])) (cut_last-at delimiter rest last is)
    ∙ cut_with-some (is_delimiter delimiter first) first (rest ++ last ∷ []) (record { front = rest; back = [] })

-- no delimiter, no cut
pub none_cut : (delimiter : ℕ) (name : List Character) → HasNone delimiter name → cut_last delimiter name ≡ None
none_cut delimiter [] none = refl
none_cut delimiter (first ∷ rest) none = (λ i. cut_with (none.0 i) first rest (none_cut delimiter rest none.1 i))

-- the last one cuts
pub last_cuts : (delimiter : ℕ) (front back : List Character) → HasNone delimiter back → cut_last delimiter (front ++ bare delimiter ∷ back) ≡ Some (record { front = front; back = back })
last_cuts delimiter front back none =
    ap (cut_last delimiter) (sym (append_assoc front (bare delimiter ∷ []) back))
    ∙ cut_last-append delimiter (front ++ bare delimiter ∷ []) back (none_cut delimiter back none)
    ∙ ap (lengthened back) (cut_last-at delimiter front (bare delimiter) ((Decides-eqb delimiter delimiter).1 refl))

-- the last delimiter stands at this place of the word: it cuts the word, and what follows is read on its own
pub record CutsAt (delimiter : ℕ) (word : List ℕ) (place : ℕ) : Type 0 where
  pub within : place < length word
  pub cut : cut_last delimiter (characters word) ≡ Some (record { front = characters (take place word); back = characters (drop (place + 1) word) })
  pub alone : ends_inside (drop (place + 1) word) ≡ ends_inside word

abbrev pub IsLastAt : ℕ → List ℕ → Option ℕ → Type 0
IsLastAt delimiter word None = cut_last delimiter (characters word) ≡ None
IsLastAt delimiter word (Some place) = CutsAt delimiter word place

-- one more byte that ends no delimiter leaves the place
pub IsLastAt_stays : (delimiter : ℕ) (word : List ℕ) (byte : ℕ) (last : Option ℕ) → IsLastAt delimiter word last → cut_last delimiter (ended (ends_inside word) byte) ≡ None → IsLastAt delimiter (word ++ byte ∷ []) last
IsLastAt_stays delimiter word byte None none ends =
    ap (cut_last delimiter) (characters_push word byte) ∙ cut_last-append delimiter (characters word) (ended (ends_inside word) byte) ends ∙ ap (lengthened (ended (ends_inside word) byte)) none
IsLastAt_stays delimiter word byte (Some place) cuts ends =
    let before : take place (word ++ byte ∷ []) ≡ take place word = take-append-le place word (byte ∷ []) (omega (arith, cuts.within)) in
    let behind : drop (place + 1) (word ++ byte ∷ []) ≡ drop (place + 1) word ++ byte ∷ [] = drop-append-le (place + 1) word (byte ∷ []) (omega (arith, cuts.within)) in
    let front : characters (take place word) ≡ characters (take place (word ++ byte ∷ [])) = ap characters (sym before) in
    let back : characters (drop (place + 1) word) ++ ended (ends_inside word) byte ≡ characters (drop (place + 1) (word ++ byte ∷ [])) =
    ap (λ within. characters (drop (place + 1) word) ++ ended within byte) (sym cuts.alone) ∙ sym (characters_push (drop (place + 1) word) byte) ∙ ap characters (sym behind) in
    record {
      within = omega (arith, length-append word (byte ∷ []), cuts.within);
      cut = ap (cut_last delimiter) (characters_push word byte)
          ∙ cut_last-append delimiter (characters word) (ended (ends_inside word) byte) ends
          ∙ ap (lengthened (ended (ends_inside word) byte)) cuts.cut
          ∙ (λ i. Some (record { front = front i; back = back i }));
      alone = ap ends_inside behind ∙ ends_inside_push (drop (place + 1) word) byte ∙ ap (λ within. goes_inside within byte) cuts.alone ∙ sym (ends_inside_push word byte);
    }

-- an unescaped delimiter is the last one
pub IsLastAt_here : (delimiter : ℕ) (word : List ℕ) (byte place : ℕ) → place ≡ length word → ends_inside word ≡ false → (byte == backslash) ≡ false → (byte == delimiter) ≡ true → IsLastAt delimiter (word ++ byte ∷ []) (Some place)
IsLastAt_here delimiter word byte place at outside plain is =
    let before : take place (word ++ byte ∷ []) ≡ word = take-append-le place word (byte ∷ []) (omega arith) ∙ ap (λ n. take n word) at ∙ take-length word in
    let behind : drop (place + 1) (word ++ byte ∷ []) ≡ [] = ap (λ n. drop (n + 1) (word ++ byte ∷ [])) at ∙ drop-append-add word (byte ∷ []) 1 in
    let name : characters (word ++ byte ∷ []) ≡ characters word ++ bare byte ∷ [] =
    characters_push word byte ∙ ap (λ within. characters word ++ ended within byte) outside ∙ ap (λ last. characters word ++ last) (bare_ended byte plain) in
    let front : characters word ≡ characters (take place (word ++ byte ∷ [])) = ap characters (sym before) in
    let back : [] ≡ characters (drop (place + 1) (word ++ byte ∷ [])) = ap characters (sym behind) in
    record {
      within = omega (arith, length-append word (byte ∷ []));
      cut = ap (cut_last delimiter) name ∙ cut_last-at delimiter (characters word) (bare byte) is ∙ (λ i. Some (record { front = front i; back = back i }));
      alone = ap ends_inside behind ∙ sym plain ∙ ap (λ within. goes_inside within byte) (sym outside) ∙ sym (ends_inside_push word byte);
    }

-- a byte that ends no delimiter: one inside an escape, a backslash, and any other byte but the delimiter
pub data EndsNone (delimiter : ℕ) : Bool → ℕ → Type 0 where
  in_escape : {within : Bool} {byte : ℕ} → within ≡ true → EndsNone delimiter within byte
  is_backslash : {within : Bool} {byte : ℕ} → byte ≡ backslash → EndsNone delimiter within byte
  is_apart : {within : Bool} {byte : ℕ} → byte ≢ delimiter → EndsNone delimiter within byte

ended_none : (delimiter : ℕ) (within : Bool) (byte : ℕ) → EndsNone delimiter within byte → cut_last delimiter (ended within byte) ≡ None
ended_none delimiter within byte (in_escape inside) = ap (λ in_it. cut_last delimiter (ended in_it byte)) inside
ended_none delimiter true byte (is_backslash is) = refl
ended_none delimiter false byte (is_backslash is) = ap (λ byte. cut_last delimiter (ended false byte)) is
ended_none delimiter true byte (is_apart differs) = refl
ended_none delimiter false byte (is_apart differs) = by (byte == backslash)
  where
    by : (is : Bool) → cut_last delimiter (elim is as (λ _. List Character) [ true ↦ [] | false ↦ bare byte ∷ [] ]) ≡ None
    by true = refl
    by false = ap (λ here. cut_with here (bare byte) [] None) (not_equal byte delimiter differs)

-- the same at a step of a loop over the word
pub last_stays : (delimiter : ℕ) (word : List ℕ) (place : ℕ) (last next : Option ℕ) → place < length word → IsLastAt delimiter (take place word) last → next ≡ last
    → EndsNone delimiter (ends_inside (take place word)) (get_or word place 0) → IsLastAt delimiter (take (place + 1) word) next
last_stays delimiter word place last next within so_far same none =
    rw (take_more word place 0 within, same)
    (IsLastAt_stays delimiter (take place word) (get_or word place 0) last so_far (ended_none delimiter (ends_inside (take place word)) (get_or word place 0) none))

pub last_here : (delimiter : ℕ) (word : List ℕ) (place : ℕ) (next : Option ℕ) → place < length word → ends_inside (take place word) ≡ false
    → get_or word place 0 ≢ backslash → get_or word place 0 ≡ delimiter → next ≡ Some place → IsLastAt delimiter (take (place + 1) word) next
last_here delimiter word place next within outside other is same =
    rw (take_more word place 0 within, same)
    (IsLastAt_here delimiter (take place word) (get_or word place 0) place (sym (length-take-le place word (omega (arith, within)))) outside
    (not_equal (get_or word place 0) backslash other) ((Decides-eqb (get_or word place 0) delimiter).1 is))

-- the cut character with what stands before it and after it is the name
abbrev pub Joins : ℕ → List Character → Option Halves → Type 0
Joins delimiter name None = ⊤
Joins delimiter name (Some halves) = name ≡ halves.front ++ bare delimiter ∷ halves.back

delimiter_is : (delimiter : ℕ) (first : Character) → is_delimiter delimiter first ≡ true → first ≡ bare delimiter
delimiter_is delimiter (bare byte) is = ap bare ((Decides-eqb byte delimiter).0 is)
delimiter_is delimiter (escaped byte) is = cc

cut_last-Joins : (delimiter : ℕ) (name : List Character) → Joins delimiter name (cut_last delimiter name)
cut_last-Joins delimiter [] = tt
cut_last-Joins delimiter (first ∷ rest) = by (is_delimiter delimiter first) refl (cut_last delimiter rest) (cut_last-Joins delimiter rest)
  where
    by : (here : Bool) → is_delimiter delimiter first ≡ here → (cut : Option Halves) → Joins delimiter rest cut → Joins delimiter (first ∷ rest) (cut_with here first rest cut)
    by true is None joins = ap (λ character. character ∷ rest) (delimiter_is delimiter first is)
    by false is None joins = tt
    by true is (Some halves) joins = ap (λ rest. first ∷ rest) joins
    by false is (Some halves) joins = ap (λ rest. first ∷ rest) joins

-- a node's head and tail joined are the text of the name
pub node_of-joined : (marks : SpefMarks) (cut : Bool) (name : List Character) → joined marks (node_of marks name (halves_at marks.delimiter cut name)).head (node_of marks name (halves_at marks.delimiter cut name)).tail ≡ text_of marks name
node_of-joined marks false name = refl
node_of-joined marks true name = by (cut_last marks.delimiter name) (cut_last-Joins marks.delimiter name)
  where
    by : (cut : Option Halves) → Joins marks.delimiter name cut → joined marks (node_of marks name cut).head (node_of marks name cut).tail ≡ text_of marks name
    by None joins = refl
    by (Some halves) joins = sym (ap (text_of marks) joins ∙ map-append (byte_of marks) halves.front (bare marks.delimiter ∷ halves.back))

-- an answer that is the node of a word cut at a place
pub cut_named : {E : Type 0} (marks : SpefMarks) (cut : Bool) (word : List ℕ) (place : ℕ) (result : Result NodeName E)
    → IfOk result (λ node. node ≡ cut_node marks (characters (take place word)) (characters (take (length word - (place + 1)) (drop (place + 1) word))))
    → halves_at marks.delimiter cut (characters word) ≡ Some (record { front = characters (take place word); back = characters (drop (place + 1) word) })
    → IfOk result (λ node. node ≡ node_name marks cut word)
cut_named marks cut word place result is cuts = let there = rw (take_rest word (place + 1)) at is in rw cuts there

-- and what holds of that node holds of the answer
pub answered : {E : Type 0} (P : NodeName → Type 0) (node : NodeName) (result : Result NodeName E) → IfOk result (λ answer. answer ≡ node) → P node → IfOk result P
answered P node result is holds = IfOk-weaker result (λ answer. answer ≡ node) P (λ answer same. subst P (sym same) holds) is
