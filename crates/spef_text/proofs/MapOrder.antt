-- The entries of the name map stand in the order of the file.
use Rattle.std.proofs.Common.{◌≡◌, ℕ, ◌+◌, ◌<◌, ◌≤◌, List, [], ◌∷◌, ◌++◌, length, get_or, ⊎_elim, length-append, refl, sym, ap, ◌∙◌, arith, subst}
use Rattle.std.proofs.lemmas.Bool.{cases_lt}
use Rattle.std.proofs.lemmas.List.{get_or_append_left}
use Rattle.std.proofs.Math.Seq.{get_or-append_seam}
use Rattle.token_fronts.specs.Tokens.{numbered}
use Rattle.spef_text.specs.Grammar.{Tok, Others, no_other, and_other, IsMap, no_entry, and_entry, IsItem, divider, delimiter, bus_marks, bus_pair, no_design, design, cap_unit, res_unit, Items, no_item, and_item, and_free, and_map, IsSpef, spef}
use Rattle.spef_text.specs.Entries.{Head, Reading, with_item}
use Rattle.spef_text.specs.Heads.{IsInOrder}
use Rattle.spef_text.specs.declared.entries.MapEntry.{MapEntry}
use Rattle.spef_text.specs.declared.entries.HeadItem.{HeadItem}

-- up to a last number
module _ (most : ℕ) where
  -- all tokens are later than this number, each than those before it, and none than the last number
  abbrev pub Rises : ℕ → List Tok → Type 0
  Rises n [] = n ≤ most
  Rises n (token ∷ tokens) = (n < token.number) × Rises token.number tokens

  earlier : (m n : ℕ) (tokens : List Tok) → m ≤ n → Rises n tokens → Rises m tokens
  earlier m n [] h r = omega (arith, h, r)
  earlier m n (token ∷ tokens) h r = (less, r.1)
    where
      less : m < token.number
      less = let l = r.0 in omega (arith, h, l)

  pub behind : (n : ℕ) (token : Tok) (tokens : List Tok) → Rises n (token ∷ tokens) → Rises n tokens
  behind n token tokens r = let l = r.0 in let less : n ≤ token.number = omega (arith, l) in earlier n token.number tokens less r.1

  pub rises : (n m : ℕ) (texts : List (List ℕ)) → n < m → m + length texts ≤ most + 1 → Rises n (numbered m texts)
  rises n m [] h few = omega (arith, h, few)
  rises n m (text ∷ texts) h few = (h, rises m (m + 1) texts (omega arith) (omega (arith, few)))

  pub below_last : (n : ℕ) (tokens : List Tok) → Rises n tokens → n ≤ most
  below_last n [] r = r
  below_last n (token ∷ tokens) r = let less = r.0 in let rest = below_last token.number tokens r.1 in omega (arith, less, rest)

  pub others_rise : (n : ℕ) (from rest : List Tok) → Others from rest → Rises n from → Rises n rest
  others_rise n from rest no_other r = r
  others_rise n from rest (and_other {token = token} others is) r = behind n token rest (others_rise n from (token ∷ rest) others r)

  item_rises : (n : ℕ) (from rest : List Tok) (item : HeadItem) → IsItem from item rest → Rises n from → Rises n rest
  item_rises n from rest item (divider {keyword = keyword} {mark = mark} a b) r = behind n mark rest (behind n keyword (mark ∷ rest) r)
  item_rises n from rest item (delimiter {keyword = keyword} {mark = mark} a b) r = behind n mark rest (behind n keyword (mark ∷ rest) r)
  item_rises n from rest item (bus_marks {keyword = keyword} {left = left} {right = right} a b c) r = behind n right rest (behind n left (right ∷ rest) (behind n keyword (left ∷ right ∷ rest) r))
  item_rises n from rest item (bus_pair {keyword = keyword} {both = both} a b) r = behind n both rest (behind n keyword (both ∷ rest) r)
  item_rises n from rest item (no_design {keyword = keyword} a) r = behind n keyword rest r
  item_rises n from rest item (design {keyword = keyword} {name = name} {from = inner} a b others) r = others_rise n inner rest others (behind n name inner (behind n keyword (name ∷ inner) r))
  item_rises n from rest item (cap_unit {keyword = keyword} {number = number} {unit = unit} a b c) r = behind n unit rest (behind n number (unit ∷ rest) (behind n keyword (number ∷ unit ∷ rest) r))
  item_rises n from rest item (res_unit {keyword = keyword} {number = number} {unit = unit} a b c) r = behind n unit rest (behind n number (unit ∷ rest) (behind n keyword (number ∷ unit ∷ rest) r))

  item_map : (from rest : List Tok) (item : HeadItem) (head : Head) → IsItem from item rest → (with_item head item).map ≡ head.map
  item_map from rest item head (divider a b) = refl
  item_map from rest item head (delimiter a b) = refl
  item_map from rest item head (bus_marks a b c) = refl
  item_map from rest item head (bus_pair a b) = refl
  item_map from rest item head (no_design a) = refl
  item_map from rest item head (design a b others) = refl
  item_map from rest item head (cap_unit a b c) = refl
  item_map from rest item head (res_unit a b c) = refl

  -- the entries stand in order, at tokens up to this one, and the rest of the tokens are later
  pub record Stands (entries : List MapEntry) (rest : List Tok) : Type 0 where
    pub last : ℕ
    order : IsInOrder entries
    within : (i : ℕ) (d : MapEntry) → i < length entries → (get_or entries i d).index ≤ last
    few : length entries ≤ last
    pub later : Rises last rest

  nothing : (d : ℕ) → d < 0 → ⊥
  nothing d h = omega (arith, h)

  no_entries : (n : ℕ) (rest : List Tok) → Rises n rest → Stands [] rest
  no_entries n rest r = record { last = n; order = λ i j d less h. absurd (nothing j h); within = λ i d h. absurd (nothing i h); few = omega arith; later = r }

  with_rest : (entries : List MapEntry) (from rest : List Tok) → ((n : ℕ) → Rises n from → Rises n rest) → Stands entries from → Stands entries rest
  with_rest entries from rest goes s = record { last = s.last; order = s.order; within = s.within; few = s.few; later = goes s.last s.later }

  one_more : (entries : List MapEntry) (index name : Tok) (rest : List Tok) (entry : MapEntry) → entry.index ≡ index.number → Stands entries (index ∷ name ∷ rest) → Stands (entries ++ entry ∷ []) rest
  one_more entries index name rest entry e s = record {
    last = index.number;
    order = λ i j d less h. in_order i j d less h;
    within = λ i d h. up_to i d h;
    few = let size = length-append entries (entry ∷ []) in let held = s.few in let less = next in omega (arith, size, held, less);
    later = behind index.number name rest s.later.1;
  }
    where
      next : s.last < index.number
      next = s.later.0

      at_end : (d : MapEntry) (i : ℕ) → i ≡ length entries → (get_or (entries ++ entry ∷ []) i d).index ≡ index.number
      at_end d i h = ap (λ k. (get_or (entries ++ entry ∷ []) k d).index) h ∙ ap (λ (x : MapEntry). x.index) (get_or-append_seam entries entry [] d) ∙ e

      in_part : (d : MapEntry) (i : ℕ) → i < length entries → (get_or (entries ++ entry ∷ []) i d).index ≡ (get_or entries i d).index
      in_part d i h = ap (λ (x : MapEntry). x.index) (get_or_append_left entries (entry ∷ []) d i h)

      ends : (j : ℕ) → j < length (entries ++ entry ∷ []) → (length entries ≤ j) → j ≡ length entries
      ends j h l = let whole = length-append entries (entry ∷ []) in omega (arith, h, l, whole)

      up_to : (i : ℕ) (d : MapEntry) → i < length (entries ++ entry ∷ []) → (get_or (entries ++ entry ∷ []) i d).index ≤ index.number
      up_to i d h =
          ⊎_elim (λ less. let a = in_part d i less in let b = s.within i d less in let c = next in omega (arith, a, b, c))
          (λ more. let a = at_end d i (ends i h more) in omega (arith, a))
          (cases_lt i (length entries))

      in_order : (i j : ℕ) (d : MapEntry) → i < j → j < length (entries ++ entry ∷ []) → (get_or (entries ++ entry ∷ []) i d).index < (get_or (entries ++ entry ∷ []) j d).index
      in_order i j d less h =
          ⊎_elim (λ part.
          let near : i < length entries = omega (arith, less, part) in
          let a = in_part d i near in let b = in_part d j part in let c = s.order i j d less part in omega (arith, a, b, c))
          (λ more.
          let last : j ≡ length entries = ends j h more in
          let near : i < length entries = omega (arith, less, last) in
          let a = in_part d i near in let b = at_end d j last in let c = s.within i d near in let l = next in omega (arith, a, b, c, l))
          (cases_lt j (length entries))

  map_stands : (from rest : List Tok) (before after : Head) → IsMap from before after rest → Stands before.map from → Stands after.map rest
  map_stands from rest before after no_entry s = s
  map_stands from rest before after (and_entry {after = middle} {index = index} {name = name} part a b) s =
      one_more middle.map index name rest (record { index = index.number; name = name.number }) refl (map_stands from (index ∷ name ∷ rest) before middle part s)

  pub items_stand : (n : ℕ) (from rest : List Tok) (head : Head) → Items from head rest → Rises n from → Stands head.map rest
  items_stand n from rest head no_item r = no_entries n from r
  items_stand n from rest head (and_item {middle = middle} {head = before} {item = item} items is) r =
      subst (λ (entries : List MapEntry). Stands entries rest) (sym (item_map middle rest item before is)) (with_rest before.map middle rest (λ k. item_rises k middle rest item is) (items_stand n from middle before items r))
  items_stand n from rest head (and_free {middle = middle} {keyword = keyword} items a others) r =
      with_rest head.map (keyword ∷ middle) rest (λ k rises. others_rise k middle rest others (behind k keyword middle rises)) (items_stand n from (keyword ∷ middle) head items r)
  items_stand n from rest head (and_map {middle = middle} {before = before} {keyword = keyword} items a is) r =
      map_stands middle rest before head is (with_rest before.map (keyword ∷ middle) middle (λ k. behind k keyword middle) (items_stand n from (keyword ∷ middle) before items r))

  of_items : (tokens : List Tok) (reading : Reading) → IsSpef tokens reading → Rises 0 tokens → (rest : List Tok) × Stands reading.head.map rest
  of_items tokens reading (spef {keyword = keyword} {from = from} {at_items = at_items} {at_sections = at_sections} {head = head} a others items sections) r =
      (at_sections, items_stand 0 at_items at_sections head items (others_rise 0 from at_items others (behind 0 keyword from r)))

-- the tokens of a file rise to their count
pub all_rise : (texts : List (List ℕ)) → Rises (length texts) 0 (numbered 1 texts)
all_rise texts = rises (length texts) 0 1 texts (omega arith) (omega arith)

-- the entries of a file that has been read stand in order
pub map_in_order : (texts : List (List ℕ)) (reading : Reading) → IsSpef (numbered 1 texts) reading → IsInOrder reading.head.map
map_in_order texts reading is = (of_items (length texts) (numbered 1 texts) reading is (all_rise texts)).1.order

-- and they are no more than the tokens
pub few_entries : (texts : List (List ℕ)) (reading : Reading) → IsSpef (numbered 1 texts) reading → length reading.head.map ≤ length texts
few_entries texts reading is =
    let (rest, stands) = of_items (length texts) (numbered 1 texts) reading is (all_rise texts) in
    let few = stands.few in
    let last = below_last (length texts) stands.last rest stands.later in
    omega (arith, few, last)
