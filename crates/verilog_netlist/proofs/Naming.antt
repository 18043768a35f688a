-- The names of a module, one more at a time.
use Rattle.std.proofs.Common.{◌≡◌, ℕ, zero, suc, ◌+◌, ◌-◌, ◌<◌, ◌≤◌, Bool, true, false, not, ◌||◌, nat_lt, inl, inr, List, [], ◌∷◌, ◌++◌, length, filter, get_or, set, map, Option, Some, None, refl, sym, ap, ap₂, ◌∙◌, subst, arith, cond, if◌then◌else◌, true≢false}
use Rattle.std.specs.Prelude.{⊤, slice_get}
use Rattle.std.specs.List.{list_any, position, position_or_len}
use Rattle.std.specs.Option.{option_or}
use Rattle.std.specs.Str.{bytes_eq}
use Rattle.std.proofs.lemmas.List.{append_assoc, map-append, map-set, get_or-map, set-append_right, length-map, get_or-append-add}
use Rattle.std.proofs.lemmas.List.Elements.{filter-append}
use Rattle.std.proofs.lemmas.Option.{none-some, same_Some, slice_get_within}
use Rattle.std.proofs.lemmas.List.Sums.{fold-append}
use Rattle.std.proofs.lemmas.List.Folds.{list_any-append}
use Rattle.std.proofs.lemmas.Slice.Eq.{bytes_eq-Decides}
use Rattle.std.proofs.lemmas.Bool.{lt-ltb, le-ltb}
use Rattle.indexmap.specs.IndexSet.{insert_key, insert_all}
use Rattle.token_texts.specs.Spans.{text_at}
use Rattle.verilog_netlist.specs.Namespaces.{name_of}
use Rattle.verilog_netlist.specs.ModuleNames.{is_in, first_said, direction_by, direction_of, declaration_of, texts_of, texts_in}
use Rattle.verilog_netlist.specs.NameRows.{keys_of, AllDiffer, Facts, view_row, noted, facts_in, no_facts, noted_at, joined_texts, text_number, NotesEntry}
use Rattle.verilog_netlist.specs.declared.declared.Declaration.{Declaration}
use Rattle.verilog_netlist.specs.declared.entries.Direction.{Direction}
use Rattle.verilog_netlist.specs.declared.entries.Entry.{Entry}
use Rattle.verilog_netlist.specs.declared.entries.Entry.TheVariants.{Module, Header, Declared, Instance, Port, Whole, Bit, Part, Constant}
use Rattle.verilog_netlist.specs.declared.name_text.NameText.{NameText}
use Rattle.verilog_netlist.specs.declared.net_names.Group.{Group}
use Rattle.verilog_netlist.specs.declared.net_names.Group.TheVariants as group
use Rattle.verilog_netlist.specs.declared.net_names.NameRow.{NameRow}
use Rattle.verilog_netlist.proofs.PartsFound.{le_or_lt}
use Rattle.verilog_netlist.proofs.Repeating.{any_inserted, or_left, or_true}

-- what a set of texts does is what the list of its texts does
pub any_text : (text : List ℕ) (keys : List NameText) → list_any (λ other. bytes_eq text other.bytes.now) keys ≡ list_any (bytes_eq text) (keys_of keys)
any_text text [] = refl
any_text text (other ∷ keys) = ap (λ (t : Bool). bytes_eq text other.bytes.now || t) (any_text text keys)

pub text_inserted : (keys after : List NameText) (key : NameText) → after ≡ insert_key (λ one other. bytes_eq one.bytes.now other.bytes.now) keys key → keys_of after ≡ insert_key bytes_eq (keys_of keys) key.bytes.now
text_inserted keys after key is = ap keys_of is ∙ by (list_any (λ other. bytes_eq key.bytes.now other.bytes.now) keys) refl
  where
    by : (held : Bool) → list_any (λ other. bytes_eq key.bytes.now other.bytes.now) keys ≡ held
        → keys_of (if list_any (λ other. bytes_eq key.bytes.now other.bytes.now) keys then keys else keys ++ key ∷ []) ≡ insert_key bytes_eq (keys_of keys) key.bytes.now
    by true held = ap (λ (b : Bool). keys_of (if b then keys else keys ++ key ∷ [])) held ∙ sym (ap (λ (b : Bool). if b then keys_of keys else keys_of keys ++ key.bytes.now ∷ []) (sym (any_text key.bytes.now keys) ∙ held))
    by false held = ap (λ (b : Bool). keys_of (if b then keys else keys ++ key ∷ [])) held ∙ map-append (λ (k : NameText). k.bytes.now) keys (key ∷ [])
        ∙ sym (ap (λ (b : Bool). if b then keys_of keys else keys_of keys ++ key.bytes.now ∷ []) (sym (any_text key.bytes.now keys) ∙ held))

pub texts_yes : (bytes : List ℕ) (of : Group) (e : Entry) → is_in of e ≡ true → texts_of bytes of (e ∷ []) ≡ text_at bytes (name_of e) ∷ []
texts_yes bytes of e h = ap (λ (b : Bool). map (λ (x : Entry). text_at bytes (name_of x)) (cond b (e ∷ []) [])) h

pub place_of_text : (text : List ℕ) (keys : List NameText) → position_or_len (λ other. bytes_eq text other.bytes.now) keys ≡ position_or_len (bytes_eq text) (keys_of keys)
place_of_text text [] = refl
place_of_text text (other ∷ keys) = ap (λ (n : ℕ). cond (not (bytes_eq text other.bytes.now)) (1 + n) 0) (place_of_text text keys)

-- texts that differ
turned : (one other : List ℕ) → bytes_eq one other ≡ false → bytes_eq other one ≡ false
turned one other differ = by (bytes_eq other one) refl
  where
    by : (b : Bool) → bytes_eq other one ≡ b → bytes_eq other one ≡ false
    by false h = h
    by true h = absurd (true≢false (sym ((bytes_eq-Decides one other).1 (sym ((bytes_eq-Decides other one).0 h))) ∙ differ))

none_of_two : (p q : Bool) → (p || q) ≡ false → (p ≡ false) × (q ≡ false)
none_of_two true q h = absurd (true≢false h)
none_of_two false q h = (refl, h)

differ_push : (texts : List (List ℕ)) (text : List ℕ) → AllDiffer texts → list_any (bytes_eq text) texts ≡ false → AllDiffer (texts ++ text ∷ [])
differ_push [] text d none = (refl, tt)
differ_push (t ∷ texts) text d none =
    let two = none_of_two (bytes_eq text t) (list_any (bytes_eq text) texts) none in (
      list_any-append (bytes_eq t) texts (text ∷ []) ∙ ap₂ (λ (p q : Bool). p || (q || false)) d.0 (turned text t two.0),
      differ_push texts text d.1 two.1,
    )

differ_insert : (texts : List (List ℕ)) (text : List ℕ) → AllDiffer texts → AllDiffer (insert_key bytes_eq texts text)
differ_insert texts text d = by (list_any (bytes_eq text) texts) refl
  where
    by : (held : Bool) → list_any (bytes_eq text) texts ≡ held → AllDiffer (if list_any (bytes_eq text) texts then texts else texts ++ text ∷ [])
    by true h = subst (λ (b : Bool). AllDiffer (if b then texts else texts ++ text ∷ [])) (sym h) d
    by false h = subst (λ (b : Bool). AllDiffer (if b then texts else texts ++ text ∷ [])) (sym h) (differ_push texts text d h)

pub differ_all : (texts more : List (List ℕ)) → AllDiffer texts → AllDiffer (insert_all bytes_eq texts more)
differ_all texts [] d = d
differ_all texts (text ∷ more) d = differ_all (insert_key bytes_eq texts text) more (differ_insert texts text d)

-- the names of a module differ
pub texts_differ : (bytes : List ℕ) (own : List Entry) → AllDiffer (texts_in bytes own)
texts_differ bytes own = differ_all [] (texts_of bytes group.Headers own ++ (texts_of bytes group.Wires own ++ texts_of bytes group.Joined own)) tt

or_none : {X : Type 0} (x : Option X) → option_or x None ≡ x
or_none None = refl
or_none (Some x) = refl

or_or : {X : Type 0} (x y z : Option X) → option_or x (option_or y z) ≡ option_or (option_or x y) z
or_or None y z = refl
or_or (Some x) y z = refl

-- an entry more says what the entries before it left open
pub said_push : {X : Type 0} (says : Entry → Option X) (items : List Entry) (e : Entry) → first_said says (items ++ e ∷ []) ≡ option_or (first_said says items) (says e)
said_push says [] e = or_none (says e)
said_push says (item ∷ items) e = ap (option_or (says item)) (said_push says items e) ∙ or_or (says item) (first_said says items) (says e)

module _ (bytes : List ℕ) (items : List Entry) (e : Entry) where
  facts_push : (text : List ℕ) → facts_in bytes (items ++ e ∷ []) text ≡ (let old = facts_in bytes items text in record { text = text; direction = option_or old.direction (direction_of bytes text e); first = option_or old.first (declaration_of bytes text e) })
  facts_push text = ap₂ (λ (d : Option Direction) (f : Option Declaration). record { text = text; direction = d; first = f }) (said_push (direction_of bytes text) items e) (said_push (declaration_of bytes text) items e)

  facts_same : (text : List ℕ) → direction_of bytes text e ≡ None → declaration_of bytes text e ≡ None → facts_in bytes (items ++ e ∷ []) text ≡ facts_in bytes items text
  facts_same text d f =
      facts_push text
      ∙ ap₂ (λ (a : Option Direction) (b : Option Declaration). record { text = text; direction = a; first = b })
      (ap (option_or (first_said (direction_of bytes text) items)) d ∙ or_none (first_said (direction_of bytes text) items))
      (ap (option_or (first_said (declaration_of bytes text) items)) f ∙ or_none (first_said (declaration_of bytes text) items))

map_same : {X Y : Type 0} (f g : X → Y) → ((x : X) → f x ≡ g x) → (l : List X) → map f l ≡ map g l
map_same f g same [] = refl
map_same f g same (x ∷ l) = ap₂ (λ y ys. y ∷ ys) (same x) (map_same f g same l)

-- one place is set, where a text stands at one place alone
module _ (f g : List ℕ → Facts) (text : List ℕ) (declaration : Declaration) (other : (t : List ℕ) → bytes_eq text t ≡ false → g t ≡ f t) (here : (t : List ℕ) → bytes_eq text t ≡ true → g t ≡ noted (f t) declaration) where
  set_at : List Facts → ℕ → ℕ → List Facts
  set_at facts place n = if nat_lt place n then set facts place (noted (get_or facts place no_facts) declaration) else facts

  set_there : (facts : List Facts) (place n : ℕ) → place < n → set_at facts place n ≡ set facts place (noted (get_or facts place no_facts) declaration)
  unfolding set_at
  set_there facts place n below = ap (λ (b : Bool). if b then set facts place (noted (get_or facts place no_facts) declaration) else facts) (lt-ltb place n below)

  set_not : (facts : List Facts) (place n : ℕ) → n ≤ place → set_at facts place n ≡ facts
  unfolding set_at
  set_not facts place n past = ap (λ (b : Bool). if b then set facts place (noted (get_or facts place no_facts) declaration) else facts) (le-ltb place n past)

  set_behind : (first : Facts) (facts : List Facts) (place n : ℕ) → set_at (first ∷ facts) (suc place) (suc n) ≡ first ∷ set_at facts place n
  set_behind first facts place n = elim (le_or_lt n place) [
    | inr below ↦ set_there (first ∷ facts) (suc place) (suc n) (omega arith) ∙ ap (λ (l : List Facts). first ∷ l) (sym (set_there facts place n below))
    | inl past ↦ set_not (first ∷ facts) (suc place) (suc n) (omega arith) ∙ ap (λ (l : List Facts). first ∷ l) (sym (set_not facts place n past))
  ]

  rest_same : (t : List ℕ) (texts : List (List ℕ)) → bytes_eq text t ≡ true → list_any (bytes_eq t) texts ≡ false → map f texts ≡ map g texts
  rest_same t [] is none = refl
  rest_same t (x ∷ texts) is none =
      let two = none_of_two (bytes_eq t x) (list_any (bytes_eq t) texts) none in
      ap₂ (λ (y : Facts) (ys : List Facts). y ∷ ys) (sym (other x (ap (λ (l : List ℕ). bytes_eq l x) ((bytes_eq-Decides text t).0 is) ∙ two.0))) (rest_same t texts is two.1)

  set_is : (texts : List (List ℕ)) → AllDiffer texts → set_at (map f texts) (position_or_len (bytes_eq text) texts) (length texts) ≡ map g texts
  set_is [] d = set_not [] 0 0 (omega arith)
  set_is (t ∷ texts) d = by (bytes_eq text t) refl (set_is texts d.1)
    where
      place : ℕ
      place = position_or_len (bytes_eq text) texts

      by : (b : Bool) → bytes_eq text t ≡ b → set_at (map f texts) (position_or_len (bytes_eq text) texts) (length texts) ≡ map g texts
          → set_at (f t ∷ map f texts) (cond (not (bytes_eq text t)) (1 + position_or_len (bytes_eq text) texts) 0) (suc (length texts)) ≡ g t ∷ map g texts
      by true h more =
          ap (λ (b : Bool). set_at (f t ∷ map f texts) (cond (not b) (1 + position_or_len (bytes_eq text) texts) 0) (suc (length texts))) h
          ∙ set_there (f t ∷ map f texts) 0 (suc (length texts)) (omega arith)
          ∙ ap₂ (λ (y : Facts) (ys : List Facts). y ∷ ys) (sym (here t h)) (rest_same t texts h d.0)
      by false h more =
          ap (λ (b : Bool). set_at (f t ∷ map f texts) (cond (not b) (1 + position_or_len (bytes_eq text) texts) 0) (suc (length texts))) h
          ∙ ap (λ (n : ℕ). set_at (f t ∷ map f texts) n (suc (length texts))) (let e : 1 + position_or_len (bytes_eq text) texts ≡ suc (position_or_len (bytes_eq text) texts) = omega arith in e)
          ∙ set_behind (f t) (map f texts) (position_or_len (bytes_eq text) texts) (length texts)
          ∙ ap₂ (λ (y : Facts) (ys : List Facts). y ∷ ys) (sym (other t h)) more

  module _ (texts : List (List ℕ)) (before : List Facts) (from : ℕ) where
    abbrev place : ℕ
    place = position_or_len (bytes_eq text) texts

    abbrev all : List Facts
    all = before ++ map f texts

    pub noted_is : AllDiffer texts → length before ≡ from → noted_at texts from text declaration (before ++ map f texts) ≡ before ++ map g texts
    noted_is d is = elim (le_or_lt (length texts) place) [
      | inr below ↦
          ap (λ (b : Bool). if b then set all (from + place) (noted (get_or all (from + place) no_facts) declaration) else all) (lt-ltb place (length texts) below)
          ∙ ap (λ (x : Facts). set all (from + place) (noted x declaration)) (ap (λ (n : ℕ). get_or all (n + place) no_facts) (sym is) ∙ get_or-append-add before (map f texts) place no_facts)
          ∙ set-append_right before (map f texts) from (from + place) (noted (get_or (map f texts) place no_facts) declaration) is (omega arith)
          ∙ ap (λ (n : ℕ). before ++ set (map f texts) n (noted (get_or (map f texts) place no_facts) declaration)) (let e : from + place - from ≡ place = omega arith in e)
          ∙ ap (λ (l : List Facts). before ++ l) (sym (set_there (map f texts) place (length texts) below) ∙ set_is texts d)
      | inl past ↦
          ap (λ (b : Bool). if b then set all (from + place) (noted (get_or all (from + place) no_facts) declaration) else all) (le-ltb place (length texts) past)
          ∙ ap (λ (l : List Facts). before ++ l) (sym (set_not (map f texts) place (length texts) past) ∙ set_is texts d)
    ]

module _ (bytes : List ℕ) (items : List Entry) (texts : List (List ℕ)) (d : AllDiffer texts) (before : List Facts) (from : ℕ) (is : length before ≡ from) where
  nothing_noted : (e : Entry) → ((t : List ℕ) → direction_of bytes t e ≡ None) → ((t : List ℕ) → declaration_of bytes t e ≡ None) → (new : List Facts)
      → new ≡ before ++ map (facts_in bytes items) texts → new ≡ before ++ map (facts_in bytes (items ++ e ∷ [])) texts
  nothing_noted e a b new same = same ∙ ap (λ (l : List Facts). before ++ l) (map_same (facts_in bytes items) (facts_in bytes (items ++ e ∷ [])) (λ t. sym (facts_same bytes items e t (a t) (b t))) texts)

  pub entry_noted : (e : Entry) (old new : List Facts) → old ≡ before ++ map (facts_in bytes items) texts → NotesEntry bytes texts from e old new → new ≡ before ++ map (facts_in bytes (items ++ e ∷ [])) texts
  entry_noted (Declared by name bounds) old new h notes =
      notes ∙ ap (noted_at texts from (text_at bytes name) (record { by = by; range = bounds })) h
      ∙ noted_is (facts_in bytes items) (facts_in bytes (items ++ Declared by name bounds ∷ [])) (text_at bytes name) (record { by = by; range = bounds })
      (λ t never. facts_same bytes items (Declared by name bounds) t
      (ap (λ (b : Bool). if b then direction_by by else None) never)
      (ap (λ (b : Bool). if b then Some (record { by = by; range = bounds }) else None) never))
      (λ t same. facts_push bytes items (Declared by name bounds) t
      ∙ ap₂ (λ (x : Option Direction) (y : Option Declaration). record { text = t; direction = option_or (facts_in bytes items t).direction x; first = option_or (facts_in bytes items t).first y })
      (ap (λ (b : Bool). if b then direction_by by else None) same)
      (ap (λ (b : Bool). if b then Some (record { by = by; range = bounds }) else None) same))
      texts before from d is
  entry_noted (Module name) old new h notes = nothing_noted (Module name) (λ t. refl) (λ t. refl) new (notes ∙ h)
  entry_noted (Header name) old new h notes = nothing_noted (Header name) (λ t. refl) (λ t. refl) new (notes ∙ h)
  entry_noted (Instance cell name) old new h notes = nothing_noted (Instance cell name) (λ t. refl) (λ t. refl) new (notes ∙ h)
  entry_noted (Port name) old new h notes = nothing_noted (Port name) (λ t. refl) (λ t. refl) new (notes ∙ h)
  entry_noted (Whole name) old new h notes = nothing_noted (Whole name) (λ t. refl) (λ t. refl) new (notes ∙ h)
  entry_noted (Bit name place) old new h notes = nothing_noted (Bit name place) (λ t. refl) (λ t. refl) new (notes ∙ h)
  entry_noted (Part name bounds) old new h notes = nothing_noted (Part name bounds) (λ t. refl) (λ t. refl) new (notes ∙ h)
  entry_noted (Constant token) old new h notes = nothing_noted (Constant token) (λ t. refl) (λ t. refl) new (notes ∙ h)

-- a text that stands at this place is found there, since all texts differ
any_there : (text : List ℕ) (keys : List NameText) (n : ℕ) (other : NameText) → slice_get keys n ≡ Some other → bytes_eq text other.bytes.now ≡ true → list_any (bytes_eq text) (keys_of keys) ≡ true
any_there text [] n other stands is = absurd (none-some _ stands)
any_there text (key ∷ keys) zero other stands is =
    let same : key ≡ other = same_Some _ _ stands in
    or_left (bytes_eq text key.bytes.now) (list_any (bytes_eq text) (keys_of keys)) (ap (λ (k : NameText). bytes_eq text k.bytes.now) same ∙ is)
any_there text (key ∷ keys) (suc n) other stands is =
    ap (λ (b : Bool). bytes_eq text key.bytes.now || b) (any_there text keys n other stands is) ∙ or_true (bytes_eq text key.bytes.now)

stands_first : (text : List ℕ) (keys : List NameText) (n : ℕ) (other : NameText) → AllDiffer (keys_of keys) → slice_get keys n ≡ Some other → bytes_eq text other.bytes.now ≡ true
    → position_or_len (λ key. bytes_eq text key.bytes.now) keys ≡ n
stands_first text [] n other d stands is = absurd (none-some _ stands)
stands_first text (key ∷ keys) zero other d stands is =
    let same : key ≡ other = same_Some _ _ stands in
    ap (λ (b : Bool). cond (not b) (1 + position_or_len (λ k. bytes_eq text k.bytes.now) keys) 0) (ap (λ (k : NameText). bytes_eq text k.bytes.now) same ∙ is)
stands_first text (key ∷ keys) (suc n) other d stands is = by (bytes_eq text key.bytes.now) refl (stands_first text keys n other d.1 stands is)
  where
    by : (b : Bool) → bytes_eq text key.bytes.now ≡ b → position_or_len (λ k. bytes_eq text k.bytes.now) keys ≡ n
        → cond (not (bytes_eq text key.bytes.now)) (1 + position_or_len (λ k. bytes_eq text k.bytes.now) keys) 0 ≡ suc n
    by true here more =
        let same : text ≡ key.bytes.now = (bytes_eq-Decides text key.bytes.now).0 here in
        absurd (true≢false (sym (any_there key.bytes.now keys n other stands (ap (λ (t : List ℕ). bytes_eq t other.bytes.now) (sym same) ∙ is)) ∙ d.0))
    by false here more =
        ap (λ (b : Bool). cond (not b) (1 + position_or_len (λ k. bytes_eq text k.bytes.now) keys) 0) here
        ∙ (let e : 1 + position_or_len (λ k. bytes_eq text k.bytes.now) keys ≡ suc n = omega arith in e)

pub found_there : (text : List ℕ) (keys : List NameText) (n : ℕ) (other : NameText) → AllDiffer (keys_of keys) → slice_get keys n ≡ Some other → bytes_eq text other.bytes.now ≡ true
    → Some n ≡ position (λ key. bytes_eq text key.bytes.now) keys
found_there text keys n other d stands is =
    sym (ap (λ (at : ℕ). cond (nat_lt at (length keys)) (Some at) None) (stands_first text keys n other d stands is)
    ∙ ap (λ (b : Bool). cond b (Some n) None) (lt-ltb n (length keys) (slice_get_within keys n other stands)))

-- a text that stands among some is not added
any_below : (p : List ℕ → Bool) (texts : List (List ℕ)) → position_or_len p texts < length texts → list_any p texts ≡ true
any_below p [] below = absurd (omega arith)
any_below p (t ∷ texts) below = by (p t) refl (any_below p texts)
  where
    by : (b : Bool) → p t ≡ b → (position_or_len p texts < length texts → list_any p texts ≡ true) → list_any p (t ∷ texts) ≡ true
    by true e later = ap (λ (q : Bool). q || list_any p texts) e
    by false e later =
        let step : position_or_len p (t ∷ texts) ≡ 1 + position_or_len p texts = ap (λ (q : Bool). cond (not q) (1 + position_or_len p texts) 0) e in
        let under : 1 + position_or_len p texts < length (t ∷ texts) = subst (λ (n : ℕ). n < length (t ∷ texts)) step below in
        ap (λ (q : Bool). q || list_any p texts) e ∙ later (omega arith)

pub held_kept : (text : List ℕ) (texts : List (List ℕ)) → position_or_len (bytes_eq text) texts < length texts → texts ≡ insert_key bytes_eq texts text
held_kept text texts below = sym (ap (λ (b : Bool). if b then texts else texts ++ text ∷ []) (any_below (bytes_eq text) texts below))

-- what the set finds
module _ (text : List ℕ) (keys : List NameText) (found : Option ℕ) (is : found ≡ position (λ other. bytes_eq text other.bytes.now) keys) where
  abbrev at : ℕ
  at = position_or_len (bytes_eq text) (keys_of keys)

  same_place : found ≡ cond (nat_lt at (length (keys_of keys))) (Some at) None
  same_place = is ∙ ap₂ (λ (n l : ℕ). cond (nat_lt n l) (Some n) None) (place_of_text text keys) (sym (length-map keys (λ (k : NameText). k.bytes.now)))

  pub found_some : (n : ℕ) → found ≡ Some n → (at < length (keys_of keys)) × (n ≡ at)
  found_some n some = elim (le_or_lt (length (keys_of keys)) at) [
    | inr below ↦ (below, same_Some _ _ (sym some ∙ same_place ∙ ap (λ (b : Bool). cond b (Some at) None) (lt-ltb at (length (keys_of keys)) below)))
    | inl past ↦ absurd (none-some n (sym (sym some ∙ same_place ∙ ap (λ (b : Bool). cond b (Some at) None) (le-ltb at (length (keys_of keys)) past))))
  ]

  pub found_none : (found ≡ None) → length (keys_of keys) ≤ at
  found_none none = elim (le_or_lt (length (keys_of keys)) at) [
    | inr below ↦ absurd (none-some at (sym none ∙ same_place ∙ ap (λ (b : Bool). cond b (Some at) None) (lt-ltb at (length (keys_of keys)) below)))
    | inl past ↦ past
  ]

-- the row of a name that is found
module _ (texts : List (List ℕ)) (from : ℕ) (text : List ℕ) (declaration : Declaration) (rows : List NameRow) where
  pub row_noted : (number : ℕ) (row after : NameRow) → from + number < length rows → (position_or_len (bytes_eq text) texts < length texts) × (number ≡ position_or_len (bytes_eq text) texts)
      → row ≡ get_or rows (from + number) row → view_row after ≡ noted (view_row row) declaration
      → map view_row (set rows (from + number) after) ≡ noted_at texts from text declaration (map view_row rows)
  row_noted number row after within place is same =
      map-set view_row rows (from + number) after
      ∙ ap (λ (x : Facts). set (map view_row rows) (from + number) x) (same ∙ ap (λ (x : Facts). noted x declaration) (ap view_row is ∙ sym (get_or-map view_row rows (from + number) row no_facts within)))
      ∙ ap (λ (n : ℕ). set (map view_row rows) (from + n) (noted (get_or (map view_row rows) (from + n) no_facts) declaration)) place.1
      ∙ sym (ap (λ (b : Bool). if b then set (map view_row rows) (from + position_or_len (bytes_eq text) texts) (noted (get_or (map view_row rows) (from + position_or_len (bytes_eq text) texts) no_facts) declaration) else map view_row rows)
      (lt-ltb (position_or_len (bytes_eq text) texts) (length texts) place.0))

  pub none_noted : length texts ≤ position_or_len (bytes_eq text) texts → map view_row rows ≡ noted_at texts from text declaration (map view_row rows)
  none_noted past =
      sym (ap (λ (b : Bool). if b then set (map view_row rows) (from + position_or_len (bytes_eq text) texts) (noted (get_or (map view_row rows) (from + position_or_len (bytes_eq text) texts) no_facts) declaration) else map view_row rows)
      (le-ltb (position_or_len (bytes_eq text) texts) (length texts) past))

-- the place of a text, as another is put in
place_push : (texts : List (List ℕ)) (text : List ℕ) → list_any (bytes_eq text) texts ≡ false → position_or_len (bytes_eq text) (texts ++ text ∷ []) ≡ position_or_len (bytes_eq text) texts
place_push [] text none = ap (λ (b : Bool). cond (not b) 1 0) ((bytes_eq-Decides text text).1 refl)
place_push (t ∷ texts) text none = ap (λ (n : ℕ). cond (not (bytes_eq text t)) (1 + n) 0) (place_push texts text (none_of_two (bytes_eq text t) (list_any (bytes_eq text) texts) none).1)

place_kept : (texts : List (List ℕ)) (text more : List ℕ) → list_any (bytes_eq text) texts ≡ true → position_or_len (bytes_eq text) (texts ++ more ∷ []) ≡ position_or_len (bytes_eq text) texts
place_kept [] text more h = absurd (true≢false (sym h))
place_kept (t ∷ texts) text more h = by (bytes_eq text t) refl (place_kept texts text more)
  where
    by : (b : Bool) → bytes_eq text t ≡ b → (list_any (bytes_eq text) texts ≡ true → position_or_len (bytes_eq text) (texts ++ more ∷ []) ≡ position_or_len (bytes_eq text) texts)
        → position_or_len (bytes_eq text) (t ∷ (texts ++ more ∷ [])) ≡ position_or_len (bytes_eq text) (t ∷ texts)
    by true is rest =
        ap (λ (b : Bool). cond (not b) (1 + position_or_len (bytes_eq text) (texts ++ more ∷ [])) 0) is
        ∙ sym (ap (λ (b : Bool). cond (not b) (1 + position_or_len (bytes_eq text) texts) 0) is)
    by false is rest = ap (λ (n : ℕ). cond (not (bytes_eq text t)) (1 + n) 0) (rest (sym (ap (λ (b : Bool). b || list_any (bytes_eq text) texts) is) ∙ h))

pub place_inserted : (texts : List (List ℕ)) (text : List ℕ) → position_or_len (bytes_eq text) (insert_key bytes_eq texts text) ≡ position_or_len (bytes_eq text) texts
place_inserted texts text = by (list_any (bytes_eq text) texts) refl
  where
    by : (held : Bool) → list_any (bytes_eq text) texts ≡ held → position_or_len (bytes_eq text) (if list_any (bytes_eq text) texts then texts else texts ++ text ∷ []) ≡ position_or_len (bytes_eq text) texts
    by true h = ap (λ (b : Bool). position_or_len (bytes_eq text) (if b then texts else texts ++ text ∷ [])) h
    by false h = ap (λ (b : Bool). position_or_len (bytes_eq text) (if b then texts else texts ++ text ∷ [])) h ∙ place_push texts text h

place_stays : (texts : List (List ℕ)) (text more : List ℕ) → list_any (bytes_eq text) texts ≡ true → position_or_len (bytes_eq text) (insert_key bytes_eq texts more) ≡ position_or_len (bytes_eq text) texts
place_stays texts text more there = by (list_any (bytes_eq more) texts) refl
  where
    by : (held : Bool) → list_any (bytes_eq more) texts ≡ held → position_or_len (bytes_eq text) (if list_any (bytes_eq more) texts then texts else texts ++ more ∷ []) ≡ position_or_len (bytes_eq text) texts
    by true h = ap (λ (b : Bool). position_or_len (bytes_eq text) (if b then texts else texts ++ more ∷ [])) h
    by false h = ap (λ (b : Bool). position_or_len (bytes_eq text) (if b then texts else texts ++ more ∷ [])) h ∙ place_kept texts text more there

-- names that are joined, as they are put in one after another
module _ (bytes : List ℕ) where
  abbrev text_in : Entry → List ℕ
  text_in e = text_at bytes (name_of e)

  -- the names that these entries join are there
  abbrev pub AreHeld : List (List ℕ) → List Entry → Type 0
  AreHeld texts [] = ⊤
  AreHeld texts (e ∷ items) = (is_in group.Joined e ≡ true → list_any (bytes_eq (text_in e)) texts ≡ true) × AreHeld texts items

  held_push : (texts : List (List ℕ)) (items : List Entry) (e : Entry) → AreHeld texts items → (is_in group.Joined e ≡ true → list_any (bytes_eq (text_in e)) texts ≡ true) → AreHeld texts (items ++ e ∷ [])
  held_push texts [] e h last = (last, tt)
  held_push texts (item ∷ items) e h last = (h.0, held_push texts items e h.1 last)

  held_stays : (texts : List (List ℕ)) (items : List Entry) (more : List ℕ) → AreHeld texts items → AreHeld (insert_key bytes_eq texts more) items
  held_stays texts [] more h = tt
  held_stays texts (e ∷ items) more h = (
    (λ joins. any_inserted bytes_eq bytes_eq-Decides texts more (text_in e) ∙ or_left (list_any (bytes_eq (text_in e)) texts) (bytes_eq (text_in e) more) (h.0 joins)),
    held_stays texts items more h.1,
  )

  number_stays : (texts : List (List ℕ)) (e : Entry) (more : List ℕ) → (is_in group.Joined e ≡ true → list_any (bytes_eq (text_in e)) texts ≡ true)
      → text_number bytes (insert_key bytes_eq texts more) e ≡ text_number bytes texts e
  number_stays texts e more there = by (is_in group.Joined e) refl
    where
      by : (b : Bool) → is_in group.Joined e ≡ b → text_number bytes (insert_key bytes_eq texts more) e ≡ text_number bytes texts e
      by true joins = ap (λ (n : ℕ). if is_in group.Joined e then n else 0) (place_stays texts (text_in e) more (there joins))
      by false never =
          ap (λ (b : Bool). if b then position_or_len (bytes_eq (text_in e)) (insert_key bytes_eq texts more) else 0) never
          ∙ sym (ap (λ (b : Bool). if b then position_or_len (bytes_eq (text_in e)) texts else 0) never)

  numbers_stay : (texts : List (List ℕ)) (items : List Entry) (more : List ℕ) → AreHeld texts items → map (text_number bytes (insert_key bytes_eq texts more)) items ≡ map (text_number bytes texts) items
  numbers_stay texts [] more h = refl
  numbers_stay texts (e ∷ items) more h = ap₂ (λ (n : ℕ) (ns : List ℕ). n ∷ ns) (number_stays texts e more h.0) (numbers_stay texts items more h.1)

  -- an entry that joins a name, or one that joins none
  pub joined_yes : (texts : List (List ℕ)) (e : Entry) → is_in group.Joined e ≡ true → insert_all bytes_eq texts (joined_texts bytes (e ∷ [])) ≡ insert_key bytes_eq texts (text_in e)
  joined_yes texts e h = ap (insert_all bytes_eq texts) (texts_yes bytes group.Joined e h)

  pub joined_no : (texts : List (List ℕ)) (e : Entry) → is_in group.Joined e ≡ false → insert_all bytes_eq texts (joined_texts bytes (e ∷ [])) ≡ texts
  joined_no texts e h = ap (λ (b : Bool). insert_all bytes_eq texts (map (λ (x : Entry). text_in x) (cond b (e ∷ []) []))) h

  -- the number of a name that is put in
  pub number_joined : (texts : List (List ℕ)) (e : Entry) → is_in group.Joined e ≡ true → position_or_len (bytes_eq (text_in e)) texts ≡ text_number bytes (insert_key bytes_eq texts (text_in e)) e
  number_joined texts e joins = sym (ap (λ (b : Bool). if b then position_or_len (bytes_eq (text_in e)) (insert_key bytes_eq texts (text_in e)) else 0) joins ∙ place_inserted texts (text_in e))

  pub number_none : (texts : List (List ℕ)) (e : Entry) → is_in group.Joined e ≡ false → 0 ≡ text_number bytes texts e
  number_none texts e never = sym (ap (λ (b : Bool). if b then position_or_len (bytes_eq (text_in e)) texts else 0) never)

  -- the names that these entries join, put into some texts, and their numbers
  pub record Joins (first : List (List ℕ)) (before : List ℕ) (items : List Entry) (texts : List (List ℕ)) (numbers : List ℕ) : Type 0 where
    pub texts_are : texts ≡ insert_all bytes_eq first (joined_texts bytes items)
    pub held : AreHeld texts items
    pub numbers_are : numbers ≡ before ++ map (text_number bytes texts) items

  module _ (first : List (List ℕ)) (before : List ℕ) where
    pub joins_none : (texts : List (List ℕ)) (numbers : List ℕ) → texts ≡ first → numbers ≡ before → Joins first before [] texts numbers
    joins_none texts numbers t n = record { texts_are = t; held = tt; numbers_are = n ∙ sym (none_more before) }
      where
        none_more : (l : List ℕ) → l ++ [] ≡ l
        none_more [] = refl
        none_more (x ∷ l) = ap (λ (m : List ℕ). x ∷ m) (none_more l)

    module _ (items : List Entry) (texts after : List (List ℕ)) (numbers : List ℕ) (number : ℕ) (e : Entry) (h : Joins first before items texts numbers)
        (after_is : after ≡ insert_all bytes_eq texts (joined_texts bytes (e ∷ []))) (number_is : number ≡ text_number bytes after e) where
      all_texts : after ≡ insert_all bytes_eq first (joined_texts bytes (items ++ e ∷ []))
      all_texts =
          after_is ∙ ap (λ (l : List (List ℕ)). insert_all bytes_eq l (joined_texts bytes (e ∷ []))) h.texts_are
          ∙ sym (fold-append (insert_key bytes_eq) first (joined_texts bytes items) (joined_texts bytes (e ∷ [])))
          ∙ ap (insert_all bytes_eq first) (sym (ap (map (λ (x : Entry). text_in x)) (filter-append (is_in group.Joined) items (e ∷ [])) ∙ map-append (λ (x : Entry). text_in x) (filter (is_in group.Joined) items) (filter (is_in group.Joined) (e ∷ []))))

      -- what holds for the text that is put in, or for no text
      record Stays (l : List (List ℕ)) : Type 0 where
        held : AreHeld l items
        last : is_in group.Joined e ≡ true → list_any (bytes_eq (text_in e)) l ≡ true
        same : map (text_number bytes l) items ≡ map (text_number bytes texts) items

      stays : Stays after
      stays = by (is_in group.Joined e) refl
        where
          by : (b : Bool) → is_in group.Joined e ≡ b → Stays after
          by true joins = subst Stays (sym (after_is ∙ joined_yes texts e joins)) (record {
            held = held_stays texts items (text_in e) h.held;
            last = λ j. any_inserted bytes_eq bytes_eq-Decides texts (text_in e) (text_in e)
                ∙ ap (λ (b : Bool). list_any (bytes_eq (text_in e)) texts || b) ((bytes_eq-Decides (text_in e) (text_in e)).1 refl) ∙ or_true (list_any (bytes_eq (text_in e)) texts);
            same = numbers_stay texts items (text_in e) h.held;
          })
          by false never = subst Stays (sym (after_is ∙ joined_no texts e never)) (record {
            held = h.held;
            last = λ j. absurd (true≢false (sym j ∙ never));
            same = refl;
          })

      pub joins_more : Joins first before (items ++ e ∷ []) after (numbers ++ number ∷ [])
      joins_more = record {
        texts_are = all_texts;
        held = held_push after items e stays.held stays.last;
        numbers_are =
            ap₂ (λ (l : List ℕ) (n : ℕ). l ++ n ∷ []) (h.numbers_are ∙ ap (λ (l : List ℕ). before ++ l) (sym stays.same)) number_is
            ∙ append_assoc before (map (text_number bytes after) items) (text_number bytes after e ∷ [])
            ∙ ap (λ (l : List ℕ). before ++ l) (sym (map-append (text_number bytes after) items (e ∷ [])));
      }
