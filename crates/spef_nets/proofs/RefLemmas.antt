-- The references of a section stay what they are while it is read.
use Rattle.std.proofs.Common.{◌≡◌, ℕ, zero, suc, ◌+◌, ◌<◌, ◌≤◌, Bool, true, false, ◌||◌, List, [], ◌∷◌, ◌++◌, length, map, get_or, set, ⊎_elim, refl, sym, ap, ◌∙◌, subst, arith, true≢false, length-append}
use Rattle.std.specs.Prelude.{Some, None, slice_get, All}
use Rattle.std.specs.Str.{bytes_eq}
use Rattle.std.proofs.lemmas.List.{map_push}
use Rattle.std.proofs.lemmas.List.Folds.{list_any-append}
use Rattle.std.proofs.lemmas.List.Elements.{All-push}
use Rattle.std.proofs.lemmas.Option.{slice_get_within, slice_get_read}
use Rattle.name_table.specs.declared.spef_names.NodeName.{NodeName}
use Rattle.spef_text.specs.SpefFiles.{SpefText}
use Rattle.name_table.specs.NodeKeys.{Key, key_of, same_key, among}
use Rattle.spef_nets.specs.Nodes.{named}
use Rattle.spef_nets.specs.Refs.{IsInterned, Refs, no_refs, ArePlaced, new_mark, with_word, IsPut, held, added, IsFound, stands, IsMarked, with_mark, listed_mark, joined_mark, numbered_mark, with_number, IsSpelled, IsMark, AreRefs}
use Rattle.spef_nets.specs.declared.marks.Mark.{Mark}
pub use Rattle.name_table.specs.SameKeys.{same_key_is, key_is_same}
use Rattle.spef_nets.proofs.Lists.{get_left, get_last, get_push, get_set, length_set, all_at, map_at}

pub other_key : (one other : Key) → (one ≡ other → ⊥) → same_key one other ≡ false
other_key one other differ = by (same_key one other) refl
  where
    by : (is : Bool) → same_key one other ≡ is → same_key one other ≡ false
    by true e = absurd (differ (same_key_is one other e))
    by false e = e

pub other_way : (one other : Key) → same_key one other ≡ same_key other one
other_way one other = by (same_key one other) (same_key other one) refl refl
  where
    by : (a b : Bool) → same_key one other ≡ a → same_key other one ≡ b → same_key one other ≡ same_key other one
    by true true e f = e ∙ sym f
    by false false e f = e ∙ sym f
    by true false e f = let same : one ≡ other = same_key_is one other e in absurd (true≢false (sym (key_is_same one) ∙ ap (λ k. same_key k one) same ∙ f))
    by false true e f = let same : other ≡ one = same_key_is other one f in absurd (true≢false (sym (key_is_same other) ∙ ap (λ k. same_key k other) same ∙ e))

or_false : (a : Bool) → (a || false) ≡ a
or_false true = refl
or_false false = refl

or_true : (a : Bool) → (a || true) ≡ true
or_true true = refl
or_true false = refl

pub among_append : (key : Key) (keys more : List Key) → among key (keys ++ more) ≡ (among key keys || among key more)
among_append key keys more = list_any-append (same_key key) keys more

pub among_push : (key : Key) (keys : List Key) (last : Key) → among key (keys ++ last ∷ []) ≡ (among key keys || same_key key last)
among_push key keys last = among_append key keys (last ∷ []) ∙ ap (λ b. among key keys || b) (or_false (same_key key last))

pub among_last : (key : Key) (keys : List Key) → among key (keys ++ key ∷ []) ≡ true
among_last key keys = among_push key keys key ∙ ap (λ b. among key keys || b) (key_is_same key) ∙ or_true (among key keys)

pub among_other : (key : Key) (keys : List Key) (last : Key) → (key ≡ last → ⊥) → among key (keys ++ last ∷ []) ≡ among key keys
among_other key keys last differ = among_push key keys last ∙ ap (λ b. among key keys || b) (other_key key last differ) ∙ or_false (among key keys)

pub among_at : (keys : List Key) (i : ℕ) (key : Key) → slice_get keys i ≡ Some key → among key keys ≡ true
among_at [] i key e = absurd (cc)
among_at (first ∷ keys) zero key e =
    let same : first ≡ key = cc in
    ap (λ k. same_key key k || among key keys) same ∙ ap (λ b. b || among key keys) (key_is_same key)
among_at (first ∷ keys) (suc i) key e = ap (λ b. same_key key first || b) (among_at keys i key e) ∙ or_true (same_key key first)

-- the element at a place is no other where its key is not among those of the list
pub absent_at : (keys : List Key) (i : ℕ) (key other : Key) → among key keys ≡ false → slice_get keys i ≡ Some other → other ≡ key → ⊥
absent_at keys i key other absent at same = true≢false (sym (among_at keys i key (at ∙ ap Some same)) ∙ absent)

module _ (file : SpefText) (net : List ℕ) (listed joined : List Key) where
  pub none_yet : AreRefs file net [] [] (no_refs file)
  none_yet = record {
    of_file = refl;
    words_placed = refl;
    words_named = refl;
    keys_marked = refl;
    placed = λ k d h. absurd (omega arith);
    spelled = λ number word e. absurd (cc);
    marked = λ place key mark e m. absurd (cc);
    once = λ one other key e f. absurd (cc);
    covered = λ key e. e;
  }

  module _ (refs : Refs) (are : AreRefs file net listed joined refs) where
    -- a word that names a node whose place is known
    module _ (word : List ℕ) (node : NodeName) (names_it : named file true word ≡ Some node) (place : ℕ) (keys : List Key) (marks : List Mark)
        (at : slice_get keys place ≡ Some (key_of node)) (marked_all : length marks ≡ length keys)
        (keys_stay : (i : ℕ) (key : Key) → slice_get refs.keys i ≡ Some key → slice_get keys i ≡ Some key)
        (marks_stay : (i : ℕ) (mark : Mark) → i < length refs.marks → slice_get marks i ≡ Some mark → slice_get refs.marks i ≡ Some mark)
        (longer : length refs.marks ≤ length marks) where
      abbrev after : Refs
      after = with_word refs word place node keys marks

      new_spelled : IsSpelled file after (length refs.words) word
      new_spelled = record {
        node = node;
        names = names_it;
        place = place;
        placed = ap (slice_get after.places) (sym are.words_placed) ∙ get_last refs.places place;
        key = at;
        kept = ap (slice_get after.names) (sym are.words_named) ∙ get_last refs.names (Some node);
      }

      old_spelled : (number : ℕ) (other : List ℕ) → IsSpelled file refs number other → IsSpelled file after number other
      old_spelled number other is = record {
        node = is.node;
        names = is.names;
        place = is.place;
        placed = get_left refs.places (place ∷ []) number is.place is.placed;
        key = keys_stay is.place (key_of is.node) is.key;
        kept = get_left refs.names (Some node ∷ []) number (Some is.node) is.kept;
      }

      word_spelled : (number : ℕ) (other : List ℕ) → slice_get after.words number ≡ Some other → IsSpelled file after number other
      word_spelled number other e = ⊎_elim
          (λ h. old_spelled number other (are.spelled number other h))
          (λ h. subst (λ (w : List ℕ). IsSpelled file after number w) h.1 (subst (λ (n : ℕ). IsSpelled file after n word) (sym h.0) new_spelled))
          (get_push refs.words word number other e)

      places_within : ArePlaced after
      places_within =
          let within : place < length marks = let w = slice_get_within keys place (key_of node) at in omega (arith, w, marked_all) in
          let before : All (λ p. p < length marks) refs.places = λ k d h. let w = are.placed k d h in omega (arith, w, longer) in
          All-push (λ p. p < length marks) refs.places place before within

      words_placed_after : length after.places ≡ length after.words
      words_placed_after = length-append refs.places (place ∷ []) ∙ ap (λ n. n + 1) are.words_placed ∙ sym (length-append refs.words (word ∷ []))

      words_named_after : length after.names ≡ length after.words
      words_named_after = length-append refs.names (Some node ∷ []) ∙ ap (λ n. n + 1) are.words_named ∙ sym (length-append refs.words (word ∷ []))

    -- a word whose node is known already is put at the end
    pub put_held : (word : List ℕ) (node : NodeName) (place : ℕ) → named file true word ≡ Some node → slice_get refs.keys place ≡ Some (key_of node)
        → AreRefs file net listed joined (with_word refs word place node refs.keys refs.marks)
    put_held word node place names_it at = record {
      of_file = are.of_file;
      words_placed = words_placed_after word node names_it place refs.keys refs.marks at are.keys_marked (λ i key e. e) (λ i mark h e. e) (omega arith);
      words_named = words_named_after word node names_it place refs.keys refs.marks at are.keys_marked (λ i key e. e) (λ i mark h e. e) (omega arith);
      keys_marked = are.keys_marked;
      placed = places_within word node names_it place refs.keys refs.marks at are.keys_marked (λ i key e. e) (λ i mark h e. e) (omega arith);
      spelled = word_spelled word node names_it place refs.keys refs.marks at are.keys_marked (λ i key e. e) (λ i mark h e. e) (omega arith);
      marked = are.marked;
      once = are.once;
      covered = are.covered;
    }

    false_or : (a b : Bool) → (a || b) ≡ false → (a ≡ false) × (b ≡ false)
    false_or true b e = absurd (cc)
    false_or false b e = (refl, e)

    to_false : (a b : Bool) → (a ≡ true → b ≡ true) → b ≡ false → a ≡ false
    to_false true b h e = absurd (true≢false (sym (h refl) ∙ e))
    to_false false b h e = refl

    -- a word whose node is new is put at the end
    pub put_added : (word : List ℕ) (node : NodeName) → named file true word ≡ Some node → among (key_of node) refs.keys ≡ false
        → AreRefs file net listed joined (with_word refs word (length refs.keys) node (refs.keys ++ key_of node ∷ []) (refs.marks ++ new_mark net node ∷ []))
    put_added word node names_it absent = record {
      of_file = are.of_file;
      words_placed = words_placed_after word node names_it place keys marks at marked_all keys_stay marks_stay longer;
      words_named = words_named_after word node names_it place keys marks at marked_all keys_stay marks_stay longer;
      keys_marked = marked_all;
      placed = places_within word node names_it place keys marks at marked_all keys_stay marks_stay longer;
      spelled = word_spelled word node names_it place keys marks at marked_all keys_stay marks_stay longer;
      marked = marked;
      once = once;
      covered = λ other e. among_append other refs.keys (key ∷ []) ∙ ap (λ b. b || among other (key ∷ [])) (are.covered other e);
    }
      where
        key : Key
        key = key_of node

        place : ℕ
        place = length refs.keys

        keys : List Key
        keys = refs.keys ++ key ∷ []

        mark : Mark
        mark = new_mark net node

        marks : List Mark
        marks = refs.marks ++ mark ∷ []

        at : slice_get keys place ≡ Some key
        at = get_last refs.keys key

        marked_all : length marks ≡ length keys
        marked_all = length-append refs.marks (mark ∷ []) ∙ ap (λ n. n + 1) are.keys_marked ∙ sym (length-append refs.keys (key ∷ []))

        keys_stay : (i : ℕ) (other : Key) → slice_get refs.keys i ≡ Some other → slice_get keys i ≡ Some other
        keys_stay i other e = get_left refs.keys (key ∷ []) i other e

        longer : length refs.marks ≤ length marks
        longer = omega (arith, length-append refs.marks (mark ∷ []))

        marks_stay : (i : ℕ) (other : Mark) → i < length refs.marks → slice_get marks i ≡ Some other → slice_get refs.marks i ≡ Some other
        marks_stay i other h e = ⊎_elim (λ l. l) (λ r. absurd (omega (arith, r.0))) (get_push refs.marks mark i other e)

        none_of : (among key listed || (among key joined || among key (map key_of refs.nodes))) ≡ false
        none_of = to_false (among key listed || (among key joined || among key (map key_of refs.nodes))) (among key refs.keys) (are.covered key) absent

        not_listed : among key listed ≡ false
        not_listed = (false_or (among key listed) (among key joined || among key (map key_of refs.nodes)) none_of).0

        not_joined : among key joined ≡ false
        not_joined = (false_or (among key joined) (among key (map key_of refs.nodes)) (false_or (among key listed) (among key joined || among key (map key_of refs.nodes)) none_of).1).0

        not_numbered : among key (map key_of refs.nodes) ≡ false
        not_numbered = (false_or (among key joined) (among key (map key_of refs.nodes)) (false_or (among key listed) (among key joined || among key (map key_of refs.nodes)) none_of).1).1

        new_marked : IsMark net listed joined refs.nodes key mark
        new_marked = record {
          is_listed = sym not_listed;
          does_belong = sym (ap (λ b. b || (among key joined || bytes_eq net key.head)) not_listed ∙ ap (λ b. b || bytes_eq net key.head) not_joined);
          numbered = λ number e. absurd (cc);
          unnumbered = λ e. not_numbered;
        }

        marked : (i : ℕ) (other : Key) (its : Mark) → slice_get keys i ≡ Some other → slice_get marks i ≡ Some its → IsMark net listed joined refs.nodes other its
        marked i other its e m = ⊎_elim
            (λ l. let w = slice_get_within refs.keys i other l in ⊎_elim (λ n. are.marked i other its l n) (λ r. absurd (omega (arith, w, r.0, are.keys_marked))) (get_push refs.marks mark i its m))
            (λ r. ⊎_elim
            (λ n. let w = slice_get_within refs.marks i its n in absurd (omega (arith, w, r.0, are.keys_marked)))
            (λ n. subst (λ (k : Key). IsMark net listed joined refs.nodes k its) r.1 (subst (λ (m : Mark). IsMark net listed joined refs.nodes key m) n.1 new_marked))
            (get_push refs.marks mark i its m))
            (get_push refs.keys key i other e)

        once : (one other : ℕ) (it : Key) → slice_get keys one ≡ Some it → slice_get keys other ≡ Some it → one ≡ other
        once one other it e f = ⊎_elim
            (λ l. ⊎_elim (λ m. are.once one other it l m) (λ m. absurd (absent_at refs.keys one key it absent l (sym m.1))) (get_push refs.keys key other it f))
            (λ l. ⊎_elim (λ m. absurd (absent_at refs.keys other key it absent m (sym l.1))) (λ m. l.0 ∙ sym m.0) (get_push refs.keys key other it f))
            (get_push refs.keys key one it e)

    -- the mark of one node is written anew
    module _ (word place : ℕ) (mark mark_after : Mark) (is_marked : IsMarked refs word place mark) (key : Key) (at : slice_get refs.keys place ≡ Some key)
        (nodes_after : List NodeName) (listed_after joined_after : List Key)
        (here : IsMark net listed_after joined_after nodes_after key mark_after)
        (others : (other : Key) (its : Mark) → (other ≡ key → ⊥) → IsMark net listed joined refs.nodes other its → IsMark net listed_after joined_after nodes_after other its)
        (covers : (other : Key) → (among other listed_after || (among other joined_after || among other (map key_of nodes_after))) ≡ true → among other refs.keys ≡ true) where
      abbrev remarked : Refs
      remarked = record { file = refs.file; words = refs.words; places = refs.places; names = refs.names; keys = refs.keys; marks = set refs.marks place mark_after; nodes = nodes_after }

      place_within : place < length refs.marks
      place_within = slice_get_within refs.marks place mark is_marked.marked

      remarked_at : (i : ℕ) (other : Key) (its : Mark) → slice_get refs.keys i ≡ Some other → slice_get (set refs.marks place mark_after) i ≡ Some its → IsMark net listed_after joined_after nodes_after other its
      remarked_at i other its e m = ⊎_elim
          (λ l. let same : other ≡ key = some_is other key (sym e ∙ ap (slice_get refs.keys) l.0 ∙ at) in
          subst (λ (k : Key). IsMark net listed_after joined_after nodes_after k its) (sym same) (subst (λ (x : Mark). IsMark net listed_after joined_after nodes_after key x) l.1 here))
          (λ r. others other its (λ same. r.0 (are.once i place key (e ∙ ap Some same) at)) (are.marked i other its e r.1))
          (get_set refs.marks place i mark_after its place_within m)
        where
          some_is : (a b : Key) → Some a ≡ Some b → a ≡ b
          some_is a b e = cc

      respelled : (number : ℕ) (other : List ℕ) → IsSpelled file refs number other → IsSpelled file remarked number other
      respelled number other is = record {
        node = is.node;
        names = is.names;
        place = is.place;
        placed = is.placed;
        key = is.key;
        kept = is.kept;
      }

      pub remark : AreRefs file net listed_after joined_after remarked
      remark = record {
        of_file = are.of_file;
        words_placed = are.words_placed;
        words_named = are.words_named;
        keys_marked = length_set refs.marks place mark_after ∙ are.keys_marked;
        placed = λ k d h. let w = are.placed k d h in omega (arith, w, length_set refs.marks place mark_after);
        spelled = λ number other e. respelled number other (are.spelled number other e);
        marked = remarked_at;
        once = are.once;
        covered = covers;
      }

    -- the node of a word has its key at the place of the word
    module _ (word : ℕ) (text : List ℕ) (node : NodeName) (stands : slice_get refs.words word ≡ Some text) (names_it : named file true text ≡ Some node) (place : ℕ) (mark : Mark) (is_marked : IsMarked refs word place mark) where
      some_node : (a b : NodeName) → Some a ≡ Some b → a ≡ b
      some_node a b e = cc

      some_nat : (a b : ℕ) → Some a ≡ Some b → a ≡ b
      some_nat a b e = cc

      is_spelled : IsSpelled file refs word text
      is_spelled = are.spelled word text stands

      node_is : is_spelled.node ≡ node
      node_is = some_node is_spelled.node node (sym is_spelled.names ∙ names_it)

      place_is : is_spelled.place ≡ place
      place_is = some_nat is_spelled.place place (sym is_spelled.placed ∙ is_marked.placed)

      pub key_stands : slice_get refs.keys place ≡ Some (key_of node)
      key_stands = ap (slice_get refs.keys) (sym place_is) ∙ is_spelled.key ∙ ap (λ n. Some (key_of n)) node_is

      pub its_mark : IsMark net listed joined refs.nodes (key_of node) mark
      its_mark = are.marked place (key_of node) mark key_stands is_marked.marked

      pub its_name : slice_get refs.names word ≡ Some (Some node)
      its_name = is_spelled.kept ∙ ap (λ n. Some (Some n)) node_is

      abbrev its_key : Key
      its_key = key_of node

      in_keys : among its_key refs.keys ≡ true
      in_keys = among_at refs.keys place its_key key_stands

      covers_one : (before : List Key) (other : Key) (rest : Bool) → (rest ≡ true → among other refs.keys ≡ true) → (among other before ≡ true → among other refs.keys ≡ true)
          → (among other (before ++ its_key ∷ []) || rest) ≡ true → among other refs.keys ≡ true
      covers_one before other rest h g e = by (among other before) rest (same_key other its_key) refl refl refl (ap (λ b. b || rest) (sym (among_push other before its_key)) ∙ e)
        where
          by : (a r s : Bool) → among other before ≡ a → rest ≡ r → same_key other its_key ≡ s → ((among other before || same_key other its_key) || rest) ≡ true → among other refs.keys ≡ true
          by true r s x y z f = g x
          by false true s x y z f = h y
          by false false true x y z f = ap (λ k. among k refs.keys) (same_key_is other its_key z) ∙ in_keys
          by false false false x y z f = absurd (true≢false (sym f ∙ ap (λ b. (b || same_key other its_key) || rest) x ∙ ap (λ b. b || rest) z ∙ y))

      covered_first : (other : Key) → among other listed ≡ true → among other refs.keys ≡ true
      covered_first other e = are.covered other (ap (λ b. b || (among other joined || among other (map key_of refs.nodes))) e)

      covered_rest : (other : Key) → (among other joined || among other (map key_of refs.nodes)) ≡ true → among other refs.keys ≡ true
      covered_rest other e = are.covered other (ap (λ b. among other listed || b) e ∙ or_true (among other listed))

      -- the node is listed
      pub list_step : AreRefs file net (listed ++ its_key ∷ []) joined (with_mark refs place (listed_mark mark))
      list_step = remark word place mark (listed_mark mark) is_marked its_key key_stands refs.nodes (listed ++ its_key ∷ []) joined
          (record {
            is_listed = sym (among_last its_key listed);
            does_belong = sym (ap (λ b. b || (among its_key joined || bytes_eq net its_key.head)) (among_last its_key listed));
            numbered = its_mark.numbered;
            unnumbered = its_mark.unnumbered;
          })
          (λ other its differ m. record {
            is_listed = m.is_listed ∙ sym (among_other other listed its_key differ);
            does_belong = m.does_belong ∙ ap (λ b. b || (among other joined || bytes_eq net other.head)) (sym (among_other other listed its_key differ));
            numbered = m.numbered;
            unnumbered = m.unnumbered;
          })
          (λ other e. covers_one listed other (among other joined || among other (map key_of refs.nodes)) (covered_rest other) (covered_first other) e)

      -- the node stands in a resistor
      pub join_step : AreRefs file net listed (joined ++ its_key ∷ []) (with_mark refs place (joined_mark mark))
      join_step = remark word place mark (joined_mark mark) is_marked its_key key_stands refs.nodes listed (joined ++ its_key ∷ [])
          (record {
            is_listed = its_mark.is_listed;
            does_belong = sym (ap (λ b. among its_key listed || (b || bytes_eq net its_key.head)) (among_last its_key joined) ∙ or_true (among its_key listed));
            numbered = its_mark.numbered;
            unnumbered = its_mark.unnumbered;
          })
          (λ other its differ m. record {
            is_listed = m.is_listed;
            does_belong = m.does_belong ∙ ap (λ b. among other listed || (b || bytes_eq net other.head)) (sym (among_other other joined its_key differ));
            numbered = m.numbered;
            unnumbered = m.unnumbered;
          })
          covers
        where
          covers : (other : Key) → (among other listed || (among other (joined ++ its_key ∷ []) || among other (map key_of refs.nodes))) ≡ true → among other refs.keys ≡ true
          covers other e = by (among other listed) refl e
            where
              in_joined : among other joined ≡ true → among other refs.keys ≡ true
              in_joined j = covered_rest other (ap (λ b. b || among other (map key_of refs.nodes)) j)

              in_nodes : among other (map key_of refs.nodes) ≡ true → among other refs.keys ≡ true
              in_nodes j = covered_rest other (ap (λ b. among other joined || b) j ∙ or_true (among other joined))

              by : (a : Bool) → among other listed ≡ a → (a || (among other (joined ++ its_key ∷ []) || among other (map key_of refs.nodes))) ≡ true → among other refs.keys ≡ true
              by true x f = covered_first other x
              by false x f = covers_one joined other (among other (map key_of refs.nodes)) in_nodes in_joined f

      -- the node gets a number
      pub number_step : mark.number ≡ None → AreRefs file net listed joined (with_number refs word place mark (Some node))
      number_step none = remark word place mark after is_marked its_key key_stands (refs.nodes ++ node ∷ []) listed joined
          (record {
            is_listed = its_mark.is_listed;
            does_belong = its_mark.does_belong;
            numbered = λ number e. at_end number e;
            unnumbered = λ e. absurd (cc);
          })
          (λ other its differ m. record {
            is_listed = m.is_listed;
            does_belong = m.does_belong;
            numbered = λ number e. ap (λ ks. slice_get ks number) pushed ∙ get_left keys_before (its_key ∷ []) number other (m.numbered number e);
            unnumbered = λ e. ap (among other) pushed ∙ among_other other keys_before its_key differ ∙ m.unnumbered e;
          })
          covers
        where
          after : Mark
          after = numbered_mark mark (length refs.nodes)

          keys_before : List Key
          keys_before = map key_of refs.nodes

          pushed : map key_of (refs.nodes ++ node ∷ []) ≡ keys_before ++ its_key ∷ []
          pushed = map_push key_of refs.nodes node

          at_end : (number : ℕ) → after.number ≡ Some number → slice_get (map key_of (refs.nodes ++ node ∷ [])) number ≡ Some its_key
          at_end number e = ap (slice_get (map key_of (refs.nodes ++ node ∷ []))) (sym (some_nat (length refs.nodes) number e)) ∙ map_at key_of (refs.nodes ++ node ∷ []) (length refs.nodes) node (get_last refs.nodes node)

          covers : (other : Key) → (among other listed || (among other joined || among other (map key_of (refs.nodes ++ node ∷ [])))) ≡ true → among other refs.keys ≡ true
          covers other e = by (same_key other its_key) refl
            where
              by : (s : Bool) → same_key other its_key ≡ s → among other refs.keys ≡ true
              by true z = ap (λ k. among k refs.keys) (same_key_is other its_key z) ∙ in_keys
              by false z = are.covered other (ap (λ b. among other listed || (among other joined || b)) (sym (ap (among other) pushed ∙ among_push other keys_before its_key ∙ ap (λ b. among other keys_before || b) z ∙ or_false (among other keys_before))) ∙ e)

-- what is read at a word's place
pub marked_at : (refs : Refs) (word place : ℕ) (mark : Mark) → word < length refs.places → ArePlaced refs → place ≡ get_or refs.places word place → mark ≡ get_or refs.marks place mark → IsMarked refs word place mark
marked_at refs word place mark within placed at is =
    let first : slice_get refs.places word ≡ Some place = slice_get_read refs.places (length refs.places) word place refl within at in
    let below : place < length refs.marks = all_at (λ p. p < length refs.marks) refs.places word place placed first in
    record { placed = first; marked = slice_get_read refs.marks (length refs.marks) place mark refl below is }

pub place_within_marks : (refs : Refs) (word place : ℕ) → word < length refs.places → ArePlaced refs → place ≡ get_or refs.places word place → place < length refs.marks
place_within_marks refs word place within placed at =
    let first : slice_get refs.places word ≡ Some place = slice_get_read refs.places (length refs.places) word place refl within at in
    all_at (λ p. p < length refs.marks) refs.places word place placed first

-- how a new word changes the references
abbrev pub with_keys : Refs → List Key → Refs
with_keys refs keys = record { file = refs.file; words = refs.words; places = refs.places; names = refs.names; keys = keys; marks = refs.marks; nodes = refs.nodes }

pub stays : (net : List ℕ) (refs : Refs) (word : List ℕ) (node : NodeName) (place : ℕ) (keys : List Key) (after : Refs) (number : ℕ) → length refs.marks ≡ length refs.keys
    → IsInterned refs.keys keys (key_of node) place → place < length refs.marks → slice_get refs.words number ≡ Some word → after ≡ with_keys refs keys → IsFound net refs after word node number
stays net refs word node place keys after number same (held stay at) within stood is = stands stood (is ∙ ap (with_keys refs) stay)
stays net refs word node place keys after number same (added grows at absent) within stood is = absurd (omega (arith, at, within, same))

pub puts : (net : List ℕ) (refs : Refs) (word : List ℕ) (node : NodeName) (place : ℕ) (keys : List Key) (marks : List Mark) (after : Refs) → length refs.marks ≡ length refs.keys
    → IsInterned refs.keys keys (key_of node) place
    → (place ≡ length refs.marks → marks ≡ refs.marks ++ new_mark net node ∷ []) → (place < length refs.marks → marks ≡ refs.marks)
    → after ≡ with_word refs word place node keys marks → IsPut net refs after word node
puts net refs word node place keys marks after same (held stays at) new old is =
    let within = slice_get_within refs.keys place (key_of node) at in
    let marks_are : marks ≡ refs.marks = old (omega (arith, within, same)) in
    held place at (is ∙ ap (λ ks. with_word refs word place node ks marks) stays ∙ ap (λ ms. with_word refs word place node refs.keys ms) marks_are)
puts net refs word node place keys marks after same (added grows at absent) new old is =
    let marks_are : marks ≡ refs.marks ++ new_mark net node ∷ [] = new (at ∙ sym same) in
    added absent (is ∙ ap (λ p. with_word refs word p node keys marks) at ∙ ap (λ ks. with_word refs word (length refs.keys) node ks marks) grows
    ∙ ap (λ ms. with_word refs word (length refs.keys) node (refs.keys ++ key_of node ∷ []) ms) marks_are)
