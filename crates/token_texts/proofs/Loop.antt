-- The parts so far, and the machine that they lead to.
use Rattle.std.proofs.Common.{◌≡◌, ℕ, ◌+◌, ◌-◌, ◌<◌, ◌≤◌, List, [], ◌∷◌, ◌++◌, length, take, drop, length-drop, Option, None, Ok, refl, sym, ap, ◌∙◌, subst, arith, append_assoc, append-nil}
use Rattle.std.specs.Prelude.{⊤}
use Rattle.std.proofs.lemmas.List.{length-take-le}
use Rattle.token_texts.specs.Cuts.{Lexeme, Part, gap, token, AreParts, no_part, and_gap, and_token, HasGapFirst, lexemes, byte_count, place_behind, IsWithin}
use Rattle.token_texts.specs.CutLemmas.{some_parts, bytes_behind, one_token_more, no_token_more, place_there, place_past}
use Rattle.token_texts.specs.Readings.{IsNext, MakesParts, StopsParts, OnTaken}
use Rattle.token_texts.specs.declared.cuts.Cut.{Cut}
use Rattle.token_texts.specs.declared.cuts.Cut.TheVariants.{Skip, Take}

module _ {K S : Type 0} (cut_at : ℕ → List ℕ → Cut K) (Leads : List (Part K) → S → Type 0) where
  pub record LedTo (bytes rest : List ℕ) (number start : ℕ) (state : S) : Type 0 where
    pub before : List (Part K)
    pub next : IsNext before number start
    pub bound : number ≤ start + 1
    pub size : start + length rest ≡ length bytes
    pub so_far : (parts : List (Part K)) → AreParts cut_at rest parts → AreParts cut_at bytes (before ++ parts)
    pub leads : Leads before state

  pub led_begins : (bytes : List ℕ) (state : S) → Leads [] state → LedTo bytes bytes 1 0 state
  led_begins bytes state h = record { before = []; next = record { count = refl; place = refl }; bound = omega arith; size = omega arith; so_far = λ parts are. are; leads = h }

  module _ {bytes : List ℕ} {number start : ℕ} {state : S} where
    one_gap : (first : ℕ) (after : List ℕ) (n : ℕ) (now : S)
        → (h : LedTo bytes (first ∷ after) number start state) → cut_at first after ≡ Skip n → n ≤ length after + 1 → Leads (h.before ++ gap (take n (first ∷ after)) ∷ []) now
        → LedTo bytes (drop n (first ∷ after)) number (start + n) now
    one_gap first after n now h cut within moves =
        let left : length (drop n (first ∷ after)) ≡ length (first ∷ after) - n = length-drop n (first ∷ after) in
        let here : Part K = gap (take n (first ∷ after)) in
        let long : length (take n (first ∷ after)) ≡ n = length-take-le n (first ∷ after) (omega arith) in
        let more : byte_count (h.before ++ here ∷ []) ≡ byte_count h.before + (length (take n (first ∷ after)) + 0) = bytes_behind h.before (here ∷ []) in
        let same : length (lexemes (h.before ++ here ∷ [])) ≡ length (lexemes h.before) = no_token_more h.before (take n (first ∷ after)) in
        let next = h.next in
        let bound = h.bound in
        let size = h.size in
        record {
          before = h.before ++ here ∷ [];
          next = record { count = omega arith; place = omega arith };
          bound = omega arith;
          size = omega arith;
          so_far = λ parts are. subst (AreParts cut_at bytes) (sym (append_assoc h.before (here ∷ []) parts)) (h.so_far (here ∷ parts) (and_gap n cut are));
          leads = moves;
        }

    pub led_skips : {others skipped : List ℕ} (rest : List ℕ) (first : ℕ) (after : List ℕ) (n : ℕ) (now : S)
        → LedTo bytes rest number start state → rest ≡ first ∷ after → cut_at first after ≡ Skip n → n ≤ length rest → skipped ≡ take n rest → others ≡ drop n rest
        → ((before : List (Part K)) → Leads before state → Leads (before ++ gap skipped ∷ []) now)
        → LedTo bytes others number (start + n) now
    led_skips {others} {skipped} rest first after n now h split cut within front back moves =
        let here : LedTo bytes (first ∷ after) number start state = subst (λ (l : List ℕ). LedTo bytes l number start state) split h in
        let long : length rest ≡ length after + 1 = ap length split ∙ omega arith in
        subst (λ (l : List ℕ). LedTo bytes l number (start + n) now) (sym (back ∙ ap (drop n) split))
        (one_gap first after n now here cut (omega arith)
        (subst (λ (l : List ℕ). Leads (here.before ++ gap l ∷ []) now) (front ∙ ap (take n) split) (moves here.before here.leads)))

    -- a byte that is passed over by itself
    pub led_past : {others skipped : List ℕ} (rest : List ℕ) (now : S) → LedTo bytes rest number start state → HasGapFirst cut_at rest → skipped ≡ take 1 rest → others ≡ drop 1 rest
        → ((before : List (Part K)) → Leads before state → Leads (before ++ gap skipped ∷ []) now)
        → LedTo bytes others number (start + 1) now
    led_past [] now h here front back moves = absurd here
    led_past (first ∷ after) now h here front back moves = led_skips (first ∷ after) first after 1 now h refl here (omega arith) front back moves

    one_token : (first : ℕ) (after : List ℕ) (n : ℕ) (kind : K) (now : S)
        → (h : LedTo bytes (first ∷ after) number start state) → cut_at first after ≡ Take n kind → 0 < n → n ≤ length after + 1
        → Leads (h.before ++ token (record { kind = kind; bytes = take n (first ∷ after) }) ∷ []) now
        → LedTo bytes (drop n (first ∷ after)) (number + 1) (start + n) now
    one_token first after n kind now h cut some within moves =
        let left : length (drop n (first ∷ after)) ≡ length (first ∷ after) - n = length-drop n (first ∷ after) in
        let lexeme : Lexeme K = record { kind = kind; bytes = take n (first ∷ after) } in
        let long : length (take n (first ∷ after)) ≡ n = length-take-le n (first ∷ after) (omega arith) in
        let more : byte_count (h.before ++ token lexeme ∷ []) ≡ byte_count h.before + (length (take n (first ∷ after)) + 0) = bytes_behind h.before (token lexeme ∷ []) in
        let longer : length (lexemes (h.before ++ token lexeme ∷ [])) ≡ length (lexemes h.before) + 1 = one_token_more h.before lexeme in
        let next = h.next in
        let bound = h.bound in
        let size = h.size in
        record {
          before = h.before ++ token lexeme ∷ [];
          next = record { count = omega arith; place = omega arith };
          bound = omega arith;
          size = omega arith;
          so_far = λ parts are. subst (AreParts cut_at bytes) (sym (append_assoc h.before (token lexeme ∷ []) parts)) (h.so_far (token lexeme ∷ parts) (and_token n kind cut are));
          leads = moves;
        }

    pub led_takes : {others raw : List ℕ} (rest : List ℕ) (first : ℕ) (after : List ℕ) (n : ℕ) (kind : K) (now : S)
        → LedTo bytes rest number start state → rest ≡ first ∷ after → cut_at first after ≡ Take n kind → 0 < n → n ≤ length rest → raw ≡ take n rest → others ≡ drop n rest
        → ((before : List (Part K)) → IsNext before number start → Leads before state → Leads (before ++ token (record { kind = kind; bytes = raw }) ∷ []) now)
        → LedTo bytes others (number + 1) (start + n) now
    led_takes {others} {raw} rest first after n kind now h split cut some within front back moves =
        let here : LedTo bytes (first ∷ after) number start state = subst (λ (l : List ℕ). LedTo bytes l number start state) split h in
        let long : length rest ≡ length after + 1 = ap length split ∙ omega arith in
        subst (λ (l : List ℕ). LedTo bytes l (number + 1) (start + n) now) (sym (back ∙ ap (drop n) split))
        (one_token first after n kind now here cut some (omega arith)
        (subst (λ (l : List ℕ). Leads (here.before ++ token (record { kind = kind; bytes = l }) ∷ []) now) (front ∙ ap (take n) split) (moves here.before here.next here.leads)))

    module _ {C : Type 0} (Stops : List (Part K) → ℕ → C → Type 0) where
      refused_here : ((first : ℕ) (rest : List ℕ) → IsWithin (length rest + 1) (cut_at first rest)) → (first : ℕ) (after : List ℕ) (n : ℕ) (kind : K) (cause : C)
          → (h : LedTo bytes (first ∷ after) number start state) → cut_at first after ≡ Take n kind
          → ((more : List (Part K)) → Stops (h.before ++ token (record { kind = kind; bytes = take n (first ∷ after) }) ∷ more) number cause)
          → StopsParts cut_at Stops bytes number start cause
      refused_here each first after n kind cause h cut refusal =
          let lexeme : Lexeme K = record { kind = kind; bytes = take n (first ∷ after) } in
          let more = some_parts cut_at each (length (drop n (first ∷ after))) (drop n (first ∷ after)) (omega arith) in
          let next = h.next in
          let behind : number - 1 ≡ length (lexemes h.before) = omega arith in
          record {
            parts = h.before ++ token lexeme ∷ more.0;
            parted = h.so_far (token lexeme ∷ more.0) (and_token n kind cut more.1);
            place = next.place ∙ sym (ap (λ count. place_behind count (h.before ++ token lexeme ∷ more.0)) behind ∙ place_there h.before more.0 lexeme);
            stops = refusal more.0;
          }

      pub led_refuses : ((first : ℕ) (rest : List ℕ) → IsWithin (length rest + 1) (cut_at first rest)) → {raw : List ℕ} (rest : List ℕ) (first : ℕ) (after : List ℕ) (n : ℕ) (kind : K) (cause : C)
          → LedTo bytes rest number start state → rest ≡ first ∷ after → cut_at first after ≡ Take n kind → raw ≡ take n rest
          → ((before : List (Part K)) → IsNext before number start → Leads before state → (more : List (Part K)) → Stops (before ++ token (record { kind = kind; bytes = raw }) ∷ more) number cause)
          → StopsParts cut_at Stops bytes number start cause
      led_refuses each {raw} rest first after n kind cause h split cut front refusal =
          let here : LedTo bytes (first ∷ after) number start state = subst (λ (l : List ℕ). LedTo bytes l number start state) split h in
          refused_here each first after n kind cause here cut
          (subst (λ (l : List ℕ). (more : List (Part K)) → Stops (here.before ++ token (record { kind = kind; bytes = l }) ∷ more) number cause) (front ∙ ap (take n) split) (refusal here.before here.next here.leads))

      pub led_lacks : (rest : List ℕ) (cause : C) → LedTo bytes rest number start state → rest ≡ [] → ((before : List (Part K)) → Leads before state → Stops before (length (lexemes before) + 1) cause)
          → StopsParts cut_at Stops bytes number start cause
      led_lacks rest cause h none lacks =
          let here : LedTo bytes [] number start state = subst (λ (l : List ℕ). LedTo bytes l number start state) none h in
          let next = here.next in
          record {
            parts = here.before;
            parted = subst (AreParts cut_at bytes) (append-nil here.before) (here.so_far [] no_part);
            place = next.place ∙ sym (place_past (number - 1) here.before (omega arith));
            stops = subst (λ (n : ℕ). Stops here.before n cause) (sym next.count) (lacks here.before here.leads);
          }

    pub led_makes : {V : Type 0} (Makes : List (Part K) → V → Type 0) (rest : List ℕ) (value : V) → LedTo bytes rest number start state → rest ≡ [] → ((before : List (Part K)) → Leads before state → Makes before value)
        → MakesParts cut_at Makes bytes value
    led_makes Makes rest value h none makes =
        let here : LedTo bytes [] number start state = subst (λ (l : List ℕ). LedTo bytes l number start state) none h in
        record {
          parts = here.before;
          parted = subst (AreParts cut_at bytes) (append-nil here.before) (here.so_far [] no_part);
          made = makes here.before here.leads;
        }

-- what is so where a token is taken, which is
pub where_taken : {C : Type 0} (fact : Type 0) (refusal : Option C) → refusal ≡ None → OnTaken {E = ⊤} (Ok refusal) fact → fact
where_taken fact refusal is holds = subst (λ o. OnTaken {E = ⊤} (Ok o) fact) is holds
