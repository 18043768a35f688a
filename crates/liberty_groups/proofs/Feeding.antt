-- One part more of a file that comes in pieces, and where it is refused.
use Rattle.std.proofs.Common.{◌≡◌, ℕ, suc, ◌+◌, ◌<◌, ◌≤◌, Bool, true, false, not, ◌&&◌, ◌||◌, ◌==◌, List, [], ◌∷◌, ◌++◌, length, take, drop, get_or, length-drop, Err, refl, sym, ap, ◌∙◌, subst, arith, append_assoc, eqb-true}
use Rattle.edge_io.specs.Bytes.{line_end, backslash}
use Rattle.token_texts.specs.Blanks.{is_blank, is_line_end}
use Rattle.std.proofs.lemmas.List.{take-append-le, drop-append-le, drop-drop, drop_more, length-append}
use Rattle.token_texts.specs.Cuts.{Lexeme, Part, gap, token, AreParts, and_gap, and_token, byte_count}
use Rattle.token_texts.specs.CutLemmas.{bytes_behind, one_token_more, no_token_more}
use Rattle.token_texts.specs.Readings.{StopsParts, IfRefused}
use Rattle.token_texts.specs.declared.reading.ReadEnd.{ReadEnd}
use Rattle.token_texts.specs.declared.reading.ReadEnd.TheVariants.{Refused, OutOfMemory}
use Rattle.token_texts.specs.declared.cuts.Cut.{Cut}
use Rattle.token_texts.specs.declared.cuts.Cut.TheVariants.{Skip, Take}
use Rattle.token_texts.proofs.Loop.{LedTo, led_refuses}
use Rattle.liberty_groups.specs.Tokens.{breaks, cut_at}
use Rattle.liberty_groups.specs.Leading.{Leads, Stops, IsSound}
use Rattle.liberty_groups.specs.Within.{cut_within}
use Rattle.liberty_groups.specs.Places.{size_of}
use Rattle.liberty_groups.specs.Feeding.{part_of, LeadsTo, StopsAt, RefusesAt, CanGoOn, HasRead, StopsAny, Begins}
use Rattle.liberty_groups.specs.declared.scan.Kind.{Kind}
use Rattle.liberty_groups.specs.declared.faults.Cause.{Cause}
use Rattle.liberty_groups.specs.declared.progress.Progress.{Progress}
use Rattle.liberty_groups.proofs.Cutting.{cut_blank}
use Rattle.liberty_groups.proofs.Beginning.{stays}
use Rattle.liberty_groups.proofs.SoFar.{passed}

-- a part at the front of bytes that begin with it, whatever comes
pub one_part : (first : ℕ) (after more : List ℕ) (cut : Cut Kind) (parts : List (Part Kind)) → cut_at first (after ++ more) ≡ cut
    → size_of cut ≤ length (first ∷ after)
    → AreParts cut_at (drop (size_of cut) (first ∷ after) ++ more) parts
    → AreParts cut_at (first ∷ (after ++ more)) (part_of cut (take (size_of cut) (first ∷ after)) ∷ parts)
one_part first after more (Skip n) parts is le are =
    subst (λ (l : List ℕ). AreParts cut_at (first ∷ (after ++ more)) (gap l ∷ parts)) (take-append-le n (first ∷ after) more le)
    (and_gap n is (subst (λ (l : List ℕ). AreParts cut_at l parts) (sym (drop-append-le n (first ∷ after) more le)) are))
one_part first after more (Take n k) parts is le are =
    subst (λ (l : List ℕ). AreParts cut_at (first ∷ (after ++ more)) (token (record { kind = k; bytes = l }) ∷ parts))
    (take-append-le n (first ∷ after) more le)
    (and_token n k is (subst (λ (l : List ℕ). AreParts cut_at l parts) (sym (drop-append-le n (first ∷ after) more le)) are))

-- bytes that are passed over are the part of their cut
pub passed_over : {now : Progress} (before : List (Part Kind)) (bytes : List ℕ) (cut : Cut Kind) (count : ℕ) → cut ≡ Skip count
    → LeadsTo (before ++ gap bytes ∷ []) now → LeadsTo (before ++ part_of cut bytes ∷ []) now
passed_over {now} before bytes cut count is leads = subst (λ (c : Cut Kind). LeadsTo (before ++ part_of c bytes ∷ []) now) (sym is) leads

module _ {all : List ℕ} (p : Progress) where
  part_read : (rest : List ℕ) (now : Progress) (cut : Cut Kind) (h : HasRead all rest p) → Begins rest cut → size_of cut ≤ length rest
      → now.start ≡ p.start + size_of cut → LeadsTo (h.before ++ part_of cut (take (size_of cut) rest) ∷ []) now
      → HasRead all (drop (size_of cut) rest) now
  part_read rest now cut h begins le start leads =
      let left = length-drop (size_of cut) rest in
      let size = h.size in
      record {
        before = h.before ++ part_of cut (take (size_of cut) rest) ∷ [];
        leads = leads;
        there = ap (drop (size_of cut)) h.there ∙ drop-drop (size_of cut) p.start all ∙ ap (λ n. drop n all) (omega (arith, start));
        size = omega (arith, start, left, size, le);
        so_far = λ more parts are. subst (AreParts cut_at (all ++ more)) (sym (append_assoc h.before (part_of cut (take (size_of cut) rest) ∷ []) parts))
            (h.so_far more (part_of cut (take (size_of cut) rest) ∷ parts) (step more parts are));
      }
    where
      step : (more : List ℕ) (parts : List (Part Kind)) → AreParts cut_at (drop (size_of cut) rest ++ more) parts
          → AreParts cut_at (rest ++ more) (part_of cut (take (size_of cut) rest) ∷ parts)
      step more parts are =
          subst (λ (l : List ℕ). AreParts cut_at (l ++ more) (part_of cut (take (size_of cut) l) ∷ parts)) (sym begins.parted)
          (one_part begins.first begins.after more cut parts (begins.stays more) (subst (λ (l : List ℕ). size_of cut ≤ length l) begins.parted le)
          (subst (λ (l : List ℕ). AreParts cut_at (drop (size_of cut) l ++ more) parts) begins.parted are))

  -- a part of these bytes, behind which others are left
  pub read_on : (rest part others : List ℕ) (now : Progress) (cut : Cut Kind) → HasRead all rest p → Begins rest cut → size_of cut ≤ length rest
      → part ≡ take (size_of cut) rest → others ≡ drop (size_of cut) rest → now.start ≡ p.start + size_of cut
      → ((before : List (Part Kind)) → LeadsTo before p → LeadsTo (before ++ part_of cut part ∷ []) now)
      → HasRead all others now
  read_on rest part others now cut h begins le front back start moves =
      subst (λ (l : List ℕ). HasRead all l now) (sym back)
      (part_read rest now cut h begins le start
      (subst (λ (l : List ℕ). LeadsTo (h.before ++ part_of cut l ∷ []) now) front (moves h.before h.leads)))

  -- the same in the words of the loop over the tokens of the whole file
  pub led : (rest : List ℕ) → p.number ≤ p.start + 1 → HasRead all rest p → (more : List ℕ)
      → LedTo cut_at Leads (all ++ more) (rest ++ more) p.number p.start p.reader
  led rest bound h more =
      let long = length-append rest more in
      let longer = length-append all more in
      let size = h.size in
      record { before = h.before; next = h.leads.next; bound = bound; size = omega arith; so_far = h.so_far more; leads = h.leads.leads }

  -- a token that is refused, with these bytes behind it
  token_stops : (rest : List ℕ) (first : ℕ) (after : List ℕ) (number start : ℕ) (cause : Cause) (n : ℕ) (k : Kind) (more : List ℕ)
      → p.number ≤ p.start + 1 → HasRead all rest p → rest ≡ first ∷ after → cut_at first (after ++ more) ≡ Take n k → n ≤ length rest
      → ((before : List (Part Kind)) → LeadsTo before p → RefusesAt before p (Take n k) (take n rest) number start cause)
      → StopsParts cut_at Stops (all ++ more) number start cause
  token_stops rest first after number start cause n k more bound h split is le refusal =
      let here = refusal h.before h.leads in
      let stops = led_refuses cut_at Leads Stops cut_within (rest ++ more) first (after ++ more) n k cause (led rest bound h more) (ap (λ l. l ++ more) split) is
      (sym (take-append-le n rest more le))
      (λ before next leads. let there = refusal before (record { next = next; leads = leads }) in subst (λ (m : ℕ). StopsAt before (Take n k) (take n rest) m cause) there.count there.stops) in
      subst (λ (m : ℕ). StopsParts cut_at Stops (all ++ more) m start cause) (sym here.count)
      (subst (λ (m : ℕ). StopsParts cut_at Stops (all ++ more) p.number m cause) (sym here.place) stops)

  pub stops_at : (rest part : List ℕ) (first : ℕ) (after : List ℕ) (number start : ℕ) (cause : Cause) (cut : Cut Kind) (more : List ℕ)
      → p.number ≤ p.start + 1 → HasRead all rest p → rest ≡ first ∷ after → cut_at first (after ++ more) ≡ cut → size_of cut ≤ length rest
      → part ≡ take (size_of cut) rest
      → ((before : List (Part Kind)) → LeadsTo before p → RefusesAt before p cut part number start cause)
      → StopsParts cut_at Stops (all ++ more) number start cause
  stops_at rest part first after number start cause (Skip n) more bound h split is le front refusal = absurd (refusal h.before h.leads).stops
  stops_at rest part first after number start cause (Take n k) more bound h split is le front refusal =
      token_stops rest first after number start cause n k more bound h split is le
      (λ before leads. subst (λ (l : List ℕ). RefusesAt before p (Take n k) l number start cause) front (refusal before leads))

  pub stops_on : (rest part : List ℕ) (number start : ℕ) (cause : Cause) (cut : Cut Kind) → p.number ≤ p.start + 1 → HasRead all rest p
      → Begins rest cut → size_of cut ≤ length rest → part ≡ take (size_of cut) rest
      → ((before : List (Part Kind)) → LeadsTo before p → RefusesAt before p cut part number start cause)
      → StopsAny all number start cause
  stops_on rest part number start cause cut bound h begins le front refusal = λ more.
      stops_at rest part begins.first begins.after number start cause cut more bound h begins.parted (begins.stays more) le front refusal

  pub stops_end : (A B : Type 0) (rest part : List ℕ) (end : ReadEnd Cause) (cut : Cut Kind) → p.number ≤ p.start + 1 → HasRead all rest p
      → Begins rest cut → size_of cut ≤ length rest → part ≡ take (size_of cut) rest
      → ((before : List (Part Kind)) → LeadsTo before p → IfRefused {A = A} (Err end) (RefusesAt before p cut part))
      → IfRefused {A = B} (Err end) (StopsAny all)
  stops_end A B rest part (Refused number start cause) cut bound h begins le front refusal = stops_on rest part number start cause cut bound h begins le front refusal
  stops_end A B rest part OutOfMemory cut bound h begins le front refusal = tt

-- ---- what a part makes of the reader and its next token

module _ (p now : Progress) (bytes : List ℕ) where
  pub can_pass : 0 < length bytes → CanGoOn p → now.number ≡ p.number → now.start ≡ p.start + length bytes
      → ((number : ℕ) → IsSound number p.reader → IsSound number now.reader) → CanGoOn now
  can_pass some goes number start sound =
      let bound = goes.bound in
      record { sound = subst (λ (n : ℕ). IsSound n now.reader) (sym number) (sound p.number goes.sound); bound = omega (arith, bound, number, start) }

  pub can_take : 0 < length bytes → CanGoOn p → now.number ≡ p.number + 1 → now.start ≡ p.start + length bytes → IsSound (p.number + 1) now.reader
      → CanGoOn now
  can_take some goes number start sound =
      let bound = goes.bound in
      record { sound = subst (λ (n : ℕ). IsSound n now.reader) (sym number) sound; bound = omega (arith, bound, number, start, some) }

  module _ (before : List (Part Kind)) where
    pub past : LeadsTo before p → now.number ≡ p.number → now.start ≡ p.start + length bytes
        → Leads (before ++ gap bytes ∷ []) now.reader → LeadsTo (before ++ gap bytes ∷ []) now
    past leads number start after =
        let more : byte_count (before ++ gap bytes ∷ []) ≡ byte_count before + (length bytes + 0) = bytes_behind before (gap bytes ∷ []) in
        let same = no_token_more before bytes in
        let next = leads.next in
        record { next = record { count = omega arith; place = omega arith }; leads = after }

    taken : (k : Kind) → LeadsTo before p → now.number ≡ p.number + 1 → now.start ≡ p.start + length bytes
        → Leads (before ++ token (record { kind = k; bytes = bytes }) ∷ []) now.reader
        → LeadsTo (before ++ token (record { kind = k; bytes = bytes }) ∷ []) now
    taken k leads number start after =
        let lexeme : Lexeme Kind = record { kind = k; bytes = bytes } in
        let more : byte_count (before ++ token lexeme ∷ []) ≡ byte_count before + (length bytes + 0) = bytes_behind before (token lexeme ∷ []) in
        let longer = one_token_more before lexeme in
        let next = leads.next in
        record { next = record { count = omega arith; place = omega arith }; leads = after }

    pub leads_behind : (cut : Cut Kind) (count : ℕ) (k : Kind) → cut ≡ Take count k → LeadsTo before p → now.number ≡ p.number + 1
        → now.start ≡ p.start + length bytes → Leads (before ++ token (record { kind = k; bytes = bytes }) ∷ []) now.reader
        → LeadsTo (before ++ part_of cut bytes ∷ []) now
    leads_behind cut count k is leads number start after =
        subst (λ (c : Cut Kind). LeadsTo (before ++ part_of c bytes ∷ []) now) (sym is) (taken k leads number start after)

-- ---- what begins bytes whatever comes

-- a cut that leaves bytes behind
pub begins_short : (rest : List ℕ) (first : ℕ) (after : List ℕ) (cut : Cut Kind) → rest ≡ first ∷ after → cut ≡ cut_at first after
    → size_of cut < length rest → Begins rest cut
begins_short rest first after cut split is lt =
    let long : length rest ≡ suc (length after) = ap length split in
    let size : size_of cut ≡ size_of (cut_at first after) = ap size_of is in
    record { first = first; after = after; parted = split; stays = λ more. stays first after (omega (arith, long, size, lt)) more ∙ sym is }

-- ---- blanks

-- the progress behind so many blanks, with or without a line end since the last token
abbrev pub behind_blanks : Progress → Bool → ℕ → Progress
behind_blanks p fresh count = record p { reader = record p.reader { fresh = fresh }; start = p.start + count }

blank_breaks : (b : ℕ) → is_blank b ≡ true → breaks (b ∷ []) ≡ is_line_end b
blank_breaks b blank = by (b == backslash) refl (b == line_end)
  where
    by : (t : Bool) → (b == backslash) ≡ t → (line : Bool) → (not t && (line || false)) ≡ line
    by true e line = absurd (let same = eqb-true b backslash e in let no : false ≡ true = subst (λ n. is_blank n ≡ true) same blank in cc)
    by false e true = refl
    by false e false = refl

module _ (p : Progress) (bytes : List ℕ) (count : ℕ) (fresh : Bool) (within : count < length bytes)
    (blank : is_blank (get_or bytes count 0) ≡ true) where
  pub blank_goes_on : CanGoOn (behind_blanks p fresh count) → CanGoOn (behind_blanks p (fresh || is_line_end (get_or bytes count 0)) (count + 1))
  blank_goes_on goes = can_pass (behind_blanks p fresh count) (behind_blanks p (fresh || is_line_end (get_or bytes count 0)) (count + 1))
      (get_or bytes count 0 ∷ []) (omega arith) goes refl (omega arith) (λ number sound. record { counted = sound.counted; built = sound.built; few = sound.few })

  pub blank_read : {all : List ℕ} → HasRead all (drop count bytes) (behind_blanks p fresh count)
      → HasRead all (drop (count + 1) bytes) (behind_blanks p (fresh || is_line_end (get_or bytes count 0)) (count + 1))
  blank_read {all} h =
      let b : ℕ = get_or bytes count 0 in
      let old : Progress = behind_blanks p fresh count in
      let now : Progress = behind_blanks p (fresh || is_line_end b) (count + 1) in
      let parted = drop_more bytes count 0 within in
      let left = length-drop count bytes in
      read_on old (drop count bytes) (b ∷ []) (drop (count + 1) bytes) now (Skip 1) h
      (record { first = b; after = drop (count + 1) bytes; parted = parted; stays = λ more. cut_blank b (drop (count + 1) bytes ++ more) blank })
      (omega arith) (sym (ap (take 1) parted)) (sym (ap (drop 1) parted)) (omega arith)
      (λ before leads. past old now (b ∷ []) before leads refl (omega arith)
      (passed before (b ∷ []) old.reader now.reader leads.leads refl (ap (λ t. fresh || t) (sym (blank_breaks b blank)))))
