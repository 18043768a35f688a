-- The bytes that wait for the next piece, and the faults of a file that comes in pieces.
use Rattle.std.proofs.Common.{◌≡◌, ℕ, zero, suc, ◌+◌, ◌-◌, ◌<◌, ◌≤◌, ◌==◌, false, cond, List, [], ◌∷◌, ◌++◌, length, take, drop, get_or, Option, Some, None, Result, Ok, Err, IfOk, refl, sym, ap, ◌∙◌, subst, arith, append_assoc, append-nil, count_by}
use Rattle.std.proofs.Math.Seq.{take-add, take-append_seam, drop-append_seam}
use Rattle.std.proofs.lemmas.List.{take-append-le, drop-append-le, take-append-drop, take_all, drop_all, length-append}
use Rattle.std.proofs.lemmas.List.Sums.{sum_by-append}
use Rattle.token_texts.specs.Blanks.{is_line_end}
use Rattle.token_texts.specs.Cuts.{Part, token, AreParts, no_part, IsWithin, lexemes, byte_count, place_behind}
use Rattle.token_texts.specs.CutLemmas.{first_and_rest, parts_fill, place_past}
use Rattle.token_texts.specs.Readings.{IfRefused}
use Rattle.token_texts.specs.declared.reading.ReadEnd.{ReadEnd}
use Rattle.token_texts.specs.declared.reading.ReadEnd.TheVariants.{Refused}
use Rattle.token_texts.specs.declared.cuts.Cut.{Cut}
use Rattle.token_texts.specs.declared.cuts.Cut.TheVariants.{Skip, Take}
use Rattle.token_texts.proofs.Loop.{led_refuses}
use Rattle.liberty_groups.specs.Tokens.{cut_at, line_at}
use Rattle.liberty_groups.specs.Causes.{IsFault}
use Rattle.liberty_groups.specs.Building.{lexeme}
use Rattle.liberty_groups.specs.Modes.{State, step_in}
use Rattle.liberty_groups.specs.ReaderStates.{state_of}
use Rattle.liberty_groups.specs.Leading.{Leads, Stops, Makes}
use Rattle.liberty_groups.specs.Tables.{Tables, tree_of}
use Rattle.liberty_groups.specs.Answers.{SaysTree, IfSyntax, Gives}
use Rattle.liberty_groups.specs.Groups.{Group}
use Rattle.liberty_groups.specs.declared.faults.ParseEnd.{ParseEnd}
use Rattle.liberty_groups.specs.declared.faults.ParseEnd.TheVariants.{Syntax}
use Rattle.liberty_groups.specs.declared.faults.ParseEnd.TheVariants as end
use Rattle.liberty_groups.specs.Within.{cut_within}
use Rattle.liberty_groups.specs.Places.{size_of, scanned, whole, ended}
use Rattle.liberty_groups.specs.Feeding.{part_of, LeadsTo, RefusesAt, HasReadTo, HasReadAll, StopsAny, IsFaultOfAny, Begins, HasShown}
use Rattle.liberty_groups.specs.declared.scan.Kind.{Kind}
use Rattle.liberty_groups.specs.declared.scan.Kind.TheVariants.{Bad}
use Rattle.liberty_groups.specs.declared.modes.Mode.{Mode}
use Rattle.liberty_groups.specs.declared.modes.Mode.TheVariants.{Start, LibraryName, LibraryArgs, LibraryBody, Body, Name, Colon, Value, Args, ArgsEnd, End}
use Rattle.liberty_groups.specs.declared.faults.Cause.{Cause}
use Rattle.liberty_groups.specs.declared.faults.Cause.TheVariants.{BadByte}
use Rattle.liberty_groups.specs.declared.reader.Reader.{Reader}
use Rattle.liberty_groups.specs.declared.progress.Progress.{Progress}
use Rattle.liberty_groups.specs.declared.places.Place.{Place}
use Rattle.liberty_groups.specs.declared.places.Scanned.{Scanned}
use Rattle.liberty_groups.specs.declared.places.Scanned.TheVariants as shown
use Rattle.liberty_groups.proofs.SoFar.{follows, is_fault, says, one_tree}
use Rattle.liberty_groups.proofs.Beginning.{ends_is}
use Rattle.liberty_groups.proofs.Feeding.{led, one_part, read_on, stops_on, stops_at}

pub some_left : (n : ℕ) → (n == 0) ≡ false → 0 < n
some_left zero e = absurd (cc)
some_left (suc n) e = omega arith

-- ---- lines

-- the line behind so many bytes more
pub lines_past : (all rest part : List ℕ) (start line n place : ℕ) → rest ≡ drop start all → part ≡ take n rest → line ≡ line_at all start
    → place ≡ start + n → line + count_by is_line_end part ≡ line_at all place
lines_past all rest part start line n place there front counted is =
    let split : take (start + n) all ≡ take start all ++ take n (drop start all) = take-add start n all in
    let same : part ≡ take n (drop start all) = front ∙ ap (take n) there in
    let sum : count_by is_line_end (take start all ++ take n (drop start all)) ≡ count_by is_line_end (take start all) + count_by is_line_end (take n (drop start all)) =
    sum_by-append (λ (b : ℕ). cond (is_line_end b) 1 0) (take start all) (take n (drop start all)) in
    let whole : count_by is_line_end (take place all) ≡ count_by is_line_end (take start all) + count_by is_line_end part =
    ap (λ i. count_by is_line_end (take i all)) is ∙ ap (count_by is_line_end) split ∙ sum
    ∙ ap (λ l. count_by is_line_end (take start all) + count_by is_line_end l) (sym same) in
    omega (arith, whole, counted)

-- the same, where the line ends were counted from a line on
pub past_line : (all rest : List ℕ) (start line n place counted : ℕ) → rest ≡ drop start all → line ≡ line_at all start → place ≡ start + n
    → counted ≡ line_at rest n → line + (counted - 1) ≡ line_at all place
past_line all rest start line n place counted there at is value =
    let past = lines_past all rest (take n rest) start line n place there refl at is in
    omega (arith, past, value)

pub line_ends : (raw : List ℕ) (n counted : ℕ) → counted ≡ line_at raw n → length raw ≤ n → counted - 1 ≡ count_by is_line_end raw
line_ends raw n counted value le =
    let all : count_by is_line_end (take n raw) ≡ count_by is_line_end raw = ap (count_by is_line_end) (take_all n raw le) in omega (arith, all, value)

line_stays : (all more : List ℕ) (start : ℕ) → start ≤ length all → line_at (all ++ more) start ≡ line_at all start
line_stays all more start le = ap (λ l. count_by is_line_end l + 1) (take-append-le start all more le)

-- ---- faults

pub fault_any : (all : List ℕ) (number start line : ℕ) (cause : Cause) → StopsAny all number start cause → start ≤ length all
    → line ≡ line_at all start → IsFaultOfAny all (record { token = number; line = line; cause = cause })
fault_any all number start line cause stops le counted more =
    subst (λ (n : ℕ). IsFault (all ++ more) (record { token = number; line = n; cause = cause })) (line_stays all more start le ∙ sym counted)
    (is_fault (stops more))

pub fault_named : (all : List ℕ) (number line : ℕ) (cause : Cause) (number' : ℕ) (cause' : Cause) → number ≡ number' → cause ≡ cause'
    → IsFaultOfAny all (record { token = number; line = line; cause = cause })
    → IsFaultOfAny all (record { token = number'; line = line; cause = cause' })
fault_named all number line cause number' cause' p q is =
    subst (λ (n : ℕ). IsFaultOfAny all (record { token = n; line = line; cause = cause' })) p
    (subst (λ (c : Cause). IsFaultOfAny all (record { token = number; line = line; cause = c })) q is)

pub named : (bytes : List ℕ) (number line : ℕ) (cause : Cause) (number' : ℕ) (cause' : Cause) → number ≡ number' → cause ≡ cause'
    → IsFault bytes (record { token = number; line = line; cause = cause })
    → IsFault bytes (record { token = number'; line = line; cause = cause' })
named bytes number line cause number' cause' p q is =
    subst (λ (n : ℕ). IsFault bytes (record { token = n; line = line; cause = cause' })) p
    (subst (λ (c : Cause). IsFault bytes (record { token = number; line = line; cause = c })) q is)

module _ (A : Type 0) {all : List ℕ} (p : Progress) (rest part : List ℕ) (end : ReadEnd Cause) (number start line : ℕ) (cause : Cause) (cut : Cut Kind) where
  -- a part that is refused
  pub part_fault : end ≡ Refused number start cause → p.number ≤ p.start + 1 → HasReadTo all rest p line → Begins rest cut
      → size_of cut ≤ length rest → part ≡ take (size_of cut) rest
      → ((before : List (Part Kind)) → LeadsTo before p → IfRefused {A = A} (Err end) (RefusesAt before p cut part))
      → IsFaultOfAny all (record { token = number; line = line; cause = cause })
  part_fault is bound h begins le front refusal =
      let here = refused_here h.read.before h.read.leads in
      let size = h.read.size in
      let place = here.place in
      fault_any all number start line cause (stops_on p rest part number start cause cut bound h.read begins le front refused_here) (omega arith)
      (h.counted ∙ ap (line_at all) (sym place))
    where
      refused_here : (before : List (Part Kind)) → LeadsTo before p → RefusesAt before p cut part number start cause
      refused_here before leads = subst (λ (e : ReadEnd Cause). IfRefused {A = A} (Err e) (RefusesAt before p cut part)) is (refusal before leads)

-- bytes in which a part is refused
pub read_fault : (A B : Type 0) {all : List ℕ} (p : Progress) (piece : List ℕ) (end : ReadEnd Cause) (number start line counted : ℕ) (cause : Cause)
    → end ≡ Refused number start cause → HasReadTo all piece p line → IfRefused {A = A} (Err end) (StopsAny all)
    → IfRefused {A = B} (Err end) (λ number start cause. (p.start ≤ start) × (start ≤ p.start + length piece))
    → counted ≡ line_at piece (start - p.start)
    → IsFaultOfAny all (record { token = number; line = line + (counted - 1); cause = cause })
read_fault A B {all} p piece end number start line counted cause is h stops within value =
    let stops' : StopsAny all number start cause = subst (λ (e : ReadEnd Cause). IfRefused {A = A} (Err e) (StopsAny all)) is stops in
    let within' : (p.start ≤ start) × (start ≤ p.start + length piece) =
    subst (λ (e : ReadEnd Cause). IfRefused {A = B} (Err e) (λ number start cause. (p.start ≤ start) × (start ≤ p.start + length piece))) is within in
    let low = within'.0 in
    let high = within'.1 in
    let size = h.read.size in
    fault_any all number start (line + (counted - 1)) cause stops' (omega (arith, high, size))
    (past_line all piece p.start line (start - p.start) start counted h.read.there h.counted (omega (arith, low)) value)

-- a byte that begins no token is refused wherever it stands
bad_step : (mode : Mode) (s : State) (bytes : List ℕ) (fresh : _) (start : ℕ) → step_in 16 mode s (lexeme Bad bytes fresh start) ≡ Err BadByte
bad_step Start s bytes fresh start = refl
bad_step LibraryName s bytes fresh start = refl
bad_step LibraryArgs s bytes fresh start = refl
bad_step LibraryBody s bytes fresh start = refl
bad_step Body s bytes fresh start = refl
bad_step Name s bytes fresh start = refl
bad_step Colon s bytes fresh start = refl
bad_step Value s bytes fresh start = refl
bad_step Args s bytes fresh start = refl
bad_step ArgsEnd s bytes fresh start = refl
bad_step End s bytes fresh start = refl

-- a reader behind a token
abbrev behind_token : Reader → Reader
behind_token r = record { mode = r.mode; depth = r.depth; builder = r.builder; fresh = false; alloc = r.alloc }

bad_stops : (before : List (Part Kind)) (p : Progress) (bytes : List ℕ) → LeadsTo before p → (more : List (Part Kind))
    → Stops (before ++ token (record { kind = Bad; bytes = bytes }) ∷ more) p.number BadByte
bad_stops before p bytes leads =
    follows before p.number p.start Bad bytes p.reader (behind_token p.reader) leads.next leads.leads (Some BadByte) refl
    (bad_step p.reader.mode (state_of p.reader) bytes _ _)

-- ---- bytes that wait

module _ (waiting : List ℕ) where
  pub nothing_shown : (scan : Scanned) → waiting ≡ [] → HasShown waiting scan
  nothing_shown scan none first after e more = absurd (let z : [] ≡ first ∷ after = sym none ∙ e in cc)

  pub shown_by : (scan : Scanned) (f : ℕ) (b : List ℕ) → waiting ≡ f ∷ b
      → ((more : List ℕ) → cut_at f (b ++ more) ≡ scanned scan (1 + length b) more) → HasShown waiting scan
  shown_by scan f b split value first after e more =
      let same : f ∷ b ≡ first ∷ after = sym split ∙ e in
      let p : f ≡ first = cc in
      let q : b ≡ after = cc in
      let long : length waiting ≡ suc (length b) = ap length split in
      let n : 1 + length b ≡ length waiting = omega (arith, long) in
      ap (λ x. cut_at x (after ++ more)) (sym p) ∙ ap (λ (l : List ℕ). cut_at f (l ++ more)) (sym q) ∙ value more ∙ ap (λ k. scanned scan k more) n

  module _ (rest : List ℕ) (now : Scanned) (some : 0 < length waiting) (shown : HasShown waiting now) where
    abbrev first : ℕ
    first = get_or waiting 0 0

    abbrev after : List ℕ
    after = take (length waiting - 1) (drop 1 waiting)

    parted : waiting ≡ first ∷ after
    parted = first_and_rest waiting (omega arith)

    front : (more : List ℕ) → cut_at first (after ++ more) ≡ scanned now (length waiting) more
    front = shown first after parted

    -- with a cut that has ended
    module _ (cut : Cut Kind) (ends : (more : List ℕ) → scanned now (length waiting) (rest ++ more) ≡ cut) where
      pub ended_begins : Begins (waiting ++ rest) cut
      ended_begins = record {
        first = first;
        after = after ++ rest;
        parted = ap (λ (l : List ℕ). l ++ rest) parted;
        stays = λ more. ap (cut_at first) (append_assoc after rest more) ∙ front (rest ++ more) ∙ ends more;
      }

      within : IsWithin (length (after ++ rest) + 1) cut
      within = subst (IsWithin (length (after ++ rest) + 1)) (ap (cut_at first) (ap (λ (l : List ℕ). after ++ l) (sym (append-nil rest))) ∙ front (rest ++ []) ∙ ends [])
          (cut_within first (after ++ rest))

      size_within : (c : Cut Kind) (n : ℕ) → IsWithin n c → (0 < size_of c) × (size_of c ≤ n)
      size_within (Skip k) n h = h
      size_within (Take k kind) n h = h

      pub ended_within : (0 < size_of cut) × (size_of cut ≤ length waiting + length rest)
      ended_within =
          let h = size_within cut (length (after ++ rest) + 1) within in
          let long : length waiting ≡ suc (length after) = ap length parted in
          let all = length-append after rest in
          let le = h.1 in
          (h.0, omega (arith, le, all, long))

    -- with more bytes that wait
    pub shown_on : (next : Scanned) → ((more : List ℕ) → scanned now (length waiting) (rest ++ more) ≡ scanned next (length waiting + length rest) more)
        → HasShown (waiting ++ rest) next
    shown_on next goes f b e more =
        let same : first ∷ (after ++ rest) ≡ f ∷ b = sym (ap (λ (l : List ℕ). l ++ rest) parted) ∙ e in
        let p : first ≡ f = cc in
        let q : after ++ rest ≡ b = cc in
        let all = length-append waiting rest in
        ap (λ x. cut_at x (b ++ more)) (sym p) ∙ ap (λ (l : List ℕ). cut_at first (l ++ more)) (sym q)
        ∙ ap (cut_at first) (append_assoc after rest more) ∙ front (rest ++ more) ∙ goes more ∙ ap (λ n. scanned next n more) (sym all)

    -- with a byte that begins no token
    pub bad_fault : {all : List ℕ} (p : Progress) (line : ℕ)
        → ((more : List ℕ) → scanned now (length waiting) (rest ++ more) ≡ Take (length waiting + length rest + length more) Bad)
        → p.number ≤ p.start + 1 → HasReadTo all (waiting ++ rest) p line
        → IsFaultOfAny all (record { token = p.number; line = line; cause = BadByte })
    bad_fault {all} p line goes bound h =
        let size = h.read.size in
        fault_any all p.number p.start line BadByte stops (omega arith) h.counted
      where
        stops : StopsAny all p.number p.start BadByte
        stops more =
            let split : (waiting ++ rest) ++ more ≡ first ∷ ((after ++ rest) ++ more) = ap (λ (l : List ℕ). (l ++ rest) ++ more) parted in
            let cut : cut_at first ((after ++ rest) ++ more) ≡ Take (length waiting + length rest + length more) Bad =
            ap (cut_at first) (append_assoc after rest more) ∙ front (rest ++ more) ∙ goes more in
            let long : length ((waiting ++ rest) ++ more) ≡ length waiting + length rest + length more =
            length-append (waiting ++ rest) more ∙ ap (λ n. n + length more) (length-append waiting rest) in
            led_refuses cut_at Leads Stops cut_within ((waiting ++ rest) ++ more) first ((after ++ rest) ++ more) (length waiting + length rest + length more) Bad BadByte
            (led p (waiting ++ rest) bound h.read more) split cut (sym (take_all _ ((waiting ++ rest) ++ more) (omega arith)))
            (λ before next leads. bad_stops before p ((waiting ++ rest) ++ more) (record { next = next; leads = leads }))

-- bytes that begin no token
pub bad_bytes : {all : List ℕ} (bytes : List ℕ) (scan : Scanned) (p : Progress) (line : ℕ) → HasShown bytes scan → (scan ≡ shown.Bad → 0 < length bytes)
    → scan ≡ shown.Bad → p.number ≤ p.start + 1 → HasReadTo all bytes p line
    → IsFaultOfAny all (record { token = p.number; line = line; cause = BadByte })
bad_bytes {all} bytes scan p line has some is bound h =
    bad_fault bytes [] shown.Bad (some is) (subst (HasShown bytes) is has) p line
    (λ more. let e : length bytes + length more ≡ length bytes + 0 + length more = omega arith in ap (λ n. Take n Bad) e) bound
    (subst (λ (l : List ℕ). HasReadTo all l p line) (sym (append-nil bytes)) h)

-- all of the bytes that wait
module _ (waiting rest : List ℕ) (cut : Cut Kind) (size : size_of cut ≡ length waiting) where
  pub all_front : waiting ≡ take (size_of cut) (waiting ++ rest)
  all_front = sym (ap (λ n. take n (waiting ++ rest)) size ∙ take-append_seam waiting rest)

  all_back : rest ≡ drop (size_of cut) (waiting ++ rest)
  all_back = sym (ap (λ n. drop n (waiting ++ rest)) size ∙ drop-append_seam waiting rest)

  pub all_within : size_of cut ≤ length (waiting ++ rest)
  all_within = let long = length-append waiting rest in omega arith

  pub waiting_read : {all : List ℕ} (p now : Progress) (raw : List ℕ) (line added : ℕ) → raw ≡ waiting → HasReadTo all (waiting ++ rest) p line → Begins (waiting ++ rest) cut
      → now.start ≡ p.start + length raw → added ≡ count_by is_line_end raw
      → ((before : List (Part Kind)) → LeadsTo before p → LeadsTo (before ++ part_of cut raw ∷ []) now)
      → HasReadTo all rest now (line + added)
  waiting_read {all} p now raw line added same h begins start count moves =
      let long : length raw ≡ length waiting = ap length same in
      record {
        read = read_on p (waiting ++ rest) raw rest now cut h.read begins all_within (same ∙ all_front) all_back (omega (arith, start, size, long)) moves;
        counted = ap (λ n. line + n) count
            ∙ lines_past all (waiting ++ rest) raw p.start line (size_of cut) now.start h.read.there (same ∙ all_front) h.counted (omega (arith, start, size, long));
      }

-- what a scan shows, with the count of the bytes that wait
pub shown_value : (count : ℕ) (waiting rest : List ℕ) (now result scan : Scanned) → count ≡ length waiting → result ≡ scan
    → ((more : List ℕ) → scanned now count (rest ++ more) ≡ scanned result (count + length rest) more)
    → (more : List ℕ) → scanned now (length waiting) (rest ++ more) ≡ scanned scan (length waiting + length rest) more
shown_value count waiting rest now result scan long is value more =
    ap (λ n. scanned now n (rest ++ more)) (sym long) ∙ value more ∙ ap (λ s. scanned s (count + length rest) more) is
    ∙ ap (λ n. scanned scan (n + length rest) more) long

-- bytes that are taken apart
pub parted_rest : (n : ℕ) (waiting rest front others : List ℕ) → front ≡ take n rest → others ≡ drop n rest
    → (waiting ++ front) ++ others ≡ waiting ++ rest
parted_rest n waiting rest front others p q =
    append_assoc waiting front others ∙ ap (λ l. waiting ++ (l ++ others)) p ∙ ap (λ l. waiting ++ (take n rest ++ l)) q
    ∙ ap (λ l. waiting ++ l) (take-append-drop n rest)

pub rejoined : (n : ℕ) (waiting front left rest : List ℕ) → front ≡ take n waiting → left ≡ drop n waiting → front ++ (left ++ rest) ≡ waiting ++ rest
rejoined n waiting front left rest p q =
    sym (append_assoc front left rest) ∙ ap (λ l. (l ++ left) ++ rest) p ∙ ap (λ l. (take n waiting ++ l) ++ rest) q
    ∙ ap (λ l. l ++ rest) (take-append-drop n waiting)

-- ---- one more piece

pub fed_more : (bytes piece waiting : List ℕ) (p : Progress) (line : ℕ) → HasReadTo bytes waiting p line
    → HasReadTo (bytes ++ piece) (waiting ++ piece) p line
fed_more bytes piece waiting p line h =
    let size = h.read.size in
    let long = length-append waiting piece in
    let longer = length-append bytes piece in
    let within : p.start ≤ length bytes = omega arith in
    record {
      read = record {
        before = h.read.before;
        leads = h.read.leads;
        there = ap (λ l. l ++ piece) h.read.there ∙ sym (drop-append-le p.start bytes piece within);
        size = omega arith;
        so_far = λ more parts are.
            subst (λ (l : List ℕ). AreParts cut_at l (h.read.before ++ parts)) (sym (append_assoc bytes piece more))
            (h.read.so_far (piece ++ more) parts (subst (λ (l : List ℕ). AreParts cut_at l parts) (append_assoc waiting piece more) are));
      };
      counted = h.counted ∙ sym (line_stays bytes piece p.start within);
    }

-- ---- no more pieces

module _ {bytes : List ℕ} (p : Progress) (line : ℕ) where
  -- nothing waits
  pub read_all : (waiting : List ℕ) → waiting ≡ [] → HasReadTo bytes waiting p line → HasReadAll bytes p line
  read_all waiting none h =
      let size = h.read.size in
      let empty : length waiting ≡ 0 = ap length none in
      let end : p.start ≡ length bytes = omega arith in
      record {
        before = h.read.before;
        parted = subst (λ (l : List ℕ). AreParts cut_at l h.read.before) (append-nil bytes)
            (subst (λ (parts : List (Part Kind)). AreParts cut_at (bytes ++ []) parts) (append-nil h.read.before)
            (h.read.so_far [] [] (subst (λ (l : List ℕ). AreParts cut_at (l ++ []) []) (sym none) no_part)));
        leads = h.read.leads;
        counted = h.counted ∙ ap (line_at bytes) end;
      }

  module _ (waiting : List ℕ) (place : Place) (some : 0 < length waiting) (shown : HasShown waiting (shown.Begun place)) (h : HasReadTo bytes waiting p line) where
    abbrev cut : Cut Kind
    cut = whole (length waiting) (ended place)

    abbrev first_last : ℕ
    first_last = get_or waiting 0 0

    abbrev after_last : List ℕ
    after_last = take (length waiting - 1) (drop 1 waiting)

    split_last : waiting ≡ first_last ∷ after_last
    split_last = first_and_rest waiting (omega arith)

    -- it is all of what waits
    whole_last : cut_at first_last (after_last ++ []) ≡ cut
    whole_last = shown first_last after_last split_last [] ∙ ends_is place (length waiting) some

    size_last : (o : Option Kind) → size_of (whole (length waiting) o) ≡ length waiting
    size_last None = refl
    size_last (Some k) = refl

    last_parts : AreParts cut_at (waiting ++ []) (part_of cut waiting ∷ [])
    last_parts =
        let long : length waiting ≡ suc (length after_last) = ap length split_last in
        let size = size_last (ended place) in
        let none : drop (size_of cut) (first_last ∷ after_last) ++ [] ≡ [] = append-nil _ ∙ drop_all (size_of cut) (first_last ∷ after_last) (omega arith) in
        let all : take (size_of cut) (first_last ∷ after_last) ≡ waiting = take_all (size_of cut) (first_last ∷ after_last) (omega arith) ∙ sym split_last in
        subst (λ (l : List ℕ). AreParts cut_at (l ++ []) (part_of cut waiting ∷ [])) (sym split_last)
        (subst (λ (l : List ℕ). AreParts cut_at (first_last ∷ (after_last ++ [])) (part_of cut l ∷ [])) all
        (one_part first_last after_last [] cut [] whole_last (omega arith)
        (subst (λ (l : List ℕ). AreParts cut_at l []) (sym none) no_part)))

    pub last_read : (now : Progress) (added : ℕ) (c : Cut Kind) (raw : List ℕ) → c ≡ cut → raw ≡ waiting → added ≡ count_by is_line_end raw
        → ((before : List (Part Kind)) → LeadsTo before p → LeadsTo (before ++ part_of c raw ∷ []) now)
        → HasReadAll bytes now (line + added)
    last_read now added c raw is same count' moves' =
        let size = h.read.size in
        let count : added ≡ count_by is_line_end waiting = count' ∙ ap (count_by is_line_end) same in
        let moves : (before : List (Part Kind)) → LeadsTo before p → LeadsTo (before ++ part_of cut waiting ∷ []) now = λ before leads.
        subst (λ (l : List ℕ). LeadsTo (before ++ part_of cut l ∷ []) now) same
        (subst (λ (x : Cut Kind). LeadsTo (before ++ part_of x raw ∷ []) now) is (moves' before leads)) in
        record {
          before = h.read.before ++ part_of cut waiting ∷ [];
          parted = subst (λ (l : List ℕ). AreParts cut_at l (h.read.before ++ part_of cut waiting ∷ [])) (append-nil bytes)
              (h.read.so_far [] (part_of cut waiting ∷ []) last_parts);
          leads = moves h.read.before h.read.leads;
          counted = ap (λ n. line + n) count
              ∙ lines_past bytes waiting waiting p.start line (length waiting) (length bytes) h.read.there (sym (take_all (length waiting) waiting (omega arith))) h.counted (omega arith);
        }

    pub last_fault : (A : Type 0) (end : ReadEnd Cause) (number start : ℕ) (cause : Cause) (c : Cut Kind) (raw : List ℕ) → c ≡ cut → raw ≡ waiting
        → end ≡ Refused number start cause → p.number ≤ p.start + 1
        → ((before : List (Part Kind)) → LeadsTo before p → IfRefused {A = A} (Err end) (RefusesAt before p c raw))
        → IsFault bytes (record { token = number; line = line; cause = cause })
    last_fault A end number start cause c raw is_cut same is bound refusal =
        let here = refused_here h.read.before h.read.leads in
        let size = h.read.size in
        let place = here.place in
        subst (λ (l : List ℕ). IsFault l (record { token = number; line = line; cause = cause })) (append-nil bytes)
        (subst (λ (n : ℕ). IsFault (bytes ++ []) (record { token = number; line = n; cause = cause })) (line_stays bytes [] start (omega arith) ∙ ap (line_at bytes) place ∙ sym h.counted)
        (is_fault
        (stops_at p waiting waiting first_last after_last number start cause cut [] bound h.read split_last whole_last (omega (arith, size_is)) (sym (take_all (size_of cut) waiting (omega (arith, size_is)))) refused_here)))
      where
        size_is : size_of cut ≡ length waiting
        size_is = size_last (ended place)

        refused_here : (before : List (Part Kind)) → LeadsTo before p → RefusesAt before p cut waiting number start cause
        refused_here before leads =
            subst (λ (l : List ℕ). RefusesAt before p cut l number start cause) same
            (subst (λ (x : Cut Kind). RefusesAt before p x raw number start cause) is_cut
            (subst (λ (e : ReadEnd Cause). IfRefused {A = A} (Err e) (RefusesAt before p c raw)) is (refusal before leads)))

-- what all parts say, or where they end
module _ {bytes : List ℕ} {p : Progress} {line : ℕ} (h : HasReadAll bytes p line) where
  pub says_all : (tree : Tables) → Makes h.before tree → SaysTree bytes (tree_of tree)
  says_all tree made = says {bytes = bytes} {tree = tree} (record { parts = h.before; parted = h.parted; made = made })

  pub ends_fault : (cause : Cause) → Stops h.before (length (lexemes h.before) + 1) cause
      → IsFault bytes (record { token = p.number; line = line; cause = cause })
  ends_fault cause stops =
      let count = h.leads.next.count in
      let filled = parts_fill h.parted in
      let past : place_behind (p.number - 1) h.before ≡ byte_count h.before = place_past (p.number - 1) h.before (omega (arith, count)) in
      let place : length bytes ≡ place_behind (p.number - 1) h.before = sym (past ∙ filled) in
      subst (λ (n : ℕ). IsFault bytes (record { token = p.number; line = n; cause = cause })) (sym h.counted)
      (is_fault (record { parts = h.before; parted = h.parted; place = place; stops = subst (λ (n : ℕ). Stops h.before n cause) (sym count) stops }))

-- what is answered for all of the bytes
pub only_tree : {A : Type 0} (bytes : List ℕ) (tree : Group) (group_of : A → Group) (result : Result A ParseEnd)
    → IfOk result (λ answer. SaysTree bytes (group_of answer)) → IfSyntax result (IsFault bytes) → SaysTree bytes tree
    → Gives group_of tree result
only_tree bytes tree group_of (Ok answer) ok fault said = one_tree bytes (group_of answer) tree ok said
only_tree bytes tree group_of (Err (Syntax fault_of)) ok fault said = absurd (fault.nothing tree said)
only_tree bytes tree group_of (Err end.OutOfMemory) ok fault said = tt

pub fault_of_all : (A B : Type 0) (bytes : List ℕ) (end : ParseEnd) → IfSyntax {A = A} (Err end) (IsFaultOfAny bytes)
    → IfSyntax {A = B} (Err end) (IsFault bytes)
fault_of_all A B bytes (Syntax fault) h = subst (λ (l : List ℕ). IsFault l fault) (append-nil bytes) (h [])
fault_of_all A B bytes end.OutOfMemory h = tt
