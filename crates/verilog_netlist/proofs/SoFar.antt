-- The tokens so far, and the state that the reader is in behind them.
use Rattle.std.proofs.Common.{◌≡◌, ℕ, zero, suc, ◌+◌, ◌-◌, ◌<◌, ◌≤◌, List, [], ◌∷◌, ◌++◌, length, get_or, take, drop, length-drop, length-append, None, Some, Result, Ok, Err, refl, sym, ap, ◌∙◌, subst, arith, append_assoc, append-nil, add-one, Bool, true, false, if◌then◌else◌}
use Rattle.std.specs.Prelude.{⊤, slice_get}
use Rattle.std.proofs.lemmas.List.{take_all, drop-drop}
use Rattle.token_texts.specs.Blanks.{is_blank}
use Rattle.token_texts.specs.Runs.{run_length}
use Rattle.token_fronts.specs.Machine.{Stop, go_on, outcome}
use Rattle.token_fronts.specs.ReadingLaw.{says_made, leaves_where_stopped, one_reading, one_leaving}
use Rattle.verilog_netlist.specs.Tokens.{Lexeme, span_of, cut_at, AreTokensFrom, end, skip, take_one, AreTokens, IsToken}
use Rattle.token_texts.specs.Cuts.{IsWithin}
use Rattle.verilog_netlist.specs.Grammar.{IsNetlist}
use Rattle.verilog_netlist.specs.Steps.{Step, Refuse, Go, Put, step_in}
use Rattle.verilog_netlist.specs.Modes.{State, first_state, state_after, next, finish_in, finish}
use Rattle.verilog_netlist.specs.Netlists.{SaysNetlist, LeavesNetlist}
use Rattle.verilog_netlist.specs.Netlist.{IsRefused, IsRefusalOfToken, HasItsWord}
use Rattle.verilog_netlist.specs.ReaderStates.{IsRefusalOf}
use Rattle.token_texts.specs.declared.spans.Span.{Span}
use Rattle.verilog_netlist.specs.declared.kinds.Kind.{Kind}
use Rattle.verilog_netlist.specs.declared.entries.Entry.{Entry}
use Rattle.verilog_netlist.specs.declared.modes.Mode.{Mode}
use Rattle.verilog_netlist.specs.declared.modes.Mode.TheVariants.{Modules}
use Rattle.token_texts.specs.declared.cuts.Cut.{Cut}
use Rattle.token_texts.specs.declared.cuts.Cut.TheVariants.{Skip, Take}
use Rattle.verilog_netlist.specs.declared.netlist.VerilogEnd.{VerilogEnd}
use Rattle.verilog_netlist.specs.declared.netlist.VerilogEnd.TheVariants.{Syntax, NotStructural, Repeated, PortDirection, BadRange, OutOfMemory}
use Rattle.verilog_netlist.proofs.Cutting.{cut_blank, cut_within}
use Rattle.verilog_netlist.proofs.Parting.{one_parting}
use Rattle.verilog_netlist.proofs.Fitting.{fits}
use Rattle.std.proofs.lemmas.Option.{none-some, same_Some}
use Rattle.verilog_netlist.proofs.Clashes.{never, same_ok}

abbrev made : List Lexeme → Result (List Entry) (Stop State ⊤)
made tokens = outcome next finish first_state 1 tokens

-- some tokens lead to this state, and the bytes go on from this place with the rest
pub record ReadTo (bytes rest : List ℕ) (start number : ℕ) (state : State) : Type 0 where
  pub before : List Lexeme
  pub count : number ≡ length before + 1
  pub bound : number ≤ start + 1
  pub place : start + length rest ≡ length bytes
  pub few : length state.entries < number
  pub so_far : (tokens : List Lexeme) → AreTokensFrom start rest tokens → AreTokens bytes (before ++ tokens)
  pub leads : (tokens : List Lexeme) → made (before ++ tokens) ≡ outcome next finish state number tokens

pub nothing_read : (bytes : List ℕ) → ReadTo bytes bytes 0 1 first_state
nothing_read bytes = record { before = []; count = refl; bound = omega arith; place = omega arith; few = omega arith; so_far = λ tokens are. are; leads = λ tokens. refl }

skipped : {bytes : List ℕ} {start number : ℕ} {state : State} (first : ℕ) (after : List ℕ) (n : ℕ)
    → ReadTo bytes (first ∷ after) start number state → cut_at first after ≡ Skip n → n ≤ length after + 1 → ReadTo bytes (drop n (first ∷ after)) (start + n) number state
skipped first after n h cut le =
    let left : length (drop n (first ∷ after)) ≡ length (first ∷ after) - n = length-drop n (first ∷ after) in
    let bound = h.bound in
    let place = h.place in
    record {
      before = h.before;
      count = h.count;
      bound = omega arith;
      place = omega arith;
      few = h.few;
      so_far = λ tokens are. h.so_far tokens (skip n cut are);
      leads = h.leads;
    }

abbrev token_here : Kind → ℕ → ℕ → ℕ → Lexeme
token_here kind first start n = record { kind = kind; at = span_of first start n }

one_longer : (tokens : List Lexeme) (token : Lexeme) → length (tokens ++ token ∷ []) ≡ length tokens + 1
one_longer [] token = refl
one_longer (t ∷ tokens) token = let rest = one_longer tokens token in omega arith

-- a token adds one entry at most
one_entry : (step : Step) (entries : List Entry) (now : State) → state_after step entries ≡ Ok now → length now.entries ≤ length entries + 1
one_entry Refuse entries now e = never e
one_entry (Go mode) entries now e =
    let same : record { mode = mode; entries = entries } ≡ now = same_ok e in
    subst (λ (s : State). length s.entries ≤ length entries + 1) same (omega arith)
one_entry (Put mode said) entries now e =
    let same : record { mode = mode; entries = entries ++ said ∷ [] } ≡ now = same_ok e in
    let longer : length (entries ++ said ∷ []) ≡ length entries + 1 = length-append entries (said ∷ []) in
    subst (λ (s : State). length s.entries ≤ length entries + 1) same (omega arith)

one_token : {bytes : List ℕ} {start number : ℕ} {state : State} (first : ℕ) (after : List ℕ) (n : ℕ) (kind : Kind) (now : State)
    → ReadTo bytes (first ∷ after) start number state → cut_at first after ≡ Take n kind → 0 < n → n ≤ length after + 1
    → state_after (step_in state.mode kind (span_of first start n)) state.entries ≡ Ok now → ReadTo bytes (drop n (first ∷ after)) (start + n) (number + 1) now
one_token {bytes} {start} {number} {state} first after n kind now h cut some le moves =
    let left : length (drop n (first ∷ after)) ≡ length (first ∷ after) - n = length-drop n (first ∷ after) in
    let bound = h.bound in
    let count = h.count in
    let place = h.place in
    let token : Lexeme = token_here kind first start n in
    let longer : length (h.before ++ token ∷ []) ≡ length h.before + 1 = one_longer h.before token in
    record {
      before = h.before ++ token ∷ [];
      count = omega arith;
      bound = omega arith;
      place = omega arith;
      few = let few = h.few in let more = one_entry (step_in state.mode kind (span_of first start n)) state.entries now moves in omega arith;
      so_far = λ tokens are. subst (AreTokens bytes) (sym (append_assoc h.before (token ∷ []) tokens)) (h.so_far (token ∷ tokens) (take_one n kind cut are));
      leads = λ tokens. ap made (append_assoc h.before (token ∷ []) tokens) ∙ h.leads (token ∷ tokens) ∙ ap (go_on number state (λ (s : State). outcome next finish s (number + 1) tokens)) moves;
    }

-- any bytes are parted into some tokens
some_tokens : (size start : ℕ) (bytes : List ℕ) → length bytes ≤ size → (tokens : List Lexeme) × AreTokensFrom start bytes tokens
some_tokens size start [] le = ([], end)
some_tokens zero start (first ∷ rest) le = absurd (omega arith)
some_tokens (suc size) start (first ∷ rest) le = by (cut_at first rest) refl (cut_within first rest) (λ n small. some_tokens size (start + n) (drop n (first ∷ rest)) small)
  where
    by : (cut : Cut Kind) → cut_at first rest ≡ cut → IsWithin (length rest + 1) (cut_at first rest)
        → ((n : ℕ) → length (drop n (first ∷ rest)) ≤ size → (tokens : List Lexeme) × AreTokensFrom (start + n) (drop n (first ∷ rest)) tokens)
        → (tokens : List Lexeme) × AreTokensFrom start (first ∷ rest) tokens
    by (Skip n) e within later =
        let here : (0 < n) × (n ≤ length rest + 1) = subst (IsWithin (length rest + 1)) e within in
        let left : length (drop n (first ∷ rest)) ≡ length (first ∷ rest) - n = length-drop n (first ∷ rest) in
        let more = later n (let some = here.0 in omega arith) in
        (more.0, skip n e more.1)
    by (Take n kind) e within later =
        let here : (0 < n) × (n ≤ length rest + 1) = subst (IsWithin (length rest + 1)) e within in
        let left : length (drop n (first ∷ rest)) ≡ length (first ∷ rest) - n = length-drop n (first ∷ rest) in
        let more = later n (let some = here.0 in omega arith) in
        (token_here kind first start n ∷ more.0, take_one n kind e more.1)

there : (front : List Lexeme) (token : Lexeme) (rest : List Lexeme) → slice_get (front ++ token ∷ rest) (length front) ≡ Some token
there [] token rest = refl
there (t ∷ front) token rest = there front token rest

past : (front : List Lexeme) → slice_get front (length front) ≡ None
past [] = refl
past (t ∷ front) = past front

-- what is told of a refusal
pub record IsRefusal (bytes : List ℕ) (answer : VerilogEnd) : Type 0 where
  pub refused : IsRefused bytes answer
  pub word : HasItsWord bytes answer
  pub nothing : (entries : List Entry) → SaysNetlist bytes entries → ⊥

leaves : (bytes : List ℕ) (tokens : List Lexeme) (stop : Stop State ⊤) → AreTokens bytes tokens → made tokens ≡ Err stop → LeavesNetlist bytes stop.number
leaves bytes tokens stop parted e = leaves_where_stopped AreTokens IsToken IsNetlist next finish first_state fits one_parting bytes tokens stop parted e

refused_of : (bytes : List ℕ) (number : ℕ) (kind : Kind) (at : Span) (answer : VerilogEnd) → LeavesNetlist bytes number → IsRefusalOf bytes number kind at answer → IsRefused bytes answer
refused_of bytes number kind at (Syntax token) is r = subst (LeavesNetlist bytes) (sym r.0) is
refused_of bytes number kind at (NotStructural word token) is r = subst (LeavesNetlist bytes) (sym r.0) is
refused_of bytes number kind at (Repeated name) is r = absurd r
refused_of bytes number kind at (PortDirection name) is r = absurd r
refused_of bytes number kind at (BadRange name) is r = absurd r
refused_of bytes number kind at OutOfMemory is r = tt

word_of : (bytes : List ℕ) (tokens : List Lexeme) (number : ℕ) (kind : Kind) (at : Span) (answer : VerilogEnd)
    → slice_get tokens (number - 1) ≡ Some (record { kind = kind; at = at }) → IsRefusalOf bytes number kind at answer → IsRefusalOfToken bytes tokens answer
word_of bytes tokens number kind at (Syntax token) here r = λ lexeme found is.
    let same : lexeme ≡ record { kind = kind; at = at } = same_Some _ _ (sym found ∙ ap (λ n. slice_get tokens (n - 1)) r.0 ∙ here) in
    r.1 (sym (ap (λ (l : Lexeme). l.kind) same) ∙ is)
word_of bytes tokens number kind at (NotStructural word token) here r =
    (record { kind = kind; at = at }, ap (λ n. slice_get tokens (n - 1)) r.0 ∙ here, r.1, r.2)
word_of bytes tokens number kind at _ here r = tt

has_word : (bytes : List ℕ) (tokens : List Lexeme) (answer : VerilogEnd) → AreTokens bytes tokens → IsRefusalOfToken bytes tokens answer → HasItsWord bytes answer
has_word bytes tokens answer parted is = λ other parted'. subst (λ (l : List Lexeme). IsRefusalOfToken bytes l answer) (one_parting bytes tokens other parted parted') is

refused_here : {bytes : List ℕ} {start number : ℕ} {state : State} (first : ℕ) (after : List ℕ) (n : ℕ) (kind : Kind) (answer : VerilogEnd)
    → ReadTo bytes (first ∷ after) start number state → cut_at first after ≡ Take n kind
    → state_after (step_in state.mode kind (span_of first start n)) state.entries ≡ Err tt
    → IsRefusalOf bytes number kind (span_of first start n) answer → IsRefusal bytes answer
refused_here {bytes} {start} {number} {state} first after n kind answer h cut refusal r =
    let token : Lexeme = token_here kind first start n in
    let more = some_tokens (length (drop n (first ∷ after))) (start + n) (drop n (first ∷ after)) (omega arith) in
    let parted : AreTokens bytes (h.before ++ token ∷ more.0) = h.so_far (token ∷ more.0) (take_one n kind cut more.1) in
    let stop : Stop State ⊤ = record { number = number; state = state; cause = tt } in
    let stops : made (h.before ++ token ∷ more.0) ≡ Err stop = h.leads (token ∷ more.0) ∙ ap (go_on number state (λ (s : State). outcome next finish s (number + 1) more.0)) refusal in
    let is = leaves bytes (h.before ++ token ∷ more.0) stop parted stops in
    let minus : number - 1 ≡ length h.before = let count = h.count in omega arith in
    record {
      refused = refused_of bytes number kind (span_of first start n) answer is r;
      word = has_word bytes (h.before ++ token ∷ more.0) answer parted
          (word_of bytes (h.before ++ token ∷ more.0) number kind (span_of first start n) answer (ap (slice_get (h.before ++ token ∷ more.0)) minus ∙ there h.before token more.0) r);
      nothing = is.nothing;
    }

whole_parted : {bytes : List ℕ} {start number : ℕ} {state : State} (h : ReadTo bytes [] start number state) → AreTokens bytes h.before
whole_parted {bytes} h = subst (AreTokens bytes) (append-nil h.before) (h.so_far [] end)

whole_made : {bytes : List ℕ} {start number : ℕ} {state : State} (h : ReadTo bytes [] start number state) → made h.before ≡ go_on number state (λ (entries : List Entry). Ok entries) (finish state)
whole_made h = sym (ap made (append-nil h.before)) ∙ h.leads []

lacking : {bytes : List ℕ} {start number : ℕ} {state : State} (h : ReadTo bytes [] start number state) → finish state ≡ Err tt → IsRefusal bytes (Syntax number)
lacking {bytes} {start} {number} {state} h e =
    let stop : Stop State ⊤ = record { number = number; state = state; cause = tt } in
    let stops : made h.before ≡ Err stop = whole_made h ∙ ap (go_on number state (λ (entries : List Entry). Ok entries)) e in
    let is = leaves bytes h.before stop (whole_parted h) stops in
    let minus : number - 1 ≡ length h.before = let count = h.count in omega arith in
    record {
      refused = is;
      word = has_word bytes h.before (Syntax number) (whole_parted h) (λ lexeme found kind. absurd (none-some lexeme (sym (ap (slice_get h.before) minus ∙ past h.before) ∙ found)));
      nothing = is.nothing;
    }

saying : {bytes : List ℕ} {start number : ℕ} {state : State} (entries : List Entry) (h : ReadTo bytes [] start number state) → finish state ≡ Ok entries → SaysNetlist bytes entries
saying {bytes} {start} {number} {state} entries h e =
    says_made AreTokens IsToken IsNetlist next finish first_state fits one_parting bytes h.before entries (whole_parted h)
    (whole_made h ∙ ap (go_on number state (λ (entries : List Entry). Ok entries)) e)

-- what is said at the end has been said before
finished : (mode : Mode) (said entries : List Entry) → finish_in mode said ≡ Ok entries → said ≡ entries
finished Modules said entries e = same_ok e
finished _ said entries e = never e

-- the same of bytes that are known to begin so
pub first_and_rest : (l : List ℕ) → 1 ≤ length l → l ≡ get_or l 0 0 ∷ take (length l - 1) (drop 1 l)
first_and_rest [] some = absurd (omega arith)
first_and_rest (x ∷ xs) some = ap (λ r. x ∷ r) (sym (take_all (length (x ∷ xs) - 1) xs (omega arith)))

pub no_bytes : (l : List ℕ) → length l < 1 → l ≡ []
no_bytes [] none = refl
no_bytes (x ∷ xs) none = absurd (omega arith)

read_on : {bytes rest more : List ℕ} {start place number : ℕ} {state : State} → rest ≡ more → start ≡ place → ReadTo bytes rest start number state → ReadTo bytes more place number state
read_on {bytes} {rest} {more} {start} {place} {number} {state} e f h =
    subst (λ (l : List ℕ). ReadTo bytes l place number state) e (subst (λ (n : ℕ). ReadTo bytes rest n number state) f h)

-- blanks are passed over one by one
blanks_passed : {bytes : List ℕ} {number : ℕ} {state : State} (rest : List ℕ) (start : ℕ) → ReadTo bytes rest start number state
    → ReadTo bytes (drop (run_length is_blank rest) rest) (start + run_length is_blank rest) number state
unfolding run_length
blanks_passed [] start h = read_on refl (omega arith) h
blanks_passed {bytes} {number} {state} (byte ∷ rest) start h = by (is_blank byte) refl (λ on. blanks_passed rest (start + 1) on)
  where
    by : (blank : Bool) → is_blank byte ≡ blank
        → (ReadTo bytes rest (start + 1) number state → ReadTo bytes (drop (run_length is_blank rest) rest) (start + 1 + run_length is_blank rest) number state)
        → ReadTo bytes (drop (run_length is_blank (byte ∷ rest)) (byte ∷ rest)) (start + run_length is_blank (byte ∷ rest)) number state
    by true e later =
        let run : run_length is_blank (byte ∷ rest) ≡ run_length is_blank rest + 1 = ap (λ (t : Bool). if t then run_length is_blank rest + 1 else 0) e in
        let more = later (skipped byte rest 1 h (cut_blank byte rest e) (omega arith)) in
        read_on (sym (ap (λ n. drop n (byte ∷ rest)) (run ∙ add-one (run_length is_blank rest)))) (omega arith) more
    by false e later =
        let run : run_length is_blank (byte ∷ rest) ≡ 0 = ap (λ (t : Bool). if t then run_length is_blank rest + 1 else 0) e in
        read_on (sym (ap (λ n. drop n (byte ∷ rest)) run)) (omega arith) h

module _ {bytes : List ℕ} {start number : ℕ} {state : State} (rest : List ℕ) (h : ReadTo bytes rest start number state) where
  pub skips : (first : ℕ) (after : List ℕ) (n : ℕ) → rest ≡ first ∷ after → cut_at first after ≡ Skip n → n ≤ length rest → (behind : List ℕ) → behind ≡ drop n rest → ReadTo bytes behind (start + n) number state
  skips first after n split cut le behind e =
      let size : length rest ≡ length (first ∷ after) = ap length split in
      subst (λ (l : List ℕ). ReadTo bytes l (start + n) number state) (sym (e ∙ ap (drop n) split))
      (skipped first after n (subst (λ (l : List ℕ). ReadTo bytes l start number state) split h) cut (omega arith))

  -- and the blanks behind what is passed over
  pub skips_blanks : (first : ℕ) (after : List ℕ) (n : ℕ) → rest ≡ first ∷ after → cut_at first after ≡ Skip n → n ≤ length rest
      → (all : ℕ) → all ≡ n + run_length is_blank (drop n rest) → (behind : List ℕ) → behind ≡ drop all rest → ReadTo bytes behind (start + all) number state
  skips_blanks first after n split cut le all is behind e =
      let blanks : ℕ = run_length is_blank (drop n rest) in
      read_on (drop-drop blanks n rest ∙ ap (λ m. drop m rest) (sym is) ∙ sym e) (omega arith)
      (blanks_passed (drop n rest) (start + n) (skips first after n split cut le (drop n rest) refl))

  pub takes : (first : ℕ) (after : List ℕ) (n : ℕ) (kind : Kind) (at : Span) (now : State) → rest ≡ first ∷ after → cut_at first after ≡ Take n kind → 0 < n → n ≤ length rest → at ≡ span_of first start n
      → state_after (step_in state.mode kind at) state.entries ≡ Ok now → (behind : List ℕ) → behind ≡ drop n rest → ReadTo bytes behind (start + n) (number + 1) now
  takes first after n kind at now split cut some le place moves behind e =
      let size : length rest ≡ length (first ∷ after) = ap length split in
      subst (λ (l : List ℕ). ReadTo bytes l (start + n) (number + 1) now) (sym (e ∙ ap (drop n) split))
      (one_token first after n kind now (subst (λ (l : List ℕ). ReadTo bytes l start number state) split h) cut some (omega arith)
      (ap (λ (s : Span). state_after (step_in state.mode kind s) state.entries) (sym place) ∙ moves))

  pub refuses : (first : ℕ) (after : List ℕ) (n : ℕ) (kind : Kind) (at : Span) (answer : VerilogEnd) → rest ≡ first ∷ after → cut_at first after ≡ Take n kind → at ≡ span_of first start n
      → state_after (step_in state.mode kind at) state.entries ≡ Err tt → IsRefusalOf bytes number kind at answer → IsRefusal bytes answer
  refuses first after n kind at answer split cut place refusal r =
      refused_here first after n kind answer (subst (λ (l : List ℕ). ReadTo bytes l start number state) split h) cut
      (ap (λ (s : Span). state_after (step_in state.mode kind s) state.entries) (sym place) ∙ refusal)
      (subst (λ (s : Span). IsRefusalOf bytes number kind s answer) place r)

  pub lacks : rest ≡ [] → finish state ≡ Err tt → IsRefusal bytes (Syntax number)
  lacks none e = lacking (subst (λ (l : List ℕ). ReadTo bytes l start number state) none h) e

  pub few_said : (entries : List Entry) → finish state ≡ Ok entries → length entries ≤ length bytes
  few_said entries e =
      let same = finished state.mode state.entries entries e in
      let few = h.few in
      let bound = h.bound in
      let place = h.place in
      let size : length state.entries ≡ length entries = ap length same in
      omega arith

  pub says : rest ≡ [] → (entries : List Entry) → finish state ≡ Ok entries → SaysNetlist bytes entries
  says none entries e = saying entries (subst (λ (l : List ℕ). ReadTo bytes l start number state) none h) e

-- bytes say one thing at most, and leave the grammar with one token at most
pub one_netlist : (bytes : List ℕ) (some other : List Entry) → SaysNetlist bytes some → SaysNetlist bytes other → some ≡ other
one_netlist = one_reading AreTokens IsToken IsNetlist next finish first_state fits one_parting

pub one_dead_token : (bytes : List ℕ) (some other : ℕ) → LeavesNetlist bytes some → LeavesNetlist bytes other → some ≡ other
one_dead_token = one_leaving AreTokens IsToken IsNetlist next finish first_state fits one_parting
