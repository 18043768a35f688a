-- What the reader makes of the parts, the bytes say.
use Rattle.std.proofs.Common.{◌≡◌, ℕ, ◌+◌, ◌-◌, ◌≤◌, false, ◌||◌, List, [], ◌∷◌, ◌++◌, length, Option, Some, None, Result, Ok, Err, refl, sym, ap, ◌∙◌, subst, arith, append-nil}
use Rattle.std.specs.Prelude.{⊤}
use Rattle.token_fronts.specs.Machine.{Stop, outcome}
use Rattle.token_fronts.specs.ReadingLaw.{says_made, leaves_where_stopped, one_reading}
use Rattle.token_fronts.specs.FrontLaw.{dead_token}
use Rattle.token_texts.specs.Cuts.{Part, gap, token, lexemes, byte_count, place_behind}
use Rattle.token_texts.specs.CutLemmas.{parts_fill}
use Rattle.token_texts.specs.Leading as leading
use Rattle.token_texts.specs.Leading.{leads_on, leads_to_stop, leads_to_value, leads_to_end}
use Rattle.token_texts.specs.Readings.{IsNext, Follows, OnTaken, MakesParts, StopsParts}
use Rattle.liberty_groups.specs.Tokens.{Lexeme, breaks, cut_at, tokens_from, tokens_of, AreTokens, IsToken, line_at}
use Rattle.liberty_groups.specs.Groups.{Group}
use Rattle.liberty_groups.specs.Grammar.{IsLiberty}
use Rattle.liberty_groups.specs.Modes.{State, first_state, step_in, next, finish}
use Rattle.liberty_groups.specs.Causes.{token_at, place_of, IsFault}
use Rattle.liberty_groups.specs.Building.{lexeme}
use Rattle.liberty_groups.specs.Tables.{Tables, tree_of}
use Rattle.liberty_groups.specs.Answers.{SaysTree}
use Rattle.liberty_groups.specs.ReaderStates.{state_of, Steps}
use Rattle.liberty_groups.specs.Leading.{fresh_behind, Leads, Stops, Makes, IsSound}
use Rattle.liberty_groups.specs.ReaderStates as states
use Rattle.liberty_groups.specs.Built.{IsBuilt}
use Rattle.liberty_groups.specs.declared.scan.Kind.{Kind}
use Rattle.liberty_groups.specs.declared.reader.Reader.{Reader}
use Rattle.liberty_groups.specs.declared.faults.Cause.{Cause}
use Rattle.liberty_groups.proofs.Parting.{one_parting}
use Rattle.liberty_groups.proofs.Parts.{as_many, tokens_behind, fresh_gap, fresh_token, begins_there}
use Rattle.liberty_groups.proofs.Fitting.{fits}
use Rattle.liberty_groups.proofs.Causing.{cause_is}
use Rattle.liberty_groups.proofs.Deepening.{later}

abbrev pub made : List Lexeme → Result Group (Stop State Cause)
made tokens = outcome (next 16) finish first_state 1 tokens

-- what the machine makes of the tokens, the bytes say
pub says_tree : (bytes : List ℕ) (tokens : List Lexeme) (tree : Group) → AreTokens bytes tokens → made tokens ≡ Ok tree → SaysTree bytes tree
says_tree bytes tokens tree parted e = says_made AreTokens IsToken IsLiberty (next 16) finish first_state (fits 16) one_parting bytes tokens tree parted e

-- a stop is a fault
fault_of : (bytes : List ℕ) (tokens : List Lexeme) (stop : Stop State Cause) (line : ℕ) → AreTokens bytes tokens → made tokens ≡ Err stop → line ≡ line_at bytes (place_of bytes (token_at tokens stop.number)) → IsFault bytes (record { token = stop.number; line = line; cause = stop.cause })
fault_of bytes tokens stop line parted e at =
    let leaves = leaves_where_stopped AreTokens IsToken IsLiberty (next 16) finish first_state (fits 16) one_parting bytes tokens stop parted e in
    record {
      tokens = tokens;
      parted = parted;
      dead = dead_token IsToken IsLiberty (next 16) finish first_state (fits 16) tokens stop e;
      line = at;
      cause = cause_is tokens stop e;
      nothing = leaves.nothing;
    }

-- what the loop over the tokens answers
pub says : {bytes : List ℕ} {tree : Tables} → MakesParts cut_at Makes bytes tree → SaysTree bytes (tree_of tree)
says {bytes} {tree} h = says_tree bytes (tokens_of h.parts) (tree_of tree) (record { parts = h.parts; parted = h.parted; are = refl }) h.made

pub is_fault : {bytes : List ℕ} {number start : ℕ} {cause : Cause} → StopsParts cut_at Stops bytes number start cause → IsFault bytes (record { token = number; line = line_at bytes start; cause = cause })
is_fault {bytes} {number} {start} {cause} h =
    let stop = h.stops in
    let full : 0 + byte_count h.parts ≡ length bytes = let filled = parts_fill h.parted in omega arith in
    let there : place_of bytes (token_at (tokens_of h.parts) number) ≡ 0 + place_behind (number - 1) h.parts = begins_there bytes 0 false h.parts (number - 1) full in
    let begins : start ≡ place_of bytes (token_at (tokens_of h.parts) number) = let place = h.place in omega arith in
    fault_of bytes (tokens_of h.parts) (record { number = number; state = stop.0; cause = cause }) (line_at bytes start) (record { parts = h.parts; parted = h.parted; are = refl }) stop.1 (ap (line_at bytes) begins)

-- bytes say one tree at most
pub one_tree : (bytes : List ℕ) (some other : Group) → SaysTree bytes some → SaysTree bytes other → some ≡ other
one_tree bytes some other says others = one_reading AreTokens IsToken IsLiberty (next 16) finish first_state (fits 16) one_parting bytes some other says others

-- before the first part
pub leads_first : (reader : Reader) → reader.fresh ≡ false → state_of reader ≡ first_state → Leads [] reader
leads_first reader fresh is = record { fresh = fresh; state = subst (λ (s : State). leading.Leads (next 16) finish first_state [] s) (sym is) (leading.leads_first (next 16) finish first_state) }

-- what is passed over says no more than whether it has a line end
pub passed : (before : List (Part Kind)) (bytes : List ℕ) (old now : Reader) → Leads before old → state_of now ≡ state_of old → now.fresh ≡ (old.fresh || breaks bytes) → Leads (before ++ gap bytes ∷ []) now
passed before bytes old now leads same fresh = record {
  fresh = fresh ∙ ap (λ b. b || breaks bytes) leads.fresh ∙ sym (fresh_gap false before bytes);
  state = subst (λ (s : State). leading.Leads (next 16) finish first_state (tokens_of (before ++ gap bytes ∷ [])) s) (sym same)
      (subst (λ (tokens : List Lexeme). leading.Leads (next 16) finish first_state tokens (state_of old)) (sym (tokens_behind 0 false before (gap bytes ∷ []) ∙ append-nil (tokens_of before))) leads.state);
}

-- a token of these bytes is taken, or refused, behind the parts before it
module _ (before : List (Part Kind)) (number start : ℕ) (k : Kind) (bytes : List ℕ) (old now : Reader) (is_next : IsNext before number start) (leads : Leads before old) where
  abbrev here : Lexeme
  here = lexeme k bytes old.fresh (byte_count before)

  count : number ≡ length (tokens_of before) + 1
  count = let e = as_many 0 false before in let c = is_next.count in omega arith

  -- the token is fresh where a line end stands before it
  tokens_are : (more : List (Part Kind)) → tokens_of (before ++ token (record { kind = k; bytes = bytes }) ∷ more) ≡ tokens_of before ++ here ∷ tokens_from (byte_count before + length bytes) false more
  tokens_are more =
      let from : 0 + byte_count before ≡ byte_count before = omega arith in
      tokens_behind 0 false before (token (record { kind = k; bytes = bytes }) ∷ more)
      ∙ ap (λ n. tokens_of before ++ tokens_from n (fresh_behind false before) (token (record { kind = k; bytes = bytes }) ∷ more)) from
      ∙ ap (λ fresh. tokens_of before ++ lexeme k bytes fresh (byte_count before) ∷ tokens_from (byte_count before + length bytes) false more) (sym leads.fresh)

  pub follows : (refusal : Option Cause) → now.fresh ≡ false → Steps (step_in 16 old.mode (state_of old) here) (state_of now) refusal → Follows Leads Stops before number k bytes now refusal
  follows None fresh steps = record {
    fresh = fresh ∙ sym (fresh_token false before (token (record { kind = k; bytes = bytes })) k bytes refl);
    state = subst (λ (tokens : List Lexeme). leading.Leads (next 16) finish first_state tokens (state_of now)) (sym (tokens_are []))
        (leads_on (next 16) finish first_state (tokens_of before) number (state_of old) (state_of now) here count leads.state steps);
  }
  follows (Some cause) fresh steps = λ more.
      subst (λ (tokens : List Lexeme). leading.Stops (next 16) finish first_state tokens number cause) (sym (tokens_are more))
      (leads_to_stop (next 16) finish first_state (tokens_of before) (tokens_from (byte_count before + length bytes) false more) number (state_of old) here cause count leads.state steps)

-- no group is too deep behind a token that is taken
pub stays_sound : (number : ℕ) (text : Lexeme) (old now : Reader) (refusal : Option Cause) → Steps (step_in 16 old.mode (state_of old) text) (state_of now) refusal → length (state_of old).frames ≤ 16 → states.IsSound now → IsBuilt now.builder
    → OnTaken {E = ⊤} (Ok refusal) (IsSound number now)
stays_sound number text old now None steps few counted built =
    record { counted = counted; built = built; few = (later (state_of old) (state_of now) (record { number = number; text = text }) few steps).1 }
stays_sound number text old now (Some cause) steps few counted built = tt

-- the end
pub ends_well : (before : List (Part Kind)) (reader : Reader) (tree : Tables) → Leads before reader → finish (state_of reader) ≡ Ok (tree_of tree) → Makes before tree
ends_well before reader tree leads e = leads_to_value (next 16) finish first_state (tokens_of before) (state_of reader) (tree_of tree) leads.state e

pub ends_inside : (before : List (Part Kind)) (reader : Reader) (cause : Cause) → Leads before reader → finish (state_of reader) ≡ Err cause → Stops before (length (lexemes before) + 1) cause
ends_inside before reader cause leads e =
    subst (λ (n : ℕ). Stops before (n + 1) cause) (as_many 0 false before) (leads_to_end (next 16) finish first_state (tokens_of before) (state_of reader) cause leads.state e)
