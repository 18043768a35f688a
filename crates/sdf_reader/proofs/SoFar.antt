-- What the reader makes of the tokens, the bytes say.
use Rattle.std.proofs.Common.{◌≡◌, ℕ, List, [], ◌∷◌, ◌++◌, Some, None, Option, Result, Ok, Err, IfOk, refl, sym, subst}
use Rattle.edge_io.specs.declared.failures.OutOfMemory.{OutOfMemory}
use Rattle.token_fronts.specs.Machine.{Stop, outcome}
use Rattle.token_fronts.specs.ReadingLaw.{says_made, leaves_where_stopped, one_reading}
use Rattle.token_fronts.specs.FrontLaw.{Fits, dead_token}
use Rattle.token_texts.specs.Cuts.{Part, gap, token, lexemes}
use Rattle.token_texts.specs.CutLemmas.{lexemes_behind, lexemes_gap}
use Rattle.token_texts.specs.Leading as leading
use Rattle.token_texts.specs.Readings.{IsNext, Follows, MakesParts, StopsParts, IfRefused}
use Rattle.token_texts.specs.declared.reading.ReadEnd.{ReadEnd}
use Rattle.token_texts.specs.declared.reading.ReadEnd.TheVariants.{Refused}
use Rattle.token_texts.specs.Leading.{leads_on, leads_to_stop}
use Rattle.sdf_reader.specs.Tokens.{Lexeme, cut_at, AreTokens, IsToken}
use Rattle.sdf_reader.specs.Grammar.{IsSdf}
use Rattle.sdf_reader.specs.Numbers.{IsValue}
use Rattle.sdf_reader.specs.Modes.{State, first_state, step, next, finish, Decides}
use Rattle.sdf_reader.specs.Causes.{IsFault}
use Rattle.sdf_reader.specs.ReaderStates.{state_of, Steps}
use Rattle.sdf_reader.specs.Leading.{Leads, Stops, Makes}
use Rattle.sdf_reader.specs.declared.reader.Reader.{Reader}
use Rattle.sdf_reader.specs.declared.rows.Value.{Value}
use Rattle.sdf_reader.specs.declared.timescales.Timescale.{Timescale}
use Rattle.sdf_reader.specs.Answers.{SaysRows}
use Rattle.sdf_reader.specs.declared.scan.Kind.{Kind}
use Rattle.sdf_reader.specs.declared.ends.SdfCause.{SdfCause}
use Rattle.sdf_reader.specs.declared.rows.SdfRow.{SdfRow}
use Rattle.sdf_reader.proofs.Parting.{one_parting}
use Rattle.sdf_reader.proofs.Deciding.{deciding, decides}
use Rattle.sdf_reader.proofs.Fitting.{fits}
use Rattle.sdf_reader.proofs.Causing.{cause_is}

abbrev pub fitting : Fits IsToken IsSdf (next deciding) finish first_state
fitting = fits IsValue deciding decides

abbrev pub made : List Lexeme → Result (List SdfRow) (Stop State SdfCause)
made tokens = outcome (next deciding) finish first_state 1 tokens

-- what the machine makes of the tokens, the bytes say
pub says_rows : (bytes : List ℕ) (tokens : List Lexeme) (rows : List SdfRow) → AreTokens bytes tokens → made tokens ≡ Ok rows → SaysRows bytes rows
says_rows bytes tokens rows parted e = says_made AreTokens IsToken IsSdf (next deciding) finish first_state fitting one_parting bytes tokens rows parted e

-- a stop is a fault
fault_of : (bytes : List ℕ) (tokens : List Lexeme) (stop : Stop State SdfCause) → AreTokens bytes tokens → made tokens ≡ Err stop → IsFault bytes stop.number stop.cause
fault_of bytes tokens stop parted e =
    let leaves = leaves_where_stopped AreTokens IsToken IsSdf (next deciding) finish first_state fitting one_parting bytes tokens stop parted e in
    record {
      tokens = tokens;
      parted = parted;
      dead = dead_token IsToken IsSdf (next deciding) finish first_state fitting tokens stop e;
      because = cause_is deciding tokens stop e;
      nothing = leaves.nothing;
    }

-- what the loop over the tokens answers
pub says : {bytes : List ℕ} {rows : List SdfRow} → MakesParts cut_at Makes bytes rows → SaysRows bytes rows
says {bytes} {rows} h = says_rows bytes (lexemes h.parts) rows (record { parts = h.parts; parted = h.parted; are = refl }) (h.made deciding decides)

is_fault : {bytes : List ℕ} {number start : ℕ} {cause : SdfCause} → StopsParts cut_at Stops bytes number start cause → IsFault bytes number cause
is_fault {bytes} {number} {cause = cause} h =
    let stop = h.stops deciding decides in
    fault_of bytes (lexemes h.parts) (record { number = number; state = stop.0; cause = cause }) (record { parts = h.parts; parted = h.parted; are = refl }) stop.1

pub refused : {bytes : List ℕ} {number start : ℕ} {cause : SdfCause} (end : ReadEnd SdfCause) → end ≡ Refused number start cause → IfRefused {A = List SdfRow} (Err end) (StopsParts cut_at Stops bytes) → IsFault bytes number cause
refused {bytes} end is h = is_fault (subst (λ (e : ReadEnd SdfCause). IfRefused {A = List SdfRow} (Err e) (StopsParts cut_at Stops bytes)) is h)

-- bytes say one list of rows at most
pub one_rows : (bytes : List ℕ) (some other : List SdfRow) → SaysRows bytes some → SaysRows bytes other → some ≡ other
one_rows bytes some other says others = one_reading AreTokens IsToken IsSdf (next deciding) finish first_state fitting one_parting bytes some other says others

-- what is passed over says nothing
pub passed : (before : List (Part Kind)) (bytes : List ℕ) (reader : Reader) → Leads before reader → Leads (before ++ gap bytes ∷ []) reader
passed before bytes reader leads = λ find decides.
    subst (λ (tokens : List Lexeme). leading.Leads (next find) finish first_state tokens (state_of reader)) (sym (lexemes_gap before bytes)) (leads find decides)

-- a token of these bytes is taken, or refused, behind the parts before it
follows : (before : List (Part Kind)) (number start : ℕ) (k : Kind) (bytes : List ℕ) (reader after : Reader) (refusal : Option SdfCause)
    → ((find : Timescale → List ℕ → Option Value) → Decides IsValue find → Steps (step find (state_of reader) k bytes) (state_of after) refusal)
    → IsNext before number start → Leads before reader → Follows Leads Stops before number k bytes after refusal
follows before number start k bytes reader after None steps is_next leads = λ find decides.
    let here : Lexeme = record { kind = k; bytes = bytes } in
    subst (λ (tokens : List Lexeme). leading.Leads (next find) finish first_state tokens (state_of after)) (sym (lexemes_behind before (token here ∷ [])))
    (leads_on (next find) finish first_state (lexemes before) number (state_of reader) (state_of after) here is_next.count (leads find decides) (steps find decides))
follows before number start k bytes reader after (Some cause) steps is_next leads = λ more find decides.
    let here : Lexeme = record { kind = k; bytes = bytes } in
    subst (λ (tokens : List Lexeme). leading.Stops (next find) finish first_state tokens number cause) (sym (lexemes_behind before (token here ∷ more)))
    (leads_to_stop (next find) finish first_state (lexemes before) (lexemes more) number (state_of reader) here cause is_next.count (leads find decides) (steps find decides))

pub taken : (before : List (Part Kind)) (number start : ℕ) (k : Kind) (bytes : List ℕ) (reader after : Reader) (answer : Result (Option SdfCause) OutOfMemory)
    → ((find : Timescale → List ℕ → Option Value) → Decides IsValue find → IfOk answer (Steps (step find (state_of reader) k bytes) (state_of after)))
    → IsNext before number start → Leads before reader → IfOk answer (Follows Leads Stops before number k bytes after)
taken before number start k bytes reader after (Ok refusal) steps is_next leads = follows before number start k bytes reader after refusal steps is_next leads
taken before number start k bytes reader after (Err end) steps is_next leads = tt
