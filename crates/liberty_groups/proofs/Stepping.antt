-- What a token does is the step of the machine.
use Rattle.std.proofs.Common.{◌≡◌, ℕ, Bool, true, false, not, ◌||◌, ◌&&◌, List, length, refl, sym, ap, ◌∙◌, nat_lt}
use Rattle.std.proofs.Common.{arith, lt-ltb, nat_le}
use Rattle.std.proofs.lemmas.Bool.{leb-true, leb-false, le-ltb}
use Rattle.liberty_groups.specs.ReaderStates.{settled_if}
use Rattle.liberty_groups.specs.Tokens.{Lexeme, said_by}
use Rattle.liberty_groups.specs.Grammar.{is_piece, is_library}
use Rattle.liberty_groups.specs.Modes.{library_step, args_step, opening_step, behind_name, end_step, State, settled, start_step, name_step, body_step, value_step, more_step, group_step, behind_args, step_in}
use Rattle.liberty_groups.specs.Steps.{library_does, args_does, opening_does, name_does, end_does, names_library, names_statement, start_does, begin_if, body_does, value_does, open_unless, behind_args_does, does, settles, applied}
use Rattle.liberty_groups.specs.declared.scan.Kind.{Kind}
use Rattle.liberty_groups.specs.declared.scan.Kind.TheVariants as kind
use Rattle.liberty_groups.specs.declared.modes.Mode.{Mode}
use Rattle.liberty_groups.specs.declared.modes.Mode.TheVariants.{Start, LibraryName, LibraryArgs, LibraryBody, Body, Name, Colon, Value, Args, ArgsEnd, End}

module _ (s : State) (raw : List ℕ) (fresh : Bool) (start : ℕ) where
  abbrev token : Kind → Lexeme
  token k = record { kind = k; bytes = said_by k raw; fresh = fresh; start = start }

  at_start : (k : Kind) → applied (start_does k (names_library k raw)) s (said_by k raw) ≡ start_step (is_library (token k)) s (token k)
  at_start kind.Word = by (names_library kind.Word raw)
    where
      by : (is : Bool) → applied (start_does kind.Word is) s raw ≡ start_step is s (token kind.Word)
      by true = refl
      by false = refl
  at_start _ = refl

  in_library_args : (k : Kind) (here behind : Mode) → applied (args_does k here behind) s (said_by k raw) ≡ args_step k here behind s (token k)
  in_library_args kind.Word here behind = refl
  in_library_args _ here behind = refl

  in_body : (k : Kind) → applied (body_does k (names_statement k raw)) s (said_by k raw) ≡ body_step k s (token k)
  in_body kind.Word = by (names_statement kind.Word raw)
    where
      by : (is : Bool) → applied (begin_if kind.Word is) s raw ≡ name_step is s (token kind.Word)
      by true = refl
      by false = refl
  in_body _ = refl

  behind_the_args : (limit : ℕ) (k : Kind) → settles ArgsEnd k fresh ≡ false → applied (behind_args_does k (not (nat_lt (length s.frames) limit))) s (said_by k raw) ≡ behind_args limit k s (token k)
  behind_the_args limit kind.LeftBrace on = by (nat_lt (length s.frames) limit)
    where
      by : (fits : Bool) → applied (open_unless (not fits)) s (said_by kind.LeftBrace raw) ≡ group_step fits s (token kind.LeftBrace)
      by true = refl
      by false = refl
  behind_the_args limit _ on = absurd (cc)

  more : (k : Kind) (late : Bool) → (late || not (is_piece k)) ≡ false → (is_piece k && not late) ≡ true
  more kind.Word false on = refl
  more kind.Quoted false on = refl
  more k true on = absurd (cc)
  more _ false on = absurd (cc)

  behind_library : (k : Kind) → applied (library_does k) s (said_by k raw) ≡ library_step k s (token k)
  behind_library kind.LeftParen = refl
  behind_library _ = refl

  opening : (k : Kind) → applied (opening_does k) s (said_by k raw) ≡ opening_step k s (token k)
  opening kind.LeftBrace = refl
  opening _ = refl

  behind_a_name : (k : Kind) → applied (name_does k) s (said_by k raw) ≡ behind_name k s (token k)
  behind_a_name kind.Colon = refl
  behind_a_name _ = refl

  first_piece : (k : Kind) → applied (value_does k (is_piece k)) s (said_by k raw) ≡ value_step (is_piece k) s (token k)
  first_piece kind.Word = refl
  first_piece _ = refl

  past_library : (k : Kind) → applied (end_does k) s (said_by k raw) ≡ end_step k s (token k)
  past_library kind.Semicolon = refl
  past_library _ = refl

  -- where no attribute has ended
  pub step_is : (limit : ℕ) (mode : Mode) (k : Kind) → settles mode k fresh ≡ false → applied (does mode (not (nat_lt (length s.frames) limit)) k raw) s (said_by k raw) ≡ step_in limit mode s (token k)
  step_is limit Start k on = at_start k
  step_is limit LibraryName k on = behind_library k
  step_is limit LibraryArgs k on = in_library_args k LibraryArgs LibraryBody
  step_is limit LibraryBody k on = opening k
  step_is limit Body k on = in_body k
  step_is limit Name k on = behind_a_name k
  step_is limit Colon k on = first_piece k
  step_is limit Value k on = sym (ap (λ b. more_step b s (token k)) (more k fresh on))
  step_is limit Args k on = in_library_args k Args ArgsEnd
  step_is limit ArgsEnd k on = behind_the_args limit k on
  step_is limit End k on = past_library k

  no_more : (k : Kind) (late : Bool) → (late || not (is_piece k)) ≡ true → (is_piece k && not late) ≡ false
  no_more kind.Word true on = refl
  no_more kind.Quoted true on = refl
  no_more kind.Word false on = absurd (cc)
  no_more kind.Quoted false on = absurd (cc)
  no_more _ late on = refl

  settled_args : (limit : ℕ) (k : Kind) → settles ArgsEnd k fresh ≡ true → behind_args limit k s (token k) ≡ body_step k (settled s) (token k)
  settled_args limit kind.LeftBrace on = absurd (cc)
  settled_args limit _ on = refl

  -- where an attribute has ended, the token stands where a statement may begin
  pub settled_step : (limit : ℕ) (mode : Mode) (k : Kind) → settles mode k fresh ≡ true → step_in limit mode s (token k) ≡ body_step k (settled s) (token k)
  settled_step limit Value k on = ap (λ b. more_step b s (token k)) (no_more k fresh on)
  settled_step limit ArgsEnd k on = settled_args limit k on
  settled_step limit _ k on = absurd (cc)

-- where sixteen groups have not ended, no other may begin
pub deep_is : (depth : ℕ) → nat_le 16 depth ≡ not (nat_lt depth 16)
deep_is depth = by (nat_le 16 depth) refl
  where
    by : (test : Bool) → nat_le 16 depth ≡ test → nat_le 16 depth ≡ not (nat_lt depth 16)
    by true e = let le = leb-true 16 depth e in e ∙ ap not (sym (le-ltb depth 16 (omega arith)))
    by false e = let lt = leb-false 16 depth e in e ∙ ap not (sym (lt-ltb depth 16 (omega arith)))

-- an attribute that has ended, and then what the token does
pub taken_is : (old now : State) (raw : List ℕ) (fresh : Bool) (start : ℕ) (deep : Bool) (k : Kind) → now ≡ settled_if (settles old.mode k fresh) old → deep ≡ not (nat_lt (length now.frames) 16)
    → applied (does now.mode deep k raw) now (said_by k raw) ≡ step_in 16 old.mode old (record { kind = k; bytes = said_by k raw; fresh = fresh; start = start })
taken_is old now raw fresh start deep k same limit = by (settles old.mode k fresh) refl same
  where
    here : (after : State) → now ≡ after → applied (does now.mode deep k raw) now (said_by k raw) ≡ applied (does after.mode (not (nat_lt (length after.frames) 16)) k raw) after (said_by k raw)
    here after e = ap (λ d. applied (does now.mode d k raw) now (said_by k raw)) limit ∙ ap (λ (s : State). applied (does s.mode (not (nat_lt (length s.frames) 16)) k raw) s (said_by k raw)) e

    by : (is : Bool) → settles old.mode k fresh ≡ is → now ≡ settled_if is old → applied (does now.mode deep k raw) now (said_by k raw) ≡ step_in 16 old.mode old (record { kind = k; bytes = said_by k raw; fresh = fresh; start = start })
    by false is e = here old e ∙ step_is old raw fresh start 16 old.mode k is
    by true is e = here (settled old) e ∙ step_is (settled old) raw fresh start 16 Body k refl ∙ sym (settled_step old raw fresh start 16 old.mode k is)
