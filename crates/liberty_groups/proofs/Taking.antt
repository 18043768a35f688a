-- The texts of the grammar lead to their end: the reader refuses none of them.
use Rattle.std.proofs.Common.{◌≡◌, ℕ, suc, true, false, not, ◌&&◌, List, [], ◌∷◌, length, Ok, refl, ap, ◌∙◌, arith, nat_lt, lt-ltb}
use Rattle.std.specs.Prelude.{codes}
use Rattle.std.specs.Str.{bytes_eq}
use Rattle.token_fronts.specs.Accepting.{Accepts, ended, taken}
use Rattle.liberty_groups.specs.Tokens.{Lexeme}
use Rattle.liberty_groups.specs.Groups.{Attribute, Group, Groups, no_group}
use Rattle.liberty_groups.specs.Grammar.{Tok, is_piece, is_word, is_name, IsName, Joined, one_piece, and_piece, EndsValue, Items, no_item, and_item, and_comma, IsArgs, args, Statements, no_statement, and_semicolon, and_simple, and_complex, and_inner, body, Semicolons, no_semicolon, and_one, IsLibertyTo, liberty}
use Rattle.liberty_groups.specs.Modes.{Frame, State, first_state, with_part, in_body, at_end, add_attribute, settled, start_step, args_step, library_step, opening_step, name_step, body_step, behind_name, value_step, more_step, group_step, behind_args, end_step, step_in, next, finish}
use Rattle.liberty_groups.specs.declared.scan.Kind.{Kind}
use Rattle.liberty_groups.specs.declared.scan.Kind.TheVariants as kind
use Rattle.liberty_groups.specs.declared.modes.Mode.{Mode}
use Rattle.liberty_groups.specs.declared.modes.Mode.TheVariants.{LibraryName, LibraryArgs, LibraryBody, Name, Colon, Value, Args, ArgsEnd}

args_piece : (k : Kind) (here behind : Mode) (s : State) (token : Lexeme) → is_piece k ≡ true → args_step k here behind s token ≡ Ok (with_part here token.bytes s)
args_piece kind.Word here behind s token is = refl
args_piece kind.Quoted here behind s token is = refl
args_piece _ here behind s token is = absurd (cc)

no_name : (token : Lexeme) → token.kind ≡ kind.LeftBrace → is_name token ≡ false
no_name token is = ap (λ k. is_word k && not (bytes_eq token.bytes (codes "include_file"))) is

-- a name is a word, so neither `;` nor `}`
name_in_body : (k : Kind) (s : State) (token : Lexeme) → token.kind ≡ k → is_name token ≡ true → body_step k s token ≡ name_step true s token
name_in_body kind.Semicolon s token e is = absurd (let no : is_name token ≡ false = ap (λ k. is_word k && not (bytes_eq token.bytes (codes "include_file"))) e in cc)
name_in_body kind.RightBrace s token e is = absurd (let no : is_name token ≡ false = ap (λ k. is_word k && not (bytes_eq token.bytes (codes "include_file"))) e in cc)
name_in_body _ s token e is = ap (λ b. name_step b s token) is

module _ (limit : ℕ) (tree : Group) where
  -- the tokens lead from this state to the end of a file that says the tree
  abbrev Leads : State → List Tok → Type 0
  Leads state tokens = Accepts (next limit) finish state tokens tree

  -- what may follow an attribute may follow its arguments
  same_behind : (k : Kind) (s after : State) (token : Lexeme) → token.kind ≡ k → body_step k (settled s) token ≡ Ok after → behind_args limit k s token ≡ Ok after
  same_behind kind.LeftBrace s after token is e = absurd (let no : name_step (is_name token) (settled s) token ≡ name_step false (settled s) token = ap (λ b. name_step b (settled s) token) (no_name token is) in cc)
  same_behind _ s after token is e = ap (λ k. body_step k (settled s) token) is ∙ e

  module _ (name : List ℕ) (frames : List Frame) where
    abbrev at : Mode → List (List ℕ) → State
    at mode parts = record { mode = mode; name = name; parts = parts; frames = frames }

    items : (here behind : Mode) → ((s : State) (token : Lexeme) → step_in limit here s token ≡ args_step token.kind here behind s token) → {from rest : List Tok} {parts : List (List ℕ)} → Items from parts rest → Leads (at here parts) rest → Leads (at here []) from
    items here behind steps no_item leads = leads
    items here behind steps (and_item {items = parts} {token = token} before is) leads =
        items here behind steps before (taken (steps (at here parts) token.text ∙ args_piece token.text.kind here behind (at here parts) token.text is) leads)
    items here behind steps {parts = parts} (and_comma {token = token} before is) leads =
        items here behind steps before (taken (steps (at here parts) token.text ∙ ap (λ k. args_step k here behind (at here parts) token.text) is) leads)

    value : {from rest : List Tok} {bytes : List ℕ} → Joined from bytes rest → Leads (at Value (bytes ∷ [])) rest → Leads (at Colon []) from
    value (one_piece {token = token} is) leads = taken (ap (λ b. value_step b (at Colon []) token.text) is) leads
    value (and_piece {value = bytes} {token = token} before is) leads = value before (taken (ap (λ b. more_step b (at Value (bytes ∷ [])) token.text) is) leads)

    value_done : {rest : List Tok} {bytes : List ℕ} → EndsValue rest → Leads (in_body (add_attribute name (bytes ∷ []) frames)) rest → Leads (at Value (bytes ∷ [])) rest
    value_done ends (ended e) = absurd (cc)
    value_done {bytes = bytes} ends (taken {token = token} e leads) = taken (ap (λ b. more_step b (at Value (bytes ∷ [])) token.text) ends ∙ e) leads

    args_done : {rest : List Tok} {parts : List (List ℕ)} → Leads (in_body (add_attribute name parts frames)) rest → Leads (at ArgsEnd parts) rest
    args_done (ended e) = absurd (cc)
    args_done {parts = parts} (taken {after = after} {token = token} e leads) = taken (same_behind token.text.kind (at ArgsEnd parts) after token.text refl e) leads

    arguments : {from rest : List Tok} {parts : List (List ℕ)} → IsArgs from parts rest → Leads (at ArgsEnd parts) rest → Leads (at Name []) from
    arguments {parts = parts} (args {begin = begin} {close = close} b within c) leads =
        taken (ap (λ k. behind_name k (at Name []) begin.text) b)
        (items Args ArgsEnd (λ s token. refl) within
        (taken (ap (λ k. args_step k Args ArgsEnd (at Args parts) close.text) c) leads))

  named : {name : Tok} {tokens : List Tok} {frames : List Frame} → IsName name → Leads (record { mode = Name; name = name.text.bytes; parts = []; frames = frames }) tokens → Leads (in_body frames) (name ∷ tokens)
  named {name = name} {frames = frames} is leads = taken (name_in_body name.text.kind (in_body frames) name.text refl is) leads

  module _ (name : List ℕ) (parts : List (List ℕ)) where
    abbrev frame : List Attribute → Groups → Frame
    frame attributes groups = record { name = name; args = parts; attributes = attributes; groups = groups }

  statements : (name : List ℕ) (parts : List (List ℕ)) (outer : List Frame) {depth : ℕ} {from rest : List Tok} {attributes : List Attribute} {groups : Groups}
      → Statements limit depth from attributes groups rest → depth ≡ suc (length outer)
      → Leads (in_body (frame name parts attributes groups ∷ outer)) rest → Leads (in_body (frame name parts [] no_group ∷ outer)) from
  statements name parts outer no_statement at_depth leads = leads
  statements name parts outer {attributes = attributes} {groups = groups} (and_semicolon {token = token} before is) at_depth leads =
      statements name parts outer before at_depth (taken (ap (λ k. body_step k (in_body (frame name parts attributes groups ∷ outer)) token.text) is) leads)
  statements name parts outer (and_simple {attributes = attributes} {groups = groups} {name = title} {colon = colon} before is c joined ends) at_depth leads =
      let frames : List Frame = frame name parts attributes groups ∷ outer in
      statements name parts outer before at_depth
      (named is
      (taken (ap (λ k. behind_name k (record { mode = Name; name = title.text.bytes; parts = []; frames = frames }) colon.text) c)
      (value title.text.bytes frames joined (value_done title.text.bytes frames ends leads))))
  statements name parts outer (and_complex {attributes = attributes} {groups = groups} {name = title} before is with_args) at_depth leads =
      let frames : List Frame = frame name parts attributes groups ∷ outer in
      statements name parts outer before at_depth
      (named is (arguments title.text.bytes frames with_args (args_done title.text.bytes frames leads)))
  statements name parts outer (and_inner {attributes = attributes} {inner = inner} {groups = groups} {deeper = deeper} {name = title} {args = values} before is with_args below (body {begin = begin} {close = close} b within c)) at_depth leads =
      let frames : List Frame = frame name parts attributes groups ∷ outer in
      let waits : State = record { mode = ArgsEnd; name = title.text.bytes; parts = values; frames = frames } in
      let fits : nat_lt (length frames) limit ≡ true = lt-ltb (length frames) limit (omega (arith, at_depth, below)) in
      statements name parts outer before at_depth
      (named is (arguments title.text.bytes frames with_args
      (taken (ap (λ k. behind_args limit k waits begin.text) b ∙ ap (λ t. group_step t waits begin.text) fits)
      (statements title.text.bytes values frames within (omega (arith, at_depth))
      (taken (ap (λ k. body_step k (in_body (frame title.text.bytes values inner deeper ∷ frames)) close.text) c) leads)))))

  semicolons : {root : Frame} {from rest : List Tok} → Semicolons from rest → Leads (at_end (root ∷ [])) rest → Leads (at_end (root ∷ [])) from
  semicolons no_semicolon leads = leads
  semicolons {root = root} (and_one {token = token} before is) leads = semicolons before (taken (ap (λ k. end_step k (at_end (root ∷ [])) token.text) is) leads)

-- from the start the tokens of a file lead to what it says
pub taking : (limit : ℕ) {tokens : List Tok} {tree : Group} → IsLibertyTo limit tokens tree → Accepts (next limit) finish first_state tokens tree
taking limit {tree = tree} (liberty {library = library} {args = values} {attributes = attributes} {groups = groups} is (args {begin = begin} {close = close} b within c) (body {begin = opens} {close = closes} o inner e) behind) =
    let name : List ℕ = library.text.bytes in
    taken (ap (λ t. start_step t first_state library.text) is)
    (taken (ap (λ k. library_step k (record { mode = LibraryName; name = name; parts = []; frames = [] }) begin.text) b)
    (items limit tree name [] LibraryArgs LibraryBody (λ s token. refl) within
    (taken (ap (λ k. args_step k LibraryArgs LibraryBody (record { mode = LibraryArgs; name = name; parts = values; frames = [] }) close.text) c)
    (taken (ap (λ k. opening_step k (record { mode = LibraryBody; name = name; parts = values; frames = [] }) opens.text) o)
    (statements limit tree name values [] inner refl
    (taken (ap (λ k. body_step k (in_body (record { name = name; args = values; attributes = attributes; groups = groups } ∷ [])) closes.text) e)
    (semicolons limit tree behind (ended refl))))))))
