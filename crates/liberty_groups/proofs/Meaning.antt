-- What the tokens so far are, in the grammar's own words, for each mode: tokens that lead to the end are a file of the grammar.
use Rattle.std.proofs.Common.{◌≡◌, ℕ, ◌+◌, ◌<◌, Bool, true, false, List, [], ◌∷◌, ◌++◌, length, Result, Ok, refl, sym, ap, ◌∙◌, subst, arith, nat_lt}
use Rattle.std.proofs.lemmas.Bool.{ltb-true}
use Rattle.token_fronts.specs.Accepting.{Accepts, ended, taken}
use Rattle.liberty_groups.specs.Groups.{Attribute, Group, group, Groups, no_group, and_group}
use Rattle.liberty_groups.specs.Grammar.{Tok, Is, is_piece, goes_on_with, is_name, IsName, is_library, IsLibrary, Joined, one_piece, and_piece, EndsValue, Items, no_item, and_item, and_comma, IsArgs, args, Statements, no_statement, and_semicolon, and_simple, and_complex, and_inner, IsBody, body, Semicolons, no_semicolon, and_one, IsLibertyTo, liberty}
use Rattle.liberty_groups.specs.Modes.{Frame, State, first_state, in_body, at_end, group_of, start_step, args_step, library_step, opening_step, name_step, body_step, behind_name, value_step, more_step, group_step, behind_args, end_step, next, finish}
use Rattle.liberty_groups.specs.declared.scan.Kind.{Kind}
use Rattle.liberty_groups.specs.declared.scan.Kind.TheVariants as kind
use Rattle.liberty_groups.specs.declared.modes.Mode.TheVariants.{LibraryName, LibraryArgs, LibraryBody, Name, Colon, Value, Args, ArgsEnd}
use Rattle.liberty_groups.specs.declared.faults.Cause.{Cause}

-- a group whose body has not ended, and those around it, with what stands in it up to here
data Inside (limit : ℕ) : Frame → List Frame → List Tok → List Tok → Type 0 where
  in_root : {frame : Frame} {library begin : Tok} {from inner here : List Tok}
      → frame.name ≡ library.text.bytes → IsLibrary library
      → IsArgs from frame.args (begin ∷ inner) → Is kind.LeftBrace begin
      → Statements limit 1 inner frame.attributes frame.groups here
      → Inside limit frame [] (library ∷ from) here
  in_inner : {frame outer : Frame} {more : List Frame} {name begin : Tok} {from middle inner here : List Tok}
      → Inside limit outer more from (name ∷ middle)
      → frame.name ≡ name.text.bytes → IsName name
      → IsArgs middle frame.args (begin ∷ inner) → Is kind.LeftBrace begin
      → length (outer ∷ more) < limit
      → Statements limit (length (outer ∷ more) + 1) inner frame.attributes frame.groups here
      → Inside limit frame (outer ∷ more) from here

-- what the tokens up to here are, for what is waited for
data Meant (limit : ℕ) : State → List Tok → List Tok → Type 0 where
  at_start : {from : List Tok} → Meant limit first_state from from
  library_named : {library : Tok} {here : List Tok} → IsLibrary library
      → Meant limit (record { mode = LibraryName; name = library.text.bytes; parts = []; frames = [] }) (library ∷ here) here
  in_library_args : {library begin : Tok} {from here : List Tok} {parts : List (List ℕ)}
      → IsLibrary library → Is kind.LeftParen begin → Items from parts here
      → Meant limit (record { mode = LibraryArgs; name = library.text.bytes; parts = parts; frames = [] }) (library ∷ begin ∷ from) here
  at_library_body : {library : Tok} {from here : List Tok} {parts : List (List ℕ)}
      → IsLibrary library → IsArgs from parts here
      → Meant limit (record { mode = LibraryBody; name = library.text.bytes; parts = parts; frames = [] }) (library ∷ from) here
  within : {frame : Frame} {outer : List Frame} {from here : List Tok}
      → Inside limit frame outer from here
      → Meant limit (in_body (frame ∷ outer)) from here
  is_named : {frame : Frame} {outer : List Frame} {name : Tok} {from here : List Tok}
      → Inside limit frame outer from (name ∷ here) → IsName name
      → Meant limit (record { mode = Name; name = name.text.bytes; parts = []; frames = frame ∷ outer }) from here
  at_value : {frame : Frame} {outer : List Frame} {name colon : Tok} {from here : List Tok}
      → Inside limit frame outer from (name ∷ colon ∷ here) → IsName name → Is kind.Colon colon
      → Meant limit (record { mode = Colon; name = name.text.bytes; parts = []; frames = frame ∷ outer }) from here
  in_value : {frame : Frame} {outer : List Frame} {name colon : Tok} {from middle here : List Tok} {value : List ℕ}
      → Inside limit frame outer from (name ∷ colon ∷ middle) → IsName name → Is kind.Colon colon → Joined middle value here
      → Meant limit (record { mode = Value; name = name.text.bytes; parts = value ∷ []; frames = frame ∷ outer }) from here
  in_args : {frame : Frame} {outer : List Frame} {name begin : Tok} {from middle here : List Tok} {parts : List (List ℕ)}
      → Inside limit frame outer from (name ∷ begin ∷ middle) → IsName name → Is kind.LeftParen begin → Items middle parts here
      → Meant limit (record { mode = Args; name = name.text.bytes; parts = parts; frames = frame ∷ outer }) from here
  past_args : {frame : Frame} {outer : List Frame} {name : Tok} {from middle here : List Tok} {parts : List (List ℕ)}
      → Inside limit frame outer from (name ∷ middle) → IsName name → IsArgs middle parts here
      → Meant limit (record { mode = ArgsEnd; name = name.text.bytes; parts = parts; frames = frame ∷ outer }) from here
  past_library : {root : Frame} {library : Tok} {from at_body behind here : List Tok}
      → root.name ≡ library.text.bytes → IsLibrary library → IsArgs from root.args at_body
      → IsBody limit 1 at_body root.attributes root.groups behind → Semicolons behind here
      → Meant limit (at_end (root ∷ [])) (library ∷ from) here

module _ (limit : ℕ) where
  abbrev with_content : Frame → List Attribute → Groups → Frame
  with_content frame attributes groups = record { name = frame.name; args = frame.args; attributes = attributes; groups = groups }

  -- a statement more in the innermost group
  grow : {frame : Frame} {outer : List Frame} {from here after : List Tok} {attributes : List Attribute} {groups : Groups}
      → ((depth : ℕ) (inner : List Tok) → depth ≡ length (frame ∷ outer) → Statements limit depth inner frame.attributes frame.groups here → Statements limit depth inner attributes groups after)
      → Inside limit frame outer from here → Inside limit (with_content frame attributes groups) outer from after
  grow step (in_root n l a b s) = in_root n l a b (step _ _ refl s)
  grow step (in_inner o n is a b below s) = in_inner o n is a b below (step _ _ (omega arith) s)

  -- the state behind a step that is known
  becomes : {from here : List Tok} {after : State} (state : State) → ◌≡◌ {A = Result State Cause} (Ok state) (Ok after) → Meant limit state from here → Meant limit after from here
  becomes {from} {here} {after} state e meant = let same : state ≡ after = cc in subst (λ (s : State). Meant limit s from here) same meant

  simple : {frame : Frame} {outer : List Frame} {name colon : Tok} {from middle here : List Tok} {value : List ℕ}
      → Inside limit frame outer from (name ∷ colon ∷ middle) → IsName name → Is kind.Colon colon → Joined middle value here → EndsValue here
      → Inside limit (with_content frame (frame.attributes ++ record { name = name.text.bytes; values = value ∷ [] } ∷ []) frame.groups) outer from here
  simple inside n c joined ends = grow (λ depth inner at s. and_simple s n c joined ends) inside

  complex : {frame : Frame} {outer : List Frame} {name : Tok} {from middle here : List Tok} {parts : List (List ℕ)}
      → Inside limit frame outer from (name ∷ middle) → IsName name → IsArgs middle parts here
      → Inside limit (with_content frame (frame.attributes ++ record { name = name.text.bytes; values = parts } ∷ []) frame.groups) outer from here
  complex inside n with_args = grow (λ depth inner at s. and_complex s n with_args) inside

  -- the innermost group ends
  closing : {frame : Frame} {outer : List Frame} {from here : List Tok} {token : Tok} {after : State}
      → Inside limit frame outer from (token ∷ here) → Is kind.RightBrace token
      → body_step kind.RightBrace (in_body (frame ∷ outer)) token.text ≡ Ok after → Meant limit after from here
  closing {frame} (in_root n l a b s) c e = becomes (at_end (frame ∷ [])) e (past_library n l a (body b s c) no_semicolon)
  closing {frame} {from = from} {here = here} (in_inner {outer = outer} {more = more} {name = name} {begin = begin} {middle = middle} {inner = body_from} inside n is a b below s) c e =
      let held : List ℕ → Frame = λ bytes. with_content outer outer.attributes (and_group outer.groups (group bytes frame.args frame.attributes frame.groups)) in
      becomes (in_body (held frame.name ∷ more)) e
      (within (subst (λ (bytes : List ℕ). Inside limit (held bytes) more from here) (sym n)
      (grow (λ depth inner at statements. and_inner statements is a (subst (λ (d : ℕ). d < limit) (sym at) below)
      (subst (λ (d : ℕ). IsBody limit (d + 1) (begin ∷ body_from) frame.attributes frame.groups here) (sym at) (body b s c))) inside)))

  a_name : {frame : Frame} {outer : List Frame} {from here : List Tok} {token : Tok} {after : State} (is : Bool)
      → is_name token.text ≡ is → Inside limit frame outer from (token ∷ here)
      → name_step is (in_body (frame ∷ outer)) token.text ≡ Ok after → Meant limit after from here
  a_name {frame} {outer} {token = token} true is inside e = becomes (record { mode = Name; name = token.text.bytes; parts = []; frames = frame ∷ outer }) e (is_named inside is)
  a_name false is inside e = absurd (cc)

  in_a_body : {frame : Frame} {outer : List Frame} {from here : List Tok} {token : Tok} {after : State} (k : Kind)
      → token.text.kind ≡ k → Inside limit frame outer from (token ∷ here)
      → body_step k (in_body (frame ∷ outer)) token.text ≡ Ok after → Meant limit after from here
  in_a_body {frame} {outer} kind.Semicolon is inside e =
      becomes (in_body (with_content frame frame.attributes frame.groups ∷ outer)) e (within (grow (λ depth inner at s. and_semicolon s is) inside))
  in_a_body kind.RightBrace is inside e = closing inside is e
  in_a_body {token = token} _ is inside e = a_name (is_name token.text) refl inside e

  started : {here : List Tok} {token : Tok} {after : State} (is : Bool) → is_library token.text ≡ is → start_step is first_state token.text ≡ Ok after → Meant limit after (token ∷ here) here
  started {token = token} true is e = becomes (record { mode = LibraryName; name = token.text.bytes; parts = []; frames = [] }) e (library_named is)
  started false is e = absurd (cc)

  opened : {here : List Tok} {library token : Tok} {after : State} (k : Kind) → token.text.kind ≡ k → IsLibrary library
      → library_step k (record { mode = LibraryName; name = library.text.bytes; parts = []; frames = [] }) token.text ≡ Ok after → Meant limit after (library ∷ token ∷ here) here
  opened {library = library} kind.LeftParen is l e = becomes (record { mode = LibraryArgs; name = library.text.bytes; parts = []; frames = [] }) e (in_library_args l is no_item)
  opened _ is l e = absurd (cc)

  library_args : {from here : List Tok} {library begin token : Tok} {parts : List (List ℕ)} {after : State} (k : Kind) → token.text.kind ≡ k
      → IsLibrary library → Is kind.LeftParen begin → Items from parts (token ∷ here)
      → args_step k LibraryArgs LibraryBody (record { mode = LibraryArgs; name = library.text.bytes; parts = parts; frames = [] }) token.text ≡ Ok after
      → Meant limit after (library ∷ begin ∷ from) here
  library_args {library = library} {token = token} {parts = parts} kind.Word is l b items e =
      becomes (record { mode = LibraryArgs; name = library.text.bytes; parts = parts ++ token.text.bytes ∷ []; frames = [] }) e (in_library_args l b (and_item items (ap is_piece is)))
  library_args {library = library} {token = token} {parts = parts} kind.Quoted is l b items e =
      becomes (record { mode = LibraryArgs; name = library.text.bytes; parts = parts ++ token.text.bytes ∷ []; frames = [] }) e (in_library_args l b (and_item items (ap is_piece is)))
  library_args {library = library} {parts = parts} kind.Comma is l b items e =
      becomes (record { mode = LibraryArgs; name = library.text.bytes; parts = parts; frames = [] }) e (in_library_args l b (and_comma items is))
  library_args {library = library} {parts = parts} kind.RightParen is l b items e =
      becomes (record { mode = LibraryBody; name = library.text.bytes; parts = parts; frames = [] }) e (at_library_body l (args b items is))
  library_args _ is l b items e = absurd (cc)

  library_body : {from here : List Tok} {library token : Tok} {parts : List (List ℕ)} {after : State} (k : Kind) → token.text.kind ≡ k
      → IsLibrary library → IsArgs from parts (token ∷ here)
      → opening_step k (record { mode = LibraryBody; name = library.text.bytes; parts = parts; frames = [] }) token.text ≡ Ok after
      → Meant limit after (library ∷ from) here
  library_body {library = library} {parts = parts} kind.LeftBrace is l a e =
      becomes (in_body (record { name = library.text.bytes; args = parts; attributes = []; groups = no_group } ∷ [])) e (within (in_root refl l a is no_statement))
  library_body _ is l a e = absurd (cc)

  behind_a_name : {frame : Frame} {outer : List Frame} {from here : List Tok} {name token : Tok} {after : State} (k : Kind) → token.text.kind ≡ k
      → Inside limit frame outer from (name ∷ token ∷ here) → IsName name
      → behind_name k (record { mode = Name; name = name.text.bytes; parts = []; frames = frame ∷ outer }) token.text ≡ Ok after
      → Meant limit after from here
  behind_a_name {frame} {outer} {name = name} kind.Colon is inside n e = becomes (record { mode = Colon; name = name.text.bytes; parts = []; frames = frame ∷ outer }) e (at_value inside n is)
  behind_a_name {frame} {outer} {name = name} kind.LeftParen is inside n e = becomes (record { mode = Args; name = name.text.bytes; parts = []; frames = frame ∷ outer }) e (in_args inside n is no_item)
  behind_a_name _ is inside n e = absurd (cc)

  a_value : {frame : Frame} {outer : List Frame} {from here : List Tok} {name colon token : Tok} {after : State} (piece : Bool) → is_piece token.text.kind ≡ piece
      → Inside limit frame outer from (name ∷ colon ∷ token ∷ here) → IsName name → Is kind.Colon colon
      → value_step piece (record { mode = Colon; name = name.text.bytes; parts = []; frames = frame ∷ outer }) token.text ≡ Ok after
      → Meant limit after from here
  a_value {frame} {outer} {name = name} {token = token} true is inside n c e =
      becomes (record { mode = Value; name = name.text.bytes; parts = token.text.bytes ∷ []; frames = frame ∷ outer }) e (in_value inside n c (one_piece is))
  a_value false is inside n c e = absurd (cc)

  more_value : {frame : Frame} {outer : List Frame} {from middle here : List Tok} {name colon token : Tok} {value : List ℕ} {after : State} (more : Bool) → goes_on_with token.text ≡ more
      → Inside limit frame outer from (name ∷ colon ∷ middle) → IsName name → Is kind.Colon colon → Joined middle value (token ∷ here)
      → more_step more (record { mode = Value; name = name.text.bytes; parts = value ∷ []; frames = frame ∷ outer }) token.text ≡ Ok after
      → Meant limit after from here
  more_value {frame} {outer} {name = name} {token = token} {value = value} true is inside n c joined e =
      becomes (record { mode = Value; name = name.text.bytes; parts = (value ++ 32 ∷ token.text.bytes) ∷ []; frames = frame ∷ outer }) e (in_value inside n c (and_piece joined is))
  more_value {token = token} false is inside n c joined e = in_a_body token.text.kind refl (simple inside n c joined is) e

  more_args : {frame : Frame} {outer : List Frame} {from middle here : List Tok} {name begin token : Tok} {parts : List (List ℕ)} {after : State} (k : Kind) → token.text.kind ≡ k
      → Inside limit frame outer from (name ∷ begin ∷ middle) → IsName name → Is kind.LeftParen begin → Items middle parts (token ∷ here)
      → args_step k Args ArgsEnd (record { mode = Args; name = name.text.bytes; parts = parts; frames = frame ∷ outer }) token.text ≡ Ok after
      → Meant limit after from here
  more_args {frame} {outer} {name = name} {token = token} {parts = parts} kind.Word is inside n b items e =
      becomes (record { mode = Args; name = name.text.bytes; parts = parts ++ token.text.bytes ∷ []; frames = frame ∷ outer }) e (in_args inside n b (and_item items (ap is_piece is)))
  more_args {frame} {outer} {name = name} {token = token} {parts = parts} kind.Quoted is inside n b items e =
      becomes (record { mode = Args; name = name.text.bytes; parts = parts ++ token.text.bytes ∷ []; frames = frame ∷ outer }) e (in_args inside n b (and_item items (ap is_piece is)))
  more_args {frame} {outer} {name = name} {parts = parts} kind.Comma is inside n b items e =
      becomes (record { mode = Args; name = name.text.bytes; parts = parts; frames = frame ∷ outer }) e (in_args inside n b (and_comma items is))
  more_args {frame} {outer} {name = name} {parts = parts} kind.RightParen is inside n b items e =
      becomes (record { mode = ArgsEnd; name = name.text.bytes; parts = parts; frames = frame ∷ outer }) e (past_args inside n (args b items is))
  more_args _ is inside n b items e = absurd (cc)

  a_group : {frame : Frame} {outer : List Frame} {from middle here : List Tok} {name token : Tok} {parts : List (List ℕ)} {after : State} (fits : Bool) → nat_lt (length (frame ∷ outer)) limit ≡ fits
      → Is kind.LeftBrace token → Inside limit frame outer from (name ∷ middle) → IsName name → IsArgs middle parts (token ∷ here)
      → group_step fits (record { mode = ArgsEnd; name = name.text.bytes; parts = parts; frames = frame ∷ outer }) token.text ≡ Ok after
      → Meant limit after from here
  a_group {frame} {outer} {name = name} {parts = parts} true below is inside n a e =
      becomes (in_body (record { name = name.text.bytes; args = parts; attributes = []; groups = no_group } ∷ frame ∷ outer)) e
      (within (in_inner inside refl n a is (ltb-true (length (frame ∷ outer)) limit below) no_statement))
  a_group false below is inside n a e = absurd (cc)

  behind_the_args : {frame : Frame} {outer : List Frame} {from middle here : List Tok} {name token : Tok} {parts : List (List ℕ)} {after : State} (k : Kind) → token.text.kind ≡ k
      → Inside limit frame outer from (name ∷ middle) → IsName name → IsArgs middle parts (token ∷ here)
      → behind_args limit k (record { mode = ArgsEnd; name = name.text.bytes; parts = parts; frames = frame ∷ outer }) token.text ≡ Ok after
      → Meant limit after from here
  behind_the_args {frame} {outer} kind.LeftBrace is inside n a e = a_group (nat_lt (length (frame ∷ outer)) limit) refl is inside n a e
  behind_the_args {token = token} _ is inside n a e = in_a_body token.text.kind refl (complex inside n a) e

  at_the_end : {root : Frame} {library token : Tok} {from at_body behind here : List Tok} {after : State} (k : Kind) → token.text.kind ≡ k
      → root.name ≡ library.text.bytes → IsLibrary library → IsArgs from root.args at_body
      → IsBody limit 1 at_body root.attributes root.groups behind → Semicolons behind (token ∷ here)
      → end_step k (at_end (root ∷ [])) token.text ≡ Ok after
      → Meant limit after (library ∷ from) here
  at_the_end {root} kind.Semicolon is n l a b s e = becomes (at_end (root ∷ [])) e (past_library n l a b (and_one s is))
  at_the_end _ is n l a b s e = absurd (cc)

  -- one token more
  moves : {state after : State} {from here : List Tok} {token : Tok} → Meant limit state from (token ∷ here) → next limit state token ≡ Ok after → Meant limit after from here
  moves {token = token} at_start e = started (is_library token.text) refl e
  moves {token = token} (library_named l) e = opened token.text.kind refl l e
  moves {token = token} (in_library_args l b items) e = library_args token.text.kind refl l b items e
  moves {token = token} (at_library_body l a) e = library_body token.text.kind refl l a e
  moves {token = token} (within inside) e = in_a_body token.text.kind refl inside e
  moves {token = token} (is_named inside n) e = behind_a_name token.text.kind refl inside n e
  moves {token = token} (at_value inside n c) e = a_value (is_piece token.text.kind) refl inside n c e
  moves {token = token} (in_value inside n c joined) e = more_value (goes_on_with token.text) refl inside n c joined e
  moves {token = token} (in_args inside n b items) e = more_args token.text.kind refl inside n b items e
  moves {token = token} (past_args inside n a) e = behind_the_args token.text.kind refl inside n a e
  moves {token = token} (past_library n l a b s) e = at_the_end token.text.kind refl n l a b s e

  -- the end of the file
  ends : {state : State} {from : List Tok} {tree : Group} → Meant limit state from [] → finish state ≡ Ok tree → IsLibertyTo limit from tree
  ends {from = from} {tree = tree} (past_library {root = root} {library = library} n l a b s) e =
      let same : group library.text.bytes root.args root.attributes root.groups ≡ tree =
      ap (λ (bytes : List ℕ). group bytes root.args root.attributes root.groups) (sym n) ∙ (let given : group_of root ≡ tree = cc in given) in
      subst (λ (t : Group). IsLibertyTo limit from t) same (liberty l a b s)
  ends at_start e = absurd (cc)
  ends (library_named l) e = absurd (cc)
  ends (in_library_args l b items) e = absurd (cc)
  ends (at_library_body l a) e = absurd (cc)
  ends (within inside) e = absurd (cc)
  ends (is_named inside n) e = absurd (cc)
  ends (at_value inside n c) e = absurd (cc)
  ends (in_value inside n c joined) e = absurd (cc)
  ends (in_args inside n b items) e = absurd (cc)
  ends (past_args inside n a) e = absurd (cc)

  along : {state : State} {from here : List Tok} {tree : Group} → Meant limit state from here → Accepts (next limit) finish state here tree → IsLibertyTo limit from tree
  along meant (ended e) = ends meant e
  along meant (taken e accepts) = along (moves meant e) accepts

-- tokens that lead from the start to the end are a file of the grammar, and it says what they lead to
pub meaning : (limit : ℕ) (tokens : List Tok) (tree : Group) → Accepts (next limit) finish first_state tokens tree → IsLibertyTo limit tokens tree
meaning limit tokens tree accepts = along limit at_start accepts
