-- What the tokens so far are, in the grammar's own words, for each mode: tokens that lead to the end are a file of the grammar.
use Rattle.std.proofs.Common.{◌≡◌, ℕ, suc, Bool, true, false, cond, List, [], ◌∷◌, ◌++◌, Option, Some, None, Result, Ok, Err, refl, sym, ap, ◌∙◌, subst, append-nil}
use Rattle.name_table.specs.SdfNames.{canonical}
use Rattle.token_fronts.specs.Accepting.{Accepts, ended, taken}
use Rattle.sdf_reader.specs.Tokens.{meaning}
use Rattle.sdf_reader.specs.Keywords.{keyword_of}
use Rattle.sdf_reader.specs.ScalePlaces.{place_behind}
use Rattle.sdf_reader.specs.Rows.{Head, plain_head, no_value, rows_in}
use Rattle.sdf_reader.specs.Grammar.{Tok, Is, keyword_in, IsKeyword, holds_of, own_in_heads, own_in_cells, own_in_entries, IsOther, is_piece, Loose, nothing_more, and_piece, IsOver, is_over, is_divider, IsHead, with_no_design, with_design, with_divider, with_timescale, with_timescale_in_two, head_over, no_head, IsCell, Many, none, is_retain, retains, keyword_for, instance_of, unnamed, with_instance, is_empty, is_number, Begun, named, and_value, Strays, first_name, second_name, with_retain, in_value, behind_number, is_entry, is_stray, entry_over, delay_over, spec_over, IsSdfBy, is_sdf}
use Rattle.sdf_reader.specs.Steps.{cause_of, Move, pass, divide_by, scale_from, scale_at, site_mode, closes, next_of}
use Rattle.sdf_reader.specs.Modes.{Entry, State, first_state, to_mode, with_entry, cleared, with_value, numbered_by, moved, step, next, finish, Decides}
use Rattle.sdf_reader.specs.declared.scan.Kind.{Kind}
use Rattle.sdf_reader.specs.declared.scan.Kind.TheVariants as kind
use Rattle.sdf_reader.specs.declared.words.Keyword.{Keyword}
use Rattle.sdf_reader.specs.declared.words.Keyword.TheVariants as key
use Rattle.sdf_reader.specs.declared.modes.Mode.{Mode}
use Rattle.sdf_reader.specs.declared.modes.Mode.TheVariants as mode
use Rattle.sdf_reader.specs.declared.modes.Shape.{Shape}
use Rattle.sdf_reader.specs.declared.modes.Shape.TheVariants as shape
use Rattle.sdf_reader.specs.declared.modes.Site.{Site}
use Rattle.sdf_reader.specs.declared.modes.Site.TheVariants as site
use Rattle.sdf_reader.specs.declared.modes.Action.TheVariants as does_
use Rattle.sdf_reader.specs.Classes as class
use Rattle.sdf_reader.specs.declared.ends.SdfCause.{SdfCause}
use Rattle.sdf_reader.specs.declared.timescales.ScalePlace.{ScalePlace}
use Rattle.sdf_reader.specs.declared.timescales.ScalePlace.TheVariants as place
use Rattle.sdf_reader.specs.declared.rows.Value.{Value}
use Rattle.sdf_reader.specs.declared.rows.SdfRow.{SdfRow}
use Rattle.sdf_reader.specs.declared.timescales.Timescale.{Timescale}
use Rattle.sdf_reader.proofs.ScaleTexts.{read_scale, read_scale_in_two}
use Rattle.sdf_reader.proofs.Taking.{entry_of, one_more}
use Rattle.sdf_reader.proofs.Refusing.{broken_nowhere}
use Rattle.sdf_reader.proofs.Places.{InHeads, in_heads, heads_grow, InCells, in_cells, Typed, is_typed, InCell, in_cell, InDelay, in_delay, InAbsolute, in_absolute, cell_goes_on, delay_goes_on, absolute_grows, absolute_goes_on, absolute_ends, delay_ends, cell_ends, Nest, flat, deeper, nest_piece, nest_group}
use Rattle.sdf_reader.proofs.Clashes.{never, same_ok, never_true}

abbrev state_at : Mode → List SdfRow → Head → List ℕ → Option (List ℕ) → Entry → State
state_at m rows head cell instance entry = record { mode = m; divider = head.divider; scale = head.scale; cell = cell; instance = instance; entry = entry; rows = rows }

-- the entry of these names, as they stand in the file, and values
abbrev entry_in : Head → List ℕ → List ℕ → List Value → Entry
entry_in head from to values = entry_of (canonical head.divider from) (canonical head.divider to) values

-- behind a `)` that is next, the heads are these
abbrev HeadEnds : Head → List Tok → List Tok → Type 0
HeadEnds head from here = (close : Tok) (rest : List Tok) → here ≡ close ∷ rest → Is kind.RightParen close → InHeads head from rest

module _ (IsNumber : Timescale → List ℕ → Value → Type 0) where
  -- behind a form that is passed over
  abbrev Behind : Site → Head → List ℕ → Option (List ℕ) → List SdfRow → List Tok → List Tok → Type 0
  Behind site.Heads head cell instance rows from rest = (rows ≡ []) × InHeads head from rest
  Behind site.Specs head cell instance rows from rest = InCell IsNumber head cell instance rows from rest
  Behind site.Delays head cell instance rows from rest = InDelay IsNumber head cell instance rows from rest
  Behind site.Entries head cell instance rows from rest = InAbsolute IsNumber head cell instance rows from rest

  -- loose tokens from `start` on and a `)` end it
  abbrev OverEnds : Site → Head → List ℕ → Option (List ℕ) → List SdfRow → List Tok → List Tok → Type 0
  OverEnds site head cell instance rows from start = (close : Tok) (rest : List Tok) → Loose start (close ∷ rest) → Is kind.RightParen close → Behind site head cell instance rows from rest

  -- what the tokens up to here are, for what is waited for
  data Meant : State → List Tok → List Tok → Type 0 where
    at_start : {from : List Tok} → Meant first_state from from
    at_file_word : {cell : List ℕ} {instance : Option (List ℕ)} {entry : Entry} {begin : Tok} {here : List Tok} → Is kind.LeftParen begin
        → Meant (state_at mode.FileWord [] plain_head cell instance entry) (begin ∷ here) here
    at_heads : {head : Head} {cell : List ℕ} {instance : Option (List ℕ)} {entry : Entry} {from here : List Tok} → InHeads head from here
        → Meant (state_at mode.Heads [] head cell instance entry) from here
    at_head_word : {head : Head} {cell : List ℕ} {instance : Option (List ℕ)} {entry : Entry} {from here : List Tok} {begin : Tok}
        → InHeads head from (begin ∷ here) → Is kind.LeftParen begin
        → Meant (state_at mode.HeadWord [] head cell instance entry) from here
    at_design : {head : Head} {cell : List ℕ} {instance : Option (List ℕ)} {entry : Entry} {from here : List Tok} {begin keyword : Tok}
        → InHeads head from (begin ∷ keyword ∷ here) → Is kind.LeftParen begin → IsKeyword key.Design keyword
        → Meant (state_at mode.DesignText [] head cell instance entry) from here
    at_divider : {head : Head} {cell : List ℕ} {instance : Option (List ℕ)} {entry : Entry} {from here : List Tok} {begin keyword : Tok}
        → InHeads head from (begin ∷ keyword ∷ here) → Is kind.LeftParen begin → IsKeyword key.Divider keyword
        → Meant (state_at mode.DividerWord [] head cell instance entry) from here
    at_scale : {head : Head} {cell : List ℕ} {instance : Option (List ℕ)} {entry : Entry} {from here : List Tok} {begin keyword : Tok}
        → InHeads head from (begin ∷ keyword ∷ here) → Is kind.LeftParen begin → IsKeyword key.Timescale keyword
        → Meant (state_at mode.ScaleWord [] head cell instance entry) from here
    in_scale : {head : Head} {cell : List ℕ} {instance : Option (List ℕ)} {entry : Entry} {from here : List Tok} {begin keyword word : Tok} {at : ScalePlace}
        → InHeads head from (begin ∷ keyword ∷ word ∷ here) → Is kind.LeftParen begin → IsKeyword key.Timescale keyword → Is kind.Word word → place_behind place.Start word.text.bytes ≡ Some at
        → Meant (state_at (mode.ScaleMore at) [] head cell instance entry) from here
    at_head_end : {head : Head} {cell : List ℕ} {instance : Option (List ℕ)} {entry : Entry} {from here : List Tok} → HeadEnds head from here
        → Meant (state_at mode.HeadEnd [] head cell instance entry) from here
    at_cells : {head : Head} {rows : List SdfRow} {cell : List ℕ} {instance : Option (List ℕ)} {entry : Entry} {from here : List Tok}
        → InCells IsNumber head rows from here
        → Meant (state_at mode.Cells rows head cell instance entry) from here
    at_cell_word : {head : Head} {rows : List SdfRow} {cell : List ℕ} {instance : Option (List ℕ)} {entry : Entry} {from here : List Tok} {begin : Tok}
        → InCells IsNumber head rows from (begin ∷ here) → Is kind.LeftParen begin
        → Meant (state_at mode.CellWord rows head cell instance entry) from here
    at_type_open : {head : Head} {rows : List SdfRow} {cell : List ℕ} {instance : Option (List ℕ)} {entry : Entry} {from here : List Tok} {begin keyword : Tok}
        → InCells IsNumber head rows from (begin ∷ keyword ∷ here) → Is kind.LeftParen begin → IsKeyword key.Cell keyword
        → Meant (state_at mode.TypeOpen rows head cell instance entry) from here
    at_type_word : {head : Head} {rows : List SdfRow} {cell : List ℕ} {instance : Option (List ℕ)} {entry : Entry} {from here : List Tok} {begin keyword begin_type : Tok}
        → InCells IsNumber head rows from (begin ∷ keyword ∷ begin_type ∷ here) → Is kind.LeftParen begin → IsKeyword key.Cell keyword → Is kind.LeftParen begin_type
        → Meant (state_at mode.TypeWord rows head cell instance entry) from here
    at_type_text : {head : Head} {rows : List SdfRow} {cell : List ℕ} {instance : Option (List ℕ)} {entry : Entry} {from here : List Tok} {begin keyword begin_type type_keyword : Tok}
        → InCells IsNumber head rows from (begin ∷ keyword ∷ begin_type ∷ type_keyword ∷ here) → Is kind.LeftParen begin → IsKeyword key.Cell keyword → Is kind.LeftParen begin_type → IsKeyword key.CellType type_keyword
        → Meant (state_at mode.TypeText rows head cell instance entry) from here
    at_type_end : {head : Head} {rows : List SdfRow} {instance : Option (List ℕ)} {entry : Entry} {from here : List Tok} {begin keyword begin_type type_keyword text : Tok}
        → InCells IsNumber head rows from (begin ∷ keyword ∷ begin_type ∷ type_keyword ∷ text ∷ here) → Is kind.LeftParen begin → IsKeyword key.Cell keyword → Is kind.LeftParen begin_type → IsKeyword key.CellType type_keyword → Is kind.Quoted text
        → Meant (state_at mode.TypeEnd rows head (meaning text.text.bytes) instance entry) from here
    at_instance_open : {head : Head} {rows : List SdfRow} {cell : List ℕ} {instance : Option (List ℕ)} {entry : Entry} {from here : List Tok}
        → Typed IsNumber head cell rows from here
        → Meant (state_at mode.InstanceOpen rows head cell instance entry) from here
    at_instance_word : {head : Head} {rows : List SdfRow} {cell : List ℕ} {instance : Option (List ℕ)} {entry : Entry} {from here : List Tok} {begin : Tok}
        → Typed IsNumber head cell rows from (begin ∷ here) → Is kind.LeftParen begin
        → Meant (state_at mode.InstanceWord rows head cell instance entry) from here
    at_instance_name : {head : Head} {rows : List SdfRow} {cell : List ℕ} {instance : Option (List ℕ)} {entry : Entry} {from here : List Tok} {begin keyword : Tok}
        → Typed IsNumber head cell rows from (begin ∷ keyword ∷ here) → Is kind.LeftParen begin → IsKeyword key.Instance keyword
        → Meant (state_at mode.InstanceName rows head cell instance entry) from here
    at_instance_end : {head : Head} {rows : List SdfRow} {cell : List ℕ} {entry : Entry} {from here : List Tok} {begin keyword word : Tok}
        → Typed IsNumber head cell rows from (begin ∷ keyword ∷ word ∷ here) → Is kind.LeftParen begin → IsKeyword key.Instance keyword → Is kind.Word word
        → Meant (state_at mode.InstanceEnd rows head cell (instance_of head.divider word.text.bytes) entry) from here
    at_specs : {head : Head} {rows : List SdfRow} {cell : List ℕ} {instance : Option (List ℕ)} {entry : Entry} {from here : List Tok}
        → InCell IsNumber head cell instance rows from here
        → Meant (state_at mode.Specs rows head cell instance entry) from here
    at_spec_word : {head : Head} {rows : List SdfRow} {cell : List ℕ} {instance : Option (List ℕ)} {entry : Entry} {from here : List Tok} {begin : Tok}
        → InCell IsNumber head cell instance rows from (begin ∷ here) → Is kind.LeftParen begin
        → Meant (state_at mode.SpecWord rows head cell instance entry) from here
    at_delays : {head : Head} {rows : List SdfRow} {cell : List ℕ} {instance : Option (List ℕ)} {entry : Entry} {from here : List Tok}
        → InDelay IsNumber head cell instance rows from here
        → Meant (state_at mode.Delays rows head cell instance entry) from here
    at_delay_word : {head : Head} {rows : List SdfRow} {cell : List ℕ} {instance : Option (List ℕ)} {entry : Entry} {from here : List Tok} {begin : Tok}
        → InDelay IsNumber head cell instance rows from (begin ∷ here) → Is kind.LeftParen begin
        → Meant (state_at mode.DelayWord rows head cell instance entry) from here
    at_entries : {head : Head} {rows : List SdfRow} {cell : List ℕ} {instance : Option (List ℕ)} {entry : Entry} {from here : List Tok}
        → InAbsolute IsNumber head cell instance rows from here
        → Meant (state_at mode.Entries rows head cell instance entry) from here
    at_entry_word : {head : Head} {rows : List SdfRow} {cell : List ℕ} {instance : Option (List ℕ)} {entry : Entry} {from here : List Tok} {begin : Tok}
        → InAbsolute IsNumber head cell instance rows from (begin ∷ here) → Is kind.LeftParen begin
        → Meant (state_at mode.EntryWord rows head cell instance entry) from here
    at_from : {head : Head} {rows : List SdfRow} {cell : List ℕ} {instance : Option (List ℕ)} {shape : Shape} {from here : List Tok} {begin keyword : Tok} {some other : List ℕ}
        → InAbsolute IsNumber head cell instance rows from (begin ∷ keyword ∷ here) → Is kind.LeftParen begin → IsKeyword (keyword_for shape) keyword
        → Meant (state_at (mode.From shape) rows head cell instance (entry_of some other [])) from here
    at_to : {head : Head} {rows : List SdfRow} {cell : List ℕ} {instance : Option (List ℕ)} {shape : Shape} {from here : List Tok} {begin keyword name : Tok} {other : List ℕ}
        → InAbsolute IsNumber head cell instance rows from (begin ∷ keyword ∷ name ∷ here) → Is kind.LeftParen begin → IsKeyword (keyword_for shape) keyword → Is kind.Word name
        → Meant (state_at (mode.To shape) rows head cell instance (entry_of (canonical head.divider name.text.bytes) other [])) from here
    at_first_value : {head : Head} {rows : List SdfRow} {cell : List ℕ} {instance : Option (List ℕ)} {shape : Shape} {from all here : List Tok} {some other : List ℕ}
        → InAbsolute IsNumber head cell instance rows from all → Begun IsNumber head.scale shape all some other [] here
        → Meant (state_at (mode.FirstValue shape) rows head cell instance (entry_in head some other [])) from here
    at_number : {head : Head} {rows : List SdfRow} {cell : List ℕ} {instance : Option (List ℕ)} {shape : Shape} {from all here : List Tok} {some other : List ℕ} {values : List Value} {begin : Tok} {entry : Entry}
        → InAbsolute IsNumber head cell instance rows from all → Begun IsNumber head.scale shape all some other values (begin ∷ here) → Is kind.LeftParen begin
        → entry ≡ entry_in head some other values
        → Meant (state_at (mode.Number shape) rows head cell instance entry) from here
    at_number_end : {head : Head} {rows : List SdfRow} {cell : List ℕ} {instance : Option (List ℕ)} {shape : Shape} {from all here : List Tok} {some other : List ℕ} {values : List Value} {value : Value} {begin word : Tok} {entry : Entry}
        → InAbsolute IsNumber head cell instance rows from all → Begun IsNumber head.scale shape all some other values (begin ∷ word ∷ here) → Is kind.LeftParen begin
        → Is kind.Word word → retains shape word ≡ false → IsNumber head.scale word.text.bytes value
        → entry ≡ entry_in head some other (values ++ value ∷ [])
        → Meant (state_at (mode.NumberEnd shape) rows head cell instance entry) from here
    at_values : {head : Head} {rows : List SdfRow} {cell : List ℕ} {instance : Option (List ℕ)} {shape : Shape} {from all here : List Tok} {some other : List ℕ} {value : Value} {values : List Value} {entry : Entry}
        → InAbsolute IsNumber head cell instance rows from all → Begun IsNumber head.scale shape all some other (value ∷ values) here
        → entry ≡ entry_in head some other (value ∷ values)
        → Meant (state_at (mode.Values shape) rows head cell instance entry) from here
    in_over : {at : Site} {head : Head} {rows : List SdfRow} {cell : List ℕ} {instance : Option (List ℕ)} {depth : ℕ} {entry : Entry} {from start here : List Tok}
        → Nest depth start here → OverEnds at head cell instance rows from start
        → Meant (state_at (mode.Over at depth) rows head cell instance entry) from here
    at_end : {head : Head} {rows : List SdfRow} {cell : List ℕ} {instance : Option (List ℕ)} {entry : Entry} {from here : List Tok}
        → (here ≡ [] → IsSdfBy IsNumber from rows)
        → Meant (state_at mode.End rows head cell instance entry) from here

-- a word that is no keyword of its own
other_word : (own : Keyword → Bool) (token : Tok) (found : Option Keyword) → keyword_in token.text.kind token.text.bytes ≡ found → holds_of own found ≡ false → Is kind.Word token → IsOther own token
other_word own token found is none_own w = (w, ap (holds_of own) (subst (λ (k : Kind). keyword_in k token.text.bytes ≡ found) w is) ∙ none_own)

-- a word that is kept out of an IOPATH is RETAIN
retain_of : (found : Option Keyword) → is_retain shape.Path found ≡ true → found ≡ Some key.Retain
retain_of (Some key.Retain) e = refl
retain_of (Some _) e = never_true e
retain_of None e = never_true e

-- a list with one more at its end has a first
pub split : (values : List Value) (value : Value) → (first : Value) × (others : List Value) × (values ++ value ∷ [] ≡ first ∷ others)
split [] value = (value, [], refl)
split (first ∷ others) value = (first, others ++ value ∷ [], refl)

module _ (IsNumber : Timescale → List ℕ → Value → Type 0) (read : Timescale → List ℕ → Option Value) (decides : Decides IsNumber read) where
  -- an answer leads to this state
  abbrev Gives : Result State SdfCause → State → Type 0
  Gives answer after = answer ≡ Ok after

  becomes : {from here : List Tok} (state after : State) → Gives (Ok state) after → Meant IsNumber state from here → Meant IsNumber after from here
  becomes {from} {here} state after e meant = subst (λ (s : State). Meant IsNumber s from here) (same_ok e) meant

  -- ---- what the token is, where a step was made

  nowhere : {A : Type 0} (k : Kind) (move : Move) (s after : State) (bytes : List ℕ) → move ≡ None → Gives (moved read k move s bytes) after → A
  nowhere k move s after bytes is e = let wrong : Gives (Err (cause_of k)) after = sym (ap (λ (m : Move). moved read k m s bytes) is) ∙ e in never wrong

  -- a token by its class
  by_class : {A : Type 0} (s after : State) (k : Kind) (bytes : List ℕ) → Gives (step read s k bytes) after
      → (k ≡ kind.LeftParen → Gives (moved read kind.LeftParen (next_of s.mode class.Open bytes) s bytes) after → A)
      → (k ≡ kind.RightParen → Gives (moved read kind.RightParen (next_of s.mode class.Close bytes) s bytes) after → A)
      → (k ≡ kind.Quoted → Gives (moved read kind.Quoted (next_of s.mode class.Text bytes) s bytes) after → A)
      → (k ≡ kind.Word → Gives (moved read kind.Word (next_of s.mode (class.Word (keyword_of bytes)) bytes) s bytes) after → A)
      → A
  by_class s after kind.LeftParen bytes e opens closes says word = opens refl e
  by_class s after kind.RightParen bytes e opens closes says word = closes refl e
  by_class s after kind.Quoted bytes e opens closes says word = says refl e
  by_class s after kind.Word bytes e opens closes says word = word refl e
  by_class s after kind.Bad bytes e opens closes says word = nowhere kind.Bad (next_of s.mode class.Broken bytes) s after bytes (broken_nowhere s.mode bytes) e
  by_class s after kind.OpenQuoted bytes e opens closes says word = nowhere kind.OpenQuoted (next_of s.mode class.Broken bytes) s after bytes (broken_nowhere s.mode bytes) e
  by_class s after kind.OpenNote bytes e opens closes says word = nowhere kind.OpenNote (next_of s.mode class.Broken bytes) s after bytes (broken_nowhere s.mode bytes) e

  file_word : (found : Option Keyword) (s after : State) (bytes : List ℕ) → Gives (moved read kind.Word (next_of mode.FileWord (class.Word found) bytes) s bytes) after → (found ≡ Some key.DelayFile) × Gives (Ok (to_mode mode.Heads s)) after
  file_word (Some key.DelayFile) s after bytes e = (refl, e)
  file_word _ s after bytes e = never e

  cell_word : (found : Option Keyword) (s after : State) (bytes : List ℕ) → Gives (moved read kind.Word (next_of mode.CellWord (class.Word found) bytes) s bytes) after → (found ≡ Some key.Cell) × Gives (Ok (to_mode mode.TypeOpen s)) after
  cell_word (Some key.Cell) s after bytes e = (refl, e)
  cell_word _ s after bytes e = never e

  type_word : (found : Option Keyword) (s after : State) (bytes : List ℕ) → Gives (moved read kind.Word (next_of mode.TypeWord (class.Word found) bytes) s bytes) after → (found ≡ Some key.CellType) × Gives (Ok (to_mode mode.TypeText s)) after
  type_word (Some key.CellType) s after bytes e = (refl, e)
  type_word _ s after bytes e = never e

  instance_word : (found : Option Keyword) (s after : State) (bytes : List ℕ) → Gives (moved read kind.Word (next_of mode.InstanceWord (class.Word found) bytes) s bytes) after → (found ≡ Some key.Instance) × Gives (Ok (to_mode mode.InstanceName s)) after
  instance_word (Some key.Instance) s after bytes e = (refl, e)
  instance_word _ s after bytes e = never e

  divided_by : (word : List ℕ) (s after : State) (bytes : List ℕ) → Gives (moved read kind.Word (divide_by word) s bytes) after → (byte : ℕ) × (word ≡ byte ∷ []) × (is_divider byte ≡ true) × Gives (Ok (record s { mode = mode.HeadEnd; divider = byte })) after
  divided_by [] s after bytes e = never e
  divided_by (byte ∷ []) s after bytes e = by (is_divider byte) refl e
    where
      by : (is : Bool) → is_divider byte ≡ is → Gives (moved read kind.Word (cond is (Some (mode.HeadEnd, does_.Divide byte)) None) s bytes) after → (some : ℕ) × (byte ∷ [] ≡ some ∷ []) × (is_divider some ≡ true) × Gives (Ok (record s { mode = mode.HeadEnd; divider = some })) after
      by true is e = (byte, refl, is, e)
      by false is e = never e
  divided_by (byte ∷ next ∷ rest) s after bytes e = never e

  scaled : (k : Kind) (behind : Mode) (found : Option ScalePlace) (s after : State) (bytes : List ℕ) → Gives (moved read k (scale_at behind found) s bytes) after → (scale : Timescale) × (found ≡ Some (place.Done scale)) × Gives (Ok (record s { mode = behind; scale = scale })) after
  scaled k behind (Some (place.Done scale)) s after bytes e = (scale, refl, e)
  scaled k behind _ s after bytes e = never e

  scale_begun : (found : Option ScalePlace) (s after : State) (bytes : List ℕ) → Gives (moved read kind.Word (scale_from found) s bytes) after → (at : ScalePlace) × (found ≡ Some at) × Gives (Ok (to_mode (mode.ScaleMore at) s)) after
  scale_begun (Some at) s after bytes e = (at, refl, e)
  scale_begun None s after bytes e = never e

  numbered : (found : Option Value) (s after : State) → Gives (numbered_by found s) after → (value : Value) × (found ≡ Some value) × Gives (Ok (with_entry (with_value value s.entry) s)) after
  numbered (Some value) s after e = (value, refl, e)
  numbered None s after e = never e

  -- ---- forms that are passed over

  passes : (at : Site) {head : Head} {rows : List SdfRow} {cell : List ℕ} {instance : Option (List ℕ)} {entry : Entry} {from here : List Tok} {begin token : Tok} (s after : State) (own : Keyword → Bool) (found : Option Keyword)
      → s ≡ state_at s.mode rows head cell instance entry
      → Is kind.LeftParen begin → keyword_in token.text.kind token.text.bytes ≡ found → Is kind.Word token → holds_of own found ≡ false
      → ((rest : List Tok) → IsOver own (begin ∷ token ∷ here) rest → Behind IsNumber at head cell instance rows from rest)
      → Gives (moved read kind.Word (pass at 0) s token.text.bytes) after → Meant IsNumber after from here
  passes at {head} {rows} {cell} {instance} {entry} {from} {here} {token = token} s after own found same b is w none_own behind e =
      let e' : Gives (moved read kind.Word (pass at 0) (state_at s.mode rows head cell instance entry) token.text.bytes) after = subst (λ (x : State). Gives (moved read kind.Word (pass at 0) x token.text.bytes) after) same e in
      becomes (state_at (mode.Over at 0) rows head cell instance entry) after e'
      (in_over (flat nothing_more) (λ close rest within c. behind rest (is_over b (other_word own token found is none_own w) within c)))

  -- ---- the heads

  a_head : (cell : List ℕ) (instance : Option (List ℕ)) (entry : Entry) {head : Head} {from here : List Tok} {begin token : Tok} {after : State} (found : Option Keyword)
      → InHeads head from (begin ∷ token ∷ here) → Is kind.LeftParen begin → keyword_in token.text.kind token.text.bytes ≡ found → Is kind.Word token
      → Gives (moved read kind.Word (next_of mode.HeadWord (class.Word found) token.text.bytes) (state_at mode.HeadWord [] head cell instance entry) token.text.bytes) after → Meant IsNumber after from here
  a_head cell instance entry {head = head} {after = after} (Some key.Design) inside b is w e = becomes (state_at mode.DesignText [] head cell instance entry) after e (at_design inside b is)
  a_head cell instance entry {head = head} {after = after} (Some key.Divider) inside b is w e = becomes (state_at mode.DividerWord [] head cell instance entry) after e (at_divider inside b is)
  a_head cell instance entry {head = head} {after = after} (Some key.Timescale) inside b is w e = becomes (state_at mode.ScaleWord [] head cell instance entry) after e (at_scale inside b is)
  a_head cell instance entry {head = head} {after = after} (Some key.Cell) inside b is w e = becomes (state_at mode.TypeOpen [] head cell instance entry) after e (at_type_open (in_cells inside none) b is)
  a_head cell instance entry {head = head} {after = after} (Some _) inside b is w e =
      passes site.Heads (state_at mode.HeadWord [] head cell instance entry) after own_in_heads _ refl b is w refl (λ rest over. (refl, heads_grow inside (head_over over))) e
  a_head cell instance entry {head = head} {after = after} None inside b is w e =
      passes site.Heads (state_at mode.HeadWord [] head cell instance entry) after own_in_heads None refl b is w refl (λ rest over. (refl, heads_grow inside (head_over over))) e

  -- a head that a `)` ends
  ends_with : {before after : Head} {from here : List Tok} {begin keyword : Tok} → ((close : Tok) (rest : List Tok) → here ≡ close ∷ rest → Is kind.RightParen close → IsHead (begin ∷ keyword ∷ here) before after rest)
      → InHeads before from (begin ∷ keyword ∷ here) → HeadEnds after from here
  ends_with is inside close rest e c = heads_grow inside (is close rest e c)

  a_design : (cell : List ℕ) (instance : Option (List ℕ)) (entry : Entry) {head : Head} {from here : List Tok} {begin keyword token : Tok} {after : State} (k : Kind) → token.text.kind ≡ k
      → InHeads head from (begin ∷ keyword ∷ token ∷ here) → Is kind.LeftParen begin → IsKeyword key.Design keyword
      → Gives (step read (state_at mode.DesignText [] head cell instance entry) k token.text.bytes) after → Meant IsNumber after from here
  a_design cell instance entry {head = head} {from = from} {here = here} {begin = begin} {keyword = keyword} {token = token} {after = after} kind.Quoted is inside b k e =
      becomes (state_at mode.HeadEnd [] head cell instance entry) after e
      (at_head_end (λ close rest same c. heads_grow inside (subst (λ (l : List Tok). IsHead (begin ∷ keyword ∷ token ∷ l) head head rest) (sym same) (with_design b k is c))))
  a_design cell instance entry {head = head} {after = after} kind.RightParen is inside b k e =
      becomes (state_at mode.Heads [] head cell instance entry) after e (at_heads (heads_grow inside (with_no_design b k is)))
  a_design cell instance entry _ is inside b k e = never e

  a_divider : (cell : List ℕ) (instance : Option (List ℕ)) (entry : Entry) {head : Head} {from here : List Tok} {begin keyword token : Tok} {after : State} (k : Kind) → token.text.kind ≡ k
      → InHeads head from (begin ∷ keyword ∷ token ∷ here) → Is kind.LeftParen begin → IsKeyword key.Divider keyword
      → Gives (step read (state_at mode.DividerWord [] head cell instance entry) k token.text.bytes) after → Meant IsNumber after from here
  a_divider cell instance entry {head = head} {from = from} {here = here} {begin = begin} {keyword = keyword} {token = token} {after = after} kind.Word is inside b k e =
      let found = divided_by token.text.bytes (state_at mode.DividerWord [] head cell instance entry) after token.text.bytes e in
      let now : Head = record { divider = found.0; scale = head.scale } in
      becomes (state_at mode.HeadEnd [] now cell instance entry) after found.3
      (at_head_end (λ close rest same c. heads_grow inside (subst (λ (l : List Tok). IsHead (begin ∷ keyword ∷ token ∷ l) head now rest) (sym same) (with_divider b k is found.1 found.2 c))))
  a_divider cell instance entry _ is inside b k e = never e

  a_scale : (cell : List ℕ) (instance : Option (List ℕ)) (entry : Entry) {head : Head} {from here : List Tok} {begin keyword token : Tok} {after : State} (k : Kind) → token.text.kind ≡ k
      → InHeads head from (begin ∷ keyword ∷ token ∷ here) → Is kind.LeftParen begin → IsKeyword key.Timescale keyword
      → Gives (step read (state_at mode.ScaleWord [] head cell instance entry) k token.text.bytes) after → Meant IsNumber after from here
  a_scale cell instance entry {head = head} {token = token} {after = after} kind.Word is inside b k e =
      let found = scale_begun (place_behind place.Start token.text.bytes) (state_at mode.ScaleWord [] head cell instance entry) after token.text.bytes e in
      becomes (state_at (mode.ScaleMore found.0) [] head cell instance entry) after found.2 (in_scale inside b k is found.1)
  a_scale cell instance entry _ is inside b k e = never e

  a_scale_end : (cell : List ℕ) (instance : Option (List ℕ)) (entry : Entry) {head : Head} {from here : List Tok} {begin keyword word token : Tok} {at : ScalePlace} {after : State} (k : Kind) → token.text.kind ≡ k
      → InHeads head from (begin ∷ keyword ∷ word ∷ token ∷ here) → Is kind.LeftParen begin → IsKeyword key.Timescale keyword → Is kind.Word word → place_behind place.Start word.text.bytes ≡ Some at
      → Gives (step read (state_at (mode.ScaleMore at) [] head cell instance entry) k token.text.bytes) after → Meant IsNumber after from here
  a_scale_end cell instance entry {head = head} {word = word} {token = token} {at = at} {after = after} kind.RightParen is inside b k w first e =
      let found = scaled kind.RightParen mode.Heads (Some at) (state_at (mode.ScaleMore at) [] head cell instance entry) after token.text.bytes e in
      let now : Head = record { divider = head.divider; scale = found.0 } in
      becomes (state_at mode.Heads [] now cell instance entry) after found.2
      (at_heads (heads_grow inside (with_timescale b k w (read_scale word.text.bytes found.0 (first ∙ found.1)) is)))
  a_scale_end cell instance entry {head = head} {from = from} {here = here} {begin = begin} {keyword = keyword} {word = word} {token = token} {at = at} {after = after} kind.Word is inside b k w first e =
      let found = scaled kind.Word mode.HeadEnd (place_behind at token.text.bytes) (state_at (mode.ScaleMore at) [] head cell instance entry) after token.text.bytes e in
      let now : Head = record { divider = head.divider; scale = found.0 } in
      becomes (state_at mode.HeadEnd [] now cell instance entry) after found.2
      (at_head_end (λ close rest same c. heads_grow inside (subst (λ (l : List Tok). IsHead (begin ∷ keyword ∷ word ∷ token ∷ l) head now rest) (sym same)
      (with_timescale_in_two b k w is (read_scale_in_two word.text.bytes token.text.bytes at found.0 first found.1) c))))
  a_scale_end cell instance entry _ is inside b k w first e = never e

  -- the `)` of the file
  file_ends : {head : Head} {rows : List SdfRow} {from here : List Tok} {close : Tok} → InCells IsNumber head rows from (close ∷ here) → Is kind.RightParen close → here ≡ [] → IsSdfBy IsNumber from rows
  file_ends {head} {rows} {close = close} (in_cells {middle = middle} (in_heads b k heads) cells) c same =
      is_sdf b k heads (subst (λ (l : List Tok). Many (IsCell IsNumber head) middle rows (close ∷ l)) same cells) c

  -- ---- cells

  an_instance : (instance : Option (List ℕ)) (entry : Entry) {head : Head} {rows : List SdfRow} {cell : List ℕ} {from here : List Tok} {begin keyword token : Tok} {after : State} (k : Kind) → token.text.kind ≡ k
      → Typed IsNumber head cell rows from (begin ∷ keyword ∷ token ∷ here) → Is kind.LeftParen begin → IsKeyword key.Instance keyword
      → Gives (step read (state_at mode.InstanceName rows head cell instance entry) k token.text.bytes) after → Meant IsNumber after from here
  an_instance instance entry {head = head} {rows = rows} {cell = cell} {token = token} {after = after} kind.Word is inside b k e =
      becomes (state_at mode.InstanceEnd rows head cell (instance_of head.divider token.text.bytes) entry) after e (at_instance_end inside b k is)
  an_instance instance entry {head = head} {rows = rows} {cell = cell} {after = after} kind.RightParen is inside b k e =
      becomes (state_at mode.Specs rows head cell (Some []) entry) after e (at_specs (in_cell inside (unnamed b k is) none (sym (append-nil rows))))
  an_instance instance entry _ is inside b k e = never e

  a_spec : (entry : Entry) {head : Head} {rows : List SdfRow} {cell : List ℕ} {instance : Option (List ℕ)} {from here : List Tok} {begin token : Tok} {after : State} (found : Option Keyword)
      → InCell IsNumber head cell instance rows from (begin ∷ token ∷ here) → Is kind.LeftParen begin → keyword_in token.text.kind token.text.bytes ≡ found → Is kind.Word token
      → Gives (moved read kind.Word (next_of mode.SpecWord (class.Word found) token.text.bytes) (state_at mode.SpecWord rows head cell instance entry) token.text.bytes) after → Meant IsNumber after from here
  a_spec entry {head = head} {rows = rows} {cell = cell} {instance = instance} {after = after} (Some key.Delay) inside b is w e =
      becomes (state_at mode.Delays rows head cell instance entry) after e (at_delays (in_delay inside b is none (sym (append-nil rows))))
  a_spec entry {head = head} {rows = rows} {cell = cell} {instance = instance} {token = token} {after = after} (Some key.Absolute) inside b is w e = never e
  a_spec entry {head = head} {rows = rows} {cell = cell} {instance = instance} {after = after} (Some _) inside b is w e =
      passes site.Specs (state_at mode.SpecWord rows head cell instance entry) after own_in_cells _ refl b is w refl (λ rest over. cell_goes_on IsNumber head cell instance inside (spec_over over)) e
  a_spec entry {head = head} {rows = rows} {cell = cell} {instance = instance} {after = after} None inside b is w e =
      passes site.Specs (state_at mode.SpecWord rows head cell instance entry) after own_in_cells None refl b is w refl (λ rest over. cell_goes_on IsNumber head cell instance inside (spec_over over)) e

  a_delay : (entry : Entry) {head : Head} {rows : List SdfRow} {cell : List ℕ} {instance : Option (List ℕ)} {from here : List Tok} {begin token : Tok} {after : State} (found : Option Keyword)
      → InDelay IsNumber head cell instance rows from (begin ∷ token ∷ here) → Is kind.LeftParen begin → keyword_in token.text.kind token.text.bytes ≡ found → Is kind.Word token
      → Gives (moved read kind.Word (next_of mode.DelayWord (class.Word found) token.text.bytes) (state_at mode.DelayWord rows head cell instance entry) token.text.bytes) after → Meant IsNumber after from here
  a_delay entry {head = head} {rows = rows} {cell = cell} {instance = instance} {after = after} (Some key.Absolute) inside b is w e =
      becomes (state_at mode.Entries rows head cell instance entry) after e (at_entries (in_absolute inside b is none (sym (append-nil rows))))
  a_delay entry {head = head} {rows = rows} {cell = cell} {instance = instance} {token = token} {after = after} (Some key.Delay) inside b is w e = never e
  a_delay entry {head = head} {rows = rows} {cell = cell} {instance = instance} {after = after} (Some _) inside b is w e =
      passes site.Delays (state_at mode.DelayWord rows head cell instance entry) after own_in_cells _ refl b is w refl (λ rest over. delay_goes_on IsNumber head cell instance inside (delay_over over)) e
  a_delay entry {head = head} {rows = rows} {cell = cell} {instance = instance} {after = after} None inside b is w e =
      passes site.Delays (state_at mode.DelayWord rows head cell instance entry) after own_in_cells None refl b is w refl (λ rest over. delay_goes_on IsNumber head cell instance inside (delay_over over)) e

  -- ---- entries

  an_entry : (entry : Entry) {head : Head} {rows : List SdfRow} {cell : List ℕ} {instance : Option (List ℕ)} {from here : List Tok} {begin token : Tok} {after : State} (found : Option Keyword)
      → InAbsolute IsNumber head cell instance rows from (begin ∷ token ∷ here) → Is kind.LeftParen begin → keyword_in token.text.kind token.text.bytes ≡ found → Is kind.Word token
      → Gives (moved read kind.Word (next_of mode.EntryWord (class.Word found) token.text.bytes) (state_at mode.EntryWord rows head cell instance entry) token.text.bytes) after → Meant IsNumber after from here
  an_entry entry {head = head} {rows = rows} {cell = cell} {instance = instance} {after = after} (Some key.IoPath) inside b is w e =
      becomes (state_at (mode.From shape.Path) rows head cell instance (entry_of entry.from entry.to [])) after e (at_from {shape = shape.Path} inside b is)
  an_entry entry {head = head} {rows = rows} {cell = cell} {instance = instance} {after = after} (Some key.Interconnect) inside b is w e =
      becomes (state_at (mode.From shape.Wire) rows head cell instance (entry_of entry.from entry.to [])) after e (at_from {shape = shape.Wire} inside b is)
  an_entry entry {head = head} {rows = rows} {cell = cell} {instance = instance} {after = after} (Some _) inside b is w e =
      passes site.Entries (state_at mode.EntryWord rows head cell instance entry) after own_in_entries _ refl b is w refl (λ rest over. absolute_goes_on IsNumber head cell instance inside (entry_over over)) e
  an_entry entry {head = head} {rows = rows} {cell = cell} {instance = instance} {after = after} None inside b is w e =
      passes site.Entries (state_at mode.EntryWord rows head cell instance entry) after own_in_entries None refl b is w refl (λ rest over. absolute_goes_on IsNumber head cell instance inside (entry_over over)) e

  -- an entry that is passed over
  strays : {head : Head} {rows : List SdfRow} {cell : List ℕ} {instance : Option (List ℕ)} {depth : ℕ} {entry : Entry} {from all start here : List Tok}
      → InAbsolute IsNumber head cell instance rows from all → Strays IsNumber head.scale all start → Nest depth start here
      → Meant IsNumber (state_at (mode.Over site.Entries depth) rows head cell instance entry) from here
  strays {head} {rows} {cell} {instance} inside strange nest = in_over nest (λ close rest within c. absolute_goes_on IsNumber head cell instance inside (is_stray strange within c))

  a_from : (some : List ℕ) (other : List ℕ) {head : Head} {rows : List SdfRow} {cell : List ℕ} {instance : Option (List ℕ)} {from here : List Tok} {begin keyword token : Tok} {after : State} (shape : Shape) (k : Kind) → token.text.kind ≡ k
      → InAbsolute IsNumber head cell instance rows from (begin ∷ keyword ∷ token ∷ here) → Is kind.LeftParen begin → IsKeyword (keyword_for shape) keyword
      → Gives (step read (state_at (mode.From shape) rows head cell instance (entry_of some other [])) k token.text.bytes) after → Meant IsNumber after from here
  a_from some other {head = head} {rows = rows} {cell = cell} {instance = instance} {token = token} {after = after} shape kind.Word is inside b k e =
      becomes (state_at (mode.To shape) rows head cell instance (entry_of (canonical head.divider token.text.bytes) other [])) after e (at_to inside b k is)
  a_from some other {head = head} {rows = rows} {cell = cell} {instance = instance} {after = after} shape.Path kind.LeftParen is inside b k e =
      becomes (state_at (mode.Over site.Entries 1) rows head cell instance (entry_of some other [])) after e (strays inside (first_name b k is) (deeper (flat nothing_more) is nothing_more))
  a_from some other shape.Wire kind.LeftParen is inside b k e = never e
  a_from some other shape _ is inside b k e = never e

  a_to : (other : List ℕ) {head : Head} {rows : List SdfRow} {cell : List ℕ} {instance : Option (List ℕ)} {from here : List Tok} {begin keyword name token : Tok} {after : State} (shape : Shape) (k : Kind) → token.text.kind ≡ k
      → InAbsolute IsNumber head cell instance rows from (begin ∷ keyword ∷ name ∷ token ∷ here) → Is kind.LeftParen begin → IsKeyword (keyword_for shape) keyword → Is kind.Word name
      → Gives (step read (state_at (mode.To shape) rows head cell instance (entry_of (canonical head.divider name.text.bytes) other [])) k token.text.bytes) after → Meant IsNumber after from here
  a_to other {head = head} {rows = rows} {cell = cell} {instance = instance} {name = name} {token = token} {after = after} shape kind.Word is inside b k n e =
      becomes (state_at (mode.FirstValue shape) rows head cell instance (entry_in head name.text.bytes token.text.bytes [])) after e (at_first_value inside (named b k n is))
  a_to other {head = head} {rows = rows} {cell = cell} {instance = instance} {name = name} {after = after} shape.Path kind.LeftParen is inside b k n e =
      becomes (state_at (mode.Over site.Entries 1) rows head cell instance (entry_of (canonical head.divider name.text.bytes) other [])) after e (strays inside (second_name b k n is) (deeper (flat nothing_more) is nothing_more))
  a_to other shape.Wire kind.LeftParen is inside b k n e = never e
  a_to other shape _ is inside b k n e = never e

  -- a value more
  value_kept : (values : List Value) (value : Value) {head : Head} {rows : List SdfRow} {cell : List ℕ} {instance : Option (List ℕ)} {entry : Entry} {from all here : List Tok} {some other : List ℕ} (shape : Shape)
      → InAbsolute IsNumber head cell instance rows from all → Begun IsNumber head.scale shape all some other (values ++ value ∷ []) here → entry ≡ entry_in head some other (values ++ value ∷ [])
      → Meant IsNumber (state_at (mode.Values shape) rows head cell instance entry) from here
  value_kept values value {head = head} {all = all} {here = here} {some = some} {other = other} shape inside begins e =
      let parts = split values value in
      at_values inside (subst (λ (l : List Value). Begun IsNumber head.scale shape all some other l here) parts.2 begins) (e ∙ ap (λ l. entry_in head some other l) parts.2)

  -- the entry with a value more
  kept_is : (head : Head) (entry : Entry) (some other : List ℕ) (values : List Value) (value : Value) → entry ≡ entry_in head some other values → with_value value entry ≡ entry_in head some other (values ++ value ∷ [])
  kept_is head entry some other values value e = ap (with_value value) e ∙ one_more (canonical head.divider some) (canonical head.divider other) values value

  a_word : {head : Head} {rows : List SdfRow} {cell : List ℕ} {instance : Option (List ℕ)} {entry : Entry} {from all here : List Tok} {begin token : Tok} {some other : List ℕ} {values : List Value} {after : State} (shape : Shape) (retain : Bool)
      → is_retain shape (keyword_of token.text.bytes) ≡ retain → Is kind.Word token
      → InAbsolute IsNumber head cell instance rows from all → Begun IsNumber head.scale shape all some other values (begin ∷ token ∷ here) → Is kind.LeftParen begin
      → entry ≡ entry_in head some other values
      → Gives (moved read kind.Word (cond retain (pass site.Entries 1) (Some (mode.NumberEnd shape, does_.Number))) (state_at (mode.Number shape) rows head cell instance entry) token.text.bytes) after → Meant IsNumber after from here
  a_word {head = head} {rows = rows} {cell = cell} {instance = instance} {entry = entry} {token = token} {some = some} {other = other} {values = values} {after = after} shape false keeps_on w inside begins b same e =
      let found = numbered (read head.scale token.text.bytes) (state_at (mode.NumberEnd shape) rows head cell instance entry) after e in
      let keeps : retains shape token ≡ false = ap (λ k. is_retain shape (keyword_in k token.text.bytes)) w ∙ keeps_on in
      becomes (state_at (mode.NumberEnd shape) rows head cell instance (with_value found.0 entry)) after found.2
      (at_number_end inside begins b w keeps (decides.means head.scale token.text.bytes found.0 found.1) (kept_is head entry some other values found.0 same))
  a_word {head = head} {rows = rows} {cell = cell} {instance = instance} {entry = entry} {token = token} {after = after} shape.Path true is w inside begins b same e =
      becomes (state_at (mode.Over site.Entries 1) rows head cell instance entry) after e
      (strays inside (with_retain begins b (ap (λ (k : Kind). keyword_in k token.text.bytes) w ∙ retain_of (keyword_of token.text.bytes) is)) (deeper (flat nothing_more) b (and_piece nothing_more (ap is_piece w))))
  a_word shape.Wire true is w inside begins b same e = never_true is

  a_number : {head : Head} {rows : List SdfRow} {cell : List ℕ} {instance : Option (List ℕ)} {entry : Entry} {from all here : List Tok} {begin token : Tok} {some other : List ℕ} {values : List Value} {after : State} (shape : Shape) (k : Kind) → token.text.kind ≡ k
      → InAbsolute IsNumber head cell instance rows from all → Begun IsNumber head.scale shape all some other values (begin ∷ token ∷ here) → Is kind.LeftParen begin
      → entry ≡ entry_in head some other values
      → Gives (step read (state_at (mode.Number shape) rows head cell instance entry) k token.text.bytes) after → Meant IsNumber after from here
  a_number {head = head} {rows = rows} {cell = cell} {instance = instance} {entry = entry} {some = some} {other = other} {values = values} {after = after} shape kind.RightParen is inside begins b same e =
      becomes (state_at (mode.Values shape) rows head cell instance (with_value no_value entry)) after e
      (value_kept values no_value shape inside (and_value begins (is_empty b is)) (kept_is head entry some other values no_value same))
  a_number {head = head} {rows = rows} {cell = cell} {instance = instance} {entry = entry} {after = after} shape kind.LeftParen is inside begins b same e =
      becomes (state_at (mode.Over site.Entries 2) rows head cell instance entry) after e (strays inside (in_value begins b is) (deeper (deeper (flat nothing_more) b nothing_more) is nothing_more))
  a_number {token = token} shape kind.Word is inside begins b same e = a_word shape (is_retain shape (keyword_of token.text.bytes)) refl is inside begins b same e
  a_number shape _ is inside begins b same e = never e

  a_number_end : {head : Head} {rows : List SdfRow} {cell : List ℕ} {instance : Option (List ℕ)} {entry : Entry} {from all here : List Tok} {begin word token : Tok} {some other : List ℕ} {values : List Value} {value : Value} {after : State} (shape : Shape) (k : Kind) → token.text.kind ≡ k
      → InAbsolute IsNumber head cell instance rows from all → Begun IsNumber head.scale shape all some other values (begin ∷ word ∷ token ∷ here) → Is kind.LeftParen begin
      → Is kind.Word word → retains shape word ≡ false → IsNumber head.scale word.text.bytes value
      → entry ≡ entry_in head some other (values ++ value ∷ [])
      → Gives (step read (state_at (mode.NumberEnd shape) rows head cell instance entry) k token.text.bytes) after → Meant IsNumber after from here
  a_number_end {head = head} {rows = rows} {cell = cell} {instance = instance} {entry = entry} {values = values} {value = value} {after = after} shape kind.RightParen is inside begins b w keeps number same e =
      becomes (state_at (mode.Values shape) rows head cell instance entry) after e (value_kept values value shape inside (and_value begins (is_number b w keeps number is)) same)
  a_number_end {head = head} {rows = rows} {cell = cell} {instance = instance} {entry = entry} {after = after} shape kind.LeftParen is inside begins b w keeps number same e =
      becomes (state_at (mode.Over site.Entries 2) rows head cell instance entry) after e
      (strays inside (behind_number begins b w keeps number is) (deeper (deeper (flat nothing_more) b (and_piece nothing_more (ap is_piece w))) is nothing_more))
  a_number_end shape _ is inside begins b w keeps number same e = never e

  behind_values : {head : Head} {rows : List SdfRow} {cell : List ℕ} {instance : Option (List ℕ)} {entry : Entry} {from all here : List Tok} {token : Tok} {some other : List ℕ} {value : Value} {values : List Value} {after : State} (shape : Shape) (k : Kind) → token.text.kind ≡ k
      → InAbsolute IsNumber head cell instance rows from all → Begun IsNumber head.scale shape all some other (value ∷ values) (token ∷ here)
      → entry ≡ entry_in head some other (value ∷ values)
      → Gives (step read (state_at (mode.Values shape) rows head cell instance entry) k token.text.bytes) after → Meant IsNumber after from here
  behind_values {head = head} {rows = rows} {cell = cell} {instance = instance} {entry = entry} {after = after} shape kind.LeftParen is inside begins same e =
      becomes (state_at (mode.Number shape) rows head cell instance entry) after e (at_number inside begins is same)
  behind_values {head = head} {rows = rows} {cell = cell} {instance = instance} {entry = entry} {from = from} {here = here} {after = after} shape kind.RightParen is inside begins same e =
      becomes (state_at mode.Entries (rows ++ rows_in shape cell instance entry.from entry.to entry.rise entry.fall) head cell instance (cleared entry)) after e
      (at_entries (subst (λ (x : Entry). InAbsolute IsNumber head cell instance (rows ++ rows_in shape cell instance x.from x.to x.rise x.fall) from here) (sym same)
      (absolute_grows IsNumber head cell instance inside (is_entry begins is))))
  behind_values shape _ is inside begins same e = never e

  -- ---- in a form that is passed over

  over_ended : (at : Site) {head : Head} {rows : List SdfRow} {cell : List ℕ} {instance : Option (List ℕ)} {entry : Entry} {from here : List Tok} → Behind IsNumber at head cell instance rows from here
      → Meant IsNumber (state_at (site_mode at) rows head cell instance entry) from here
  over_ended site.Heads {head} {rows} {cell} {instance} {entry} {from} {here} behind = subst (λ (r : List SdfRow). Meant IsNumber (state_at mode.Heads r head cell instance entry) from here) (sym behind.0) (at_heads behind.1)
  over_ended site.Specs behind = at_specs behind
  over_ended site.Delays behind = at_delays behind
  over_ended site.Entries behind = at_entries behind

  over_closes : (at : Site) (head : Head) (rows : List SdfRow) (cell : List ℕ) (instance : Option (List ℕ)) (entry : Entry) {depth : ℕ} {from start here : List Tok} {token : Tok} {after : State} → Is kind.RightParen token
      → Nest depth start (token ∷ here) → OverEnds IsNumber at head cell instance rows from start
      → Gives (moved read kind.RightParen (closes at depth) (state_at (mode.Over at depth) rows head cell instance entry) token.text.bytes) after → Meant IsNumber after from here
  over_closes at head rows cell instance entry {here = here} {token = token} {after = after} is (flat loose) ends e =
      becomes (state_at (site_mode at) rows head cell instance entry) after e (over_ended at (ends token here loose is))
  over_closes at head rows cell instance entry {after = after} is (deeper {depth = depth} nest b loose) ends e =
      becomes (state_at (mode.Over at depth) rows head cell instance entry) after e (in_over (nest_group nest b loose is) ends)

  over_moves : (at : Site) (head : Head) (rows : List SdfRow) (cell : List ℕ) (instance : Option (List ℕ)) (entry : Entry) {depth : ℕ} {from start here : List Tok} {token : Tok} {after : State} (k : Kind) → token.text.kind ≡ k
      → Nest depth start (token ∷ here) → OverEnds IsNumber at head cell instance rows from start
      → Gives (step read (state_at (mode.Over at depth) rows head cell instance entry) k token.text.bytes) after → Meant IsNumber after from here
  over_moves at head rows cell instance entry {depth} {after = after} kind.Word is nest ends e = becomes (state_at (mode.Over at depth) rows head cell instance entry) after e (in_over (nest_piece nest (ap is_piece is)) ends)
  over_moves at head rows cell instance entry {depth} {after = after} kind.Quoted is nest ends e = becomes (state_at (mode.Over at depth) rows head cell instance entry) after e (in_over (nest_piece nest (ap is_piece is)) ends)
  over_moves at head rows cell instance entry {depth} {after = after} kind.LeftParen is nest ends e = becomes (state_at (mode.Over at (suc depth)) rows head cell instance entry) after e (in_over (deeper nest is nothing_more) ends)
  over_moves at head rows cell instance entry kind.RightParen is nest ends e = over_closes at head rows cell instance entry is nest ends e
  over_moves at head rows cell instance entry _ is nest ends e = never e

  -- ---- one token more

  moves : (s after : State) {from here : List Tok} (token : Tok) → Meant IsNumber s from (token ∷ here) → Gives (next read s token) after → Meant IsNumber after from here
  moves s after token at_start e =
      by_class s after token.text.kind token.text.bytes e (λ is e'. becomes (to_mode mode.FileWord s) after e' (at_file_word is)) (λ is e'. never e') (λ is e'. never e') (λ is e'. never e')
  moves s after token (at_file_word b) e =
      by_class s after token.text.kind token.text.bytes e (λ is e'. never e') (λ is e'. never e') (λ is e'. never e') (λ is e'. let found = file_word (keyword_of token.text.bytes) s after token.text.bytes e' in becomes (to_mode mode.Heads s) after found.1 (at_heads (in_heads b ((ap (λ (k : Kind). keyword_in k token.text.bytes) is) ∙ found.0) no_head)))
  moves s after {from} {here} token (at_heads {head = head} inside) e =
      by_class s after token.text.kind token.text.bytes e (λ is e'. becomes (to_mode mode.HeadWord s) after e' (at_head_word inside is)) (λ is e'. becomes (to_mode mode.End s) after e' (at_end (file_ends (in_cells inside none) is))) (λ is e'. never e') (λ is e'. never e')
  moves s after token (at_head_word inside b) e =
      by_class s after token.text.kind token.text.bytes e (λ is e'. never e') (λ is e'. never e') (λ is e'. never e') (λ is e'. a_head _ _ _ (keyword_of token.text.bytes) inside b (ap (λ (k : Kind). keyword_in k token.text.bytes) is) is e')
  moves s after token (at_design inside b k) e = a_design _ _ _ token.text.kind refl inside b k e
  moves s after token (at_divider inside b k) e = a_divider _ _ _ token.text.kind refl inside b k e
  moves s after token (at_scale inside b k) e = a_scale _ _ _ token.text.kind refl inside b k e
  moves s after token (in_scale inside b k w first) e = a_scale_end _ _ _ token.text.kind refl inside b k w first e
  moves s after {here = here} token (at_head_end ends) e =
      by_class s after token.text.kind token.text.bytes e (λ is e'. never e') (λ is e'. becomes (to_mode mode.Heads s) after e' (at_heads (ends token here refl is))) (λ is e'. never e') (λ is e'. never e')
  moves s after {from} {here} token (at_cells {head = head} {rows = rows} inside) e =
      by_class s after token.text.kind token.text.bytes e (λ is e'. becomes (to_mode mode.CellWord s) after e' (at_cell_word inside is)) (λ is e'. becomes (to_mode mode.End s) after e' (at_end (file_ends inside is))) (λ is e'. never e') (λ is e'. never e')
  moves s after token (at_cell_word inside b) e =
      by_class s after token.text.kind token.text.bytes e (λ is e'. never e') (λ is e'. never e') (λ is e'. never e') (λ is e'. let found = cell_word (keyword_of token.text.bytes) s after token.text.bytes e' in becomes (to_mode mode.TypeOpen s) after found.1 (at_type_open inside b ((ap (λ (k : Kind). keyword_in k token.text.bytes) is) ∙ found.0)))
  moves s after token (at_type_open inside b k) e =
      by_class s after token.text.kind token.text.bytes e (λ is e'. becomes (to_mode mode.TypeWord s) after e' (at_type_word inside b k is)) (λ is e'. never e') (λ is e'. never e') (λ is e'. never e')
  moves s after token (at_type_word inside b k bt) e =
      by_class s after token.text.kind token.text.bytes e (λ is e'. never e') (λ is e'. never e') (λ is e'. never e') (λ is e'. let found = type_word (keyword_of token.text.bytes) s after token.text.bytes e' in becomes (to_mode mode.TypeText s) after found.1 (at_type_text inside b k bt ((ap (λ (k : Kind). keyword_in k token.text.bytes) is) ∙ found.0)))
  moves s after token (at_type_text inside b k bt tk) e =
      by_class s after token.text.kind token.text.bytes e (λ is e'. never e') (λ is e'. never e') (λ is e'. becomes (record s { mode = mode.TypeEnd; cell = meaning token.text.bytes }) after e' (at_type_end inside b k bt tk is)) (λ is e'. never e')
  moves s after token (at_type_end inside b k bt tk t) e =
      by_class s after token.text.kind token.text.bytes e (λ is e'. never e') (λ is e'. becomes (to_mode mode.InstanceOpen s) after e' (at_instance_open (is_typed inside b k bt tk t is refl))) (λ is e'. never e') (λ is e'. never e')
  moves s after token (at_instance_open inside) e =
      by_class s after token.text.kind token.text.bytes e (λ is e'. becomes (to_mode mode.InstanceWord s) after e' (at_instance_word inside is)) (λ is e'. never e') (λ is e'. never e') (λ is e'. never e')
  moves s after token (at_instance_word inside b) e =
      by_class s after token.text.kind token.text.bytes e (λ is e'. never e') (λ is e'. never e') (λ is e'. never e') (λ is e'. let found = instance_word (keyword_of token.text.bytes) s after token.text.bytes e' in becomes (to_mode mode.InstanceName s) after found.1 (at_instance_name inside b ((ap (λ (k : Kind). keyword_in k token.text.bytes) is) ∙ found.0)))
  moves s after token (at_instance_name inside b k) e = an_instance _ _ token.text.kind refl inside b k e
  moves s after token (at_instance_end {rows = rows} inside b k w) e =
      by_class s after token.text.kind token.text.bytes e (λ is e'. never e') (λ is e'. becomes (to_mode mode.Specs s) after e' (at_specs (in_cell inside (with_instance b k w is) none (sym (append-nil rows))))) (λ is e'. never e') (λ is e'. never e')
  moves s after token (at_specs {head = head} {cell = cell} {instance = instance} inside) e =
      by_class s after token.text.kind token.text.bytes e (λ is e'. becomes (to_mode mode.SpecWord s) after e' (at_spec_word inside is)) (λ is e'. becomes (to_mode mode.Cells s) after e' (at_cells (cell_ends IsNumber head cell instance inside is))) (λ is e'. never e') (λ is e'. never e')
  moves s after token (at_spec_word inside b) e =
      by_class s after token.text.kind token.text.bytes e (λ is e'. never e') (λ is e'. never e') (λ is e'. never e') (λ is e'. a_spec _ (keyword_of token.text.bytes) inside b (ap (λ (k : Kind). keyword_in k token.text.bytes) is) is e')
  moves s after token (at_delays {head = head} {cell = cell} {instance = instance} inside) e =
      by_class s after token.text.kind token.text.bytes e (λ is e'. becomes (to_mode mode.DelayWord s) after e' (at_delay_word inside is)) (λ is e'. becomes (to_mode mode.Specs s) after e' (at_specs (delay_ends IsNumber head cell instance inside is))) (λ is e'. never e') (λ is e'. never e')
  moves s after token (at_delay_word inside b) e =
      by_class s after token.text.kind token.text.bytes e (λ is e'. never e') (λ is e'. never e') (λ is e'. never e') (λ is e'. a_delay _ (keyword_of token.text.bytes) inside b (ap (λ (k : Kind). keyword_in k token.text.bytes) is) is e')
  moves s after token (at_entries {head = head} {cell = cell} {instance = instance} inside) e =
      by_class s after token.text.kind token.text.bytes e (λ is e'. becomes (to_mode mode.EntryWord s) after e' (at_entry_word inside is)) (λ is e'. becomes (to_mode mode.Delays s) after e' (at_delays (absolute_ends IsNumber head cell instance inside is))) (λ is e'. never e') (λ is e'. never e')
  moves s after token (at_entry_word inside b) e =
      by_class s after token.text.kind token.text.bytes e (λ is e'. never e') (λ is e'. never e') (λ is e'. never e') (λ is e'. an_entry _ (keyword_of token.text.bytes) inside b (ap (λ (k : Kind). keyword_in k token.text.bytes) is) is e')
  moves s after token (at_from {shape = shape} inside b k) e = a_from _ _ shape token.text.kind refl inside b k e
  moves s after token (at_to {shape = shape} inside b k n) e = a_to _ shape token.text.kind refl inside b k n e
  moves s after token (at_first_value {shape = shape} inside begins) e =
      by_class s after token.text.kind token.text.bytes e (λ is e'. becomes (to_mode (mode.Number shape) s) after e' (at_number inside begins is refl)) (λ is e'. never e') (λ is e'. never e') (λ is e'. never e')
  moves s after token (at_number {shape = shape} inside begins b same) e = a_number shape token.text.kind refl inside begins b same e
  moves s after token (at_number_end {shape = shape} inside begins b w keeps number same) e = a_number_end shape token.text.kind refl inside begins b w keeps number same e
  moves s after token (at_values {shape = shape} inside begins same) e = behind_values shape token.text.kind refl inside begins same e
  moves s after token (in_over {at = at} nest ends) e = over_moves at _ _ _ _ _ token.text.kind refl nest ends e
  moves s after token (at_end is) e = never e

  -- the end of the file
  ends : {s : State} {from : List Tok} {rows : List SdfRow} → Meant IsNumber s from [] → finish s ≡ Ok rows → IsSdfBy IsNumber from rows
  ends {from = from} {rows = rows} (at_end is) e = subst (λ (r : List SdfRow). IsSdfBy IsNumber from r) (same_ok e) (is refl)
  ends at_start e = never e
  ends (at_file_word b) e = never e
  ends (at_heads a) e = never e
  ends (at_head_word a b) e = never e
  ends (at_design a b k) e = never e
  ends (at_divider a b k) e = never e
  ends (at_scale a b k) e = never e
  ends (in_scale a b k w f) e = never e
  ends (at_head_end a) e = never e
  ends (at_cells a) e = never e
  ends (at_cell_word a b) e = never e
  ends (at_type_open a b k) e = never e
  ends (at_type_word a b k l) e = never e
  ends (at_type_text a b k l m) e = never e
  ends (at_type_end a b k l m n) e = never e
  ends (at_instance_open a) e = never e
  ends (at_instance_word a b) e = never e
  ends (at_instance_name a b k) e = never e
  ends (at_instance_end a b k w) e = never e
  ends (at_specs a) e = never e
  ends (at_spec_word a b) e = never e
  ends (at_delays a) e = never e
  ends (at_delay_word a b) e = never e
  ends (at_entries a) e = never e
  ends (at_entry_word a b) e = never e
  ends (at_from a b k) e = never e
  ends (at_to a b k n) e = never e
  ends (at_first_value a b) e = never e
  ends (at_number a b c d) e = never e
  ends (at_number_end a b c d f g h) e = never e
  ends (at_values a b c) e = never e
  ends (in_over a b) e = never e

  along : {s : State} {from here : List Tok} {rows : List SdfRow} → Meant IsNumber s from here → Accepts (next read) finish s here rows → IsSdfBy IsNumber from rows
  along meant (ended e) = ends meant e
  along {s} meant (taken {after = after} {token = token} e accepts) = along (moves s after token meant e) accepts

-- tokens that lead from the start to the end are a file of the grammar, and it says what they lead to
pub meaning_of : (IsNumber : Timescale → List ℕ → Value → Type 0) (read : Timescale → List ℕ → Option Value) → Decides IsNumber read → (tokens : List Tok) (rows : List SdfRow) → Accepts (next read) finish first_state tokens rows → IsSdfBy IsNumber tokens rows
meaning_of IsNumber read decides tokens rows accepts = along IsNumber read decides at_start accepts
