-- The texts of the grammar lead to their end: the reader refuses none of them.
use Rattle.std.proofs.Common.{◌≡◌, ℕ, suc, Bool, true, false, cond, List, [], ◌∷◌, ◌++◌, Option, Some, None, Ok, refl, sym, ap, ◌∙◌, subst, append-nil, append_assoc}
use Rattle.name_table.specs.SdfNames.{canonical}
use Rattle.token_fronts.specs.Accepting.{Accepts, ended, taken, first_step}
use Rattle.sdf_reader.specs.Tokens.{meaning}
use Rattle.sdf_reader.specs.ScalePlaces.{place_behind}
use Rattle.sdf_reader.proofs.ScaleWords.{scale_read, scale_read_in_two}
use Rattle.sdf_reader.specs.declared.timescales.ScalePlace.{ScalePlace}
use Rattle.sdf_reader.specs.declared.timescales.ScalePlace.TheVariants as place
use Rattle.sdf_reader.specs.Keywords.{keyword_of}
use Rattle.sdf_reader.specs.Rows.{Head, plain_head, Place, no_value, rise_of, fall_of}
use Rattle.sdf_reader.specs.Grammar.{Tok, Is, keyword_in, IsKeyword, holds_of, own_in_heads, own_in_cells, own_in_entries, IsHead, with_no_design, with_design, with_divider, with_timescale, with_timescale_in_two, head_over, AreHeads, no_head, and_head, instance_of, IsInstance, unnamed, with_instance, IsCell, is_cell, IsSdfBy, is_sdf, is_piece, Loose, nothing_more, and_piece, and_group, is_group, IsOver, is_over, Many, none, more, is_retain, retains, keyword_for, is_empty, is_number, Begun, named, and_value, Strays, first_name, second_name, with_retain, in_value, behind_number, IsEntry, is_entry, is_stray, entry_over, IsDelay, is_absolute, delay_over, IsSpec, is_delay, spec_over}
use Rattle.sdf_reader.specs.Steps.{Move, pass, divide_by, scale_from, scale_at, next_of}
use Rattle.sdf_reader.specs.Modes.{Entry, State, no_entry, first_state, to_mode, with_value, numbered_by, moved, step, next, finish, Decides}
use Rattle.sdf_reader.specs.declared.scan.Kind.{Kind}
use Rattle.sdf_reader.specs.declared.scan.Kind.TheVariants as kind
use Rattle.sdf_reader.specs.declared.words.Keyword.{Keyword}
use Rattle.sdf_reader.specs.declared.words.Keyword.TheVariants as key
use Rattle.sdf_reader.specs.declared.modes.Mode.{Mode}
use Rattle.sdf_reader.specs.declared.modes.Mode.TheVariants as mode
use Rattle.sdf_reader.specs.declared.modes.Shape.{Shape}
use Rattle.sdf_reader.specs.declared.modes.Shape.TheVariants as shape
use Rattle.sdf_reader.specs.declared.modes.Site.{Site}
use Rattle.sdf_reader.specs.declared.modes.Site.TheVariants as site
use Rattle.sdf_reader.specs.Classes as class
use Rattle.sdf_reader.specs.declared.modes.Action.TheVariants.{Divide, Number}
use Rattle.sdf_reader.specs.declared.reader.Taken.{Taken}
use Rattle.sdf_reader.specs.declared.reader.Taken.TheVariants as count
use Rattle.sdf_reader.specs.declared.rows.Value.{Value}
use Rattle.sdf_reader.specs.declared.rows.SdfRow.{SdfRow}
use Rattle.sdf_reader.specs.declared.timescales.Timescale.{Timescale}
use Rattle.sdf_reader.proofs.Clashes.{same_ok, never_some, never_true, never_false}

-- a keyword is a word
pub keyword_is_word : (k : Kind) (bytes : List ℕ) (keyword : Keyword) → keyword_in k bytes ≡ Some keyword → k ≡ kind.Word
keyword_is_word kind.Word bytes keyword e = refl
keyword_is_word _ bytes keyword e = never_some e

-- a word that is no keyword of its own is that of a form that is passed over
over_in_heads : (found : Option Keyword) (bytes : List ℕ) → holds_of own_in_heads found ≡ false → next_of mode.HeadWord (class.Word found) bytes ≡ pass site.Heads 0
over_in_heads None bytes e = refl
over_in_heads (Some key.Design) bytes e = never_false e
over_in_heads (Some key.Divider) bytes e = never_false e
over_in_heads (Some key.Timescale) bytes e = never_false e
over_in_heads (Some key.Cell) bytes e = never_false e
over_in_heads (Some _) bytes e = refl

over_in_specs : (found : Option Keyword) (bytes : List ℕ) → holds_of own_in_cells found ≡ false → next_of mode.SpecWord (class.Word found) bytes ≡ pass site.Specs 0
over_in_specs None bytes e = refl
over_in_specs (Some key.Delay) bytes e = never_false e
over_in_specs (Some key.Absolute) bytes e = never_false e
over_in_specs (Some _) bytes e = refl

over_in_delays : (found : Option Keyword) (bytes : List ℕ) → holds_of own_in_cells found ≡ false → next_of mode.DelayWord (class.Word found) bytes ≡ pass site.Delays 0
over_in_delays None bytes e = refl
over_in_delays (Some key.Delay) bytes e = never_false e
over_in_delays (Some key.Absolute) bytes e = never_false e
over_in_delays (Some _) bytes e = refl

over_in_entries : (found : Option Keyword) (bytes : List ℕ) → holds_of own_in_entries found ≡ false → next_of mode.EntryWord (class.Word found) bytes ≡ pass site.Entries 0
over_in_entries None bytes e = refl
over_in_entries (Some key.IoPath) bytes e = never_false e
over_in_entries (Some key.Interconnect) bytes e = never_false e
over_in_entries (Some _) bytes e = refl

-- how many values there are, as the reader counts them
abbrev pub count_of : List Value → Taken
count_of [] = count.None
count_of (rise ∷ []) = count.One
count_of (rise ∷ fall ∷ rest) = count.More

-- an entry with these names and values
abbrev pub entry_of : List ℕ → List ℕ → List Value → Entry
entry_of from to values = record { from = from; to = to; taken = count_of values; rise = rise_of values; fall = fall_of values }

pub one_more : (from to : List ℕ) (values : List Value) (value : Value) → with_value value (entry_of from to values) ≡ entry_of from to (values ++ value ∷ [])
one_more from to [] value = refl
one_more from to (rise ∷ []) value = refl
one_more from to (rise ∷ fall ∷ rest) value = refl

-- what is waited for behind these values
abbrev pub mode_behind : Shape → List Value → Mode
mode_behind s [] = mode.FirstValue s
mode_behind s (value ∷ rest) = mode.Values s

some_values : (s : Shape) (values : List Value) (value : Value) → mode_behind s (values ++ value ∷ []) ≡ mode.Values s
some_values s [] value = refl
some_values s (first ∷ rest) value = refl

module _ (IsNumber : Timescale → List ℕ → Value → Type 0) (read : Timescale → List ℕ → Option Value) (decides : Decides IsNumber read) (all : List SdfRow) where
  -- the tokens lead from this state to the end of a file that says all rows
  abbrev Leads : State → List Tok → Type 0
  Leads state tokens = Accepts (next read) finish state tokens all

  -- a token of this kind
  by_kind : (s : State) (token : Tok) (k : Kind) {after : State} {rest : List Tok} → token.text.kind ≡ k → step read s k token.text.bytes ≡ Ok after → Leads after rest → Leads s (token ∷ rest)
  by_kind s token k is e leads = taken (ap (λ (x : Kind). step read s x token.text.bytes) is ∙ e) leads

  -- what a keyword does
  as_keyword : (s : State) (token : Tok) (keyword : Keyword) → IsKeyword keyword token → next read s token ≡ moved read kind.Word (next_of s.mode (class.Word (Some keyword)) token.text.bytes) s token.text.bytes
  as_keyword s token keyword is =
      let bytes : List ℕ = token.text.bytes in
      let w : token.text.kind ≡ kind.Word = keyword_is_word token.text.kind bytes keyword is in
      let found : keyword_of bytes ≡ Some keyword = subst (λ (k : Kind). keyword_in k bytes ≡ Some keyword) w is in
      ap (λ (k : Kind). step read s k bytes) w ∙ ap (λ (f : Option Keyword). moved read kind.Word (next_of s.mode (class.Word f) bytes) s bytes) found

  module _ (divider : ℕ) (scale : Timescale) (cell : List ℕ) (instance : Option (List ℕ)) where
    abbrev at : Mode → List SdfRow → Entry → State
    at mode rows entry = record { mode = mode; divider = divider; scale = scale; cell = cell; instance = instance; entry = entry; rows = rows }

    -- from here on, whatever forms and entries were read before
    abbrev Goes : Mode → List SdfRow → List Tok → Type 0
    Goes mode rows tokens = (entry : Entry) → Leads (at mode rows entry) tokens

    piece_goes : (k : Kind) (s : Site) (rows : List SdfRow) (depth : ℕ) (entry : Entry) (bytes : List ℕ) → is_piece k ≡ true → step read (at (mode.Over s depth) rows entry) k bytes ≡ Ok (at (mode.Over s depth) rows entry)
    piece_goes kind.Word s rows depth entry bytes is = refl
    piece_goes kind.Quoted s rows depth entry bytes is = refl
    piece_goes _ s rows depth entry bytes is = never_true is

    -- what stands loose in a form that is passed over
    loose : (s : Site) (rows : List SdfRow) (depth : ℕ) (entry : Entry) {from rest : List Tok} → Loose from rest → Leads (at (mode.Over s depth) rows entry) rest → Leads (at (mode.Over s depth) rows entry) from
    loose s rows depth entry nothing_more leads = leads
    loose s rows depth entry (and_piece {token = token} before is) leads =
        loose s rows depth entry before (taken (piece_goes token.text.kind s rows depth entry token.text.bytes is) leads)
    loose s rows depth entry (and_group before (is_group {begin = begin} {close = close} b inner c)) leads =
        loose s rows depth entry before
        (by_kind (at (mode.Over s depth) rows entry) begin kind.LeftParen b refl
        (loose s rows (suc depth) entry inner
        (by_kind (at (mode.Over s (suc depth)) rows entry) close kind.RightParen c refl leads)))

    -- the rest of a form that is passed over
    over_rest : (s : Site) (m : Mode) (rows : List SdfRow) (entry : Entry) {from rest : List Tok} {close : Tok} → ((bytes : List ℕ) → step read (at (mode.Over s 0) rows entry) kind.RightParen bytes ≡ Ok (at m rows entry))
        → Loose from (close ∷ rest) → Is kind.RightParen close → Goes m rows rest → Leads (at (mode.Over s 0) rows entry) from
    over_rest s m rows entry {close = close} ends within c goes = loose s rows 0 entry within (by_kind (at (mode.Over s 0) rows entry) close kind.RightParen c (ends close.text.bytes) (goes entry))

    -- ---- entries

    open_value : (sh : Shape) (values : List Value) (rows : List SdfRow) (entry : Entry) (bytes : List ℕ) → step read (at (mode_behind sh values) rows entry) kind.LeftParen bytes ≡ Ok (at (mode.Number sh) rows entry)
    open_value sh [] rows entry bytes = refl
    open_value sh (value ∷ rest) rows entry bytes = refl

    number_step : (sh : Shape) (rows : List SdfRow) (entry : Entry) (token : Tok) (value : Value) → Is kind.Word token → retains sh token ≡ false → IsNumber scale token.text.bytes value
        → next read (at (mode.Number sh) rows entry) token ≡ Ok (at (mode.NumberEnd sh) rows (with_value value entry))
    number_step sh rows entry token value w keeps is =
        let s : State = at (mode.Number sh) rows entry in
        let bytes : List ℕ = token.text.bytes in
        let no_retain : is_retain sh (keyword_of bytes) ≡ false = subst (λ (k : Kind). is_retain sh (keyword_in k bytes) ≡ false) w keeps in
        ap (λ (k : Kind). step read s k bytes) w
        ∙ ap (λ (t : Bool). moved read kind.Word (cond t (pass site.Entries 1) (Some (mode.NumberEnd sh, Number))) s bytes) no_retain
        ∙ ap (λ found. numbered_by found (to_mode (mode.NumberEnd sh) s)) (decides.finds scale bytes value is)

    -- a value more
    value_kept : (sh : Shape) (rows : List SdfRow) (from to : List ℕ) (values : List Value) (value : Value) {rest : List Tok}
        → Leads (at (mode_behind sh (values ++ value ∷ [])) rows (entry_of (canonical divider from) (canonical divider to) (values ++ value ∷ []))) rest
        → Leads (at (mode.Values sh) rows (with_value value (entry_of (canonical divider from) (canonical divider to) values))) rest
    value_kept sh rows from to values value {rest} leads =
        subst (λ (e : Entry). Leads (at (mode.Values sh) rows e) rest) (sym (one_more (canonical divider from) (canonical divider to) values value))
        (subst (λ (m : Mode). Leads (at m rows (entry_of (canonical divider from) (canonical divider to) (values ++ value ∷ []))) rest) (some_values sh values value) leads)

    keyword_step : (sh : Shape) (rows : List SdfRow) (entry : Entry) (token : Tok) → IsKeyword (keyword_for sh) token
        → next read (at mode.EntryWord rows entry) token ≡ Ok (at (mode.From sh) rows (record { from = entry.from; to = entry.to; taken = count.None; rise = no_value; fall = no_value }))
    keyword_step shape.Path rows entry token is = as_keyword (at mode.EntryWord rows entry) token key.IoPath is
    keyword_step shape.Wire rows entry token is = as_keyword (at mode.EntryWord rows entry) token key.Interconnect is

    begun : (sh : Shape) (rows : List SdfRow) (entry : Entry) {tokens rest : List Tok} {from to : List ℕ} {values : List Value} → Begun IsNumber scale sh tokens from to values rest
        → Leads (at (mode_behind sh values) rows (entry_of (canonical divider from) (canonical divider to) values)) rest
        → Leads (at mode.Entries rows entry) tokens
    begun sh rows entry (named {begin = begin} {keyword = keyword} {from = from} {to = to} b k f t) leads =
        let began : Entry = record { from = entry.from; to = entry.to; taken = count.None; rise = no_value; fall = no_value } in
        let named_from : Entry = record { from = canonical divider from.text.bytes; to = entry.to; taken = count.None; rise = no_value; fall = no_value } in
        by_kind (at mode.Entries rows entry) begin kind.LeftParen b refl
        (taken (keyword_step sh rows entry keyword k)
        (by_kind (at (mode.From sh) rows began) from kind.Word f refl
        (by_kind (at (mode.To sh) rows named_from) to kind.Word t refl leads)))
    begun sh rows entry {from = from} {to = to} (and_value {values = values} before (is_empty {begin = begin} {close = close} b c)) leads =
        let here : Entry = entry_of (canonical divider from) (canonical divider to) values in
        begun sh rows entry before
        (by_kind (at (mode_behind sh values) rows here) begin kind.LeftParen b (open_value sh values rows here begin.text.bytes)
        (by_kind (at (mode.Number sh) rows here) close kind.RightParen c refl (value_kept sh rows from to values no_value leads)))
    begun sh rows entry {from = from} {to = to} (and_value {values = values} {value = value} before (is_number {begin = begin} {word = word} {close = close} b w keeps is c)) leads =
        let here : Entry = entry_of (canonical divider from) (canonical divider to) values in
        begun sh rows entry before
        (by_kind (at (mode_behind sh values) rows here) begin kind.LeftParen b (open_value sh values rows here begin.text.bytes)
        (taken (number_step sh rows here word value w keeps is)
        (by_kind (at (mode.NumberEnd sh) rows (with_value value here)) close kind.RightParen c refl (value_kept sh rows from to values value leads))))

    over_entries : (rows : List SdfRow) (entry : Entry) (bytes : List ℕ) → step read (at (mode.Over site.Entries 0) rows entry) kind.RightParen bytes ≡ Ok (at mode.Entries rows entry)
    over_entries rows entry bytes = refl

    -- what shows that an entry is passed over, and the rest of it
    path_begins : (rows : List SdfRow) (entry : Entry) {begin keyword : Tok} {rest : List Tok} → Is kind.LeftParen begin → IsKeyword key.IoPath keyword
        → Leads (at (mode.From shape.Path) rows (record { from = entry.from; to = entry.to; taken = count.None; rise = no_value; fall = no_value })) rest
        → Leads (at mode.Entries rows entry) (begin ∷ keyword ∷ rest)
    path_begins rows entry {begin = begin} {keyword = keyword} b k leads =
        by_kind (at mode.Entries rows entry) begin kind.LeftParen b refl (taken (keyword_step shape.Path rows entry keyword k) leads)

    -- loose tokens of which the first opens a form
    loose_from : (rows : List SdfRow) (entry : Entry) {first close : Tok} {from rest : List Tok} → Loose (first ∷ from) (close ∷ rest) → Is kind.RightParen close → Goes mode.Entries rows rest
        → Leads (at (mode.Over site.Entries 0) rows entry) (first ∷ from)
    loose_from rows entry within c goes = over_rest site.Entries mode.Entries rows entry (over_entries rows entry) within c goes

    -- behind a token that is taken
    peel : (s : State) (token : Tok) (after : State) {rest : List Tok} → next read s token ≡ Ok after → Leads s (token ∷ rest) → Leads after rest
    peel s token after {rest} e leads =
        let first = first_step (next read) finish leads in
        let given : next read s token ≡ Ok first.0 = first.1 in
        subst (λ (x : State). Leads x rest) (same_ok (sym given ∙ e)) first.2

    peel_open : (rows : List SdfRow) (depth : ℕ) (entry : Entry) {token : Tok} {rest : List Tok} → Is kind.LeftParen token → Leads (at (mode.Over site.Entries depth) rows entry) (token ∷ rest) → Leads (at (mode.Over site.Entries (suc depth)) rows entry) rest
    peel_open rows depth entry {token = token} is leads =
        let s : State = at (mode.Over site.Entries depth) rows entry in
        peel s token (at (mode.Over site.Entries (suc depth)) rows entry) (ap (λ (k : Kind). step read s k token.text.bytes) is) leads

    peel_word : (rows : List SdfRow) (depth : ℕ) (entry : Entry) {token : Tok} {rest : List Tok} → Is kind.Word token → Leads (at (mode.Over site.Entries depth) rows entry) (token ∷ rest) → Leads (at (mode.Over site.Entries depth) rows entry) rest
    peel_word rows depth entry {token = token} is leads =
        let s : State = at (mode.Over site.Entries depth) rows entry in
        peel s token s (ap (λ (k : Kind). step read s k token.text.bytes) is) leads

    retain_step : (rows : List SdfRow) (entry : Entry) (token : Tok) → IsKeyword key.Retain token → next read (at (mode.Number shape.Path) rows entry) token ≡ Ok (at (mode.Over site.Entries 1) rows entry)
    retain_step rows entry token is = as_keyword (at (mode.Number shape.Path) rows entry) token key.Retain is

    -- an entry that is passed over
    strays : (rows : List SdfRow) (entry : Entry) {tokens middle rest : List Tok} {close : Tok} → Strays IsNumber scale tokens middle → Loose middle (close ∷ rest) → Is kind.RightParen close → Goes mode.Entries rows rest
        → Leads (at mode.Entries rows entry) tokens
    strays rows entry (first_name {inner = inner} b k i) within c goes =
        let began : Entry = record { from = entry.from; to = entry.to; taken = count.None; rise = no_value; fall = no_value } in
        path_begins rows entry b k
        (by_kind (at (mode.From shape.Path) rows began) inner kind.LeftParen i refl
        (peel_open rows 0 began i (loose_from rows began within c goes)))
    strays rows entry (second_name {from = from} {inner = inner} b k f i) within c goes =
        let began : Entry = record { from = entry.from; to = entry.to; taken = count.None; rise = no_value; fall = no_value } in
        let named_from : Entry = record { from = canonical divider from.text.bytes; to = entry.to; taken = count.None; rise = no_value; fall = no_value } in
        path_begins rows entry b k
        (by_kind (at (mode.From shape.Path) rows began) from kind.Word f refl
        (by_kind (at (mode.To shape.Path) rows named_from) inner kind.LeftParen i refl
        (peel_open rows 0 named_from i (loose_from rows named_from within c goes))))
    strays rows entry (with_retain {from = from} {to = to} {values = values} {begin = begin} {word = word} before b k) within c goes =
        let here : Entry = entry_of (canonical divider from) (canonical divider to) values in
        begun shape.Path rows entry before
        (by_kind (at (mode_behind shape.Path values) rows here) begin kind.LeftParen b (open_value shape.Path values rows here begin.text.bytes)
        (taken (retain_step rows here word k)
        (peel_word rows 1 here (keyword_is_word word.text.kind word.text.bytes key.Retain k) (peel_open rows 0 here b (loose_from rows here within c goes)))))
    strays rows entry (in_value {shape = sh} {from = from} {to = to} {values = values} {begin = begin} {inner = inner} before b i) within c goes =
        let here : Entry = entry_of (canonical divider from) (canonical divider to) values in
        begun sh rows entry before
        (by_kind (at (mode_behind sh values) rows here) begin kind.LeftParen b (open_value sh values rows here begin.text.bytes)
        (by_kind (at (mode.Number sh) rows here) inner kind.LeftParen i refl
        (peel_open rows 1 here i (peel_open rows 0 here b (loose_from rows here within c goes)))))
    strays rows entry (behind_number {shape = sh} {from = from} {to = to} {values = values} {value = value} {begin = begin} {word = word} {inner = inner} before b w keeps is i) within c goes =
        let here : Entry = entry_of (canonical divider from) (canonical divider to) values in
        let counted : Entry = with_value value here in
        begun sh rows entry before
        (by_kind (at (mode_behind sh values) rows here) begin kind.LeftParen b (open_value sh values rows here begin.text.bytes)
        (taken (number_step sh rows here word value w keeps is)
        (by_kind (at (mode.NumberEnd sh) rows counted) inner kind.LeftParen i refl
        (peel_open rows 1 counted i (peel_word rows 1 counted w (peel_open rows 0 counted b (loose_from rows counted within c goes)))))))

    -- a form that is passed over among others
    over_entry : (rows : List SdfRow) (entry : Entry) {from rest : List Tok} → IsOver own_in_entries from rest → Goes mode.Entries rows rest → Leads (at mode.Entries rows entry) from
    over_entry rows entry (is_over {begin = begin} {word = word} b other within c) goes =
        let s : State = at mode.EntryWord rows entry in
        by_kind (at mode.Entries rows entry) begin kind.LeftParen b refl
        (by_kind s word kind.Word other.0 (ap (λ (x : Move). moved read kind.Word x s word.text.bytes) (over_in_entries (keyword_of word.text.bytes) word.text.bytes other.1))
        (over_rest site.Entries mode.Entries rows entry (over_entries rows entry) within c goes))

    over_delay : (rows : List SdfRow) (entry : Entry) {from rest : List Tok} → IsOver own_in_cells from rest → Goes mode.Delays rows rest → Leads (at mode.Delays rows entry) from
    over_delay rows entry (is_over {begin = begin} {word = word} b other within c) goes =
        let s : State = at mode.DelayWord rows entry in
        by_kind (at mode.Delays rows entry) begin kind.LeftParen b refl
        (by_kind s word kind.Word other.0 (ap (λ (x : Move). moved read kind.Word x s word.text.bytes) (over_in_delays (keyword_of word.text.bytes) word.text.bytes other.1))
        (over_rest site.Delays mode.Delays rows entry (λ bytes. refl) within c goes))

    over_spec : (rows : List SdfRow) (entry : Entry) {from rest : List Tok} → IsOver own_in_cells from rest → Goes mode.Specs rows rest → Leads (at mode.Specs rows entry) from
    over_spec rows entry (is_over {begin = begin} {word = word} b other within c) goes =
        let s : State = at mode.SpecWord rows entry in
        by_kind (at mode.Specs rows entry) begin kind.LeftParen b refl
        (by_kind s word kind.Word other.0 (ap (λ (x : Move). moved read kind.Word x s word.text.bytes) (over_in_specs (keyword_of word.text.bytes) word.text.bytes other.1))
        (over_rest site.Specs mode.Specs rows entry (λ bytes. refl) within c goes))

    abbrev head : Head
    head = record { divider = divider; scale = scale }

    abbrev here_is : Place
    here_is = record { cell = cell; instance = instance }

    nothing_added : (m : Mode) (rows : List SdfRow) {rest : List Tok} → Goes m (rows ++ []) rest → Goes m rows rest
    nothing_added m rows {rest} goes = subst (λ (r : List SdfRow). Goes m r rest) (append-nil rows) goes

    -- parts one after another
    abbrev Takes : Mode → (List Tok → List SdfRow → List Tok → Type 0) → Type 0
    Takes m Part = (rows : List SdfRow) (from rest : List Tok) (others : List SdfRow) → Part from others rest → Goes m (rows ++ others) rest → Goes m rows from

    many : (m : Mode) (Part : List Tok → List SdfRow → List Tok → Type 0) → Takes m Part → Takes m (Many Part)
    many m Part part rows from rest [] none goes = nothing_added m rows goes
    many m Part part rows from rest added (more {middle = middle} {rows = first} {others = others} before is) goes =
        many m Part part rows from middle first before (part (rows ++ first) middle rest others is (subst (λ (r : List SdfRow). Goes m r rest) (sym (append_assoc rows first others)) goes))

    entry_part : Takes mode.Entries (IsEntry IsNumber head here_is)
    entry_part rows tokens rest others (is_entry {shape = sh} {from = from} {to = to} {values = values} {value = value} {close = close} before c) goes entry =
        let here : Entry = entry_of (canonical divider from) (canonical divider to) (value ∷ values) in
        begun sh rows entry before (by_kind (at (mode.Values sh) rows here) close kind.RightParen c refl (goes _))
    entry_part rows tokens rest others (is_stray strange within c) goes entry = strays rows entry strange within c (nothing_added mode.Entries rows goes)
    entry_part rows tokens rest others (entry_over is) goes entry = over_entry rows entry is (nothing_added mode.Entries rows goes)

    -- a form of parts: `(`, a keyword, the parts and `)`
    delay_part : Takes mode.Delays (IsDelay IsNumber head here_is)
    delay_part rows tokens rest others (is_absolute {begin = begin} {keyword = keyword} {close = close} {rows = added} b k parts c) goes entry =
        by_kind (at mode.Delays rows entry) begin kind.LeftParen b refl
        (taken (as_keyword (at mode.DelayWord rows entry) keyword key.Absolute k)
        (many mode.Entries (IsEntry IsNumber head here_is) entry_part rows _ _ added parts (λ e. by_kind (at mode.Entries (rows ++ added) e) close kind.RightParen c refl (goes e)) entry))
    delay_part rows tokens rest others (delay_over is) goes entry = over_delay rows entry is (nothing_added mode.Delays rows goes)

    spec_part : Takes mode.Specs (IsSpec IsNumber head here_is)
    spec_part rows tokens rest others (is_delay {begin = begin} {keyword = keyword} {close = close} {rows = added} b k parts c) goes entry =
        by_kind (at mode.Specs rows entry) begin kind.LeftParen b refl
        (taken (as_keyword (at mode.SpecWord rows entry) keyword key.Delay k)
        (many mode.Delays (IsDelay IsNumber head here_is) delay_part rows _ _ added parts (λ e. by_kind (at mode.Delays (rows ++ added) e) close kind.RightParen c refl (goes e)) entry))
    spec_part rows tokens rest others (spec_over is) goes entry = over_spec rows entry is (nothing_added mode.Specs rows goes)

  -- ---- cells

  -- a state, its head and its cell among its parts
  abbrev full : Mode → List SdfRow → Head → List ℕ → Option (List ℕ) → Entry → State
  full m rows head cell instance entry = record { mode = m; divider = head.divider; scale = head.scale; cell = cell; instance = instance; entry = entry; rows = rows }

  -- where a cell may begin: behind the heads, or behind a cell
  abbrev cells_at : Bool → Mode
  cells_at true = mode.Heads
  cells_at false = mode.Cells

  abbrev word_at : Bool → Mode
  word_at true = mode.HeadWord
  word_at false = mode.CellWord

  module _ (head : Head) where
    -- from where a cell may begin, whatever was read before
    abbrev Onward : List SdfRow → List Tok → Type 0
    Onward rows tokens = (first : Bool) (cell : List ℕ) (instance : Option (List ℕ)) (entry : Entry) → Leads (full (cells_at first) rows head cell instance entry) tokens

    opens : (first : Bool) (s : State) (bytes : List ℕ) → moved read kind.LeftParen (next_of (cells_at first) class.Open bytes) s bytes ≡ Ok (to_mode (word_at first) s)
    opens true s bytes = refl
    opens false s bytes = refl

    is_a_cell : (first : Bool) (s : State) (bytes : List ℕ) → moved read kind.Word (next_of (word_at first) (class.Word (Some key.Cell)) bytes) s bytes ≡ Ok (to_mode mode.TypeOpen s)
    is_a_cell true s bytes = refl
    is_a_cell false s bytes = refl

    instance_part : (rows : List SdfRow) (cell : List ℕ) (old : Option (List ℕ)) (entry : Entry) {from rest : List Tok} {instance : Option (List ℕ)} → IsInstance head.divider from instance rest
        → Leads (full mode.Specs rows head cell instance entry) rest → Leads (full mode.InstanceOpen rows head cell old entry) from
    instance_part rows cell old entry (unnamed {begin = begin} {keyword = keyword} {close = close} b k c) leads =
        by_kind (full mode.InstanceOpen rows head cell old entry) begin kind.LeftParen b refl
        (taken (as_keyword (full mode.InstanceWord rows head cell old entry) keyword key.Instance k)
        (by_kind (full mode.InstanceName rows head cell old entry) close kind.RightParen c refl leads))
    instance_part rows cell old entry (with_instance {begin = begin} {keyword = keyword} {word = word} {close = close} b k w c) leads =
        by_kind (full mode.InstanceOpen rows head cell old entry) begin kind.LeftParen b refl
        (taken (as_keyword (full mode.InstanceWord rows head cell old entry) keyword key.Instance k)
        (by_kind (full mode.InstanceName rows head cell old entry) word kind.Word w refl
        (by_kind (full mode.InstanceEnd rows head cell (instance_of head.divider word.text.bytes) entry) close kind.RightParen c refl leads)))

    cell_part : (rows : List SdfRow) (from rest : List Tok) (others : List SdfRow) → IsCell IsNumber head from others rest → Onward (rows ++ others) rest → Onward rows from
    cell_part rows from rest others (is_cell {begin = begin} {keyword = keyword} {begin_type = begin_type} {type_keyword = type_keyword} {text = text} {end_type = end_type} {close = close} {middle = middle} {instance = instance} b k bt tk t et placed specs c) onward first cell old entry =
        let kind_of : List ℕ = meaning text.text.bytes in
        by_kind (full (cells_at first) rows head cell old entry) begin kind.LeftParen b (opens first (full (cells_at first) rows head cell old entry) begin.text.bytes)
        (taken (as_keyword (full (word_at first) rows head cell old entry) keyword key.Cell k ∙ is_a_cell first (full (word_at first) rows head cell old entry) keyword.text.bytes)
        (by_kind (full mode.TypeOpen rows head cell old entry) begin_type kind.LeftParen bt refl
        (taken (as_keyword (full mode.TypeWord rows head cell old entry) type_keyword key.CellType tk)
        (by_kind (full mode.TypeText rows head cell old entry) text kind.Quoted t refl
        (by_kind (full mode.TypeEnd rows head kind_of old entry) end_type kind.RightParen et refl
        (instance_part rows kind_of old entry placed
        (many head.divider head.scale kind_of instance mode.Specs (IsSpec IsNumber head (record { cell = kind_of; instance = instance })) (spec_part head.divider head.scale kind_of instance) rows middle (close ∷ rest) others specs
        (λ e. by_kind (full mode.Specs (rows ++ others) head kind_of instance e) close kind.RightParen c refl (onward false kind_of instance e)) entry)))))))

    cells : (rows : List SdfRow) (from rest : List Tok) (others : List SdfRow) → Many (IsCell IsNumber head) from others rest → Onward (rows ++ others) rest → Onward rows from
    cells rows from rest [] none onward = subst (λ (r : List SdfRow). Onward r rest) (append-nil rows) onward
    cells rows from rest added (more {middle = middle} {rows = first} {others = others} before is) onward =
        cells rows from middle first before (cell_part (rows ++ first) middle rest others is (subst (λ (r : List SdfRow). Onward r rest) (sym (append_assoc rows first others)) onward))

    -- the end of the file
    file_end : (rows : List SdfRow) (close : Tok) → Is kind.RightParen close → rows ≡ all → Onward rows (close ∷ [])
    file_end rows close c same true cell instance entry = by_kind (full mode.Heads rows head cell instance entry) close kind.RightParen c refl (ended (ap (λ r. Ok r) same))
    file_end rows close c same false cell instance entry = by_kind (full mode.Cells rows head cell instance entry) close kind.RightParen c refl (ended (ap (λ r. Ok r) same))

  -- ---- heads

  -- from where a head may begin, before the first cell
  abbrev head_state : Mode → Head → State
  head_state m head = full m [] head [] None no_entry

  abbrev Heading : Head → List Tok → Type 0
  Heading head tokens = Leads (head_state mode.Heads head) tokens

  head_word : (head : Head) (begin keyword : Tok) (key : Keyword) {after : State} {rest : List Tok} → Is kind.LeftParen begin → IsKeyword key keyword
      → moved read kind.Word (next_of mode.HeadWord (class.Word (Some key)) keyword.text.bytes) (head_state mode.HeadWord head) keyword.text.bytes ≡ Ok after → Leads after rest → Leads (head_state mode.Heads head) (begin ∷ keyword ∷ rest)
  head_word head begin keyword key b k e leads =
      by_kind (head_state mode.Heads head) begin kind.LeftParen b refl
      (taken (as_keyword (head_state mode.HeadWord head) keyword key k ∙ e) leads)

  head_end : (head : Head) (close : Tok) {rest : List Tok} → Is kind.RightParen close → Heading head rest → Leads (head_state mode.HeadEnd head) (close ∷ rest)
  head_end head close c heading = by_kind (head_state mode.HeadEnd head) close kind.RightParen c refl heading

  first_scale : (head : Head) (word : Tok) (at : ScalePlace) → Is kind.Word word → place_behind place.Start word.text.bytes ≡ Some at
      → next read (head_state mode.ScaleWord head) word ≡ Ok (head_state (mode.ScaleMore at) head)
  first_scale head word at w e =
      let s : State = head_state mode.ScaleWord head in
      ap (λ (k : Kind). step read s k word.text.bytes) w ∙ ap (λ found. moved read kind.Word (scale_from found) s word.text.bytes) e

  head_part : (before after : Head) (from rest : List Tok) → IsHead from before after rest → Heading after rest → Heading before from
  head_part before after from rest (with_no_design {begin = begin} {keyword = keyword} {close = close} b k c) heading =
      head_word before begin keyword key.Design b k refl (by_kind (head_state mode.DesignText before) close kind.RightParen c refl heading)
  head_part before after from rest (with_design {begin = begin} {keyword = keyword} {text = text} {close = close} b k t c) heading =
      head_word before begin keyword key.Design b k refl (by_kind (head_state mode.DesignText before) text kind.Quoted t refl (head_end before close c heading))
  head_part before after from rest (with_divider {begin = begin} {keyword = keyword} {word = word} {close = close} {byte = byte} b k w one is c) heading =
      let s : State = head_state mode.DividerWord before in
      head_word before begin keyword key.Divider b k refl
      (by_kind s word kind.Word w (ap (λ l. moved read kind.Word (divide_by l) s word.text.bytes) one ∙ ap (λ t. moved read kind.Word (cond t (Some (mode.HeadEnd, Divide byte)) None) s word.text.bytes) is)
      (head_end (record { divider = byte; scale = before.scale }) close c heading))
  head_part before after from rest (with_timescale {begin = begin} {keyword = keyword} {word = word} {close = close} {scale = scale} b k w is c) heading =
      head_word before begin keyword key.Timescale b k refl
      (taken (first_scale before word (place.Done scale) w (scale_read word.text.bytes scale is))
      (by_kind (head_state (mode.ScaleMore (place.Done scale)) before) close kind.RightParen c refl heading))
  head_part before after from rest (with_timescale_in_two {begin = begin} {keyword = keyword} {word = word} {other = other} {close = close} {scale = scale} b k w o is c) heading =
      let parts = scale_read_in_two word.text.bytes other.text.bytes scale is in
      let s : State = head_state (mode.ScaleMore parts.0) before in
      head_word before begin keyword key.Timescale b k refl
      (taken (first_scale before word parts.0 w parts.1)
      (by_kind s other kind.Word o (ap (λ found. moved read kind.Word (scale_at mode.HeadEnd found) s other.text.bytes) parts.2)
      (head_end (record { divider = before.divider; scale = scale }) close c heading)))
  head_part before after from rest (head_over (is_over {begin = begin} {word = word} b other within c)) heading =
      let s : State = head_state mode.HeadWord before in
      by_kind (head_state mode.Heads before) begin kind.LeftParen b refl
      (by_kind s word kind.Word other.0 (ap (λ (x : Move). moved read kind.Word x s word.text.bytes) (over_in_heads (keyword_of word.text.bytes) word.text.bytes other.1))
      (loose before.divider before.scale [] None site.Heads [] 0 no_entry within
      (by_kind (head_state (mode.Over site.Heads 0) before) _ kind.RightParen c refl (heading))))

  heads : {from rest : List Tok} {head : Head} → AreHeads from head rest → Heading head rest → Heading plain_head from
  heads no_head heading = heading
  heads (and_head {middle = middle} {before = before} {after = after} already is) heading = heads already (head_part before after middle _ is heading)

  file : {tokens : List Tok} → IsSdfBy IsNumber tokens all → Leads first_state tokens
  file (is_sdf {begin = begin} {keyword = keyword} {close = close} {middle = middle} {head = head} b k before in_cells c) =
      by_kind first_state begin kind.LeftParen b refl
      (taken (as_keyword (head_state mode.FileWord plain_head) keyword key.DelayFile k)
      (heads before (cells head [] middle (close ∷ []) all in_cells (file_end head all close c refl) true [] None no_entry)))

-- from the start the tokens of a file lead to what it says
pub taking : (IsNumber : Timescale → List ℕ → Value → Type 0) (read : Timescale → List ℕ → Option Value) → Decides IsNumber read → {tokens : List Tok} {rows : List SdfRow} → IsSdfBy IsNumber tokens rows → Accepts (next read) finish first_state tokens rows
taking IsNumber read decides {rows = rows} is = file IsNumber read decides rows is
