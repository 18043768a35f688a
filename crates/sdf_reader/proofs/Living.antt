-- Tokens that complete a file from each state of the reader.
use Rattle.std.proofs.Common.{◌≡◌, ℕ, zero, suc, ◌+◌, List, [], ◌∷◌, Option, Ok, refl}
use Rattle.std.specs.Prelude.{codes}
use Rattle.std.specs.List.{AllByRecursion}
use Rattle.token_fronts.specs.Machine.{outcome}
use Rattle.token_fronts.specs.Stopping.{Completes}
use Rattle.token_texts.specs.Quoted.{quote_end}
use Rattle.token_texts.specs.Runs.{escaped_run_length}
use Rattle.token_texts.specs.Cuts.{is_token}
use Rattle.sdf_reader.specs.Tokens.{Lexeme, IsToken, cut_at}
use Rattle.sdf_reader.specs.Keywords.{keyword_of, same_word}
use Rattle.sdf_reader.specs.Modes.{Entry, State, next, finish}
use Rattle.sdf_reader.specs.declared.scan.Kind.{Kind}
use Rattle.sdf_reader.specs.declared.scan.Kind.TheVariants as kind
use Rattle.sdf_reader.specs.declared.modes.Mode.{Mode}
use Rattle.sdf_reader.specs.declared.modes.Mode.TheVariants as mode
use Rattle.sdf_reader.specs.declared.modes.Site.{Site}
use Rattle.sdf_reader.specs.declared.modes.Site.TheVariants as site
use Rattle.sdf_reader.specs.declared.rows.Value.{Value}
use Rattle.sdf_reader.specs.declared.rows.SdfRow.{SdfRow}
use Rattle.sdf_reader.specs.declared.timescales.Timescale.{Timescale}
use Rattle.sdf_reader.specs.declared.timescales.ScalePlace.TheVariants as place

abbrev lexeme : Kind → List ℕ → Lexeme
lexeme k bytes = record { kind = k; bytes = bytes }

abbrev begins : Lexeme
begins = lexeme kind.LeftParen (40 ∷ [])

abbrev ends : Lexeme
ends = lexeme kind.RightParen (41 ∷ [])

abbrev empty_text : Lexeme
empty_text = lexeme kind.Quoted (34 ∷ 34 ∷ [])

abbrev word : List ℕ → Lexeme
word bytes = lexeme kind.Word bytes

begins_is : IsToken begins
unfolding cut_at
begins_is = is_token refl refl

ends_is : IsToken ends
unfolding cut_at
ends_is = is_token refl refl

text_is : IsToken empty_text
unfolding cut_at quote_end
text_is = is_token refl refl

a_is : IsToken (word (codes "a"))
unfolding cut_at escaped_run_length
a_is = is_token refl refl

file_is : IsToken (word (codes "DELAYFILE"))
unfolding cut_at escaped_run_length
file_is = is_token refl refl

dot_is : IsToken (word (codes "."))
unfolding cut_at escaped_run_length
dot_is = is_token refl refl

second_is : IsToken (word (codes "1s"))
unfolding cut_at escaped_run_length
second_is = is_token refl refl

s_is : IsToken (word (codes "s"))
unfolding cut_at escaped_run_length
s_is = is_token refl refl

zero_is : IsToken (word (codes "0s"))
unfolding cut_at escaped_run_length
zero_is = is_token refl refl

cell_is : IsToken (word (codes "CELL"))
unfolding cut_at escaped_run_length
cell_is = is_token refl refl

type_is : IsToken (word (codes "CELLTYPE"))
unfolding cut_at escaped_run_length
type_is = is_token refl refl

instance_is : IsToken (word (codes "INSTANCE"))
unfolding cut_at escaped_run_length
instance_is = is_token refl refl

-- so many `)`
closed : ℕ → List Lexeme → List Lexeme
closed zero more = more
closed (suc n) more = ends ∷ closed n more

closed_is : (n : ℕ) (more : List Lexeme) → AllByRecursion IsToken more → AllByRecursion IsToken (closed n more)
unfolding closed
closed_is zero more tokens = tokens
closed_is (suc n) more tokens = (ends_is, closed_is n more tokens)

-- the tokens behind a form that is passed over
abbrev behind : Site → List Lexeme
behind site.Heads = ends ∷ []
behind site.Specs = ends ∷ ends ∷ []
behind site.Delays = ends ∷ ends ∷ ends ∷ []
behind site.Entries = ends ∷ ends ∷ ends ∷ ends ∷ []

behind_is : (at : Site) → AllByRecursion IsToken (behind at)
behind_is site.Heads = (ends_is, tt)
behind_is site.Specs = (ends_is, (ends_is, tt))
behind_is site.Delays = (ends_is, (ends_is, (ends_is, tt)))
behind_is site.Entries = (ends_is, (ends_is, (ends_is, (ends_is, tt))))

abbrev entry_behind : List Lexeme
entry_behind = ends ∷ ends ∷ ends ∷ ends ∷ ends ∷ []

entry_behind_is : AllByRecursion IsToken entry_behind
entry_behind_is = (ends_is, behind_is site.Entries)

abbrev cell_behind : List Lexeme
cell_behind = begins ∷ word (codes "INSTANCE") ∷ ends ∷ ends ∷ ends ∷ []

cell_behind_is : AllByRecursion IsToken cell_behind
cell_behind_is = (begins_is, (instance_is, (ends_is, (ends_is, (ends_is, tt)))))

module _ (read : Timescale → List ℕ → Option Value) where
  abbrev Ends : State → ℕ → List Lexeme → Type 0
  Ends state number more = (value : List SdfRow) × (outcome (next read) finish state number more ≡ Ok value)

  module _ (divider : ℕ) (scale : Timescale) (cell : List ℕ) (instance : Option (List ℕ)) (entry : Entry) (rows : List SdfRow) where
    abbrev at : Mode → State
    at mode = record { mode = mode; divider = divider; scale = scale; cell = cell; instance = instance; entry = entry; rows = rows }

    completed_by : (mode : Mode) (number : ℕ) (more : List Lexeme) → AllByRecursion IsToken more → Ends (at mode) number more → Completes IsToken (next read) finish (at mode) number []
    completed_by mode number more tokens ends = record { more = more; tokens = tokens; value = ends.0; made = ends.1 }

    ends_behind : (depth number : ℕ) (s : Site) → Ends (at (mode.Over s depth)) number (closed (suc depth) (behind s))
    unfolding closed
    ends_behind zero number site.Heads = (_, refl)
    ends_behind zero number site.Specs = (_, refl)
    ends_behind zero number site.Delays = (_, refl)
    ends_behind zero number site.Entries = (_, refl)
    ends_behind (suc depth) number s = ends_behind depth (number + 1) s

    completes : (number : ℕ) (m : Mode) → Completes IsToken (next read) finish (at m) number []
    unfolding keyword_of same_word
    completes number mode.Start = completed_by mode.Start number (begins ∷ word (codes "DELAYFILE") ∷ ends ∷ []) (begins_is, (file_is, (ends_is, tt))) (_, refl)
    completes number mode.FileWord = completed_by mode.FileWord number (word (codes "DELAYFILE") ∷ ends ∷ []) (file_is, (ends_is, tt)) (_, refl)
    completes number mode.Heads = completed_by mode.Heads number (ends ∷ []) (ends_is, tt) (_, refl)
    completes number mode.HeadWord = completed_by mode.HeadWord number (word (codes "a") ∷ ends ∷ ends ∷ []) (a_is, (ends_is, (ends_is, tt))) (_, refl)
    completes number mode.DesignText = completed_by mode.DesignText number (ends ∷ ends ∷ []) (ends_is, (ends_is, tt)) (_, refl)
    completes number mode.DividerWord = completed_by mode.DividerWord number (word (codes ".") ∷ ends ∷ ends ∷ []) (dot_is, (ends_is, (ends_is, tt))) (_, refl)
    completes number mode.ScaleWord = completed_by mode.ScaleWord number (word (codes "1s") ∷ ends ∷ ends ∷ []) (second_is, (ends_is, (ends_is, tt))) (_, refl)
    completes number (mode.ScaleMore place.Start) = completed_by (mode.ScaleMore place.Start) number (word (codes "1s") ∷ ends ∷ ends ∷ []) (second_is, (ends_is, (ends_is, tt))) (_, refl)
    completes number (mode.ScaleMore (place.Whole c)) = completed_by (mode.ScaleMore (place.Whole c)) number (word (codes "s") ∷ ends ∷ ends ∷ []) (s_is, (ends_is, (ends_is, tt))) (_, refl)
    completes number (mode.ScaleMore (place.Point c)) = completed_by (mode.ScaleMore (place.Point c)) number (word (codes "0s") ∷ ends ∷ ends ∷ []) (zero_is, (ends_is, (ends_is, tt))) (_, refl)
    completes number (mode.ScaleMore (place.Fraction c)) = completed_by (mode.ScaleMore (place.Fraction c)) number (word (codes "s") ∷ ends ∷ ends ∷ []) (s_is, (ends_is, (ends_is, tt))) (_, refl)
    completes number (mode.ScaleMore (place.Letter c u)) = completed_by (mode.ScaleMore (place.Letter c u)) number (word (codes "s") ∷ ends ∷ ends ∷ []) (s_is, (ends_is, (ends_is, tt))) (_, refl)
    completes number (mode.ScaleMore (place.Done t)) = completed_by (mode.ScaleMore (place.Done t)) number (ends ∷ ends ∷ []) (ends_is, (ends_is, tt)) (_, refl)
    completes number mode.HeadEnd = completed_by mode.HeadEnd number (ends ∷ ends ∷ []) (ends_is, (ends_is, tt)) (_, refl)
    completes number mode.TypeOpen = completed_by mode.TypeOpen number (begins ∷ word (codes "CELLTYPE") ∷ empty_text ∷ ends ∷ cell_behind) (begins_is, (type_is, (text_is, (ends_is, cell_behind_is)))) (_, refl)
    completes number mode.TypeWord = completed_by mode.TypeWord number (word (codes "CELLTYPE") ∷ empty_text ∷ ends ∷ cell_behind) (type_is, (text_is, (ends_is, cell_behind_is))) (_, refl)
    completes number mode.TypeText = completed_by mode.TypeText number (empty_text ∷ ends ∷ cell_behind) (text_is, (ends_is, cell_behind_is)) (_, refl)
    completes number mode.TypeEnd = completed_by mode.TypeEnd number (ends ∷ cell_behind) (ends_is, cell_behind_is) (_, refl)
    completes number mode.InstanceOpen = completed_by mode.InstanceOpen number cell_behind cell_behind_is (_, refl)
    completes number mode.InstanceWord = completed_by mode.InstanceWord number (word (codes "INSTANCE") ∷ ends ∷ ends ∷ ends ∷ []) (instance_is, (ends_is, (ends_is, (ends_is, tt)))) (_, refl)
    completes number mode.InstanceName = completed_by mode.InstanceName number (ends ∷ ends ∷ ends ∷ []) (ends_is, (ends_is, (ends_is, tt))) (_, refl)
    completes number mode.InstanceEnd = completed_by mode.InstanceEnd number (ends ∷ ends ∷ ends ∷ []) (ends_is, (ends_is, (ends_is, tt))) (_, refl)
    completes number mode.Specs = completed_by mode.Specs number (ends ∷ ends ∷ []) (ends_is, (ends_is, tt)) (_, refl)
    completes number mode.SpecWord = completed_by mode.SpecWord number (word (codes "a") ∷ ends ∷ behind site.Specs) (a_is, (ends_is, behind_is site.Specs)) (_, refl)
    completes number mode.Delays = completed_by mode.Delays number (behind site.Delays) (behind_is site.Delays) (_, refl)
    completes number mode.DelayWord = completed_by mode.DelayWord number (word (codes "a") ∷ ends ∷ behind site.Delays) (a_is, (ends_is, behind_is site.Delays)) (_, refl)
    completes number mode.Entries = completed_by mode.Entries number (behind site.Entries) (behind_is site.Entries) (_, refl)
    completes number mode.EntryWord = completed_by mode.EntryWord number (word (codes "a") ∷ entry_behind) (a_is, entry_behind_is) (_, refl)
    completes number (mode.From s) = completed_by (mode.From s) number (word (codes "a") ∷ word (codes "a") ∷ begins ∷ ends ∷ entry_behind) (a_is, (a_is, (begins_is, (ends_is, entry_behind_is)))) (_, refl)
    completes number (mode.To s) = completed_by (mode.To s) number (word (codes "a") ∷ begins ∷ ends ∷ entry_behind) (a_is, (begins_is, (ends_is, entry_behind_is))) (_, refl)
    completes number (mode.FirstValue s) = completed_by (mode.FirstValue s) number (begins ∷ ends ∷ entry_behind) (begins_is, (ends_is, entry_behind_is)) (_, refl)
    completes number (mode.Number s) = completed_by (mode.Number s) number (ends ∷ entry_behind) (ends_is, entry_behind_is) (_, refl)
    completes number (mode.NumberEnd s) = completed_by (mode.NumberEnd s) number (ends ∷ entry_behind) (ends_is, entry_behind_is) (_, refl)
    completes number (mode.Values s) = completed_by (mode.Values s) number entry_behind entry_behind_is (_, refl)
    completes number (mode.Over s depth) = completed_by (mode.Over s depth) number (closed (suc depth) (behind s)) (closed_is (suc depth) (behind s) (behind_is s)) (ends_behind depth number s)
    completes number mode.Cells = completed_by mode.Cells number (ends ∷ []) (ends_is, tt) (_, refl)
    completes number mode.CellWord = completed_by mode.CellWord number (word (codes "CELL") ∷ begins ∷ word (codes "CELLTYPE") ∷ empty_text ∷ ends ∷ cell_behind) (cell_is, (begins_is, (type_is, (text_is, (ends_is, cell_behind_is))))) (_, refl)
    completes number mode.End = completed_by mode.End number [] tt (_, refl)

  pub lives : (state : State) (number : ℕ) → Completes IsToken (next read) finish state number []
  lives state number = completes state.divider state.scale state.cell state.instance state.entry state.rows number state.mode
