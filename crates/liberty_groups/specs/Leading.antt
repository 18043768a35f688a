-- What the reader is behind some parts of a file.
use Rattle.std.specs.Prelude.{◌≡◌, ℕ, ◌≤◌, Bool, false, ◌||◌, List, [], ◌∷◌, length}
use Rattle.token_texts.specs.Cuts.{Part, gap, token}
use Rattle.token_texts.specs.Leading as leading
use Rattle.liberty_groups.specs.Tokens.{breaks, tokens_of}
use Rattle.liberty_groups.specs.Modes.{first_state, next, finish}
use Rattle.liberty_groups.specs.Built.{IsBuilt}
use Rattle.liberty_groups.specs.Tables.{Tables, tree_of}
use Rattle.liberty_groups.specs.ReaderStates as states
use Rattle.liberty_groups.specs.ReaderStates.{state_of}
use Rattle.liberty_groups.specs.declared.scan.Kind.{Kind}
use Rattle.liberty_groups.specs.declared.reader.Reader.{Reader}
use Rattle.liberty_groups.specs.declared.faults.Cause.{Cause}

-- whether a line end stands between the last token of the parts and their end, where one has been passed before them, or not
abbrev pub fresh_behind : Bool → List (Part Kind) → Bool
fresh_behind fresh [] = fresh
fresh_behind fresh (gap bytes ∷ parts) = fresh_behind (fresh || breaks bytes) parts
fresh_behind fresh (token t ∷ parts) = fresh_behind false parts

-- the tokens among the parts lead to the reader's state
pub record Leads (before : List (Part Kind)) (reader : Reader) : Type 0 where
  pub fresh : reader.fresh ≡ fresh_behind false before
  pub state : leading.Leads (next 16) finish first_state (tokens_of before) (state_of reader)

-- they are refused at the token of this number
abbrev pub Stops : List (Part Kind) → ℕ → Cause → Type 0
Stops parts number cause = leading.Stops (next 16) finish first_state (tokens_of parts) number cause

-- they say the tree
abbrev pub Makes : List (Part Kind) → Tables → Type 0
Makes parts tree = leading.Makes (next 16) finish first_state (tokens_of parts) (tree_of tree)

-- the reader counts the groups that have not ended, and they are few
pub record IsSound (number : ℕ) (reader : Reader) : Type 0 where
  pub counted : states.IsSound reader
  pub built : IsBuilt reader.builder
  pub few : length (state_of reader).frames ≤ 16
