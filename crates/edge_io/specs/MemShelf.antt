-- A shelf in memory, as its callers see it.
use Rattle.std.specs.Prelude.{◌≡◌, ◌≢◌, ℕ, List, [], Some}
use Rattle.edge_io.specs.Calls.{Calls, no_calls}
use Rattle.edge_io.specs.Holding.{Held}
use Rattle.edge_io.specs.HeldFiles.{held_in}
use Rattle.edge_io.specs.declared.memory_shelf.HeldFile.{HeldFile}

pub record ShelfState : Type 0 where
  -- the files that were put on it, in order; of those of one name the last is held
  pub files : List HeldFile
  -- what is left of the open file
  pub left : List ℕ
  -- how many bytes one read gives at most
  pub most : ℕ
  -- the calls of `open` and `read` together
  pub calls : Calls
  -- how many of them were an `open`
  pub opens : ℕ
  -- and how many a `read`
  pub reads : ℕ

-- a new shelf holds nothing
abbrev pub empty_shelf : ℕ → ShelfState
empty_shelf most = record { files = []; left = []; most = most; calls = no_calls; opens = 0; reads = 0 }

-- the name has these bytes now, every other name what it had
pub record Puts (held held' : Held) (name bytes : List ℕ) : Type 0 where
  pub named : held' name ≡ Some bytes
  pub others : (other : List ℕ) → other ≢ name → held' other ≡ held other

-- a put changes what is held and nothing else
pub record ChangesHeld (before after : ShelfState) (name bytes : List ℕ) : Type 0 where
  pub puts : Puts (held_in before.files) (held_in after.files) name bytes
  pub left : after.left ≡ before.left
  pub most : after.most ≡ before.most
  pub calls : after.calls ≡ before.calls
  pub opens : after.opens ≡ before.opens
  pub reads : after.reads ≡ before.reads
