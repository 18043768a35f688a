-- Groups that have not ended.
use Rattle.std.specs.Prelude.{ℕ, ◌<◌, List, [], ◌∷◌, ◌++◌, map}
use Rattle.std.specs.List.{All}
use Rattle.liberty_groups.specs.Groups.{Group, no_group}
use Rattle.liberty_groups.specs.Modes.{Frame}
use Rattle.liberty_groups.specs.Tables.{Row, gathered}
use Rattle.liberty_groups.specs.TableRows.{part_of, number_of, attributes_in, IsSpanIn, LiesIn}
use Rattle.liberty_groups.specs.declared.rows.OpenGroup.{OpenGroup}

-- its row, when it ends
abbrev pub row_of_open : List (List ℕ) → List (List ℕ) → OpenGroup → Row
row_of_open names texts o = record {
  name = o.name;
  args = part_of texts o.args;
  attributes = attributes_in names texts o.attributes.items;
  children = map number_of o.children.items;
}

-- what has been read of it, where the groups in it have these trees
abbrev pub frame_of_open : List (List ℕ) → List (List ℕ) → List Group → OpenGroup → Frame
frame_of_open names texts trees o = record {
  name = o.name;
  args = part_of texts o.args;
  attributes = attributes_in names texts o.attributes.items;
  groups = gathered trees no_group (map number_of o.children.items);
}

-- the innermost first
abbrev pub frames_of : List (List ℕ) → List (List ℕ) → List Group → List OpenGroup → List Frame
frames_of names texts trees [] = []
frames_of names texts trees (outer ∷ inner) = frames_of names texts trees inner ++ frame_of_open names texts trees outer ∷ []

-- its spans and the numbers of names lie in tables of so many entries, and the groups in it are among those that have ended
pub record IsOpenIn (names texts groups : ℕ) (o : OpenGroup) : Type 0 where
  pub args : IsSpanIn texts o.args
  pub own : All (LiesIn names texts) o.attributes.items
  pub inner : All (λ (number : ℕ). number < groups) (map number_of o.children.items)
