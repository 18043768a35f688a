-- A walk on its way: what is met so far, and what the modules hold in which it stands.
use Rattle.std.specs.Prelude.{◌≡◌, ℕ, suc, ◌-◌, ◌<◌, ◌≤◌, List, [], ◌∷◌, ◌++◌, length, take, drop, get_or, slice_get, Some, All}
use Rattle.std.specs.List.{filter_map}
use Rattle.verilog_netlist.specs.NetModules.{NetModule}
use Rattle.hierarchy.specs.Hierarchy.{instance_count, module_on, IsPath}
use Rattle.hierarchy.specs.Walks.{Met, joined_from, most_depth, walk, met_at, whole_walk, entered}
use Rattle.hierarchy.specs.WalkTables.{path_at, no_met, IsVisit, IsMet}
use Rattle.hierarchy.specs.declared.walking.Visit.{Visit}
use Rattle.hierarchy.specs.declared.walking.MetInstance.{MetInstance}
use Rattle.hierarchy.specs.declared.walking.Frame.{Frame}

module _ (modules : List NetModule) (top : ℕ) where
  -- what is met in a module at this path, as many levels deep as modules may stand there
  abbrev pub walk_at : List ℕ → ℕ → List Met
  walk_at path = walk modules (most_depth - length path) path

  -- what is left of a module in which the walk stands
  unfoldable pub rest_of : Frame → List Met
  rest_of frame = joined_from (met_at modules (walk modules (most_depth - suc (length (path_at modules top frame.visit))))
      (path_at modules top frame.visit) frame.module) frame.next (instance_count modules frame.module - frame.next)

  -- what is left of all of them, the inner ones first
  abbrev pub held : List Frame → List Met
  held [] = []
  held (outer ∷ inner) = held inner ++ rest_of outer

  -- the next instance of a module in which the walk stands
  abbrev pub next_met : Frame → Met
  next_met frame = record { path = path_at modules top frame.visit; instance = frame.next }

  -- a module in which the walk stands, so many being visited so far
  pub record IsFrame (visited : ℕ) (frame : Frame) : Type 0 where
    pub visit : frame.visit < visited
    pub path : IsPath modules top (path_at modules top frame.visit)
    pub here : frame.module ≡ module_on modules top (path_at modules top frame.visit)
    pub within : frame.module < length modules

  -- the visits when so many instances are met
  abbrev pub visited_by : ℕ → ℕ
  visited_by many = suc (length (filter_map (entered modules top) (take many (whole_walk modules top))))

  -- what is met and what is left make the whole walk, and what is met so far is kept
  pub record IsGoing (visits : List Visit) (met : List MetInstance) (frames : List Frame) : Type 0 where
    pub standing : All (IsFrame (length visits)) frames
    pub count : length visits ≡ visited_by (length met)
    pub within : length met ≤ length (whole_walk modules top)
    pub rest : drop (length met) (whole_walk modules top) ≡ held frames
    pub each_visit : (v : ℕ) (visit : Visit) → slice_get visits v ≡ Some visit → IsVisit modules top v visit
    pub each_met : (i : ℕ) (kept : MetInstance) → slice_get met i ≡ Some kept
        → IsMet modules top (get_or (whole_walk modules top) i no_met) kept
