-- Where an instance stands that a walk meets.
use Rattle.std.proofs.Common.{false, ◌≡◌, ℕ, ◌<◌, length, get_or, Some, None, sym, ap, subst, ◌∙◌, arith, List}
use Rattle.std.proofs.lemmas.Bool.{ltb-true}
use Rattle.std.proofs.lemmas.Option.{slice_get-get_or}
use Rattle.verilog_netlist.specs.NetModules.{NetModule}
use Rattle.hierarchy.specs.Hierarchy.{lower_of, instance_count, module_on}
use Rattle.hierarchy.specs.Walks.{Met, whole_walk, is_module}
use Rattle.hierarchy.specs.WalkLaws.{StandsIn, met-stand}
use Rattle.hierarchy.specs.WalkTables.{WalkTables, no_met, IsMet, IsLowerVisit, AreTablesOfWalk}
use Rattle.hierarchy.specs.declared.walking.MetInstance.{MetInstance}
use Rattle.netlist_link.specs.PathTables.{visit_at}
use Rattle.netlist_link.proofs.PathSteps.{visit_is, module_within}

abbrev pub no_kept : MetInstance
no_kept = record { visit = 0; instance = 0; lower = None }

abbrev pub kept_met : WalkTables → ℕ → MetInstance
kept_met tables i = get_or tables.met i no_kept

module _ (modules : List NetModule) (top : ℕ) (tables : WalkTables) (is : AreTablesOfWalk modules top tables) (i : ℕ) (below : i < length tables.met) where
  abbrev walked : Met
  walked = get_or (whole_walk modules top) i no_met

  pub met_is : IsMet modules top walked (kept_met tables i)
  met_is = is.each_met i (kept_met tables i) (slice_get-get_or tables.met i no_kept below)

  pub met_stands : StandsIn modules top walked
  met_stands = let count = is.met_count in met-stand modules top i no_met (omega arith)

  pub met_visited : (kept_met tables i).visit < length tables.visits
  met_visited = let count = is.visits_count in let visit = met_is.visit in omega arith

  pub met_module : (visit_at tables (kept_met tables i).visit).«module» ≡ module_on modules top walked.path
  met_module = (visit_is modules top tables is (kept_met tables i).visit met_visited).here ∙ ap (module_on modules top) met_is.path

  pub met_within : (kept_met tables i).instance < instance_count modules (visit_at tables (kept_met tables i).visit).«module»
  met_within = subst (λ (m : ℕ). (kept_met tables i).instance < instance_count modules m) (sym met_module)
      (subst (λ (k : ℕ). k < instance_count modules (module_on modules top walked.path)) (sym met_is.instance) met_stands.within)

  pub met_module_within : (visit_at tables (kept_met tables i).visit).«module» < length modules
  met_module_within = module_within modules (visit_at tables (kept_met tables i).visit).«module» (kept_met tables i).instance met_within

  -- where it is an instance of a module, that module is visited
  pub met_lower : (v : ℕ) → (kept_met tables i).lower ≡ Some v → IsLowerVisit modules top walked (Some v)
  met_lower v lower = subst (IsLowerVisit modules top walked) lower met_is.lower

  pub met_cell : (kept_met tables i).lower ≡ None → is_module modules top walked ≡ false
  met_cell lower = subst (IsLowerVisit modules top walked) lower met_is.lower

  pub lower_visited : (v : ℕ) → (kept_met tables i).lower ≡ Some v → v < length tables.visits
  lower_visited v lower = let count = is.visits_count in let below = (met_lower v lower).0 in omega arith

  pub lower_module : (v : ℕ) → (kept_met tables i).lower ≡ Some v
      → (visit_at tables v).«module» ≡ lower_of modules (module_on modules top walked.path) walked.instance
  lower_module v lower = (visit_is modules top tables is v (lower_visited v lower)).here ∙ ap (module_on modules top) (met_lower v lower).1

  pub lower_within : (v : ℕ) → (kept_met tables i).lower ≡ Some v → (visit_at tables v).«module» < length modules
  lower_within v lower = subst (λ (m : ℕ). m < length modules) (sym (lower_module v lower))
      (ltb-true (lower_of modules (module_on modules top walked.path) walked.instance) (length modules) (met_lower v lower).2)
