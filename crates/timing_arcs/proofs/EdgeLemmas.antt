-- The questions of an edge.
use Rattle.std.proofs.Common.{◌≡◌, [], ◌∷◌, All, Option, Some, None, Result, Ok, Err, OnOk, IfOk, IfErr, subst}
use Rattle.std.proofs.lemmas.List.Elements.{All-nil, All-cons}
use Rattle.nldm_lookup.specs.Tables.{TimingTable}
use Rattle.liberty_groups.specs.Groups.{Group}
use Rattle.liberty_tables.specs.declared.library_units.LibraryUnits.{LibraryUnits}
use Rattle.cell_models.specs.declared.cell.EdgeTables.{EdgeTables}
use Rattle.liberty_tables.specs.declared.faults.CellFault.{CellFault}
use Rattle.liberty_tables.specs.declared.faults.CellFault.TheVariants.{NoTransition}
use Rattle.liberty_tables.specs.LibraryUnits.{AreUnits}
use Rattle.timing_arcs.specs.DelayTables.{delay_names}
use Rattle.liberty_tables.specs.TableModel.{TableMeans, TransitionMeans}
use Rattle.timing_arcs.specs.DelayGroups.{AreEdgeTables, edge}
use Rattle.timing_arcs.specs.CellFaults.{table, transition, transition_table, edge_questions, IsSound, tabled, transition_known, bad_table, missing_transition, bad_transition, IsRefusal}
use Rattle.timing_arcs.proofs.Refusals.{refused_at_once, refused_behind, sound_one}

pub edge_ok : (library delay slew : Group) (units : LibraryUnits) (tables : EdgeTables) → AreUnits library units → TableMeans delay_names library delay units (Ok tables.delay) → TransitionMeans delay_names library slew units (Ok tables.slew)
    → AreEdgeTables library (Some delay) (Some slew) (Some tables)
edge_ok library delay slew units tables known one two = edge known one two

pub edge_sound : (library delay slew : Group) (units : LibraryUnits) (one two : TimingTable) → AreUnits library units → TableMeans delay_names library delay units (Ok one) → TransitionMeans delay_names library slew units (Ok two)
    → All (IsSound library) (edge_questions (Some delay) (Some slew))
edge_sound library delay slew units one two known is also = All-cons (IsSound library) (table delay) (transition_table slew ∷ []) (tabled known is) (sound_one (transition_known known also))

pub delay_refused : (library delay : Group) (slew : Option Group) (units : LibraryUnits) (fault : CellFault) → AreUnits library units → TableMeans delay_names library delay units (Err fault) → IsRefusal library (edge_questions (Some delay) slew) fault
delay_refused library delay None units fault known is = refused_at_once (transition ∷ []) (bad_table known is)
delay_refused library delay (Some slew) units fault known is = refused_at_once (transition_table slew ∷ []) (bad_table known is)

pub transition_missing : (library delay : Group) (units : LibraryUnits) (one : TimingTable) → AreUnits library units → TableMeans delay_names library delay units (Ok one) → IsRefusal library (edge_questions (Some delay) None) NoTransition
transition_missing library delay units one known is = refused_behind (table delay ∷ []) (transition ∷ []) (sound_one (tabled known is)) (refused_at_once [] missing_transition)

pub slew_refused : (library delay slew : Group) (units : LibraryUnits) (one : TimingTable) (fault : CellFault) → AreUnits library units → TableMeans delay_names library delay units (Ok one) → TransitionMeans delay_names library slew units (Err fault)
    → IsRefusal library (edge_questions (Some delay) (Some slew)) fault
slew_refused library delay slew units one fault known is refused = refused_behind (table delay ∷ []) (transition_table slew ∷ []) (sound_one (tabled known is)) (refused_at_once [] (bad_transition known refused))

pub none_sound : (library : Group) (slew : Option Group) → All (IsSound library) (edge_questions None slew)
none_sound library slew = All-nil (IsSound library)

-- the same of the groups that are found
pub ok_found : (r : Result (Option EdgeTables) CellFault) (library : Group) {d d' s s' : Option Group} → d ≡ d' → s ≡ s' → IfOk r (AreEdgeTables library d s) → IfOk r (AreEdgeTables library d' s')
ok_found r library {d} {d'} {s} {s'} e f is = subst (λ x. IfOk r (AreEdgeTables library x s')) e (subst (λ x. IfOk r (AreEdgeTables library d x)) f is)

pub sound_found : {T : Type 0} (r : Result T CellFault) (library : Group) {d d' s s' : Option Group} → d ≡ d' → s ≡ s' → OnOk r (All (IsSound library) (edge_questions d s)) → OnOk r (All (IsSound library) (edge_questions d' s'))
sound_found r library {d} {d'} {s} {s'} e f is = subst (λ x. OnOk r (All (IsSound library) (edge_questions x s'))) e (subst (λ x. OnOk r (All (IsSound library) (edge_questions d x))) f is)

pub refused_found : {T : Type 0} (r : Result T CellFault) (library : Group) {d d' s s' : Option Group} → d ≡ d' → s ≡ s' → IfErr r (IsRefusal library (edge_questions d s)) → IfErr r (IsRefusal library (edge_questions d' s'))
refused_found r library {d} {d'} {s} {s'} e f is = subst (λ x. IfErr r (IsRefusal library (edge_questions x s'))) e (subst (λ x. IfErr r (IsRefusal library (edge_questions d x))) f is)
