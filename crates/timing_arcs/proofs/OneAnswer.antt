-- A cell of a library has one answer.
use Rattle.std.proofs.Common.{◌≡◌, ◌≢◌, true, true≢false, List, [], ◌∷◌, ◌++◌, All, Result, Ok, Err, refl, sym, ◌∙◌, subst}
use Rattle.std.proofs.lemmas.List.Elements.{All-head, All-tail}
use Rattle.delay_units.specs.declared.numbers.Unit.{Unit}
use Rattle.liberty_groups.specs.Groups.{Group}
use Rattle.nldm_lookup.specs.Tables.{TimingTable}
use Rattle.liberty_tables.specs.declared.library_units.LibraryUnits.{LibraryUnits}
use Rattle.liberty_tables.specs.declared.faults.CellFault.{CellFault}
use Rattle.liberty_tables.specs.declared.faults.CellFault.TheVariants.{OutOfMemory}
use Rattle.timing_arcs.specs.PinModel.{capacitance_texts, IsCapacitance}
use Rattle.timing_arcs.specs.DelayGroups.{is_pin_in}
use Rattle.timing_arcs.specs.DelayTables.{delay_names}
use Rattle.liberty_tables.specs.TableModel.{TableMeans, TransitionMeans}
use Rattle.timing_arcs.specs.CellFaults.{Question, questions_of, IsSound, time_known, load_known, directed, measured, related, tabled, transition_known, IsFaulty, no_time_unit, no_load_unit, no_direction, no_capacitance, unrelated, bad_table, missing_transition, bad_transition, IsRefusal, first_fault, no_memory, no_such_cell, fault_of, no_cell_memory}
use Rattle.timing_arcs.specs.OneAnswer.{NoFaultBeside, OneFault}
use Rattle.liberty_tables.proofs.Fronts.{some_is}
use Rattle.liberty_tables.proofs.OneTable.{one_table_lem, one_transition_lem}
use Rattle.liberty_tables.proofs.OneUnits.{one_load, one_pair}

ok_is_none : (made : TimingTable) → (let a : Result TimingTable CellFault = Ok made in let b : Result TimingTable CellFault = Err OutOfMemory in a ≢ b)
ok_is_none made e = absurd cc

ok_no_err : (made : TimingTable) (fault : CellFault) → (let a : Result TimingTable CellFault = Ok made in let b : Result TimingTable CellFault = Err fault in a ≢ b)
ok_no_err made fault e = absurd cc

err_is : (a b : CellFault) → (let x : Result TimingTable CellFault = Err a in let y : Result TimingTable CellFault = Err b in x ≡ y) → a ≡ b
err_is a b e = cc

-- a sound question has no fault, want of memory aside
sound_or_faulty : (library : Group) (question : Question) (fault : CellFault) → IsSound library question → IsFaulty library question fault → fault ≢ OutOfMemory → ⊥
sound_or_faulty library _ _ (time_known {unit} is) (no_time_unit none) = λ n. none unit is
sound_or_faulty library _ _ (load_known {unit} is) (no_load_unit none) = λ n. none unit is
sound_or_faulty library _ _ (directed way) (no_direction none) = λ n. cc
sound_or_faulty library _ _ (measured {pin} {unit} {grains} known is) (no_capacitance {unit = other} others none) = λ n.
    none grains (subst (λ (u : Unit). IsCapacitance u (capacitance_texts library pin) grains) (one_load library unit other known others) is)
sound_or_faulty library _ _ (related {pins = pins} known) (unrelated {name = name} among unknown) = λ n.
    true≢false (sym (subst (λ x. is_pin_in pins x ≡ true) among.2 (known among.0 name among.1)) ∙ unknown)
sound_or_faulty library _ _ (tabled {group = g} {units = units} {made = made} known is) (bad_table {units = other} {fault = fault} others bad) = λ n.
    ok_no_err made fault (one_table_lem delay_names library g other (Ok made) (Err fault) (subst (λ (u : LibraryUnits). TableMeans delay_names library g u (Ok made)) (one_pair library units other known others) is) bad (ok_is_none made) (λ e. n (err_is fault OutOfMemory e)))
sound_or_faulty library _ _ (transition_known {group = g} {units = units} {made = made} known is) (bad_transition {units = other} {fault = fault} others bad) = λ n.
    ok_no_err made fault (one_transition_lem delay_names library g other (Ok made) (Err fault) (subst (λ (u : LibraryUnits). TransitionMeans delay_names library g u (Ok made)) (one_pair library units other known others) is) bad (ok_is_none made) (λ e. n (err_is fault OutOfMemory e)))

-- two faults of one question are one
one_of_question : (library : Group) (question : Question) (one other : CellFault) → IsFaulty library question one → IsFaulty library question other → one ≢ OutOfMemory → other ≢ OutOfMemory → one ≡ other
one_of_question library _ _ _ (no_time_unit a) (no_time_unit b) = λ n m. refl
one_of_question library _ _ _ (no_load_unit a) (no_load_unit b) = λ n m. refl
one_of_question library _ _ _ (no_direction a) (no_direction b) = λ n m. refl
one_of_question library _ _ _ (no_capacitance k a) (no_capacitance l b) = λ n m. refl
one_of_question library _ _ _ (unrelated a b) (unrelated c d) = λ n m. refl
one_of_question library _ _ _ missing_transition missing_transition = λ n m. refl
one_of_question library _ _ _ (bad_table {group = g} {units = units} {fault = one} known is) (bad_table {units = other} {fault = two} others bad) = λ n m.
    err_is one two (one_table_lem delay_names library g other (Err one) (Err two) (subst (λ (u : LibraryUnits). TableMeans delay_names library g u (Err one)) (one_pair library units other known others) is) bad (λ e. n (err_is one OutOfMemory e)) (λ e. m (err_is two OutOfMemory e)))
one_of_question library _ _ _ (bad_transition {group = g} {units = units} {fault = one} known is) (bad_transition {units = other} {fault = two} others bad) = λ n m.
    err_is one two (one_transition_lem delay_names library g other (Err one) (Err two) (subst (λ (u : LibraryUnits). TransitionMeans delay_names library g u (Err one)) (one_pair library units other known others) is) bad (λ e. n (err_is one OutOfMemory e)) (λ e. m (err_is two OutOfMemory e)))

-- ---- the first of several

-- where all are sound none has a fault
all_sound : (library : Group) (before : List Question) (question : Question) (behind : List Question) (fault : CellFault) → All (IsSound library) (before ++ question ∷ behind) → IsFaulty library question fault → fault ≢ OutOfMemory → ⊥
all_sound library [] question behind fault sound faulty n = sound_or_faulty library question fault (All-head (IsSound library) question behind sound) faulty n
all_sound library (q ∷ before) question behind fault sound faulty n = all_sound library before question behind fault (All-tail (IsSound library) q (before ++ question ∷ behind) sound) faulty n

cons_is : {X : Type 0} (x y : X) (xs ys : List X) → x ∷ xs ≡ y ∷ ys → (x ≡ y) × (xs ≡ ys)
cons_is x y xs ys e = (cc, cc)

one_first : (library : Group) (before : List Question) (question : Question) (behind : List Question) (before' : List Question) (question' : Question) (behind' : List Question) (one other : CellFault)
    → before ++ question ∷ behind ≡ before' ++ question' ∷ behind' → All (IsSound library) before → All (IsSound library) before' → IsFaulty library question one → IsFaulty library question' other → one ≢ OutOfMemory → other ≢ OutOfMemory → one ≡ other
one_first library [] question behind [] question' behind' one other e sound sound' faulty faulty' n m =
    one_of_question library question' one other (subst (λ q. IsFaulty library q one) (cons_is question question' behind behind' e).0 faulty) faulty' n m
one_first library [] question behind (q ∷ before') question' behind' one other e sound sound' faulty faulty' n m =
    absurd (sound_or_faulty library q one (All-head (IsSound library) q before' sound') (subst (λ x. IsFaulty library x one) (cons_is question q behind (before' ++ question' ∷ behind') e).0 faulty) n)
one_first library (q ∷ before) question behind [] question' behind' one other e sound sound' faulty faulty' n m =
    absurd (sound_or_faulty library q other (All-head (IsSound library) q before sound) (subst (λ x. IsFaulty library x other) (sym (cons_is q question' (before ++ question ∷ behind) behind' e).0) faulty') m)
one_first library (q ∷ before) question behind (q' ∷ before') question' behind' one other e sound sound' faulty faulty' n m =
    one_first library before question behind before' question' behind' one other (cons_is q q' (before ++ question ∷ behind) (before' ++ question' ∷ behind') e).1
    (All-tail (IsSound library) q before sound) (All-tail (IsSound library) q' before' sound') faulty faulty' n m

one_refusal : (library : Group) (questions : List Question) (one other : CellFault) → IsRefusal library questions one → IsRefusal library questions other → one ≢ OutOfMemory → other ≢ OutOfMemory → one ≡ other
one_refusal library questions one other no_memory b n m = absurd (n refl)
one_refusal library questions one other (first_fault a) no_memory n m = absurd (m refl)
one_refusal library questions one other (first_fault a) (first_fault b) n m =
    one_first library a.before a.question a.behind b.before b.question b.behind one other (sym a.split ∙ b.split) a.sound b.sound a.faulty b.faulty n m

no_refusal : (library : Group) (questions : List Question) (fault : CellFault) → All (IsSound library) questions → IsRefusal library questions fault → fault ≢ OutOfMemory → ⊥
no_refusal library questions fault sound no_memory n = n refl
no_refusal library questions fault sound (first_fault is) n = all_sound library is.before is.question is.behind fault (subst (All (IsSound library)) is.split sound) is.faulty n

pub one_fault_lem : OneFault
one_fault_lem library name one other (no_such_cell e) (no_such_cell f) n m = refl
one_fault_lem library name one other (no_such_cell e) (fault_of f refused) n m = absurd cc
one_fault_lem library name one other (no_such_cell e) no_cell_memory n m = absurd (m refl)
one_fault_lem library name one other (fault_of f refused) (no_such_cell e) n m = absurd cc
one_fault_lem library name one other (fault_of {group = a} e refused) (fault_of {group = b} f also) n m =
    one_refusal library (questions_of b) one other (subst (λ g. IsRefusal library (questions_of g) one) (some_is a b (sym e ∙ f)) refused) also n m
one_fault_lem library name one other (fault_of e refused) no_cell_memory n m = absurd (m refl)
one_fault_lem library name one other no_cell_memory b n m = absurd (n refl)

is_memory : (fault : CellFault) → (fault ≢ OutOfMemory → ⊥) → fault ≡ OutOfMemory
is_memory OutOfMemory not_other = refl
is_memory _ not_other = absurd (not_other (λ e. cc))

pub no_fault_beside_lem : NoFaultBeside
no_fault_beside_lem library name cell fault is (no_such_cell e) = let found = is.found in absurd cc
no_fault_beside_lem library name cell fault is (fault_of {group = g} e refused) =
    is_memory fault (λ n. no_refusal library (questions_of g) fault (subst (λ x. All (IsSound library) (questions_of x)) (some_is is.group g (sym is.found ∙ e)) is.sound) refused n)
no_fault_beside_lem library name cell fault is no_cell_memory = refl
