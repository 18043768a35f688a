-- The first fault of questions, from those of their parts.
use Rattle.std.proofs.Common.{◌≡◌, ℕ, List, [], ◌∷◌, ◌++◌, All, refl, sym, ap, ◌∙◌, append_assoc, append-nil, take, drop, slice_get, Some, Result, Ok, Err, IfErr, take-append-drop, subst, ◌+◌}
use Rattle.std.specs.List.{flat_map}
use Rattle.std.specs.Result.{IsErrAnd}
use Rattle.std.proofs.lemmas.List.Concat.{flat_map-append}
use Rattle.std.proofs.lemmas.List.Elements.{All-nil, All-cons, All-append}
use Rattle.liberty_groups.specs.Groups.{Group}
use Rattle.liberty_tables.proofs.Fronts.{rest_at, front_at}
use Rattle.liberty_tables.specs.declared.faults.CellFault.{CellFault}
use Rattle.timing_arcs.specs.CellFaults.{Question, IsSound, IsFaulty, IsRefusal, first_fault, no_memory}

-- a fault of the first question
pub refused_at_once : {library : Group} {question : Question} {fault : CellFault} (behind : List Question) → IsFaulty library question fault → IsRefusal library (question ∷ behind) fault
refused_at_once {question = question} behind faulty = first_fault (record { before = []; question = question; behind = behind; split = refl; sound = All-nil _; faulty = faulty })

-- a fault of the first of two parts
pub refused_before : {library : Group} {fault : CellFault} (questions more : List Question) → IsRefusal library questions fault → IsRefusal library (questions ++ more) fault
refused_before questions more no_memory = no_memory
refused_before questions more (first_fault is) = first_fault (record {
  before = is.before;
  question = is.question;
  behind = is.behind ++ more;
  split = ap (λ l. l ++ more) is.split ∙ append_assoc is.before (is.question ∷ is.behind) more;
  sound = is.sound;
  faulty = is.faulty;
})

-- a fault of the second, where all before it is sound
pub refused_behind : {library : Group} {fault : CellFault} (before questions : List Question) → All (IsSound library) before → IsRefusal library questions fault → IsRefusal library (before ++ questions) fault
refused_behind before questions sound no_memory = no_memory
refused_behind {library} before questions sound (first_fault is) = first_fault (record {
  before = before ++ is.before;
  question = is.question;
  behind = is.behind;
  split = ap (λ l. before ++ l) is.split ∙ sym (append_assoc before is.before (is.question ∷ is.behind));
  sound = All-append (IsSound library) before is.before sound is.sound;
  faulty = is.faulty;
})

pub sound_one : {library : Group} {question : Question} → IsSound library question → All (IsSound library) (question ∷ [])
sound_one {library} {question} sound = All-cons (IsSound library) question [] sound (All-nil (IsSound library))

-- ---- questions of parts, one part after another

parts_at : {X : Type 0} (of : X → List Question) (xs : List X) (k : ℕ) (x : X) → slice_get xs k ≡ Some x → flat_map of xs ≡ flat_map of (take k xs) ++ (of x ++ flat_map of (drop (k + 1) xs))
parts_at of xs k x e = ap (flat_map of) (sym (take-append-drop k xs) ∙ ap (λ l. take k xs ++ l) (rest_at xs k x e)) ∙ flat_map-append of (take k xs) (x ∷ drop (k + 1) xs)

pub refused_part : {X : Type 0} {library : Group} {fault : CellFault} (of : X → List Question) (xs : List X) (k : ℕ) (x : X) → slice_get xs k ≡ Some x
    → All (IsSound library) (flat_map of (take k xs)) → IsRefusal library (of x) fault → IsRefusal library (flat_map of xs) fault
refused_part {library = library} {fault = fault} of xs k x e sound refused =
    subst (λ (l : List Question). IsRefusal library l fault) (sym (parts_at of xs k x e)) (refused_behind (flat_map of (take k xs)) (of x ++ flat_map of (drop (k + 1) xs)) sound (refused_before (of x) (flat_map of (drop (k + 1) xs)) refused))

pub sound_part : {X : Type 0} {library : Group} (of : X → List Question) (xs : List X) (k : ℕ) (x : X) → slice_get xs k ≡ Some x
    → All (IsSound library) (flat_map of (take k xs)) → All (IsSound library) (of x) → All (IsSound library) (flat_map of (take (k + 1) xs))
sound_part {library = library} of xs k x e sound also =
    subst (λ (l : List Question). All (IsSound library) l)
    (sym (ap (flat_map of) (front_at xs k x e) ∙ flat_map-append of (take k xs) (x ∷ []) ∙ ap (λ l. flat_map of (take k xs) ++ l) (append-nil (of x))))
    (All-append (IsSound library) (flat_map of (take k xs)) (of x) sound also)

-- what an error says that is handed on
pub handed_on : {T E : Type 0} (r : Result T E) (end : E) (P : E → Type 0) → IsErrAnd r (λ e. e ≡ end) → P end → IfErr r P
handed_on (Ok x) end P is holds = tt
handed_on (Err e) end P is holds = subst P (sym is) holds
