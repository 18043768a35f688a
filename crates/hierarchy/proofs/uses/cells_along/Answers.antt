-- The tables of the walk at a place.
use Rattle.std.proofs.Common.{ℕ, List, length, refl, sym, ap, ◌∙◌, subst, arith, None, not, false, replicate}
use Rattle.std.proofs.lemmas.Option.{slice_get_within}
use Rattle.hierarchy.specs.InstanceCells.{AreMarked}
use Rattle.hierarchy.specs.declared.walking.Visit.{Visit}
use Rattle.hierarchy.specs.declared.walking.MetInstance.{MetInstance}
use Rattle.hierarchy.proofs.Meeting.{cells_few, met_within, met_visit, module_within, instance_within, cells_after, cells_stay}
use Rattle.hierarchy.proofs.Marking.{none_marked}
use Rattle.hierarchy.proofs.uses.cells_along.Goals as goal
use Rattle.hierarchy.proofs.uses.cells_along.Goals.{then-is_none+in_ok-use_name, else-is_none}

abbrev no_visit : Visit
no_visit = record { parent = 0; instance = 0; «module» = 0 }

abbrev no_kept : MetInstance
no_kept = record { visit = 0; instance = 0; lower = None }

pub bounds-visits-met : goal.bounds-visits-met
bounds-visits-met c =
    met_visit c.args.modules.now c.args.top c.in_ok-walk.walk c.in_ok-walk.ensures.ok c.visits-visits.result.now c.met-met-items.result.now
    c.visits-visits.ensures c.met-met-items.ensures c.loop-met.met-index c.loop-met-test.true no_kept no_visit

pub number-number-requires : goal.number-number-requires
number-number-requires c = record {
  modules = c.args.modules.now;
  are = c.requires.cells;
  within = module_within c.args.modules.now c.args.top c.in_ok-walk.walk c.in_ok-walk.ensures.ok c.visits-visits.result.now c.met-met-items.result.now
      c.visits-visits.ensures c.met-met-items.ensures c.loop-met.met-index c.loop-met-test.true no_kept no_visit c.requires.within;
  place = instance_within c.args.modules.now c.args.top c.in_ok-walk.walk c.in_ok-walk.ensures.ok c.visits-visits.result.now c.met-met-items.result.now
      c.visits-visits.ensures c.met-met-items.ensures c.loop-met.met-index c.loop-met-test.true no_kept no_visit c.requires.within;
}

pub use_name-requires-clause-room : goal.use_name-requires-clause-room
use_name-requires-clause-room c =
    let modules = c.args.modules.now in
    let within = met_within modules c.args.top c.in_ok-walk.walk c.in_ok-walk.ensures.ok c.visits-visits.result.now c.met-met-items.result.now
    c.visits-visits.ensures c.met-met-items.ensures c.loop-met.met-index c.loop-met-test.true no_kept no_visit in
    omega (arith, cells_few modules c.args.top c.loop-met.met-index, ap length c.loop-met.invariant.0, c.requires.walkable.instances)

pub use_name-requires-clause-within : goal.use_name-requires-clause-within
use_name-requires-clause-within c =
    let modules = c.args.modules.now in
    let vs = c.visits-visits.result.now in
    let ms = c.met-met-items.result.now in
    let within = module_within modules c.args.top c.in_ok-walk.walk c.in_ok-walk.ensures.ok vs ms c.visits-visits.ensures c.met-met-items.ensures
    c.loop-met.met-index c.loop-met-test.true no_kept no_visit c.requires.within in
    let place = instance_within modules c.args.top c.in_ok-walk.walk c.in_ok-walk.ensures.ok vs ms c.visits-visits.ensures c.met-met-items.ensures
    c.loop-met.met-index c.loop-met-test.true no_kept no_visit c.requires.within in
    slice_get_within c.args.cells.now.names c.number-number.result _ (c.number-number.ensures modules c.requires.cells within place)

pub loop-met-init : goal.loop-met-init
loop-met-init c =
    let many = c.len.ensures.len ∙ ap length c.names.ensures in (
      c.new-names.ensures,
      none_marked c.args.cells.now.names c.in_ok-marks.marks.items c.new-names.result
          (c.in_ok-marks.ensures ∙ ap (λ n. replicate n false) many),
    )

pub loop-met-preserved : goal.loop-met-preserved
loop-met-preserved c =
    let modules = c.args.modules.now in
    let table = c.args.cells.now.names in
    let vs = c.visits-visits.result.now in
    let ms = c.met-met-items.result.now in
    let i = c.loop-met.met-index in
    elim c.if-is_none.branch [
      | then-is_none+in_ok-use_name w ↦
          let within = module_within modules c.args.top c.in_ok-walk.walk c.in_ok-walk.ensures.ok vs ms c.visits-visits.ensures c.met-met-items.ensures i
          c.loop-met-test.true no_kept no_visit c.requires.within in
          let place = instance_within modules c.args.top c.in_ok-walk.walk c.in_ok-walk.ensures.ok vs ms c.visits-visits.ensures c.met-met-items.ensures i
          c.loop-met-test.true no_kept no_visit c.requires.within in
          let here = w.number-number.ensures modules c.requires.cells within place in (
            cells_after modules c.args.top c.in_ok-walk.walk c.in_ok-walk.ensures.ok vs ms
                c.visits-visits.ensures c.met-met-items.ensures i c.loop-met-test.true no_kept no_visit
                c.loop-met.names c.if-is_none.names _ c.loop-met.invariant.0
                (c.is_none.ensures ∙ ap not w.if-is_none.true) refl
                (λ held. w.names-is ∙ w.in_ok-use_name.ensures.held _ here held) (λ fresh. w.names-is ∙ w.in_ok-use_name.ensures.added _ here fresh),
            subst (λ marks. AreMarked table marks.items c.if-is_none.names) (sym w.marks-is)
                (subst (λ (names : List (List ℕ)). AreMarked table w.use_name.new.marks.items names) (sym w.names-is) w.in_ok-use_name.ensures.marked),
          )
      | else-is_none w ↦ (
        cells_stay modules c.args.top c.in_ok-walk.walk c.in_ok-walk.ensures.ok vs ms c.visits-visits.ensures c.met-met-items.ensures i
            c.loop-met-test.true no_kept no_visit
            c.loop-met.names c.if-is_none.names c.loop-met.invariant.0 (c.is_none.ensures ∙ ap not w.if-is_none.false) w.names-is,
        subst (λ marks. AreMarked table marks.items c.if-is_none.names) (sym w.marks-is)
            (subst (λ (names : List (List ℕ)). AreMarked table c.loop-met.marks.items names) (sym w.names-is) c.loop-met.invariant.1),
      )
    ]
