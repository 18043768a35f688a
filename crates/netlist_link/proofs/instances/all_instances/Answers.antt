use Rattle.std.proofs.Common.{◌≡◌, ◌<◌, List, length, get_or, is_some, not, sym, ap, ◌∙◌, subst, arith}
use Rattle.std.specs.Prelude.{slice_index}
use Rattle.hierarchy.specs.Walks.{Met}
use Rattle.hierarchy.specs.declared.walking.MetInstance.{MetInstance}
use Rattle.netlist_link.specs.Designs.{walk_of}
use Rattle.netlist_link.specs.InstanceRows.{mets_before, HoldInstances}
use Rattle.netlist_link.proofs.MetPlaces.{no_kept}
use Rattle.netlist_link.proofs.InstanceSteps.{cell_there, module_there, mets_more, mets_same, texts_step, instances_step, all_instances, all_texts}
use Rattle.netlist_link.proofs.instances.all_instances.Goals.{then-is_none+in_ok-add_instance, else-is_none}
use Rattle.netlist_link.proofs.instances.all_instances.Goals as goal

pub add_instance-requires-clause-cell : goal.add_instance-requires-clause-cell
add_instance-requires-clause-cell c =
    let d = c.args.design.now in
    let i = c.loop-i.i in
    let below : i < length d.walk.now.met = (let end = ap length c.met-many.ensures in let test = c.loop-i-test.true in omega arith) in
    cell_there d c.requires.sound.walk i below
    (ap (λ (l : List MetInstance). is_some (get_or l i no_kept).lower) (sym c.met.ensures) ∙ c.is_none.ensures ∙ ap not c.if-is_none.true)

pub loop-i-preserved : goal.loop-i-preserved
loop-i-preserved c =
    let d = c.args.design.now in
    let i = c.loop-i.i in
    let below : i < length d.walk.now.met = (let end = ap length c.met-many.ensures in let test = c.loop-i-test.true in omega arith) in
    let within : i < length (walk_of d) = (let count = c.requires.sound.walk.met_count in omega arith) in
    let lower = ap (λ (l : List MetInstance). is_some (get_or l i no_kept).lower) (sym c.met.ensures) ∙ c.is_none.ensures in
    let place = slice_index c.args.joints.now.places.items i in
    elim c.if-is_none.branch [
      | then-is_none+in_ok-add_instance w ↦
          (let of = cell_there d c.requires.sound.walk i below (lower ∙ ap not w.if-is_none.true) in
          let old = c.loop-i.instances in
          let new = w.add_instance.new.instances in
          rw w.instances-is (record {
            texts = texts_step d i within of old.names.texts c.loop-i.invariant.texts new.names.texts w.in_ok-add_instance.ensures.texts;
            kept = λ cells is distinct. subst (λ (mets : List Met). HoldInstances d mets new cells) (sym (mets_more d i within of))
                (instances_step d cells is distinct i place below of ((c.requires.joints cells is distinct).places_are i within of) (mets_before d i) old new
                (c.loop-i.invariant.kept cells is distinct) w.in_ok-add_instance.ensures);
          }))
      | else-is_none w ↦
          (let of = module_there d c.requires.sound.walk i below (lower ∙ ap not w.if-is_none.false) in
          rw (w.instances-is, mets_same d i within of) (record {
            texts = c.loop-i.invariant.texts;
            kept = c.loop-i.invariant.kept;
          }))
    ]

pub returns-clause-instances : goal.returns-clause-instances
returns-clause-instances c = λ cells is distinct.
    let d = c.args.design.now in
    let whole : c.loop-i.i ≡ length (walk_of d) =
    (let count = c.requires.sound.walk.met_count in let end = ap length c.met-many.ensures in let test = c.loop-i-test.false in
    let fits = c.loop-i.auto.i-end in omega arith) in
    all_instances d cells c.loop-i.instances c.loop-i.i (c.loop-i.invariant.kept cells is distinct) whole

pub returns-clause-texts : goal.returns-clause-texts
returns-clause-texts c =
    let d = c.args.design.now in
    let whole : c.loop-i.i ≡ length (walk_of d) =
    (let count = c.requires.sound.walk.met_count in let end = ap length c.met-many.ensures in let test = c.loop-i-test.false in
    let fits = c.loop-i.auto.i-end in omega arith) in
    all_texts d c.loop-i.instances.names.texts c.loop-i.i c.loop-i.invariant.texts whole
