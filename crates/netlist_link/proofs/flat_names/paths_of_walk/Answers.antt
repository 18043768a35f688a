use Rattle.std.proofs.Common.{◌≡◌, ℕ, ◌<◌, ◌++◌, ◌∷◌, [], List, length, take, get_or, arith, sym, ap, ◌∙◌}
use Rattle.std.proofs.lemmas.List.{length-map, length-take-le}
use Rattle.edge_io.specs.Bytes.{slash}
use Rattle.name_table.specs.SdfNames.{part}
use Rattle.hierarchy.specs.Walks.{visits}
use Rattle.netlist_link.specs.FlatNames.{path_text, path_sdf}
use Rattle.netlist_link.specs.PathTables.{no_visit, top_of, visit_at, around_at}
use Rattle.netlist_link.proofs.PathSteps.{parent_before, lower_here, module_within, path_step, path_text_step, path_sdf_step, path_text_none, path_sdf_none}
use Rattle.netlist_link.proofs.flat_names.paths_of_walk.Goals as goal

pub bounds-visits-visit : goal.bounds-visits-visit
bounds-visits-visit c =
    let modules = c.args.modules.now in
    let walk = c.args.walk.now in
    let below : c.loop-v.v < length walk.visits = rw (sym c.visits-visits.ensures) c.loop-v-test.true in
    let before = parent_before modules (top_of walk) walk c.requires c.loop-v.v (omega arith) below in
    rw c.visits-visits.ensures (omega arith)

pub instance_name-name-requires-clause-within : goal.instance_name-name-requires-clause-within
instance_name-name-requires-clause-within c =
    let modules = c.args.modules.now in
    let walk = c.args.walk.now in
    let below : c.loop-v.v < length walk.visits = rw (sym c.visits-visits.ensures) c.loop-v-test.true in
    let lower = lower_here modules (top_of walk) walk c.requires c.loop-v.v (omega arith) below in
    rw c.visits-visits.ensures (module_within modules (around_at walk c.loop-v.v).«module» (visit_at walk c.loop-v.v).instance lower.0)

pub instance_name-name-requires-clause-place : goal.instance_name-name-requires-clause-place
instance_name-name-requires-clause-place c =
    let modules = c.args.modules.now in
    let walk = c.args.walk.now in
    let below : c.loop-v.v < length walk.visits = rw (sym c.visits-visits.ensures) c.loop-v-test.true in
    let lower = lower_here modules (top_of walk) walk c.requires c.loop-v.v (omega arith) below in
    rw c.visits-visits.ensures lower.0

pub add_path-requires-clause-texts : goal.add_path-requires-clause-texts
add_path-requires-clause-texts c =
    let modules = c.args.modules.now in
    let walk = c.args.walk.now in
    let v = c.loop-v.v in
    let below : v < length walk.visits = rw (sym c.visits-visits.ensures) c.loop-v-test.true in
    let before = parent_before modules (top_of walk) walk c.requires v (omega arith) below in
    let many : length c.loop-v.paths.texts ≡ v =
    ap length c.loop-v.invariant.texts_are ∙ length-map (take v (visits modules (top_of walk))) (path_text modules (top_of walk))
    ∙ length-take-le v (visits modules (top_of walk)) (let count = c.requires.visits_count in omega arith) in
    rw c.visits-visits.ensures (omega arith)

pub add_path-requires-clause-spellings : goal.add_path-requires-clause-spellings
add_path-requires-clause-spellings c =
    let modules = c.args.modules.now in
    let walk = c.args.walk.now in
    let v = c.loop-v.v in
    let below : v < length walk.visits = rw (sym c.visits-visits.ensures) c.loop-v-test.true in
    let before = parent_before modules (top_of walk) walk c.requires v (omega arith) below in
    let many : length c.loop-v.paths.spellings ≡ v =
    ap length c.loop-v.invariant.spellings_are ∙ length-map (take v (visits modules (top_of walk))) (path_sdf modules (top_of walk))
    ∙ length-take-le v (visits modules (top_of walk)) (let count = c.requires.visits_count in omega arith) in
    rw c.visits-visits.ensures (omega arith)

pub loop-v-init : goal.loop-v-init
loop-v-init c = record {
  texts_are = c.in_ok-push.ensures.ok ∙ ap (λ (l : List (List ℕ)). l ++ c.new-3.result ∷ []) c.new.ensures
      ∙ ap (λ (t : List ℕ). t ∷ []) (c.new-3.ensures ∙ sym (path_text_none c.args.modules.now (top_of c.args.walk.now)));
  spellings_are = c.in_ok-push-2.ensures.ok ∙ ap (λ (l : List (List ℕ)). l ++ c.new-4.result ∷ []) c.new-2.ensures
      ∙ ap (λ (t : List ℕ). t ∷ []) (c.new-4.ensures ∙ sym (path_sdf_none c.args.modules.now (top_of c.args.walk.now)));
}

pub loop-v-preserved : goal.loop-v-preserved
loop-v-preserved c =
    let modules = c.args.modules.now in
    let walk = c.args.walk.now in
    let v = c.loop-v.v in
    let below : v < length walk.visits = rw (sym c.visits-visits.ensures) c.loop-v-test.true in
    let top = top_of walk in
    let texts = c.loop-v.paths.texts in
    let spellings = c.loop-v.paths.spellings in
    let visit = get_or c.visits-visits.result.now v no_visit in
    record {
      texts_are = c.in_ok-add_path.ensures.texts
          ∙ ap (λ (name : List ℕ). texts ++ (get_or texts visit.parent [] ++ (name ++ slash ∷ [])) ∷ []) c.instance_name-name.ensures
          ∙ rw c.visits-visits.ensures (path_step modules top walk c.requires (path_text modules top) (λ name. name) (path_text_none modules top)
          (path_text_step modules top) v texts (omega arith) below c.loop-v.invariant.texts_are);
      spellings_are = c.in_ok-add_path.ensures.spellings
          ∙ ap (λ (name : List ℕ). spellings ++ (get_or spellings visit.parent [] ++ (part name ++ slash ∷ [])) ∷ []) c.instance_name-name.ensures
          ∙ rw c.visits-visits.ensures (path_step modules top walk c.requires (path_sdf modules top) part (path_sdf_none modules top)
          (path_sdf_step modules top) v spellings (omega arith) below c.loop-v.invariant.spellings_are);
    }
