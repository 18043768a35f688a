use Rattle.std.proofs.Common.{◌≡◌, ◌++◌, ◌∷◌, ℕ, List, [], length, get_or, OnOk, ap, ap₂, ◌∙◌, subst, arith}
use Rattle.std.proofs.lemmas.List.{length-map, get_or-map}
use Rattle.name_table.specs.SdfNames.{part}
use Rattle.verilog_netlist.specs.NetModules.{instance_at}
use Rattle.hierarchy.specs.Hierarchy.{module_on}
use Rattle.hierarchy.specs.Walks.{visits}
use Rattle.hierarchy.specs.declared.walking.MetInstance.{MetInstance}
use Rattle.netlist_link.specs.FlatNames.{path_text, path_sdf, instance_text, instance_sdf}
use Rattle.netlist_link.specs.PathTables.{top_of, text_at, spelling_at}
use Rattle.netlist_link.specs.Designs.{met_of}
use Rattle.netlist_link.proofs.MetPlaces.{no_kept, kept_met, met_is, met_visited}
use Rattle.netlist_link.proofs.instances.add_names.Goals as goal

pub text-path-requires : goal.text-path-requires
text-path-requires c =
    let d = c.args.design.now in
    let below = met_visited d.modules.now (top_of d.walk.now) d.walk.now c.requires.walk c.args.i c.requires.within in
    let many = ap length c.requires.paths.texts_are ∙ length-map (visits d.modules.now (top_of d.walk.now)) (path_text d.modules.now (top_of d.walk.now)) in
    let count = c.requires.walk.visits_count in
    rw c.met-met.ensures (omega arith)

pub spelling-spelled_path-requires : goal.spelling-spelled_path-requires
spelling-spelled_path-requires c =
    let d = c.args.design.now in
    let below = met_visited d.modules.now (top_of d.walk.now) d.walk.now c.requires.walk c.args.i c.requires.within in
    let many = ap length c.requires.paths.spellings_are ∙ length-map (visits d.modules.now (top_of d.walk.now)) (path_sdf d.modules.now (top_of d.walk.now)) in
    let count = c.requires.walk.visits_count in
    rw c.met-met.ensures (omega arith)

pub returns-clause-texts : goal.returns-clause-texts
returns-clause-texts c =
    let d = c.args.design.now in
    let modules = d.modules.now in
    let top = top_of d.walk.now in
    let met = met_of d c.args.i in
    let kept = kept_met d.walk.now c.args.i in
    let is = met_is modules top d.walk.now c.requires.walk c.args.i c.requires.within in
    let visit_is : (get_or c.met-met.result.now c.args.i no_kept).visit ≡ kept.visit =
    ap (λ (l : List MetInstance). (get_or l c.args.i no_kept).visit) c.met-met.ensures in
    let path : text_at d.paths.now kept.visit ≡ path_text modules top met.path =
    ap (λ (l : List (List ℕ)). get_or l kept.visit []) c.requires.paths.texts_are
    ∙ get_or-map (path_text modules top) (visits modules top) kept.visit [] [] is.visit ∙ ap (path_text modules top) is.path in
    let name : c.instance_name-name.result.now ≡ (instance_at modules (module_on modules top met.path) met.instance).name =
    c.instance_name-name.ensures ∙ ap₂ (λ (m k : ℕ). (instance_at modules m k).name) c.place_of-m.ensures.module_is c.place_of-m.ensures.instance_is in
    let text_is : c.text-path.result.now ++ c.instance_name-name.result.now ≡ instance_text modules top met =
    ap₂ (λ (a b : List ℕ). a ++ b) (c.text-path.ensures ∙ ap (text_at d.paths.now) visit_is ∙ path) name in
    subst (λ (text : List ℕ). OnOk c.push.result (c.push.new.self.texts ≡ c.args.names.now.texts ++ text ∷ [])) text_is c.push.ensures.texts

pub returns-clause-spellings : goal.returns-clause-spellings
returns-clause-spellings c =
    let d = c.args.design.now in
    let modules = d.modules.now in
    let top = top_of d.walk.now in
    let met = met_of d c.args.i in
    let kept = kept_met d.walk.now c.args.i in
    let is = met_is modules top d.walk.now c.requires.walk c.args.i c.requires.within in
    let visit_is : (get_or c.met-met.result.now c.args.i no_kept).visit ≡ kept.visit =
    ap (λ (l : List MetInstance). (get_or l c.args.i no_kept).visit) c.met-met.ensures in
    let path : spelling_at d.paths.now kept.visit ≡ path_sdf modules top met.path =
    ap (λ (l : List (List ℕ)). get_or l kept.visit []) c.requires.paths.spellings_are
    ∙ get_or-map (path_sdf modules top) (visits modules top) kept.visit [] [] is.visit ∙ ap (path_sdf modules top) is.path in
    let name : c.instance_name-name.result.now ≡ (instance_at modules (module_on modules top met.path) met.instance).name =
    c.instance_name-name.ensures ∙ ap₂ (λ (m k : ℕ). (instance_at modules m k).name) c.place_of-m.ensures.module_is c.place_of-m.ensures.instance_is in
    let sdf_is : c.spelling-spelled_path.result.now ++ part c.instance_name-name.result.now ≡ instance_sdf modules top met =
    ap₂ (λ (a b : List ℕ). a ++ b) (c.spelling-spelled_path.ensures ∙ ap (spelling_at d.paths.now) visit_is ∙ path) (ap part name) in
    subst (λ (text : List ℕ). OnOk c.push.result (c.push.new.self.spellings ≡ c.args.names.now.spellings ++ text ∷ [])) sdf_is c.push.ensures.spellings
