-- What is joined to the names of a visited module below the top, in a design whose connections have no fault.
use Rattle.std.proofs.Common.{◌≡◌, ℕ, zero, suc, ◌<◌, Bool, true, false, if◌then◌else◌, List, [], ◌∷◌, length, drop, replicate, get_or, Option, Some, None, inl, inr, refl, sym, ap, ap₂, ◌∙◌, subst, arith}
use Rattle.std.specs.Prelude.{find, flat_map}
use Rattle.std.proofs.lemmas.Bool.{cases_lt}
use Rattle.std.proofs.lemmas.List.{length-replicate, get_or-replicate}
use Rattle.std.proofs.lemmas.Option.{slice_get-get_or}
use Rattle.cell_models.specs.NamedSets.{NamedCells}
use Rattle.hierarchy.specs.Hierarchy.{module_on, lower_of}
use Rattle.hierarchy.specs.Walks.{whole_walk, met_instance}
use Rattle.verilog_netlist.specs.ModuleNames.{no_name}
use Rattle.verilog_netlist.specs.NetModules.{NetModule, no_connection, instance_at, module_at}
use Rattle.verilog_netlist.specs.Ranges.{whole_width}
use Rattle.verilog_netlist.specs.SoundModules.{Differ}
use Rattle.netlist_link.specs.FlatBits.{is_port, joined_to, joined_above, name_on}
use Rattle.netlist_link.specs.FlatNames.{instance_text}
use Rattle.netlist_link.specs.LinkEnds.{Joint, port_joint, joint_of, joint_faults, joint_of_name, connection_faults, instance_faults, all_faults, port_named}
use Rattle.netlist_link.specs.PathTables.{IsWalk, top_of, visit_at}
use Rattle.netlist_link.specs.Designs.{has_port_name}
use Rattle.netlist_link.specs.BitTables.{path_of, module_of}
use Rattle.netlist_link.specs.FlatBitTables.{visits_of, connections_at, connection_of, joined_bits, names_of, JoinsName, IsJoinedAmong, HoldJoined, IsNameJoined, AreNamesJoined}
use Rattle.netlist_link.specs.declared.checking.Design.{Design}
use Rattle.netlist_link.proofs.Joining.{find_at, port_passes, port_fails}
use Rattle.netlist_link.proofs.JoinedNames.{NamesDiffer, one_port}
use Rattle.netlist_link.proofs.JoinedAbove.{joined_none, joined_some, none_in, width_fits, IsEntered, entered_met}
use Rattle.netlist_link.proofs.KeepingSteps.{around_module, path_there, visited}

module _ (d : Design) (walk : IsWalk d.modules.now d.walk.now) (v : ℕ) (lower : 0 < v) (below : v < length d.walk.now.visits) where
  abbrev modules : List NetModule
  modules = d.modules.now

  abbrev top : ℕ
  top = top_of d.walk.now

  abbrev k : ℕ
  k = (visit_at d.walk.now v).instance

  abbrev parent : ℕ
  parent = (visit_at d.walk.now v).parent

  met_of_visit : (u : ℕ) → 0 < u → u < length (visits_of d) → IsEntered d.modules.now (top_of d.walk.now) (whole_walk d.modules.now (top_of d.walk.now)) (path_of d u)
  met_of_visit zero some few = absurd (omega arith)
  met_of_visit (suc u) some few = entered_met d.modules.now (top_of d.walk.now) (whole_walk d.modules.now (top_of d.walk.now)) u (omega arith)

  entry : IsEntered d.modules.now (top_of d.walk.now) (whole_walk d.modules.now (top_of d.walk.now)) (path_of d v)
  entry = met_of_visit v lower (visited d walk v below d.walk.now.visits refl)

  same_path : entry.met.instance ∷ entry.met.path ≡ k ∷ path_of d parent
  same_path = entry.path_is ∙ path_there d walk v lower below

  connections_are : (met_instance modules top entry.met).connections ≡ connections_at d v
  connections_are =
      ap₂ (λ (path : List ℕ) (i : ℕ). (instance_at modules (module_on modules top path) i).connections) (ap (drop 1) same_path)
      (ap (λ (l : List ℕ). get_or l 0 0) same_path)
      ∙ ap (λ (m : ℕ). (instance_at modules m k).connections) (sym (around_module d walk v lower below))

  lower_is : lower_of modules (module_on modules top entry.met.path) entry.met.instance ≡ module_of d v
  lower_is = ap (module_on modules top) entry.path_is

  -- what is joined to a port has as many bits
  pub port_width : (cells : List NamedCells) → all_faults modules top cells ≡ [] → NamesDiffer (names_of d v) → (name c : ℕ)
      → name < length (names_of d v) → c < length (connections_at d v) → JoinsName d v name c
      → length (joined_bits d v c) ≡ whole_width (name_on modules top (path_of d v) name).range
  port_width cells faultless differ name c named within joins =
      let names = names_of d v in
      let port = (connection_of d v c).port in
      let own = none_in (instance_faults modules top cells) (whole_walk modules top) entry.place entry.met faultless entry.here in
      let all : flat_map (connection_faults modules top cells entry.met) (connections_at d v) ≡ [] =
      ap (flat_map (connection_faults modules top cells entry.met)) (sym connections_are) ∙ own in
      let none = none_in (connection_faults modules top cells entry.met) (connections_at d v) c (connection_of d v c) all
      (slice_get-get_or (connections_at d v) c no_connection within) in
      let found : find (has_port_name port) names ≡ Some (get_or names name no_name) =
      find_at (has_port_name port) names name no_name named (port_passes port names name joins.port)
      (λ i less. port_fails port names i (λ its. one_port names port i name differ (omega arith) named its joins.port (λ same. absurd (omega arith)))) in
      let joint : joint_of modules top cells entry.met port ≡ Some (port_joint (get_or names name no_name)) =
      rw entry.is (ap (λ (m : ℕ). joint_of_name (port_named (module_at modules m) port)) lower_is ∙ ap joint_of_name found) in
      width_fits (instance_text modules top entry.met) port (whole_width (get_or names name no_name).range) (length (joined_bits d v c))
      (ap (λ (j : Option Joint). joint_faults (instance_text modules top entry.met) port j (length (joined_bits d v c))) (sym joint) ∙ none) joins.some

  above_is : (name : ℕ) → joined_above modules top (path_of d v) name
      ≡ (if is_port (name_on modules top (path_of d v) name) then joined_to (connections_at d v) (name_on modules top (path_of d v) name).text else None)
  above_is name =
      ap (λ (path : List ℕ). joined_above modules top path name) (path_there d walk v lower below)
      ∙ ap (λ (m : ℕ). if is_port (name_on modules top (k ∷ path_of d parent) name)
      then joined_to (instance_at modules m k).connections (name_on modules top (k ∷ path_of d parent) name).text else None)
      (sym (around_module d walk v lower below))
      ∙ ap (λ (path : List ℕ). if is_port (name_on modules top path name) then joined_to (connections_at d v) (name_on modules top path name).text else None)
      (sym (path_there d walk v lower below))

  pub name_joined : (cells : List NamedCells) → all_faults modules top cells ≡ [] → NamesDiffer (names_of d v)
      → Differ (length (connections_at d v)) (λ c. (connection_of d v c).port) → (name : ℕ) → name < length (names_of d v) → (number : Option ℕ)
      → IsJoinedAmong d v (length (connections_at d v)) name number → IsNameJoined d v name number
  name_joined cells faultless differ ports name named None never =
      above_is name ∙ by (is_port (name_on modules top (path_of d v) name)) refl
    where
      text : List ℕ
      text = (name_on modules top (path_of d v) name).text

      by : (is : Bool) → is_port (name_on modules top (path_of d v) name) ≡ is
          → (if is_port (name_on modules top (path_of d v) name) then joined_to (connections_at d v) text else None) ≡ None
      by false is = rw is refl
      by true is = rw is (joined_none (connections_at d v) text (λ c within same. elim (cases_lt 0 (length (joined_bits d v c))) [
        | inl some ↦ absurd (never c within (record { port = record { port = is; text = sym same }; some = some }))
        | inr few ↦ omega arith
      ]))
  name_joined cells faultless differ ports name named (Some c) (within, joins) = record {
    lower = lower;
    within = within;
    joined = above_is name ∙ rw joins.port.port (joined_some (connections_at d v) (name_on modules top (path_of d v) name).text c within (sym joins.port.text)
        (λ i less same. ports i c less within (same ∙ joins.port.text)) joins.some);
    width = port_width cells faultless differ name c named within joins;
  }

  pub names_joined : (cells : List NamedCells) → all_faults modules top cells ≡ [] → NamesDiffer (names_of d v)
      → Differ (length (connections_at d v)) (λ c. (connection_of d v c).port) → (joined : List (Option ℕ))
      → HoldJoined d v (length (connections_at d v)) joined → AreNamesJoined d v joined
  names_joined cells faultless differ ports joined held = record {
    count = held.count;
    each = λ name named. name_joined cells faultless differ ports name (let count = held.count in omega arith) (get_or joined name None) (held.each name named);
  }

-- nothing is joined at first
pub none_joined : (d : Design) (v : ℕ) (joined : List (Option ℕ)) → joined ≡ replicate (length (names_of d v)) None → HoldJoined d v 0 joined
none_joined d v joined is = record {
  count = ap length is ∙ length-replicate (length (names_of d v)) None;
  each = λ name below. subst (IsJoinedAmong d v 0 name)
      (sym (ap (λ (l : List (Option ℕ)). get_or l name None) is ∙ get_or-replicate (length (names_of d v)) name None None
      (let count = ap length is ∙ length-replicate (length (names_of d v)) None in omega arith)))
      (λ c less joins. absurd (omega arith));
}

-- and nothing to the top
pub top_joined : (d : Design) (v : ℕ) (joined : List (Option ℕ)) → v ≡ 0 → joined ≡ replicate (length (names_of d v)) None → AreNamesJoined d v joined
top_joined d v joined first is = record {
  count = ap length is ∙ length-replicate (length (names_of d v)) None;
  each = λ name below. subst (IsNameJoined d v name)
      (sym (ap (λ (l : List (Option ℕ)). get_or l name None) is ∙ get_or-replicate (length (names_of d v)) name None None
      (let count = ap length is ∙ length-replicate (length (names_of d v)) None in omega arith)))
      (ap (λ (u : ℕ). joined_above d.modules.now (top_of d.walk.now) (path_of d u) name) first);
}
