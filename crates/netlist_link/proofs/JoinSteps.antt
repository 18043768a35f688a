-- One connection more of an instance.
use Rattle.std.proofs.Common.{◌≡◌, ℕ, ◌+◌, List, [], ◌∷◌, ◌++◌, length, map, take, drop, Option, Some, sym, ap, ap₂, ◌∙◌, append_assoc, append-nil}
use Rattle.std.specs.Prelude.{slice_get, flat_map}
use Rattle.std.proofs.lemmas.List.{map-append, take-append-drop}
use Rattle.std.proofs.lemmas.Grind.{flat_map-append}
use Rattle.verilog_netlist.specs.NetModules.{NetConnection, bits_in}
use Rattle.cell_models.specs.NamedSets.{NamedCells}
use Rattle.netlist_link.specs.FlatNames.{instance_text}
use Rattle.netlist_link.specs.LinkEnds.{Joint, joint_faults, connection_faults, instance_faults}
use Rattle.netlist_link.specs.PathTables.{top_of}
use Rattle.netlist_link.specs.Designs.{met_of, joint_here, number_here, connections_of, joint_in, IsFirstOf, first_is, no_memory_is, AreJoined}
use Rattle.netlist_link.specs.declared.checking.Design.{Design}
use Rattle.netlist_link.specs.declared.checking.KeptJoint.{KeptJoint}
use Rattle.netlist_link.specs.declared.ends.LinkEnd.{LinkEnd}
use Rattle.netlist_link.proofs.Pushing.{take_push}

module _ (d : Design) (i : ℕ) (cells : List NamedCells) where
  abbrev faults_of : NetConnection → List LinkEnd
  faults_of = connection_faults d.modules.now (top_of d.walk.now) cells (met_of d i)

  abbrev number_of : NetConnection → ℕ
  number_of connection = number_here cells d i connection.port

  -- what is looked at is a connection of the instance, and its faults are these
  pub faults_are : (connection : NetConnection) (text port : List ℕ) (bits : ℕ) (joint : Option KeptJoint)
      → text ≡ instance_text d.modules.now (top_of d.walk.now) (met_of d i) → port ≡ connection.port → bits ≡ length (bits_in connection.runs)
      → joint_in joint ≡ joint_here cells d i port → joint_faults text port (joint_in joint) bits ≡ faults_of connection
  faults_are connection text port bits joint text_is port_is bits_is joint_is =
      ap (λ (j : Option Joint). joint_faults text port j bits) joint_is
      ∙ λ k. joint_faults (text_is k) (port_is k) (joint_here cells d i (port_is k)) (bits_is k)

  pub joined_step : (c : ℕ) (connection : NetConnection) (old now : List ℕ) (number : ℕ) → slice_get (connections_of d i) c ≡ Some connection
      → AreJoined d i c old now cells → faults_of connection ≡ [] → number ≡ number_of connection
      → AreJoined d i (c + 1) old (now ++ number ∷ []) cells
  joined_step c connection old now number here so_far none is =
      let taken = take_push (connections_of d i) c connection here in
      record {
        faultless = ap (flat_map faults_of) taken ∙ flat_map-append faults_of (take c (connections_of d i)) (connection ∷ [])
            ∙ ap₂ (λ (a b : List LinkEnd). a ++ b) so_far.faultless (append-nil (faults_of connection) ∙ none);
        numbers = ap₂ (λ (l : List ℕ) (n : ℕ). l ++ n ∷ []) so_far.numbers is
            ∙ append_assoc old (map number_of (take c (connections_of d i))) (number_of connection ∷ [])
            ∙ ap (λ (l : List ℕ). old ++ l) (sym (ap (map number_of) taken ∙ map-append number_of (take c (connections_of d i)) (connection ∷ [])));
      }

  pub refused_here : (c : ℕ) (connection : NetConnection) (old now : List ℕ) (end : LinkEnd) → slice_get (connections_of d i) c ≡ Some connection
      → AreJoined d i c old now cells → IsFirstOf (faults_of connection) end
      → IsFirstOf (instance_faults d.modules.now (top_of d.walk.now) cells (met_of d i)) end
  refused_here c connection old now end here so_far no_memory_is = no_memory_is
  refused_here c connection old now end here so_far (first_is first later is) =
      let all = connections_of d i in
      let taken = take_push all c connection here in
      let parts : all ≡ (take c all ++ connection ∷ []) ++ drop (c + 1) all =
      sym (take-append-drop (c + 1) all) ∙ ap (λ (l : List NetConnection). l ++ drop (c + 1) all) taken in
      first_is first (later ++ flat_map faults_of (drop (c + 1) all))
      (ap (flat_map faults_of) parts ∙ flat_map-append faults_of (take c all ++ connection ∷ []) (drop (c + 1) all)
      ∙ ap (λ (l : List LinkEnd). l ++ flat_map faults_of (drop (c + 1) all))
      (flat_map-append faults_of (take c all) (connection ∷ []) ∙ ap₂ (λ (a b : List LinkEnd). a ++ b) so_far.faultless (append-nil (faults_of connection) ∙ is)))
