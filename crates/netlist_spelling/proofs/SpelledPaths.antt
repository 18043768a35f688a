-- The spelled names of a flat design are well spelled: those of its instances, of its nets, and of its ports.
use Rattle.std.proofs.Common.{◌≡◌, ℕ, ◌<◌, Bool, true, false, not, is_none, List, [], ◌∷◌, ◌++◌, if◌then◌else◌, length, get_or, All, Some, sym, ◌∙◌, subst, arith, append_assoc}
use Rattle.std.specs.Prelude.{slice_get}
use Rattle.std.specs.List.{flat_map}
use Rattle.std.proofs.lemmas.List.Elements.{All-nil, All-cons, All-head, All-tail, All-append, All-weaker, All-filter, All-get_or}
use Rattle.std.proofs.lemmas.Option.{slice_get-get_or}
use Rattle.edge_io.specs.Bytes.{slash}
use Rattle.name_table.specs.SdfNames.{part}
use Rattle.name_table.specs.WellSpelled.{IsWellSpelled, one_part, parts}
use Rattle.cell_models.specs.NamedSets.{NamedCells}
use Rattle.verilog_netlist.specs.ModuleNames.{NetName}
use Rattle.verilog_netlist.specs.NetModules.{NetModule, instance_at}
use Rattle.verilog_netlist.specs.SoundModules.{HasNames}
use Rattle.verilog_netlist.specs.Ranges.{whole_width}
use Rattle.hierarchy.specs.Hierarchy.{module_on, IsPath}
use Rattle.hierarchy.specs.Walks.{Met, met_instance, is_module, whole_walk, cells_met, visits}
use Rattle.hierarchy.specs.WalkTables.{no_met}
use Rattle.hierarchy.specs.WalkLaws.{StandsIn, met-stand, visits-are-paths, joined-all}
use Rattle.netlist_link.specs.FlatBits.{NetBit, is_port, names_on, name_on, joined_above, bits_of_name, nets_of_name, nets_of_visit, ports_of_name, top_ports}
use Rattle.netlist_link.specs.FlatNames.{bit_suffix, path_sdf, net_sdf, instance_sdf}
use Rattle.netlist_link.specs.FlatNetlist.{FlatInstance, FlatPort, FlatNetlist}
use Rattle.netlist_link.specs.FlatDesigns.{IsFlatDesign}
use Rattle.netlist_link.specs.Links.{AreInstances, ArePorts}
use Rattle.netlist_spelling.specs.SpelledNetlists.{AreWellSpelled, AreNetsWellSpelled}
use Rattle.name_table.proofs.Spelling.{part_is_part}
use Rattle.netlist_spelling.proofs.SpelledParts.{name_is_part}
use Rattle.netlist_spelling.proofs.NamedModules.{instance_named, name_named}

-- what holds of each item of lists that are joined
all_of_lists : {X Y : Type 0} (P : Y → Type 0) (Q : X → Type 0) (lists : X → List Y) → ((x : X) → Q x → All P (lists x)) → (xs : List X)
    → All Q xs → All P (flat_map lists xs)
all_of_lists P Q lists each [] all = All-nil P
all_of_lists P Q lists each (x ∷ xs) all =
    All-append P (lists x) (flat_map lists xs) (each x (All-head Q x xs all)) (all_of_lists P Q lists each xs (All-tail Q x xs all))

-- the items of a list, if the list is asked for
all_if : {X : Type 0} (P : X → Type 0) (asked : Bool) (xs : List X) → All P xs → All P (if asked then xs else [])
all_if P true xs all = all
all_if P false xs all = All-nil P

-- what holds of each item of a list, said of the items of another that stand for them
all_along : {X Y : Type 0} (P : X → Type 0) (Q : Y → Type 0) (d : X) (xs : List X) (ys : List Y) → length ys ≡ length xs
    → ((i : ℕ) (x : X) (y : Y) → slice_get xs i ≡ Some x → slice_get ys i ≡ Some y → P x → Q y) → All P xs → All Q ys
all_along P Q d xs ys count each all = λ k other below.
    let within : k < length xs = omega arith in
    each k (get_or xs k d) (get_or ys k other) (slice_get-get_or xs k d within) (slice_get-get_or ys k other below)
    (All-get_or P xs k d within all)

abbrev no_bit : NetBit
no_bit = record { path = []; name = 0; bit = 0 }

-- each instance of a cell stands in a module that is visited
pub cells_stand : (modules : List NetModule) (top : ℕ) → All (StandsIn modules top) (cells_met modules top)
cells_stand modules top =
    All-filter (λ met. not (is_module modules top met)) (StandsIn modules top) (whole_walk modules top) (met-stand modules top)

module _ (modules : List NetModule) (top : ℕ) (named : All HasNames modules) where
  -- what follows a path is well spelled behind it
  behind_path : (path last : List ℕ) → IsPath modules top path → IsWellSpelled last → IsWellSpelled (path_sdf modules top path ++ last)
  unfolding path_sdf
  behind_path [] last is spelled = spelled
  behind_path (k ∷ outer) last is spelled =
      let m : ℕ = module_on modules top outer in
      let name : List ℕ = (instance_at modules m k).name in
      let front : List ℕ = path_sdf modules top outer in
      subst IsWellSpelled
      (sym (append_assoc (front ++ part name) (slash ∷ []) last ∙ append_assoc front (part name) (slash ∷ last)))
      (behind_path outer (part name ++ slash ∷ last) is.0
      (parts (part_is_part name (instance_named modules named m k is.1.0)) spelled))

  abbrev IsSpelled : NetBit → Type 0
  IsSpelled net = IsWellSpelled (net_sdf modules top net)

  -- a bit of a name
  bit_spelled : (path : List ℕ) (name bit : ℕ) → IsPath modules top path → name < length (names_on modules top path)
      → IsSpelled (record { path = path; name = name; bit = bit })
  bit_spelled path name bit is below =
      let own : NetName = name_on modules top path name in
      subst IsWellSpelled (sym (append_assoc (path_sdf modules top path) (part own.text) (bit_suffix own.range bit)))
      (behind_path path (part own.text ++ bit_suffix own.range bit) is
      (one_part (name_is_part own.text (name_named modules named (module_on modules top path) name below) own.range bit)))

  bits_spelled : (path : List ℕ) (name : ℕ) → IsPath modules top path → name < length (names_on modules top path)
      → All IsSpelled (bits_of_name modules top path name)
  bits_spelled path name is below =
      joined-all IsSpelled (λ bit. record { path = path; name = name; bit = bit } ∷ []) 0 (whole_width (name_on modules top path name).range)
      (λ bit low high. All-cons IsSpelled (record { path = path; name = name; bit = bit }) [] (bit_spelled path name bit is below)
      (All-nil IsSpelled))

  visit_spelled : (path : List ℕ) → IsPath modules top path → All IsSpelled (nets_of_visit modules top path)
  visit_spelled path is =
      joined-all IsSpelled (nets_of_name modules top path) 0 (length (names_on modules top path))
      (λ name low high. all_if IsSpelled (is_none (joined_above modules top path name)) (bits_of_name modules top path name)
      (bits_spelled path name is (omega arith)))

  nets_spelled : AreNetsWellSpelled modules top
  nets_spelled = all_of_lists IsSpelled (IsPath modules top) (nets_of_visit modules top) visit_spelled (visits modules top)
      (visits-are-paths modules top)

  ports_spelled : All IsSpelled (top_ports modules top)
  ports_spelled =
      joined-all IsSpelled (ports_of_name modules top) 0 (length (names_on modules top []))
      (λ name low high. all_if IsSpelled (is_port (name_on modules top [] name)) (bits_of_name modules top [] name)
      (bits_spelled [] name tt (omega arith)))

  instance_spelled : (met : Met) → StandsIn modules top met → IsWellSpelled (instance_sdf modules top met)
  instance_spelled met stands =
      let name : List ℕ = (met_instance modules top met).name in
      behind_path met.path (part name) stands.path
      (one_part (part_is_part name (instance_named modules named (module_on modules top met.path) met.instance stands.within)))

  abbrev IsInstanceSpelled : Met → Type 0
  IsInstanceSpelled met = IsWellSpelled (instance_sdf modules top met)

  cells_spelled : All IsInstanceSpelled (cells_met modules top)
  cells_spelled =
      All-weaker (StandsIn modules top) IsInstanceSpelled instance_spelled (cells_met modules top) (cells_stand modules top)

  module _ (cells : List NamedCells) where
    instances_spelled : (instances : List FlatInstance) → AreInstances modules top cells instances
        → All (λ instance. IsWellSpelled instance.sdf) instances
    instances_spelled instances are =
        all_along IsInstanceSpelled (λ instance. IsWellSpelled instance.sdf) no_met (cells_met modules top) instances are.count
        (λ i met instance at own spelled. subst IsWellSpelled (sym (are.each i met instance at own).sdf) spelled) cells_spelled

    bits_of_ports_spelled : (ports : List FlatPort) → ArePorts modules top cells ports → All (λ port. IsWellSpelled port.sdf) ports
    bits_of_ports_spelled ports are =
        all_along IsSpelled (λ port. IsWellSpelled port.sdf) no_bit (top_ports modules top) ports are.count
        (λ p bit port at own spelled. subst IsWellSpelled (sym (are.each p bit port at own).sdf) spelled) ports_spelled

pub netlist_spelled : (modules : List NetModule) (name : List ℕ) (cells : List NamedCells) (netlist : FlatNetlist)
    → All HasNames modules → IsFlatDesign modules name cells netlist → AreWellSpelled netlist
netlist_spelled modules name cells netlist named design = record {
  instances = instances_spelled modules design.top named cells netlist.instances design.is.instances;
  ports = bits_of_ports_spelled modules design.top named cells netlist.ports design.is.ports;
}

pub design_nets_spelled : (modules : List NetModule) (top : ℕ) → All HasNames modules
    → AreNetsWellSpelled modules top
design_nets_spelled modules top named = nets_spelled modules top named
