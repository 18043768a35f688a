-- In the modules of a netlist without a fault no name stands twice where names must differ.
use Rattle.std.proofs.Common.{◌≡◌, ℕ, zero, suc, ◌+◌, ◌<◌, ◌≤◌, Bool, true, false, ◌||◌, List, [], ◌∷◌, length, map, get_or, refl, sym, ap, ◌∙◌, arith, true≢false}
use Rattle.std.specs.List.{list_any}
use Rattle.std.specs.Str.{bytes_eq}
use Rattle.std.proofs.lemmas.List.{length-map, get_or-map}
use Rattle.std.proofs.lemmas.Option.{slice_get-get_or}
use Rattle.std.proofs.lemmas.Slice.Eq.{bytes_eq-Decides}
use Rattle.token_texts.specs.Spans.{text_at}
use Rattle.verilog_netlist.specs.Namespaces.{name_of, IsAmong, begins_module, begins_instance, scope_of}
use Rattle.verilog_netlist.specs.Namespaces.IsAmong.{by_own}
use Rattle.verilog_netlist.specs.Faults.{IsFaultless}
use Rattle.verilog_netlist.specs.Parts.{begins_connection}
use Rattle.verilog_netlist.specs.PartPlaces.{entry_at, begun, stretch}
use Rattle.verilog_netlist.specs.ModuleNames.{NetName, no_name, name_in, texts_in}
use Rattle.verilog_netlist.specs.NameRows.{AllDiffer}
use Rattle.verilog_netlist.specs.NetModules.{NetModule, NetInstance, NetConnection, module_at, name_at, instance_at, connection_at}
use Rattle.verilog_netlist.specs.ModuleTables.{modules_in, names_at, AreTables, IsModuleAt, IsInstanceAt, IsConnectionAt}
use Rattle.verilog_netlist.specs.SoundModules.{Differ}
use Rattle.verilog_netlist.specs.declared.entries.Entry.{Entry}
use Rattle.verilog_netlist.specs.declared.entries.Entry.TheVariants.{Module, Instance, Port}
use Rattle.verilog_netlist.specs.declared.faults.NameFault.TheVariants as fault
use Rattle.verilog_netlist.specs.declared.namespaces.Names.{Names}
use Rattle.verilog_netlist.specs.declared.namespaces.Names.TheVariants as names
use Rattle.verilog_netlist.specs.declared.places.ModuleExtent.{ModuleExtent}
use Rattle.verilog_netlist.specs.declared.places.InstanceExtent.{InstanceExtent}
use Rattle.verilog_netlist.specs.declared.places.ConnectionExtent.{ConnectionExtent}
use Rattle.verilog_netlist.specs.declared.tables.Tables.{Tables}
use Rattle.verilog_netlist.proofs.PartsFound.{begun_on, begun_yes, begun_order, part_there}
use Rattle.verilog_netlist.proofs.Naming.{texts_differ}
use Rattle.verilog_netlist.proofs.TableReading.{extent_of, module_there, module_counts, names_are, is_instance, is_connection}

-- texts that all differ
pub or_later : (b later : Bool) → later ≡ true → (b || later) ≡ true
or_later true later is = refl
or_later false later is = is

pub any_at : (p : List ℕ → Bool) (texts : List (List ℕ)) (j : ℕ) → j < length texts → p (get_or texts j []) ≡ true → list_any p texts ≡ true
any_at p [] j below is = absurd (omega arith)
any_at p (text ∷ texts) zero below is = ap (λ (b : Bool). b || list_any p texts) is
any_at p (text ∷ texts) (suc j) below is = or_later (p text) (list_any p texts) (any_at p texts j (omega arith) is)

differ_at : (texts : List (List ℕ)) → AllDiffer texts → Differ (length texts) (λ i. get_or texts i [])
differ_at [] d i j less below same = absurd (omega arith)
differ_at (text ∷ texts) d i zero less below same = absurd (omega arith)
differ_at (text ∷ texts) d zero (suc j) less below same =
    true≢false (sym (any_at (bytes_eq text) texts j (omega arith) ((bytes_eq-Decides text (get_or texts j [])).1 same)) ∙ d.0)
differ_at (text ∷ texts) d (suc i) (suc j) less below same = differ_at texts d.1 i j (omega arith) (omega arith) same

among_modules : (e : Entry) → begins_module e ≡ true → IsAmong names.Modules e
among_modules (Module name) is = by_own refl
among_modules _ is = absurd (true≢false (sym is))

among_instances : (e : Entry) → begins_instance e ≡ true → IsAmong names.Instances e
among_instances (Instance cell name) is = by_own refl
among_instances _ is = absurd (true≢false (sym is))

among_ports : (e : Entry) → begins_connection e ≡ true → IsAmong names.Ports e
among_ports (Port name) is = by_own refl
among_ports _ is = absurd (true≢false (sym is))

module _ (t : Tables) (h : AreTables t) where
  abbrev bytes : List ℕ
  bytes = t.bytes.now

  abbrev entries : List Entry
  entries = t.entries.items

  -- the names of a module differ
  module _ (m : ℕ) (below : m < length (modules_in t)) where
    abbrev x : ModuleExtent
    x = extent_of t h m

    at : IsModuleAt t m (extent_of t h m)
    at = module_there t h m below

    abbrev own : List Entry
    own = stretch entries (x.place + 1) x.end

    named : names_at t m ≡ map (name_in bytes own) (texts_in bytes own)
    named = names_are t h m (extent_of t h m) at

    text_is : (i : ℕ) → i < length (texts_in bytes own) → (name_at (modules_in t) m i).text ≡ get_or (texts_in bytes own) i []
    text_is i few = ap (λ (l : List NetName). (get_or l i no_name).text) named ∙ ap (λ (n : NetName). n.text) (get_or-map (name_in bytes own) (texts_in bytes own) i [] no_name few)

    pub names_differ : Differ (length (names_at t m)) (λ i. (name_at (modules_in t) m i).text)
    names_differ i j less few same =
        let n : j < length (texts_in bytes own) = let l = ap length named ∙ length-map (texts_in bytes own) (name_in bytes own) in omega arith in
        differ_at (texts_in bytes own) (texts_differ bytes own) i j less n (sym (text_is i (omega arith)) ∙ same ∙ text_is j n)

    -- as many modules have begun up to each place of a module
    pub same_module : (q : ℕ) → x.place < q → q < x.end → begun begins_module entries (q + 1) ≡ m + 1
    same_module q low high =
        let n = module_counts t h m below in
        let w = at.extent.within in
        let s = begun_yes begins_module entries x.place (omega arith) n.begins in
        let a = begun_on begins_module entries (x.place + 1) (q + 1) (omega arith) in
        let b = begun_on begins_module entries (q + 1) x.end (omega arith) in
        let c = n.before in
        let d = n.past in
        omega arith

    -- an instance of the module, where it is
    pub record InstanceThere (k : ℕ) : Type 0 where
      pub extent : InstanceExtent
      pub at : IsInstanceAt t m k extent
      pub begins : begins_instance (entry_at entries extent.place) ≡ true
      pub before : begun begins_instance entries extent.place ≡ begun begins_instance entries (x.place + 1) + k
      pub past : begun begins_instance entries extent.end ≡ begun begins_instance entries (x.place + 1) + k + 1
      pub low : x.place < extent.place
      pub high : extent.end ≤ x.end

    pub instance_there : (k : ℕ) → k < length (module_at (modules_in t) m).instances → InstanceThere k
    instance_there k few =
        let o = at.extent in
        let f = part_there begins_instance entries (x.place + 1) x.end k (let a = o.head in omega arith) o.within (let a = at.count in let b = o.first in let c = o.last in omega arith) in
        record {
          extent = record { place = f.place; end = f.end; first_connection = begun begins_connection entries (f.place + 1); connections_end = begun begins_connection entries f.end };
          at = is_instance t h m (extent_of t h m) at k
              (record { place = f.place; end = f.end; first_connection = begun begins_connection entries (f.place + 1); connections_end = begun begins_connection entries f.end })
              f.part (record { head = f.part.head; within = f.part.within; first = refl; last = refl }) ((let l = f.low in omega arith), f.high);
          begins = f.part.begins_it;
          before = f.before;
          past = f.past;
          low = (let l = f.low in omega arith);
          high = f.high;
        }

    module _ (k : ℕ) (y : InstanceThere k) where
      -- a connection of the instance, where it is
      pub record ConnectionThere (c : ℕ) : Type 0 where
        pub extent : ConnectionExtent
        pub at : IsConnectionAt t m k c extent
        pub begins : begins_connection (entry_at entries extent.place) ≡ true
        pub before : begun begins_connection entries extent.place ≡ begun begins_connection entries (y.extent.place + 1) + c
        pub low : y.extent.place < extent.place
        pub high : extent.end ≤ y.extent.end

      pub connection_there : (c : ℕ) → c < length (instance_at (modules_in t) m k).connections → ConnectionThere c
      connection_there c few =
          let o = y.at.extent in
          let f = part_there begins_connection entries (y.extent.place + 1) y.extent.end c (let a = o.head in omega arith) o.within (let a = y.at.count in let b = o.first in let d = o.last in omega arith) in
          record {
            extent = record { place = f.place; end = f.end };
            at = is_connection t h m k y.extent y.at c (record { place = f.place; end = f.end }) f.part ((let l = f.low in omega arith), f.high);
            begins = f.part.begins_it;
            before = f.before;
            low = (let l = f.low in omega arith);
            high = f.high;
          }

      -- as many instances have begun up to each place of an instance
      pub same_instance : (q : ℕ) → y.extent.place < q → q < y.extent.end → begun begins_instance entries (q + 1) ≡ begun begins_instance entries (x.place + 1) + k + 1
      same_instance q low high =
          let w = y.at.extent.within in
          let s = begun_yes begins_instance entries y.extent.place (omega arith) y.begins in
          let a = begun_on begins_instance entries (y.extent.place + 1) (q + 1) (omega arith) in
          let b = begun_on begins_instance entries (q + 1) y.extent.end (omega arith) in
          let c = y.before in
          let d = y.past in
          omega arith

  -- where no name is repeated
  module _ (faultless : IsFaultless bytes entries) where
    new_name : (among : Names) (before place : ℕ) → before < place → place < length entries → IsAmong among (entry_at entries before) → IsAmong among (entry_at entries place)
        → scope_of among entries before ≡ scope_of among entries place → text_at bytes (name_of (entry_at entries before)) ≡ text_at bytes (name_of (entry_at entries place)) → ⊥
    new_name among before place less within one again scope text = faultless fault.Repeated place (record {
      among = among;
      before = before;
      one = entry_at entries before;
      again = entry_at entries place;
      below = less;
      one_stands = slice_get-get_or entries before _ (omega arith);
      again_stands = slice_get-get_or entries place _ within;
      one_among = one;
      again_among = again;
      one_scope = scope;
      one_text = text;
    })

    pub modules_differ : Differ (length (modules_in t)) (λ m. (module_at (modules_in t) m).name)
    modules_differ i j less below same =
        let one = module_counts t h i (omega arith) in
        let other = module_counts t h j below in
        let a = module_there t h i (omega arith) in
        let b = module_there t h j below in
        new_name names.Modules (extent_of t h i).place (extent_of t h j).place
        (begun_order begins_module entries (extent_of t h i).place (extent_of t h j).place (let p = one.before in let q = other.before in omega arith))
        (let p = b.extent.head in let q = b.extent.within in omega arith)
        (among_modules (entry_at entries (extent_of t h i).place) one.begins) (among_modules (entry_at entries (extent_of t h j).place) other.begins)
        refl (sym (ap (λ (o : NetModule). o.name) a.value) ∙ same ∙ ap (λ (o : NetModule). o.name) b.value)

    pub instances_differ : (m : ℕ) → m < length (modules_in t) → Differ (length (module_at (modules_in t) m).instances) (λ k. (instance_at (modules_in t) m k).name)
    instances_differ m below i j less few same =
        let one = instance_there m below i (omega arith) in
        let other = instance_there m below j few in
        let a = one.at in
        let b = other.at in
        let order = begun_order begins_instance entries one.extent.place other.extent.place (let p = one.before in let q = other.before in omega arith) in
        let within : other.extent.place < (extent_of t h m).end = let p = other.high in let q = b.extent.head in omega arith in
        new_name names.Instances one.extent.place other.extent.place order
        (let p = b.extent.head in let q = b.extent.within in omega arith)
        (among_instances (entry_at entries one.extent.place) one.begins) (among_instances (entry_at entries other.extent.place) other.begins)
        (same_module m below one.extent.place one.low (omega arith) ∙ sym (same_module m below other.extent.place other.low within))
        (sym (ap (λ (o : NetInstance). o.name) a.value) ∙ same ∙ ap (λ (o : NetInstance). o.name) b.value)

    pub ports_differ : (m : ℕ) → m < length (modules_in t) → (k : ℕ) → k < length (module_at (modules_in t) m).instances
        → Differ (length (instance_at (modules_in t) m k).connections) (λ c. (connection_at (modules_in t) m k c).port)
    ports_differ m below k within i j less few same =
        let y = instance_there m below k within in
        let one = connection_there m below k y i (omega arith) in
        let other = connection_there m below k y j few in
        let a = one.at in
        let b = other.at in
        let order = begun_order begins_connection entries one.extent.place other.extent.place (let p = one.before in let q = other.before in omega arith) in
        let inside : other.extent.place < y.extent.end = let p = other.high in let q = b.head in omega arith in
        new_name names.Ports one.extent.place other.extent.place order
        (let p = b.head in let q = b.within in omega arith)
        (among_ports (entry_at entries one.extent.place) one.begins) (among_ports (entry_at entries other.extent.place) other.begins)
        (same_instance m below k y one.extent.place one.low (omega arith) ∙ sym (same_instance m below k y other.extent.place other.low inside))
        (sym (ap (λ (o : NetConnection). o.port) a.value) ∙ same ∙ ap (λ (o : NetConnection). o.port) b.value)
