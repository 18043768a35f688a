-- The tables of places hold the places of the parts.
use Rattle.std.proofs.Common.{◌≡◌, ℕ, ◌+◌, ◌-◌, ◌<◌, ◌≤◌, Bool, true, false, inl, inr, List, [], ◌∷◌, ◌++◌, length, get_or, map, refl, sym, ap, ap₂, ◌∙◌, subst, arith, true≢false, add-one}
use Rattle.std.proofs.lemmas.List.{length_push, get_or_push, get_or_append_left, length-map, map_push, get_or-map, take_all, get_or_default}
use Rattle.verilog_netlist.specs.Namespaces.{begins_module, begins_instance}
use Rattle.verilog_netlist.specs.Parts.{begins_connection}
use Rattle.verilog_netlist.specs.PartPlaces.{entry_at, grown, places_below, begun, module_row, instance_row, stretch, HoldsPlaces, ArePlaces, IsPartAt, IsModuleExtent, IsInstanceExtent, AddsModule, AddsPlace}
use Rattle.verilog_netlist.specs.declared.entries.Entry.{Entry}
use Rattle.verilog_netlist.specs.declared.entries.Entry.TheVariants.{Module, Header, Declared, Instance, Port, Whole, Bit, Part, Constant}
use Rattle.verilog_netlist.specs.declared.places.ModuleRow.{ModuleRow}
use Rattle.verilog_netlist.specs.declared.places.InstanceRow.{InstanceRow}
use Rattle.verilog_netlist.specs.declared.places.ModuleExtent.{ModuleExtent}
use Rattle.verilog_netlist.specs.declared.places.InstanceExtent.{InstanceExtent}
use Rattle.verilog_netlist.specs.declared.places.Places.{Places}
use Rattle.verilog_netlist.proofs.PartsFound.{le_or_lt, begun_no, placed, length_places, behind_a, next_within, found_last, found_next}

module _ (entries : List Entry) where
  pub no_places : (p : Places) → p.modules.items ≡ [] → p.instances.items ≡ [] → p.connections.items ≡ [] → HoldsPlaces entries 0 p
  no_places p m i c = record { modules = m; instances = i; connections = c }

  module _ (n : ℕ) (few : n < length entries) (old new : Places) (h : HoldsPlaces entries n old) where
    step : (begins : Entry → Bool) (b : Bool) → begins (entry_at entries n) ≡ b → places_below begins entries (n + 1) ≡ grown b (places_below begins entries n) n
    step begins b is = ap (places_below begins entries) (add-one n) ∙ ap (λ (t : Bool). grown t (places_below begins entries n) n) is

    instances_counted : length old.instances.items ≡ begun begins_instance entries n
    instances_counted = ap length h.instances ∙ length-map (places_below begins_instance entries n) (instance_row entries) ∙ length_places begins_instance entries n (omega arith)

    connections_counted : length old.connections.items ≡ begun begins_connection entries n
    connections_counted = ap length h.connections ∙ length_places begins_connection entries n (omega arith)

    module _ (e : Entry) (is : entry_at entries n ≡ e) where
      same_modules : begins_module e ≡ false → new.modules.items ≡ old.modules.items → new.modules.items ≡ map (module_row entries) (places_below begins_module entries (n + 1))
      same_modules never same = same ∙ h.modules ∙ sym (ap (map (module_row entries)) (step begins_module false (ap begins_module is ∙ never)))

      same_instances : begins_instance e ≡ false → new.instances.items ≡ old.instances.items → new.instances.items ≡ map (instance_row entries) (places_below begins_instance entries (n + 1))
      same_instances never same = same ∙ h.instances ∙ sym (ap (map (instance_row entries)) (step begins_instance false (ap begins_instance is ∙ never)))

      same_connections : begins_connection e ≡ false → new.connections.items ≡ old.connections.items → new.connections.items ≡ places_below begins_connection entries (n + 1)
      same_connections never same = same ∙ h.connections ∙ sym (step begins_connection false (ap begins_connection is ∙ never))

    pub places_next : (e : Entry) → entry_at entries n ≡ e → AddsPlace old n e new → HoldsPlaces entries (n + 1) new
    places_next (Module name) is adds = record {
      modules = adds.modules ∙ ap₂ (λ (l : List ModuleRow) (r : ModuleRow). l ++ r ∷ []) h.modules (ap₂ (λ (i c : ℕ). record { place = n; instances = i; connections = c }) instances_counted connections_counted)
          ∙ sym (map_push (module_row entries) (places_below begins_module entries n) n) ∙ sym (ap (map (module_row entries)) (step begins_module true (ap begins_module is)));
      instances = same_instances (Module name) is refl adds.instances;
      connections = same_connections (Module name) is refl adds.connections;
    }
    places_next (Instance cell name) is adds = record {
      modules = same_modules (Instance cell name) is refl adds.modules;
      instances = adds.instances ∙ ap₂ (λ (l : List InstanceRow) (c : ℕ). l ++ record { place = n; connections = c } ∷ []) h.instances connections_counted
          ∙ sym (map_push (instance_row entries) (places_below begins_instance entries n) n) ∙ sym (ap (map (instance_row entries)) (step begins_instance true (ap begins_instance is)));
      connections = same_connections (Instance cell name) is refl adds.connections;
    }
    places_next (Port name) is adds = record {
      modules = same_modules (Port name) is refl adds.modules;
      instances = same_instances (Port name) is refl adds.instances;
      connections = adds.connections ∙ ap (λ (l : List ℕ). l ++ n ∷ []) h.connections ∙ sym (step begins_connection true (ap begins_connection is));
    }
    places_next (Header name) is adds = record { modules = same_modules (Header name) is refl adds.modules; instances = same_instances (Header name) is refl adds.instances; connections = same_connections (Header name) is refl adds.connections }
    places_next (Declared by name bounds) is adds = record { modules = same_modules (Declared by name bounds) is refl adds.modules; instances = same_instances (Declared by name bounds) is refl adds.instances; connections = same_connections (Declared by name bounds) is refl adds.connections }
    places_next (Whole name) is adds = record { modules = same_modules (Whole name) is refl adds.modules; instances = same_instances (Whole name) is refl adds.instances; connections = same_connections (Whole name) is refl adds.connections }
    places_next (Bit name place) is adds = record { modules = same_modules (Bit name place) is refl adds.modules; instances = same_instances (Bit name place) is refl adds.instances; connections = same_connections (Bit name place) is refl adds.connections }
    places_next (Part name bounds) is adds = record { modules = same_modules (Part name bounds) is refl adds.modules; instances = same_instances (Part name bounds) is refl adds.instances; connections = same_connections (Part name bounds) is refl adds.connections }
    places_next (Constant token) is adds = record { modules = same_modules (Constant token) is refl adds.modules; instances = same_instances (Constant token) is refl adds.instances; connections = same_connections (Constant token) is refl adds.connections }

  pub places_end : (old new : Places) → HoldsPlaces entries (length entries) old → AddsModule old (length entries) new → ArePlaces entries new
  places_end old new h adds =
      let all : ℕ = length entries in
      let i = ap length h.instances ∙ length-map (places_below begins_instance entries all) (instance_row entries) ∙ length_places begins_instance entries all (omega arith) in
      let c = ap length h.connections ∙ length_places begins_connection entries all (omega arith) in
      record {
        modules = adds.modules ∙ ap₂ (λ (l : List ModuleRow) (r : ModuleRow). l ++ r ∷ []) h.modules (ap₂ (λ (i c : ℕ). record { place = all; instances = i; connections = c }) i c)
            ∙ sym (map_push (module_row entries) (places_below begins_module entries all) all);
        instances = adds.instances ∙ h.instances;
        connections = adds.connections ∙ h.connections;
      }

  module_begins_no_instance : (e : Entry) → begins_module e ≡ true → begins_instance e ≡ false
  module_begins_no_instance (Instance cell name) is = absurd (true≢false (sym is))
  module_begins_no_instance _ is = refl

  instance_begins_no_connection : (e : Entry) → begins_instance e ≡ true → begins_connection e ≡ false
  instance_begins_no_connection (Port name) is = absurd (true≢false (sym is))
  instance_begins_no_connection _ is = refl

  module _ (p : Places) (h : ArePlaces entries p) where
    abbrev all : ℕ
    all = length entries

    abbrev table : List ℕ
    table = places_below begins_module entries (length entries)

    pub rows : length p.modules.items ≡ length table + 1
    rows = ap length h.modules ∙ length-map (table ++ all ∷ []) (module_row entries) ∙ length_push table all

    pub some_rows : 0 < length p.modules.items
    some_rows = let r = rows in omega arith

    row_is : (m : ℕ) (row : ModuleRow) → m < length p.modules.items → row ≡ get_or p.modules.items m row → row ≡ module_row entries (get_or (table ++ all ∷ []) m 0)
    row_is m row within is = is ∙ ap (λ (l : List ModuleRow). get_or l m row) h.modules ∙ get_or-map (module_row entries) (table ++ all ∷ []) m 0 row (let r = rows in let l = length_push table all in omega arith)

    whole : stretch entries 0 all ≡ entries
    whole = take_all (all - 0) entries (omega arith)

    module _ (m : ℕ) (row next : ModuleRow) (within : m + 1 < length p.modules.items) (row_at : row ≡ get_or p.modules.items m row) (next_at : next ≡ get_or p.modules.items (m + 1) next) where
      this : row ≡ module_row entries (get_or table m 0)
      this = row_is m row (omega arith) row_at ∙ ap (module_row entries) (get_or_append_left table (all ∷ []) 0 m (let r = rows in omega arith))

      counts : begun begins_module entries 0 + m ≡ m
      counts = omega arith

      lengths : length table ≡ begun begins_module entries all
      lengths = length_places begins_module entries all (omega arith)

      part : IsPartAt entries begins_module entries m (get_or table m 0) (get_or (table ++ all ∷ []) (m + 1) 0)
      part = elim (le_or_lt (length table) (m + 1)) [
        | inl last ↦
            let end : get_or (table ++ all ∷ []) (m + 1) 0 ≡ all = get_or_push table all 0 (m + 1) (let r = rows in omega arith) in
            subst (λ (n : ℕ). IsPartAt entries begins_module entries m (get_or table m 0) n) (sym end)
            (subst (λ (l : List Entry). IsPartAt entries begins_module l m (get_or table m 0) all) whole
            (subst (λ (n : ℕ). IsPartAt entries begins_module (stretch entries 0 all) m (get_or table n 0) all) counts
            (found_last begins_module entries 0 all m (omega arith) (omega arith) (let r = rows in let l = lengths in omega arith) (let r = rows in let l = lengths in omega arith))))
        | inr more ↦
            let end : get_or (table ++ all ∷ []) (m + 1) 0 ≡ get_or table (m + 1) 0 = get_or_append_left table (all ∷ []) 0 (m + 1) more in
            subst (λ (n : ℕ). IsPartAt entries begins_module entries m (get_or table m 0) n) (sym end)
            (subst (λ (l : List Entry). IsPartAt entries begins_module l m (get_or table m 0) (get_or table (m + 1) 0)) whole
            (subst (λ (n : ℕ). IsPartAt entries begins_module (stretch entries 0 all) m (get_or table n 0) (get_or table (n + 1) 0)) counts
            (found_next begins_module entries 0 all m (omega arith) (omega arith) (let l = lengths in omega arith))))
      ]

      next_is : next ≡ module_row entries (get_or (table ++ all ∷ []) (m + 1) 0)
      next_is = row_is (m + 1) next within next_at

      pub module_found : IsPartAt entries begins_module entries m row.place next.place
      module_found = subst (λ (r : ModuleRow). IsPartAt entries begins_module entries m r.place next.place) (sym this)
          (subst (λ (r : ModuleRow). IsPartAt entries begins_module entries m (get_or table m 0) r.place) (sym next_is) part)

      pub module_extent : IsModuleExtent entries (record { place = row.place; end = next.place; first_instance = row.instances; instances_end = next.instances; connections_end = next.connections })
      module_extent =
          let f = module_found in
          let same : row ≡ module_row entries row.place = this ∙ ap (module_row entries) (sym (ap (λ (r : ModuleRow). r.place) this)) in
          let other : next ≡ module_row entries next.place = next_is ∙ ap (module_row entries) (sym (ap (λ (r : ModuleRow). r.place) next_is)) in
          record {
            head = f.head;
            within = f.within;
            first = ap (λ (r : ModuleRow). r.instances) same
                ∙ sym (begun_no begins_instance entries row.place (let a = f.head in let b = f.within in omega arith) (module_begins_no_instance (entry_at entries row.place) f.begins_it));
            last = ap (λ (r : ModuleRow). r.instances) other;
            connections = ap (λ (r : ModuleRow). r.connections) other;
          }

      pub module_begun : begun begins_module entries row.place ≡ m
      module_begun = ap (λ (r : ModuleRow). begun begins_module entries r.place) this ∙ (placed begins_module entries all m (omega arith) (let r = rows in omega arith)).counted

      pub module_ended : begun begins_module entries next.place ≡ m + 1
      module_ended = ap (λ (r : ModuleRow). begun begins_module entries r.place) next_is ∙ elim (le_or_lt (length table) (m + 1)) [
        | inl last ↦ ap (begun begins_module entries) (get_or_push table all 0 (m + 1) (let r = rows in omega arith)) ∙ (let r = rows in let l = lengths in omega arith)
        | inr more ↦ ap (begun begins_module entries) (get_or_append_left table (all ∷ []) 0 (m + 1) more) ∙ (placed begins_module entries all (m + 1) (omega arith) more).counted
      ]

      -- where a module ends the next one begins, or the file ends
      pub module_next : next.place < all → begins_module (entry_at entries next.place) ≡ true
      module_next = elim (le_or_lt (length table) (m + 1)) [
        | inl last ↦ λ less. absurd (let p = ap (λ (r : ModuleRow). r.place) next_is in let g = get_or_push table all 0 (m + 1) (let r = rows in omega arith) in omega arith)
        | inr more ↦ λ less. ap (λ (n : ℕ). begins_module (entry_at entries n)) (ap (λ (r : ModuleRow). r.place) next_is ∙ get_or_append_left table (all ∷ []) 0 (m + 1) more)
            ∙ (placed begins_module entries all (m + 1) (omega arith) more).begins_it
      ]

    instance_at : (n : ℕ) (row : InstanceRow) → n < length p.instances.items → row ≡ get_or p.instances.items n row → row ≡ instance_row entries (get_or (places_below begins_instance entries all) n 0)
    instance_at n row within is =
        is ∙ ap (λ (l : List InstanceRow). get_or l n row) h.instances
        ∙ get_or-map (instance_row entries) (places_below begins_instance entries all) n 0 row (let r = ap length h.instances in let l = length-map (places_below begins_instance entries all) (instance_row entries) in omega arith)

    instance_itself : (n : ℕ) (row : InstanceRow) → row ≡ instance_row entries n → row ≡ instance_row entries row.place
    instance_itself n row is = is ∙ ap (instance_row entries) (sym (ap (λ (r : InstanceRow). r.place) is))

    module _ (x : ModuleExtent) (hx : IsModuleExtent entries x) (k : ℕ) (row : InstanceRow) (here : x.first_instance + k < x.instances_end) (within : x.instances_end ≤ length p.instances.items)
        (row_at : row ≡ get_or p.instances.items (x.first_instance + k) row) where
      abbrev pub own : List Entry
      own = stretch entries (x.place + 1) x.end

      this_instance : row ≡ instance_row entries (get_or (places_below begins_instance entries all) (begun begins_instance entries (x.place + 1) + k) 0)
      this_instance = instance_at (x.first_instance + k) row (omega arith) row_at ∙ ap (λ (n : ℕ). instance_row entries (get_or (places_below begins_instance entries all) (n + k) 0)) hx.first

      order : x.place + 1 ≤ x.end
      order = let a = hx.head in omega arith

      pub last_instance : x.first_instance + k + 1 ≡ x.instances_end → IsPartAt entries begins_instance own k row.place x.end
      last_instance last = subst (λ (r : InstanceRow). IsPartAt entries begins_instance own k r.place x.end) (sym this_instance)
          (found_last begins_instance entries (x.place + 1) x.end k order hx.within (let f = hx.first in let l = hx.last in omega arith) (let f = hx.first in let l = hx.last in omega arith))

      pub instance_behind : x.place < row.place
      instance_behind =
          let b = behind_a begins_instance entries (x.place + 1) x.end k order hx.within (let f = hx.first in let l = hx.last in omega arith) in
          let p = ap (λ (r : InstanceRow). r.place) this_instance in omega arith

      pub instance_first : (end : ℕ) → IsPartAt entries begins_instance own k row.place end → row.connections ≡ begun begins_connection entries (row.place + 1)
      instance_first end f =
          ap (λ (r : InstanceRow). r.connections) (instance_itself _ row this_instance)
          ∙ sym (begun_no begins_connection entries row.place (let a = f.head in let b = f.within in omega arith) (instance_begins_no_connection (entry_at entries row.place) f.begins_it))

      pub instance_extent : (end connections : ℕ) → IsPartAt entries begins_instance own k row.place end → connections ≡ begun begins_connection entries end
          → IsInstanceExtent entries (record { place = row.place; end = end; first_connection = row.connections; connections_end = connections })
      instance_extent end connections f last = record { head = f.head; within = f.within; first = instance_first end f; last = last }

      module _ (next : InstanceRow) (more : x.first_instance + k + 1 < x.instances_end) (next_at : next ≡ get_or p.instances.items (x.first_instance + k + 1) next) where
        next_instance : next ≡ instance_row entries (get_or (places_below begins_instance entries all) (begun begins_instance entries (x.place + 1) + k + 1) 0)
        next_instance = instance_at (x.first_instance + k + 1) next (omega arith) next_at ∙ ap (λ (n : ℕ). instance_row entries (get_or (places_below begins_instance entries all) (n + k + 1) 0)) hx.first

        pub inner_instance : IsPartAt entries begins_instance own k row.place next.place
        inner_instance = subst (λ (r : InstanceRow). IsPartAt entries begins_instance own k r.place next.place) (sym this_instance)
            (subst (λ (r : InstanceRow). IsPartAt entries begins_instance own k (get_or (places_below begins_instance entries all) (begun begins_instance entries (x.place + 1) + k) 0) r.place) (sym next_instance)
            (found_next begins_instance entries (x.place + 1) x.end k order hx.within (let f = hx.first in let l = hx.last in omega arith)))

        pub instance_before : next.place ≤ x.end
        instance_before =
            let b = next_within begins_instance entries (x.place + 1) x.end k order hx.within (let f = hx.first in let l = hx.last in omega arith) in
            let p = ap (λ (r : InstanceRow). r.place) next_instance in omega arith

        pub next_connections : next.connections ≡ begun begins_connection entries next.place
        next_connections = ap (λ (r : InstanceRow). r.connections) (instance_itself _ next next_instance)

    module _ (x : InstanceExtent) (hx : IsInstanceExtent entries x) (c : ℕ) (place : ℕ) (here : x.first_connection + c < x.connections_end)
        (place_at : place ≡ get_or p.connections.items (x.first_connection + c) place) (within : x.connections_end ≤ length p.connections.items) where
      connection_at : (n : ℕ) (q : ℕ) → n < length p.connections.items → q ≡ get_or p.connections.items n q → q ≡ get_or (places_below begins_connection entries all) n 0
      connection_at n q below is = is ∙ sym (get_or_other n q below) ∙ ap (λ (l : List ℕ). get_or l n 0) h.connections
        where
          get_or_other : (n q : ℕ) → n < length p.connections.items → get_or p.connections.items n 0 ≡ get_or p.connections.items n q
          get_or_other n q below = get_or_default p.connections.items n 0 q below

      this_connection : place ≡ get_or (places_below begins_connection entries all) (begun begins_connection entries (x.place + 1) + c) 0
      this_connection = connection_at (x.first_connection + c) place (omega arith) place_at ∙ ap (λ (n : ℕ). get_or (places_below begins_connection entries all) (n + c) 0) hx.first

      connection_order : x.place + 1 ≤ x.end
      connection_order = let a = hx.head in omega arith

      pub connection_behind : x.place < place
      connection_behind =
          let b = behind_a begins_connection entries (x.place + 1) x.end c connection_order hx.within (let f = hx.first in let l = hx.last in omega arith) in
          let p = this_connection in omega arith

      pub last_connection : x.first_connection + c + 1 ≡ x.connections_end → IsPartAt entries begins_connection (stretch entries (x.place + 1) x.end) c place x.end
      last_connection last = subst (λ (q : ℕ). IsPartAt entries begins_connection (stretch entries (x.place + 1) x.end) c q x.end) (sym this_connection)
          (found_last begins_connection entries (x.place + 1) x.end c connection_order hx.within (let f = hx.first in let l = hx.last in omega arith) (let f = hx.first in let l = hx.last in omega arith))

      pub inner_connection : (next : ℕ) → x.first_connection + c + 1 < x.connections_end → next ≡ get_or p.connections.items (x.first_connection + c + 1) next
          → IsPartAt entries begins_connection (stretch entries (x.place + 1) x.end) c place next
      inner_connection next more next_at =
          let end : next ≡ get_or (places_below begins_connection entries all) (begun begins_connection entries (x.place + 1) + c + 1) 0 =
          connection_at (x.first_connection + c + 1) next (omega arith) next_at ∙ ap (λ (n : ℕ). get_or (places_below begins_connection entries all) (n + c + 1) 0) hx.first in
          subst (λ (q : ℕ). IsPartAt entries begins_connection (stretch entries (x.place + 1) x.end) c q next) (sym this_connection)
          (subst (λ (n : ℕ). IsPartAt entries begins_connection (stretch entries (x.place + 1) x.end) c (get_or (places_below begins_connection entries all) (begun begins_connection entries (x.place + 1) + c) 0) n) (sym end)
          (found_next begins_connection entries (x.place + 1) x.end c connection_order hx.within (let f = hx.first in let l = hx.last in omega arith)))

      pub connection_before : (next : ℕ) → x.first_connection + c + 1 < x.connections_end → next ≡ get_or p.connections.items (x.first_connection + c + 1) next → next ≤ x.end
      connection_before next more next_at =
          let b = next_within begins_connection entries (x.place + 1) x.end c connection_order hx.within (let f = hx.first in let l = hx.last in omega arith) in
          let p = connection_at (x.first_connection + c + 1) next (omega arith) next_at ∙ ap (λ (n : ℕ). get_or (places_below begins_connection entries all) (n + c + 1) 0) hx.first in omega arith
