-- The rows of a net, by the delays of its tree.
use Rattle.std.proofs.Common.{◌≡◌, ℕ, ◌+◌, ◌^◌, ◌≤◌, List, [], ◌∷◌, ◌++◌, append_assoc, Some, Result, Ok, Err, OnOk, pos, unsigned_abs, refl, sym, ◌∙◌, ap, subst, inl, inr, length-append}
use Rattle.std.specs.List.{slice_get}
use Rattle.std.proofs.lemmas.List.{append-nil}
use Rattle.corner_set.specs.Places.{value_at}
use Rattle.delay_units.specs.declared.Femto.{Femto}
use Rattle.delay_units.specs.Rounding.{IsRounding}
use Rattle.name_table.specs.declared.spef_names.NodeName.{NodeName}
use Rattle.sdf_writer.specs.SdfText.{SdfRows}
use Rattle.sdf_writer.specs.Bounds.{AreWithin}
use Rattle.rc_tree.specs.Arenas.{Arena, arena_elements}
use Rattle.rc_tree.specs.Elmore.{IsElmore}
use Rattle.rc_tree.specs.Pins.{Pins}
use Rattle.rc_tree.specs.declared.node_ids.NodeId.{NodeId}
use Rattle.elmore_pass.specs.Delays.{HasDelay}
use Rattle.wire_phases.specs.NetRows.{IsTreeRow, with_rows, AddsRow, AddsRows}
use Rattle.refusals.proofs.Places.{some_is, index_is, at_end}

-- the delay that was read is that of the node
pub delay_is : (arena : Arena) (values : List ℕ) (node read : ℕ) (delay : HasDelay 1 arena values node 0) → value_at 1 values node 0 ≡ Some read → delay.delay ≡ read
delay_is arena values node read delay e = some_is delay.delay read (sym delay.held ∙ e)

pub one_within : (delays : List Femto) (time : Femto) → delays ≡ time ∷ [] → unsigned_abs time.0 ≤ 10 ^ 27 → AreWithin delays
one_within delays time is small = subst AreWithin (sym is) (small, tt)

-- the row that was added is that of the sink
pub adds_row : {E : Type 0} (pins : Pins) (arena : Arena) (sink : ℕ) (id : NodeId) (name : NodeName) (read : ℕ) (time : Femto) (grid : List Femto) (from to : List ℕ) (old new : SdfRows) (values : List ℕ) (result : Result (Unit {0}) E)
    → slice_get arena.sinks sink ≡ Some id → slice_get pins.sinks sink ≡ Some name → (delay : HasDelay 1 arena values id.0 0) → delay.delay ≡ read → IsRounding (pos read) (pos (10 ^ 12)) time.0
    → grid ≡ time ∷ [] → from ≡ pins.driver.sdf → to ≡ name.sdf
    → OnOk result (new ≡ record { design = old.design; wires = old.wires ++ record { from = from; to = to; delay = grid } ∷ []; paths = old.paths })
    → OnOk result (AddsRow pins arena sink old new)
adds_row pins arena sink id name read time grid from to old new values (Ok done) placed named delay is rounded sole from_is to_is added = record {
  row = record { from = from; to = to; delay = grid };
  is = added;
  by_tree = record {
    name = name;
    named = named;
    elmore = read;
    delay = time;
    from = from_is;
    to = to_is;
    sole = sole;
    counted = subst (λ node. IsElmore (arena_elements 1 arena 0) node read) (sym (ap (λ at. at.0) (index_is arena.sinks sink id (record { 0 = 0 }) placed)))
        (subst (λ v. IsElmore (arena_elements 1 arena 0) id.0 v) is delay.elmore);
    rounded = rounded;
  };
}
adds_row pins arena sink id name read time grid from to old new values (Err end) placed named delay is rounded sole from_is to_is added = tt

-- no row yet
pub no_rows : (pins : Pins) (arena : Arena) (rows : SdfRows) → AddsRows pins arena 0 rows rows
no_rows pins arena rows = record {
  rows = [];
  is = ap (λ w. record { design = rows.design; wires = w; paths = rows.paths }) (sym (append-nil rows.wires));
  counted = refl;
  by_tree = λ sink row e. absurd (cc);
}

-- the row of one sink more
pub rows_more : (pins : Pins) (arena : Arena) (sink : ℕ) (old middle new : SdfRows) → AddsRows pins arena sink old middle → AddsRow pins arena sink middle new → AddsRows pins arena (sink + 1) old new
rows_more pins arena sink old middle new before more = record {
  rows = before.rows ++ more.row ∷ [];
  is = more.is ∙ ap (λ m. with_rows m (more.row ∷ [])) before.is ∙ ap (λ w. record { design = old.design; wires = w; paths = old.paths }) (append_assoc old.wires before.rows (more.row ∷ []));
  counted = length-append before.rows (more.row ∷ []) ∙ ap (λ n. n + 1) before.counted;
  by_tree = λ k row e. elim (at_end before.rows more.row k row e) [
    | inl earlier ↦ before.by_tree k row earlier
    | inr last ↦ subst (λ n. IsTreeRow pins arena n row) (sym (last.0 ∙ before.counted)) (subst (IsTreeRow pins arena sink) last.1 more.by_tree)
  ];
}
