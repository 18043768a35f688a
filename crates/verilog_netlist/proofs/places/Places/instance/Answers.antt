-- The rows of the instance and of the next, if it is in the same module.
use Rattle.std.proofs.Common.{◌<◌, ◌≤◌, ℕ, ◌+◌, sym, subst, arith}
use Rattle.verilog_netlist.specs.Namespaces.{begins_instance}
use Rattle.verilog_netlist.specs.PartPlaces.{stretch, IsPartAt, IsInstanceExtent}
use Rattle.verilog_netlist.proofs.Placing.{last_instance, inner_instance, next_connections, instance_extent, instance_behind, instance_before}
use Rattle.verilog_netlist.proofs.places.Places.instance.Goals as goal
use Rattle.verilog_netlist.proofs.places.Places.instance.Goals.{then-number-within, else-number-within}

pub returns-clause-part : goal.returns-clause-part
returns-clause-part c entries h x =
    let P = λ (e : ℕ × ℕ). IsPartAt entries begins_instance (stretch entries (c.args.within.place + 1) c.args.within.end) c.args.k c.index-row.result.now.place e.0 in
    elim c.if-number-within.branch [
      | then-number-within w ↦ subst P (sym w.end-is)
          (inner_instance entries c.args.self.now h c.args.within x c.args.k c.index-row.result.now c.requires.place c.requires.known c.index-row.ensures w.index-next.result.now w.if-number-within.true w.index-next.ensures)
      | else-number-within w ↦ subst P (sym w.end-is)
          (last_instance entries c.args.self.now h c.args.within x c.args.k c.index-row.result.now c.requires.place c.requires.known c.index-row.ensures (let m = w.if-number-within.false in let p = c.requires.place in omega arith))
    ]

pub returns-clause-extent : goal.returns-clause-extent
returns-clause-extent c entries h x =
    let P = λ (e : ℕ × ℕ). IsInstanceExtent entries (record { place = c.index-row.result.now.place; end = e.0; first_connection = c.index-row.result.now.connections; connections_end = e.1 }) in
    elim c.if-number-within.branch [
      | then-number-within w ↦ subst P (sym w.end-is)
          (instance_extent entries c.args.self.now h c.args.within x c.args.k c.index-row.result.now c.requires.place c.requires.known c.index-row.ensures w.index-next.result.now.place w.index-next.result.now.connections
          (inner_instance entries c.args.self.now h c.args.within x c.args.k c.index-row.result.now c.requires.place c.requires.known c.index-row.ensures w.index-next.result.now w.if-number-within.true w.index-next.ensures)
          (next_connections entries c.args.self.now h c.args.within x c.args.k c.index-row.result.now c.requires.place c.requires.known c.index-row.ensures w.index-next.result.now w.if-number-within.true w.index-next.ensures))
      | else-number-within w ↦ subst P (sym w.end-is)
          (instance_extent entries c.args.self.now h c.args.within x c.args.k c.index-row.result.now c.requires.place c.requires.known c.index-row.ensures c.args.within.end c.args.within.connections_end
          (last_instance entries c.args.self.now h c.args.within x c.args.k c.index-row.result.now c.requires.place c.requires.known c.index-row.ensures (let m = w.if-number-within.false in let p = c.requires.place in omega arith))
          x.connections)
    ]

pub returns-clause-inside : goal.returns-clause-inside
returns-clause-inside c entries h x =
    let behind = instance_behind entries c.args.self.now h c.args.within x c.args.k c.index-row.result.now c.requires.place c.requires.known c.index-row.ensures in
    let P = λ (e : ℕ × ℕ). (c.args.within.place < c.index-row.result.now.place) × (e.0 ≤ c.args.within.end) in
    elim c.if-number-within.branch [
      | then-number-within w ↦ subst P (sym w.end-is) (
        behind,
        instance_before entries c.args.self.now h c.args.within x c.args.k c.index-row.result.now c.requires.place c.requires.known c.index-row.ensures w.index-next.result.now w.if-number-within.true w.index-next.ensures,
      )
      | else-number-within w ↦ subst P (sym w.end-is) (behind, (omega arith))
    ]
