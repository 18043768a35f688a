use Rattle.std.proofs.Common.{◌<◌, ◌≤◌, sym, subst, arith}
use Rattle.std.proofs.lemmas.List.Elements.{All-from_get_or}
use Rattle.std.proofs.lemmas.List.FromFn.{fill_by_all}
use Rattle.delay_units.specs.Bounds.{most_farads}
use Rattle.delay_units.specs.declared.quantities.Farads.{Farads}
use Rattle.net_parasitics.specs.NetPins.{end_load}
use Rattle.net_parasitics.proofs.Lists.{none_filled, filled_more}
use Rattle.net_parasitics.proofs.inputs.NetInputs.put_loads.Goals as goal

-- src/sink_loads.rt
pub loop-number-init : goal.loop-number-init
loop-number-init g c = none_filled (λ (load : Farads). load.0 ≤ most_farads) (λ corner. end_load c.args.self.now.netlist c.args.self.now.cells c.args.self.now.port_load corner c.args.end)
    (record { 0 = 0 }) g.C.CornerSet.COUNT c.args.row.now.values c.requires.one_row

pub set-requires : goal.set-requires
set-requires g c = let len = c.loop-number.invariant.len in omega (arith, len)

pub loop-number-preserved : goal.loop-number-preserved
loop-number-preserved g c = filled_more (λ (load : Farads). load.0 ≤ most_farads) (λ corner. end_load c.args.self.now.netlist c.args.self.now.cells c.args.self.now.port_load corner c.args.end)
    (record { 0 = 0 }) g.C.CornerSet.COUNT c.loop-number.number (g.C.CornerSet.number_of c.corner_at-corner.result) c.loop-number.row.values c.set.new.self.values c.end_load.result
    c.corner_at-corner.ensures (omega (arith, c.loop-number-test.true, c.COUNT-number-end.ensures)) c.loop-number.invariant c.set.ensures.written c.end_load.ensures.load c.end_load.ensures.most

pub returns-clause-loads : goal.returns-clause-loads
returns-clause-loads g c = fill_by_all (λ corner. end_load c.args.self.now.netlist c.args.self.now.cells c.args.self.now.port_load corner c.args.end)
    c.loop-number.row.values g.C.CornerSet.COUNT (record { 0 = 0 }) c.loop-number.invariant.len
    (λ k below. c.loop-number.invariant.each k (omega (arith, below, c.loop-number-test.false, c.COUNT-number-end.ensures)))

pub returns-clause-most : goal.returns-clause-most
returns-clause-most g c = All-from_get_or (λ (load : Farads). load.0 ≤ most_farads) c.loop-number.row.values (record { 0 = 0 })
    (λ k below. let n = c.loop-number.invariant.len in let less : k < c.loop-number.number = omega (arith, below, n, c.loop-number-test.false, c.COUNT-number-end.ensures) in
    subst (λ (load : Farads). load.0 ≤ most_farads) (sym (c.loop-number.invariant.each k less)) (c.loop-number.invariant.all k less))
