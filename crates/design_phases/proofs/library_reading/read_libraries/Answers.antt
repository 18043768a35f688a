-- The library of a corner stops the phases, or is one more.
use Rattle.std.proofs.Common.{sym, arith}
use Rattle.liberty_groups.specs.Tables.{Tables}
use Rattle.std.proofs.lemmas.Option.{slice_get_read}
use Rattle.design_phases.proofs.LibraryLemmas.{stop_on, fault_on, stops_there, fault_there, one_more, all_there}
use Rattle.design_phases.proofs.library_reading.read_libraries.Goals as goal

pub returns-in_err-library-clause-stops : goal.returns-in_err-library-clause-stops
returns-in_err-library-clause-stops g c =
    stop_on Tables _ c.from_residual.result c.in_err-library.field-0.0 _ _ c.from_residual.ensures.1 (rw (c.COUNT.ensures) at c.in_err-library.ensures.stops)
    (λ why reads. stops_there (g.H.Shelf.held c.args.shelf.now) g.C.CornerSet.COUNT c.args.names.now (g.H.Shelf.faults c.args.shelf.now) (g.H.Shelf.opens c.args.shelf.now) c.loop-corner.corner _ c.loop-corner.libraries _ _ _ why
    c.loop-corner.invariant (omega (arith, c.loop-corner-test.true, c.COUNT-corner-end.ensures)) (slice_get_read c.args.names.now _ c.loop-corner.corner c.index-as_slice-corner.result (sym c.requires) (omega (arith, c.loop-corner-test.true, c.COUNT-corner-end.ensures)) (rw (c.as_slice.ensures) at c.index-as_slice-corner.is)) reads)

pub returns-in_err-library-clause-fault : goal.returns-in_err-library-clause-fault
returns-in_err-library-clause-fault g c =
    fault_on Tables _ c.from_residual.result c.in_err-library.field-0.0 _ _ c.from_residual.ensures.1 (rw (c.COUNT.ensures) at c.in_err-library.ensures.fault)
    (λ key cause. fault_there (g.H.Shelf.held c.args.shelf.now) g.C.CornerSet.COUNT c.args.names.now (g.H.Shelf.faults c.args.shelf.now) (g.H.Shelf.opens c.args.shelf.now) c.loop-corner.corner _ c.loop-corner.libraries _ _ _ _ _ key
    c.loop-corner.invariant (omega (arith, c.loop-corner-test.true, c.COUNT-corner-end.ensures)) (slice_get_read c.args.names.now _ c.loop-corner.corner c.index-as_slice-corner.result (sym c.requires) (omega (arith, c.loop-corner-test.true, c.COUNT-corner-end.ensures)) (rw (c.as_slice.ensures) at c.index-as_slice-corner.is)) cause.0 cause.1 c.read_library.ensures.opens)

pub loop-corner-preserved : goal.loop-corner-preserved
loop-corner-preserved g c =
    one_more (g.H.Shelf.held c.args.shelf.now) g.C.CornerSet.COUNT c.args.names.now (g.H.Shelf.faults c.args.shelf.now) (g.H.Shelf.opens c.args.shelf.now) c.loop-corner.corner _ c.in_ok-library.library c.loop-corner.libraries c.push.new.self _ _ _ _ _ _
    c.loop-corner.invariant (slice_get_read c.args.names.now _ c.loop-corner.corner c.index-as_slice-corner.result (sym c.requires) (omega (arith, c.loop-corner-test.true, c.COUNT-corner-end.ensures)) (rw (c.as_slice.ensures) at c.index-as_slice-corner.is)) (rw (c.COUNT.ensures) at c.in_ok-library.ensures.ok) c.read_library.ensures.held c.read_library.ensures.later c.read_library.ensures.opens c.in_ok-push.ensures

pub returns-clause-ok : goal.returns-clause-ok
returns-clause-ok g c =
    all_there (g.H.Shelf.held c.args.shelf.now) g.C.CornerSet.COUNT c.args.names.now (g.H.Shelf.faults c.args.shelf.now) (g.H.Shelf.opens c.args.shelf.now) c.loop-corner.corner c.loop-corner.libraries _ _ _
    (omega (arith, c.loop-corner-test.false, c.COUNT-corner-end.ensures)) (omega (arith, c.loop-corner.auto.corner-end, c.COUNT-corner-end.ensures)) c.loop-corner.invariant
