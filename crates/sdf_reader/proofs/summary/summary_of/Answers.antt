-- There is room for each row.
use Rattle.std.proofs.Common.{sym, subst}
use Rattle.sdf_reader.specs.Sizes.{AreWithin}
use Rattle.sdf_reader.proofs.SumLemmas.{small_counts, small_sum}
use Rattle.sdf_reader.proofs.summary.summary_of.Goals as goal

pub with_row-summary-requires-clause-counts : goal.with_row-summary-requires-clause-counts
with_row-summary-requires-clause-counts c =
    let are = subst AreWithin (sym c.deref-row-items.ensures.value) c.rows.invariant in
    small_counts c.deref-row-items.result.now c.loop-row.row-index c.loop-row.summary are.few c.loop-row-test.true c.loop-row.invariant

pub with_row-summary-requires-clause-sum : goal.with_row-summary-requires-clause-sum
with_row-summary-requires-clause-sum c =
    let are = subst AreWithin (sym c.deref-row-items.ensures.value) c.rows.invariant in
    small_sum c.deref-row-items.result.now c.loop-row.row-index c.loop-row.summary are c.loop-row-test.true c.loop-row.invariant
