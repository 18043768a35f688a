use Rattle.std.proofs.Common.{sym, subst}
use Rattle.liberty_groups.specs.Tables.{attribute_at}
use Rattle.liberty_tables.specs.NumberLists.{pieces_of}
use Rattle.liberty_tables.specs.Kept.{IsListFault, texts_of}
use Rattle.liberty_tables.proofs.HandingOn.{handed_on}
use Rattle.liberty_tables.proofs.TextLemmas.{texts_more, fault_of_text}
use Rattle.liberty_tables.proofs.number_lists.read_list.Goals as goal

pub returns-in_err-read_text-clause-fault : goal.returns-in_err-read_text-clause-fault
returns-in_err-read_text-clause-fault c =
    handed_on c.from_residual.result c.in_err-read_text.field-0.0 (IsListFault (pieces_of (texts_of c.args.tree.now c.args.attribute))) c.from_residual.ensures.1
    (subst (λ a. IsListFault (pieces_of (texts_of c.args.tree.now a)) c.in_err-read_text.field-0.0) (sym c.in-Some.is)
    (fault_of_text (attribute_at c.args.tree.now c.in-Some.attribute.0).values c.loop-place.place c.value.result.now c.bytes.result.now c.in_err-read_text.field-0.0 c.value.ensures c.bytes.ensures c.in_err-read_text.ensures.fault))

pub loop-place-preserved : goal.loop-place-preserved
loop-place-preserved c =
    texts_more c.args.unit.now (attribute_at c.args.tree.now c.in-Some.attribute.0).values c.loop-place.place c.value.result.now c.bytes.result.now c.loop-place.readings c.read_text.new.self
    c.value.ensures c.bytes.ensures c.loop-place.invariant c.in_ok-read_text.ensures.kept
