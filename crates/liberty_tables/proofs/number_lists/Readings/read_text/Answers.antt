use Rattle.token_texts.specs.Pieces.{pieces_between}
use Rattle.liberty_tables.specs.NumberLists.{is_parting}
use Rattle.liberty_tables.specs.Kept.{IsListFault}
use Rattle.liberty_tables.proofs.HandingOn.{handed_on}
use Rattle.liberty_tables.proofs.TextLemmas.{one_more_read, all_read, fault_of_all}
use Rattle.liberty_tables.proofs.number_lists.Readings.read_text.Goals as goal

pub returns-in_err-read_number-clause-fault : goal.returns-in_err-read_number-clause-fault
returns-in_err-read_number-clause-fault c =
    handed_on c.from_residual.result c.in_err-read_number.field-0.0 (IsListFault (pieces_between is_parting c.args.text.now)) c.from_residual.ensures.1
    (fault_of_all c.args.unit.now (pieces_between is_parting c.args.text.now) (pieces_between is_parting c.loop-piece.rest.now) c.in-Some.piece.now (pieces_between is_parting c.in-Some.others.now)
    c.args.self.now c.loop-piece.self c.in_err-read_number.field-0.0 c.loop-piece.invariant c.in-Some.ensures.some c.in_err-read_number.ensures.fault)

pub loop-piece-preserved : goal.loop-piece-preserved
loop-piece-preserved c =
    one_more_read c.args.unit.now (pieces_between is_parting c.args.text.now) (pieces_between is_parting c.loop-piece.rest.now) c.in-Some.piece.now (pieces_between is_parting c.in-Some.others.now)
    c.args.self.now c.loop-piece.self c.read_number.new.self c.loop-piece.invariant c.in-Some.ensures.some c.in_ok-read_number.ensures.kept

pub returns-clause-kept : goal.returns-clause-kept
returns-clause-kept c =
    all_read c.args.unit.now (pieces_between is_parting c.args.text.now) (pieces_between is_parting c.loop-piece.rest.now) c.args.self.now c.loop-piece.self c.in_default.ensures.none c.loop-piece.invariant
