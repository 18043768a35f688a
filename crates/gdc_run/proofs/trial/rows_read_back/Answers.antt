-- The text says the rows that are read back, so they are answered.
use Rattle.sdf_read_back.specs.Rows.{read_back_rows}
use Rattle.gdc_run.proofs.MadeFiles.{written_says, not_refused}
use Rattle.gdc_run.proofs.trial.rows_read_back.Goals as goal

pub returns-in-Ok : goal.returns-in-Ok
returns-in-Ok c =
    c.in-Ok.ensures.only (read_back_rows c.args.rows.now)
    (written_says c.args.rows.now c.in_ok-text.text c.bytes.result.now c.read_back.ensures.law c.requires c.in_ok-text.ensures c.bytes.ensures)

pub unreachable-requires : goal.unreachable-requires
unreachable-requires c =
    not_refused (read_back_rows c.args.rows.now) c.in-Err-Syntax.field-0 c.in-Err-Syntax.field-0-0 c.in-Err-Syntax.field-0-1 c.in-Err-Syntax.field-0-is
    (c.in-Err-Syntax.ensures.only (read_back_rows c.args.rows.now)
    (written_says c.args.rows.now c.in_ok-text.text c.bytes.result.now c.read_back.ensures.law c.requires c.in_ok-text.ensures c.bytes.ensures))
