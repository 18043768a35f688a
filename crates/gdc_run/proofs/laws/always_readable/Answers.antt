-- The law follows from those of rows and of names.
use Rattle.gdc_run.proofs.ReadBack.{always_readable_lem}
use Rattle.gdc_run.proofs.laws.always_readable.Goals as goal

pub returns : goal.returns
returns c = record {
  law = always_readable_lem c.nodes_settle.ensures.halves c.nodes_settle.ensures.named c.settled_read_back.ensures.law c.settled_read_back.ensures.only
      c.read_back.ensures.law c.read_back.ensures.only;
}
