-- A file ends where one may end.
use Rattle.std.proofs.Common.{◌+◌, sym, ◌∙◌, arith}
use Rattle.spef_text.proofs.SoFar.{ended, cut_off}
use Rattle.spef_text.proofs.reader.ReaderTokenReader.finish.Goals as goal

pub returns-then-may_end : goal.returns-then-may_end
returns-then-may_end c = record {
  state = λ before leads. ended before c.args.self leads (sym c.may_end.ensures ∙ c.if-may_end.true);
}

pub returns-else-may_end : goal.returns-else-may_end
returns-else-may_end c = record {
  state = λ before leads. cut_off before c.args.self (c.len.result + 1) leads (sym c.may_end.ensures ∙ c.if-may_end.false) (let whole = c.args.self.starts.ok in let len = c.len.ensures in omega arith);
}
