-- The place of the connection and of the next, if it is in the same instance.
use Rattle.std.proofs.Common.{arith}
use Rattle.verilog_netlist.proofs.Placing.{last_connection, inner_connection, connection_behind, connection_before}
use Rattle.verilog_netlist.proofs.places.Places.connection.Goals as goal

pub returns-then-number-instance : goal.returns-then-number-instance
returns-then-number-instance c = record {
  part = λ entries h x. inner_connection entries c.args.self.now h c.args.instance x c.args.c c.index.result.now c.requires.place c.index.ensures c.requires.within
      c.index-then-number-instance.result.now c.if-number-instance.true c.index-then-number-instance.ensures;
  inside = λ entries h x. (
    connection_behind entries c.args.self.now h c.args.instance x c.args.c c.index.result.now c.requires.place c.index.ensures c.requires.within,
    connection_before entries c.args.self.now h c.args.instance x c.args.c c.index.result.now c.requires.place c.index.ensures c.requires.within
        c.index-then-number-instance.result.now c.if-number-instance.true c.index-then-number-instance.ensures,
  );
}

pub returns-else-number-instance : goal.returns-else-number-instance
returns-else-number-instance c = record {
  part = λ entries h x. last_connection entries c.args.self.now h c.args.instance x c.args.c c.index.result.now c.requires.place c.index.ensures c.requires.within
      (let m = c.if-number-instance.false in let p = c.requires.place in omega arith);
  inside = λ entries h x. (
    connection_behind entries c.args.self.now h c.args.instance x c.args.c c.index.result.now c.requires.place c.index.ensures c.requires.within,
    (omega arith),
  );
}
