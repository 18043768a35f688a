-- The reader's steps and the grammar fit together.
use Rattle.token_fronts.specs.Tokens.{numbered}
use Rattle.token_fronts.specs.Accepting.{accepted_is_made, made_is_accepted}
use Rattle.token_fronts.specs.FrontLaw.{Fits}
use Rattle.verilog_netlist.specs.Tokens.{IsToken}
use Rattle.verilog_netlist.specs.Grammar.{IsNetlist}
use Rattle.verilog_netlist.specs.Modes.{first_state, next, finish}
use Rattle.verilog_netlist.proofs.Taking.{taking}
use Rattle.verilog_netlist.proofs.Meaning.{meaning}
use Rattle.verilog_netlist.proofs.Living.{lives}

pub fits : Fits IsToken IsNetlist next finish first_state
fits = record {
  takes = λ texts entries is. accepted_is_made next finish first_state 1 texts entries (taking is);
  means = λ texts entries made. meaning (numbered 1 texts) entries (made_is_accepted next finish first_state 1 texts entries made);
  lives = lives;
}
