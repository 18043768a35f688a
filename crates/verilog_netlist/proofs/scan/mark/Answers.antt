-- A mark begins no other token.
use Rattle.std.proofs.Common.{ℕ, ap}
use Rattle.verilog_netlist.specs.Tokens.{cut_at}
use Rattle.verilog_netlist.proofs.scan.mark.Goals as goal

pub returns-in-44-clause-some : goal.returns-in-44-clause-some
unfolding cut_at
returns-in-44-clause-some c rest = ap (λ (b : ℕ). cut_at b rest) c.in-44.is

pub returns-in-41-clause-some : goal.returns-in-41-clause-some
unfolding cut_at
returns-in-41-clause-some c rest = ap (λ (b : ℕ). cut_at b rest) c.in-41.is

pub returns-in-46-clause-some : goal.returns-in-46-clause-some
unfolding cut_at
returns-in-46-clause-some c rest = ap (λ (b : ℕ). cut_at b rest) c.in-46.is

pub returns-in-59-clause-some : goal.returns-in-59-clause-some
unfolding cut_at
returns-in-59-clause-some c rest = ap (λ (b : ℕ). cut_at b rest) c.in-59.is

pub returns-in-91-clause-some : goal.returns-in-91-clause-some
unfolding cut_at
returns-in-91-clause-some c rest = ap (λ (b : ℕ). cut_at b rest) c.in-91.is

pub returns-in-93-clause-some : goal.returns-in-93-clause-some
unfolding cut_at
returns-in-93-clause-some c rest = ap (λ (b : ℕ). cut_at b rest) c.in-93.is

pub returns-in-123-clause-some : goal.returns-in-123-clause-some
unfolding cut_at
returns-in-123-clause-some c rest = ap (λ (b : ℕ). cut_at b rest) c.in-123.is

pub returns-in-125-clause-some : goal.returns-in-125-clause-some
unfolding cut_at
returns-in-125-clause-some c rest = ap (λ (b : ℕ). cut_at b rest) c.in-125.is

pub returns-in-58-clause-some : goal.returns-in-58-clause-some
unfolding cut_at
returns-in-58-clause-some c rest = ap (λ (b : ℕ). cut_at b rest) c.in-58.is
