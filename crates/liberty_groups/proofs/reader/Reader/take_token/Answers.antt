-- An attribute that has ended, and then what the token does.
use Rattle.std.proofs.Common.{ℕ, not, nat_lt, nat_le, Result, IfOk, ap, ◌∙◌, subst}
use Rattle.liberty_groups.specs.Modes.{State}
use Rattle.liberty_groups.specs.Steps.{applied}
use Rattle.liberty_groups.specs.Tokens.{said_by}
use Rattle.liberty_groups.specs.ReaderStates.{state_of, Steps}
use Rattle.liberty_groups.specs.declared.faults.Cause.{Cause}
use Rattle.liberty_groups.specs.declared.modes.Action.{Action}
use Rattle.liberty_groups.proofs.Stepping.{deep_is, taken_is}
use Rattle.liberty_groups.proofs.reader.Reader.take_token.Goals as goal

pub returns-clause-state : goal.returns-clause-state
returns-clause-state c = λ start.
    let now : State = state_of c.settle.new.self in
    let depth : ℕ = c.settle.new.self.depth in
    let same = taken_is (state_of c.args.self.now) now c.args.bytes.now c.args.fresh start (nat_le 16 depth) c.args.kind c.in_ok-settle.ensures.state (deep_is depth ∙ ap (λ n. not (nat_lt n 16)) c.in_ok-settle.ensures.sound) in
    subst (λ (answer : Result State Cause). IfOk c.apply.result (Steps answer (state_of c.apply.new.self)))
    (ap (λ (action : Action). applied action now (said_by c.args.kind c.args.bytes.now)) c.next-action.ensures ∙ same) c.apply.ensures.state
