-- One token more, what is passed over, and the end.
use Rattle.std.proofs.Common.{Bool, sym, subst}
use Rattle.verilog_netlist.specs.Steps.{step_in}
use Rattle.verilog_netlist.specs.Modes.{State, state_after}
use Rattle.verilog_netlist.specs.ReaderStates.{state_of, Steps}
use Rattle.verilog_netlist.proofs.SoFar.{skips_blanks, takes, refuses, lacks, says, few_said, one_netlist, first_and_rest, no_bytes}
use Rattle.verilog_netlist.proofs.reading.read_entries.Goals as goal

pub loop-rest-preserved-in-Skip : goal.loop-rest-preserved-in-Skip
loop-rest-preserved-in-Skip c =
    let split = first_and_rest c.loop-rest.rest.now c.in-len1-up.len_at_least in
    skips_blanks c.loop-rest.rest.now c.loop-rest.invariant _ _ c.in-Skip.count split (sym c.in-Skip.ensures.value) c.in-Skip.ensures.within.1 _ c.with_blanks-passed.ensures.value _ c.split_at.ensures.back

pub returns-in-Ok-false-clause-refused : goal.returns-in-Ok-false-clause-refused
returns-in-Ok-false-clause-refused c =
    let split = first_and_rest c.loop-rest.rest.now c.in-len1-up.len_at_least in
    let state : State = state_of c.loop-rest.reader in
    let steps = subst (λ (t : Bool). Steps (state_after (step_in state.mode c.in-Take.kind c.span_of-at.result) state.entries) (state_of c.take.new.self) t) c.in-Ok-false.field-0-test c.in-Ok-false.ensures in
    (refuses c.loop-rest.rest.now c.loop-rest.invariant _ _ c.in-Take.count c.in-Take.kind c.span_of-at.result c.refusal.result split (sym c.in-Take.ensures.value) c.span_of-at.ensures steps c.refusal.ensures).refused

pub returns-in-Ok-false-clause-word : goal.returns-in-Ok-false-clause-word
returns-in-Ok-false-clause-word c =
    let split = first_and_rest c.loop-rest.rest.now c.in-len1-up.len_at_least in
    let state : State = state_of c.loop-rest.reader in
    let steps = subst (λ (t : Bool). Steps (state_after (step_in state.mode c.in-Take.kind c.span_of-at.result) state.entries) (state_of c.take.new.self) t) c.in-Ok-false.field-0-test c.in-Ok-false.ensures in
    (refuses c.loop-rest.rest.now c.loop-rest.invariant _ _ c.in-Take.count c.in-Take.kind c.span_of-at.result c.refusal.result split (sym c.in-Take.ensures.value) c.span_of-at.ensures steps c.refusal.ensures).word

pub returns-in-Ok-false-clause-only : goal.returns-in-Ok-false-clause-only
returns-in-Ok-false-clause-only c entries said = absurd (
    let split = first_and_rest c.loop-rest.rest.now c.in-len1-up.len_at_least in
    let state : State = state_of c.loop-rest.reader in
    let steps = subst (λ (t : Bool). Steps (state_after (step_in state.mode c.in-Take.kind c.span_of-at.result) state.entries) (state_of c.take.new.self) t) c.in-Ok-false.field-0-test c.in-Ok-false.ensures in
    (refuses c.loop-rest.rest.now c.loop-rest.invariant _ _ c.in-Take.count c.in-Take.kind c.span_of-at.result c.refusal.result split (sym c.in-Take.ensures.value) c.span_of-at.ensures steps c.refusal.ensures).nothing entries said)

pub loop-rest-preserved : goal.loop-rest-preserved
loop-rest-preserved c =
    let split = first_and_rest c.loop-rest.rest.now c.in-len1-up.len_at_least in
    let state : State = state_of c.loop-rest.reader in
    let now : State = state_of c.take.new.self in
    let steps = subst (λ (t : Bool). Steps (state_after (step_in state.mode c.in-Take.kind c.span_of-at.result) state.entries) now t) c.in-Ok-true.field-0-test c.in-Ok-true.ensures in
    takes c.loop-rest.rest.now c.loop-rest.invariant _ _ c.in-Take.count c.in-Take.kind c.span_of-at.result now split (sym c.in-Take.ensures.value) c.in-Take.ensures.within.0 c.in-Take.ensures.within.1 c.span_of-at.ensures steps _ c.split_at-in-Take.ensures.back

pub returns-in-Some-clause-ok : goal.returns-in-Some-clause-ok
returns-in-Some-clause-ok c = says c.loop-rest.rest.now c.loop-rest.invariant (no_bytes c.loop-rest.rest.now c.in_default.len_below) _ c.in-Some.ensures

pub returns-in-Some-clause-only : goal.returns-in-Some-clause-only
returns-in-Some-clause-only c entries said = one_netlist c.args.bytes.now _ entries (says c.loop-rest.rest.now c.loop-rest.invariant (no_bytes c.loop-rest.rest.now c.in_default.len_below) _ c.in-Some.ensures) said

pub returns-in-None-clause-refused : goal.returns-in-None-clause-refused
returns-in-None-clause-refused c = (lacks c.loop-rest.rest.now c.loop-rest.invariant (no_bytes c.loop-rest.rest.now c.in_default.len_below) c.in-None.ensures).refused

pub returns-in-None-clause-word : goal.returns-in-None-clause-word
returns-in-None-clause-word c = (lacks c.loop-rest.rest.now c.loop-rest.invariant (no_bytes c.loop-rest.rest.now c.in_default.len_below) c.in-None.ensures).word

pub returns-in-None-clause-only : goal.returns-in-None-clause-only
returns-in-None-clause-only c entries said = absurd ((lacks c.loop-rest.rest.now c.loop-rest.invariant (no_bytes c.loop-rest.rest.now c.in_default.len_below) c.in-None.ensures).nothing entries said)

pub returns-in-Some-clause-few : goal.returns-in-Some-clause-few
returns-in-Some-clause-few c = few_said c.loop-rest.rest.now c.loop-rest.invariant _ c.in-Some.ensures
