-- One part more, and where one is refused.
use Rattle.std.proofs.Common.{◌≡◌, ℕ, ◌+◌, ◌≤◌, List, length, take, drop, Err, ap, ◌∙◌, arith}
use Rattle.std.specs.Prelude.{⊤}
use Rattle.token_texts.specs.Readings.{IfRefused}
use Rattle.token_texts.specs.declared.reading.ReadEnd.{ReadEnd}
use Rattle.token_texts.specs.declared.reading.ReadEnd.TheVariants.{Refused, OutOfMemory}
use Rattle.liberty_groups.specs.declared.faults.Cause.{Cause}
use Rattle.token_texts.specs.CutLemmas.{first_and_rest}
use Rattle.liberty_groups.proofs.Feeding.{read_on, stops_end, begins_short}
use Rattle.liberty_groups.proofs.progress.Progress.read.Goals as goal

pub returns-in-Err-clause-fault : goal.returns-in-Err-clause-fault
returns-in-Err-clause-fault c = λ all read.
    let rest : List ℕ = c.loop-rest.rest.now in
    let count = c.size_of-count.ensures in
    let lt = c.if-count-rest.false in
    stops_end c.loop-rest.self ⊤ ⊤ rest c.split_at.result.0.now c.in-Err.end c.cut_at-cut.result c.loop-rest.invariant.goes_on.bound
    (c.loop-rest.invariant.read all read)
    (begins_short rest _ _ c.cut_at-cut.result (first_and_rest rest c.in-len1-up.len_at_least) c.cut_at-cut.ensures.value (omega arith)) (omega arith)
    (c.split_at.ensures.front ∙ ap (λ n. take n rest) count) c.in-Err.ensures.fault

-- a refusal begins where the part does
begins_at : (old now : ℕ) (end : ReadEnd Cause) (left all : ℕ) → now + left ≡ old + all → left ≤ all
    → IfRefused {A = ⊤} (Err end) (λ number start cause. start ≡ now)
    → IfRefused {A = ⊤} (Err end) (λ number start cause. (old ≤ start) × (start ≤ old + all))
begins_at old now (Refused number start cause) left all size le place = (omega arith, omega arith)
begins_at old now OutOfMemory left all size le place = tt

pub returns-in-Err-clause-within : goal.returns-in-Err-clause-within
returns-in-Err-clause-within c =
    begins_at c.args.self.now.start c.loop-rest.self.start c.in-Err.end (length c.loop-rest.rest.now) (length c.args.bytes.now)
    c.loop-rest.invariant.size c.loop-rest.invariant.shorter c.in-Err.ensures.place

pub loop-rest-preserved : goal.loop-rest-preserved
loop-rest-preserved c =
    let rest : List ℕ = c.loop-rest.rest.now in
    let count = c.size_of-count.ensures in
    let lt = c.if-count-rest.false in
    let front = c.split_at.ensures.front_len in
    let back = c.split_at.ensures.back_len in
    let size = c.loop-rest.invariant.size in
    let start = c.in-Ok.ensures.start in
    let left = c.pass_blanks-rest-in-Ok.ensures.size in
    let fewer = c.pass_blanks-rest-in-Ok.ensures.shorter in
    record {
      size = omega arith;
      shorter = let shorter = c.loop-rest.invariant.shorter in omega arith;
      goes_on = c.pass_blanks-rest-in-Ok.ensures.goes_on;
      read = λ all read. c.pass_blanks-rest-in-Ok.ensures.read all
          (read_on c.loop-rest.self rest c.split_at.result.0.now c.split_at.result.1.now c.take.new.self c.cut_at-cut.result
          (c.loop-rest.invariant.read all read)
          (begins_short rest _ _ c.cut_at-cut.result (first_and_rest rest c.in-len1-up.len_at_least) c.cut_at-cut.ensures.value (omega arith)) (omega arith)
          (c.split_at.ensures.front ∙ ap (λ n. take n rest) count) (c.split_at.ensures.back ∙ ap (λ n. drop n rest) count) (omega arith)
          c.in-Ok.ensures.ok);
    }
