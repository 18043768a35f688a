-- A part that has ended, and what waits.
use Rattle.std.proofs.Common.{◌≡◌, ℕ, ◌+◌, List, ◌++◌, length, length-append, Err, sym, ap, ◌∙◌, subst, arith}
use Rattle.std.specs.Prelude.{⊤}
use Rattle.liberty_groups.specs.Answers.{IfSyntax}
use Rattle.liberty_groups.specs.Places.{IsOpenWithin}
use Rattle.liberty_groups.specs.Feeding.{Begins, HasShown, HasReadTo, IsFaultOfAny}
use Rattle.liberty_groups.specs.declared.faults.ParseEnd.{ParseEnd}
use Rattle.liberty_groups.specs.declared.places.Scanned.TheVariants.{Ended, Bad, Begun}
use Rattle.liberty_groups.proofs.Pieces.{some_left, nothing_shown, shown_on, shown_value, bad_fault, ended_begins, ended_within, parted_rest}
use Rattle.liberty_groups.proofs.feeder.Feeder.go_on.Goals as goal

pub returns-in-Begun-clause-ready : goal.returns-in-Begun-clause-ready
returns-in-Begun-clause-ready c =
    let w : List ℕ = c.loop-now.self.waiting.items in
    let rest : List ℕ = c.loop-now.rest.now in
    let ok = c.loop-now.self.waiting.ok.0 in
    let some = some_left _ (sym c.is_empty.ensures ∙ c.loop-now-test.true) in
    let long : c.len.result ≡ length w = c.len.ensures ∙ ok in
    let value = shown_value c.len.result w rest c.loop-now.now c.scan_on.result (Begun c.in-Begun.place) long c.in-Begun.is c.scan_on.ensures.value in
    let all : length c.extend_from_slice.new.self.items ≡ length w + length rest = ap length c.in-Ok.ensures.items ∙ length-append w rest in
    record {
      progress = c.loop-now.invariant.goes_on;
      lines = c.loop-now.invariant.lines;
      within = λ _. subst (λ (n : ℕ). IsOpenWithin n (Begun c.in-Begun.place)) (ap (λ n. n + length rest) long ∙ sym all) c.in-Begun.ensures.within;
      shown = subst (λ (l : List ℕ). HasShown l (Begun c.in-Begun.place)) (sym c.in-Ok.ensures.items)
          (shown_on w rest c.loop-now.now (omega (arith, some, ok)) c.loop-now.invariant.shown (Begun c.in-Begun.place) value);
    }

pub returns-in-Bad-clause-fault : goal.returns-in-Bad-clause-fault
returns-in-Bad-clause-fault c = λ all h.
    let w : List ℕ = c.loop-now.self.waiting.items in
    let rest : List ℕ = c.loop-now.rest.now in
    let ok = c.loop-now.self.waiting.ok.0 in
    let some = some_left _ (sym c.is_empty.ensures ∙ c.loop-now-test.true) in
    let value = shown_value c.len.result w rest c.loop-now.now c.scan_on.result Bad (c.len.ensures ∙ ok) c.in-Bad.is c.scan_on.ensures.value in
    subst (λ (answer : ParseEnd). IfSyntax {A = ⊤} (Err answer) (IsFaultOfAny all)) (sym c.fault.ensures)
    (bad_fault w rest c.loop-now.now (omega (arith, some, ok)) c.loop-now.invariant.shown c.loop-now.self.progress c.loop-now.self.line value
    c.loop-now.invariant.goes_on.bound (c.loop-now.invariant.read all h))

pub take_front-requires-clause-some : goal.take_front-requires-clause-some
take_front-requires-clause-some c =
    let w : List ℕ = c.loop-now.self.waiting.items in
    let rest : List ℕ = c.loop-now.rest.now in
    let ok = c.loop-now.self.waiting.ok.0 in
    let some = some_left _ (sym c.is_empty.ensures ∙ c.loop-now-test.true) in
    let value = shown_value c.len.result w rest c.loop-now.now c.scan_on.result (Ended c.in-Ended.cut) (c.len.ensures ∙ ok) c.in-Ended.is c.scan_on.ensures.value in
    (ended_within w rest c.loop-now.now (omega (arith, some, ok)) c.loop-now.invariant.shown c.in-Ended.cut value).0

pub loop-now-preserved-in-Ok-take_front : goal.loop-now-preserved-in-Ok-take_front
loop-now-preserved-in-Ok-take_front c =
    let w : List ℕ = c.loop-now.self.waiting.items in
    let rest : List ℕ = c.loop-now.rest.now in
    let ok = c.loop-now.self.waiting.ok.0 in
    let some = some_left _ (sym c.is_empty.ensures ∙ c.loop-now-test.true) in
    let value = shown_value c.len.result w rest c.loop-now.now c.scan_on.result (Ended c.in-Ended.cut) (c.len.ensures ∙ ok) c.in-Ended.is c.scan_on.ensures.value in
    let size = c.loop-now.invariant.size in
    let moved = c.in-Ok-take_front.ensures.size in
    record {
      size = omega (arith, size, moved);
      left = c.loop-now.invariant.left;
      goes_on = c.in-Ok-take_front.ensures.goes_on;
      lines = c.in-Ok-take_front.ensures.lines;
      shown = subst (λ (l : List ℕ). HasShown l c.scan_bytes-now.result) c.as_slice.ensures.value c.scan_bytes-now.ensures.shown;
      within = λ _. subst (λ (l : List ℕ). IsOpenWithin (length l) c.scan_bytes-now.result) c.as_slice.ensures.value c.scan_bytes-now.ensures.within;
      read = λ all h. c.in-Ok-take_front.ensures.ok all rest
          (ended_begins w rest c.loop-now.now (omega (arith, some, ok)) c.loop-now.invariant.shown c.in-Ended.cut value) (c.loop-now.invariant.read all h);
    }

pub returns-in-Err-take_front-clause-fault : goal.returns-in-Err-take_front-clause-fault
returns-in-Err-take_front-clause-fault c = λ all h.
    let w : List ℕ = c.loop-now.self.waiting.items in
    let rest : List ℕ = c.loop-now.rest.now in
    let ok = c.loop-now.self.waiting.ok.0 in
    let some = some_left _ (sym c.is_empty.ensures ∙ c.loop-now-test.true) in
    let value = shown_value c.len.result w rest c.loop-now.now c.scan_on.result (Ended c.in-Ended.cut) (c.len.ensures ∙ ok) c.in-Ended.is c.scan_on.ensures.value in
    c.in-Err-take_front.ensures.fault all rest
    (ended_begins w rest c.loop-now.now (omega (arith, some, ok)) c.loop-now.invariant.shown c.in-Ended.cut value) (c.loop-now.invariant.read all h)

pub split_at-requires-else-count-len : goal.split_at-requires-else-count-len
split_at-requires-else-count-len c =
    let w : List ℕ = c.loop-now.self.waiting.items in
    let rest : List ℕ = c.loop-now.rest.now in
    let ok = c.loop-now.self.waiting.ok.0 in
    let some = some_left _ (sym c.is_empty.ensures ∙ c.loop-now-test.true) in
    let value = shown_value c.len.result w rest c.loop-now.now c.scan_on.result (Ended c.in-Ended.cut) (c.len.ensures ∙ ok) c.in-Ended.is c.scan_on.ensures.value in
    let le = (ended_within w rest c.loop-now.now (omega (arith, some, ok)) c.loop-now.invariant.shown c.in-Ended.cut value).1 in
    let count = c.size_of-count.ensures in
    let long = c.len-else-count-len.ensures in
    omega (arith, le, count, long, ok)

pub loop-now-preserved : goal.loop-now-preserved
loop-now-preserved c =
    let w : List ℕ = c.loop-now.self.waiting.items in
    let rest : List ℕ = c.loop-now.rest.now in
    let front : List ℕ = c.split_at-else-count-len.result.0.now in
    let others : List ℕ = c.split_at-else-count-len.result.1.now in
    let ok = c.loop-now.self.waiting.ok.0 in
    let some = some_left _ (sym c.is_empty.ensures ∙ c.loop-now-test.true) in
    let value = shown_value c.len.result w rest c.loop-now.now c.scan_on.result (Ended c.in-Ended.cut) (c.len.ensures ∙ ok) c.in-Ended.is c.scan_on.ensures.value in
    let le = (ended_within w rest c.loop-now.now (omega (arith, some, ok)) c.loop-now.invariant.shown c.in-Ended.cut value).1 in
    let e = parted_rest _ w rest front others c.split_at-else-count-len.ensures.front c.split_at-else-count-len.ensures.back in
    let count = c.size_of-count.ensures in
    let long = c.len-else-count-len.ensures in
    let more = c.if-count-len.false in
    let before = c.len-in-Ended.ensures in
    let back = c.split_at-else-count-len.ensures.back_len in
    let size = c.loop-now.invariant.size in
    let left = c.loop-now.invariant.left in
    let moved = c.in-Ok-take_with.ensures.size in
    let empty : length c.take_with.new.self.waiting.items ≡ 0 = ap length c.in-Ok-take_with.ensures.empty in
    record {
      size = omega (arith, size, moved, empty, back, count, long, ok, more, before, le);
      left = omega (arith, left, back);
      goes_on = c.in-Ok-take_with.ensures.goes_on;
      lines = c.in-Ok-take_with.ensures.lines;
      shown = nothing_shown c.take_with.new.self.waiting.items c.loop-now.now c.in-Ok-take_with.ensures.empty;
      within = λ some'. absurd (omega (arith, some', empty));
      read = λ all h.
          subst (λ (l : List ℕ). HasReadTo all (l ++ others) c.take_with.new.self.progress c.take_with.new.self.line) (sym c.in-Ok-take_with.ensures.empty)
          (c.in-Ok-take_with.ensures.ok all others
          (subst (λ (l : List ℕ). Begins l c.in-Ended.cut) (sym e)
          (ended_begins w rest c.loop-now.now (omega (arith, some, ok)) c.loop-now.invariant.shown c.in-Ended.cut value))
          (subst (λ (l : List ℕ). HasReadTo all l c.loop-now.self.progress c.loop-now.self.line) (sym e) (c.loop-now.invariant.read all h)));
    }

pub returns-in-Err-take_with-clause-fault : goal.returns-in-Err-take_with-clause-fault
returns-in-Err-take_with-clause-fault c = λ all h.
    let w : List ℕ = c.loop-now.self.waiting.items in
    let rest : List ℕ = c.loop-now.rest.now in
    let front : List ℕ = c.split_at-else-count-len.result.0.now in
    let others : List ℕ = c.split_at-else-count-len.result.1.now in
    let ok = c.loop-now.self.waiting.ok.0 in
    let some = some_left _ (sym c.is_empty.ensures ∙ c.loop-now-test.true) in
    let value = shown_value c.len.result w rest c.loop-now.now c.scan_on.result (Ended c.in-Ended.cut) (c.len.ensures ∙ ok) c.in-Ended.is c.scan_on.ensures.value in
    let e = parted_rest _ w rest front others c.split_at-else-count-len.ensures.front c.split_at-else-count-len.ensures.back in
    c.in-Err-take_with.ensures.fault all others
    (subst (λ (l : List ℕ). Begins l c.in-Ended.cut) (sym e)
    (ended_begins w rest c.loop-now.now (omega (arith, some, ok)) c.loop-now.invariant.shown c.in-Ended.cut value))
    (subst (λ (l : List ℕ). HasReadTo all l c.loop-now.self.progress c.loop-now.self.line) (sym e) (c.loop-now.invariant.read all h))
