-- A byte more of the word, and where it ends.
use Rattle.std.proofs.Common.{ℕ, ◌+◌, List, get_or, drop, sym, ap, ◌∙◌, subst}
use Rattle.liberty_groups.specs.Tokens.{goes_on}
use Rattle.liberty_groups.proofs.Runs.{WordSoFar, word_goes_on, word_stops, word_ends, simple_goes_on, simple_opens_none}
use Rattle.liberty_groups.proofs.scan.word_length.Goals as goal
use Rattle.liberty_groups.proofs.scan.word_length.Goals.{then-not-is_simple+else-not-goes_on, else-not-is_simple}

pub loop-place-preserved : goal.loop-place-preserved
loop-place-preserved c =
    let place : ℕ = c.loop-place.place in
    let bytes : List ℕ = c.args.bytes.now in
    let unclosed : ℕ = c.loop-place.unclosed in
    elim c.if-not-is_simple.branch [
      | then-not-is_simple+else-not-goes_on w ↦
          let on = sym (ap (λ (l : List ℕ). goes_on unclosed (get_or bytes place 0) l) w.split_at.ensures.back) ∙ sym w.goes_on.ensures ∙ w.if-not-goes_on.false in
          subst (λ (n : ℕ). WordSoFar bytes c.args.opened n (place + 1)) (sym (w.unclosed-is ∙ w.opened_behind-unclosed.ensures))
          (word_goes_on bytes c.args.opened unclosed place c.loop-place.invariant c.loop-place-test.true on)
      | else-not-is_simple w ↦
          let simple = sym c.is_simple.ensures ∙ w.if-not-is_simple.false in
          subst (λ (n : ℕ). WordSoFar bytes c.args.opened n (place + 1)) (simple_opens_none unclosed (get_or bytes place 0) simple ∙ sym w.unclosed-is)
          (word_goes_on bytes c.args.opened unclosed place c.loop-place.invariant c.loop-place-test.true (simple_goes_on unclosed (get_or bytes place 0) (drop (place + 1) bytes) simple))
    ]

pub returns-after-loop-place-clause-value : goal.returns-after-loop-place-clause-value
returns-after-loop-place-clause-value c =
    word_ends c.args.bytes.now c.args.opened c.loop-place.unclosed c.loop-place.place c.loop-place.invariant c.loop-place-test.false

pub returns-then-not-goes_on-clause-value : goal.returns-then-not-goes_on-clause-value
returns-then-not-goes_on-clause-value c =
    let place = c.loop-place.place in
    let bytes = c.args.bytes.now in
    let stops = sym (ap (λ (l : List ℕ). goes_on c.loop-place.unclosed (get_or bytes place 0) l) c.split_at.ensures.back) ∙ sym c.goes_on.ensures ∙ c.if-not-goes_on.true in
    word_stops bytes c.args.opened c.loop-place.unclosed place c.loop-place.invariant c.loop-place-test.true stops
