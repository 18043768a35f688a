-- The bytes that part pieces are passed over, and the piece ends before the next of them.
use Rattle.std.proofs.Common.{◌≡◌, ℕ, zero, suc, ◌<◌, ◌==◌, false, drop, sym, ap, ◌∙◌, arith, eqb-true}
use Rattle.token_texts.specs.PieceLemmas.{first_and_others, shorter_behind, no_pieces}
use Rattle.token_texts.proofs.pieces.first_piece.Goals as goal

some_left : (n : ℕ) → (n == 0) ≡ false → 0 < n
some_left zero e = absurd (cc)
some_left (suc n) e = omega arith

pub returns-clause-some : goal.returns-clause-some
returns-clause-some g c =
    first_and_others g.C.ByteClass.is_in c.args.text.now c.split_at.result.1.now c.split_at-2.result.0.now c.split_at-2.result.1.now c.first_place.result
    (c.split_at.ensures.back ∙ ap (λ n. drop n c.args.text.now) c.run_length.ensures.value) (some_left _ (sym c.is_empty.ensures ∙ c.if-is_empty.false)) c.first_place.ensures.value
    c.split_at-2.ensures.front c.split_at-2.ensures.back

pub returns-clause-shorter : goal.returns-clause-shorter
returns-clause-shorter g c =
    shorter_behind g.C.ByteClass.is_in c.args.text.now c.split_at.result.1.now c.split_at-2.result.1.now c.first_place.result
    (c.split_at.ensures.back ∙ ap (λ n. drop n c.args.text.now) c.run_length.ensures.value) (some_left _ (sym c.is_empty.ensures ∙ c.if-is_empty.false)) c.first_place.ensures.value
    c.split_at-2.ensures.back

pub returns-then-is_empty-clause-none : goal.returns-then-is_empty-clause-none
returns-then-is_empty-clause-none g c =
    no_pieces g.C.ByteClass.is_in c.args.text.now c.split_at.result.1.now
    (c.split_at.ensures.back ∙ ap (λ n. drop n c.args.text.now) c.run_length.ensures.value) (eqb-true _ 0 (sym c.is_empty.ensures ∙ c.if-is_empty.true))
