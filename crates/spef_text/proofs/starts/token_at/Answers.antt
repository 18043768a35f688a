-- A token whose length is known is so many bytes from its place on.
use Rattle.std.proofs.Common.{drop, take, ap, ◌∙◌, arith}
use Rattle.spef_text.proofs.Starting.{known_token}
use Rattle.spef_text.proofs.starts.token_at.Goals as goal

pub slice_bounds-result-end : goal.slice_bounds-result-end
slice_bounds-result-end c = omega (arith, (known_token c.args.bytes.now c.args.start c.args.len c.requires.len (omega arith) (omega arith)).0)

pub returns-then-matches : goal.returns-then-matches
returns-then-matches c =
    ap (λ n. take n (drop c.args.start c.args.bytes.now)) (omega arith)
    ∙ (known_token c.args.bytes.now c.args.start c.args.len c.requires.len (omega arith) (omega arith)).1
