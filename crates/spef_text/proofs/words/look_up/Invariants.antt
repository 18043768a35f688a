-- What the whole table has beside the text, the rest of it has.
use Rattle.std.proofs.Common.{◌≡◌, map, drop}
use Rattle.spef_text.specs.Classes.{lookup}
use Rattle.spef_text.proofs.words.look_up.Given as goal

abbrev pub invariant-loop-keyword : goal.invariant-loop-keyword
invariant-loop-keyword l = lookup (map (λ k. (k.0.now, k.1)) l.table) l.text ≡ lookup (map (λ k. (k.0.now, k.1)) (drop l.keyword-index l.table)) l.text
