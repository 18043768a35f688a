-- What the whole table has beside the word, the rest of it has.
use Rattle.std.proofs.Common.{◌≡◌, map, drop}
use Rattle.sdf_reader.specs.Keywords.{lookup}
use Rattle.sdf_reader.proofs.words.look_up.Given as goal

abbrev pub invariant-loop-keyword : goal.invariant-loop-keyword
invariant-loop-keyword l = lookup (map (λ k. (k.0.now, k.1)) l.table) l.word ≡ lookup (map (λ k. (k.0.now, k.1)) (drop l.keyword-index l.table)) l.word
