use Rattle.std.proofs.Common.{ap, sym, ◌∙◌, arith}
use Rattle.std.specs.Str.{bytes_eq}
use Rattle.spef_nets.proofs.FewLemmas.{found_among}
use Rattle.spef_nets.proofs.spellings.place_among.Goals as goal

-- src/spellings.rt
pub returns-then-are_equal : goal.returns-then-are_equal
returns-then-are_equal c = found_among c.args.file.now c.args.tokens.now c.loop-place.place _ c.args.word.now (omega arith) (ap (λ text. bytes_eq text c.args.word.now) (sym c.text_of.ensures) ∙ sym c.are_equal.ensures ∙ c.if-are_equal.true)
