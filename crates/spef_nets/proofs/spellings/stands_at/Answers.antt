use Rattle.std.proofs.Common.{ap, sym, ◌∙◌, arith}
use Rattle.std.specs.Str.{bytes_eq}
use Rattle.spef_nets.proofs.FewLemmas.{found_among}
use Rattle.spef_nets.proofs.spellings.stands_at.Goals as goal

-- src/spellings.rt
pub returns-then-number-tokens : goal.returns-then-number-tokens
returns-then-number-tokens c = λ same. found_among c.args.file.now c.args.tokens.now c.args.number _ c.args.word.now (omega arith) (ap (λ text. bytes_eq text c.args.word.now) (sym c.text_of.ensures) ∙ sym c.are_equal.ensures ∙ same)
