-- The table of the code is that of the definition.
use Rattle.std.proofs.Common.{◌∙◌}
use Rattle.spef_text.proofs.Keywords.{sifted}
use Rattle.spef_text.proofs.words.word_of.Goals as goal

pub returns : goal.returns
returns c = c.sifted_word.ensures ∙ sifted c.args.text.now
