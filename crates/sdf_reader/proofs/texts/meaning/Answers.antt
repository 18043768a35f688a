-- Two quotes are two bytes.
use Rattle.std.proofs.Common.{◌∙◌, sym}
use Rattle.sdf_reader.proofs.Saying.{short_text}
use Rattle.sdf_reader.proofs.texts.meaning.Goals as goal

pub returns-in_default : goal.returns-in_default
returns-in_default c = c.new.ensures ∙ sym (short_text c.args.quoted.now c.in_default.len_below)
