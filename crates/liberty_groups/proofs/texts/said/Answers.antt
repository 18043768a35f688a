-- Two quotes are two bytes.
use Rattle.std.proofs.Common.{◌∙◌, sym}
use Rattle.liberty_groups.proofs.Saying.{short_text}
use Rattle.liberty_groups.proofs.texts.said.Goals as goal

pub returns-in_default-bytes : goal.returns-in_default-bytes
returns-in_default-bytes c = c.new.ensures ∙ sym (short_text c.args.kind c.args.bytes.now c.in-Quoted.is c.in_default-bytes.len_below)
