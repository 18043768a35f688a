-- A run that is seen at a look.
use Rattle.std.proofs.Common.{◌<◌, length, sym, ◌∙◌, arith}
use Rattle.token_texts.specs.ByteLemmas.{not_byte}
use Rattle.spef_text.proofs.Cutting.{short_cut}
use Rattle.spef_text.proofs.scan.short_run.Goals as goal

pub returns : goal.returns
returns c =
    let below : c.plain_length-len.result < length c.args.bytes.now = omega (arith, c.plain_length-len.ensures.few, c.if-bytes-le-WIDTH.false) in
    let blank = sym c.is_blank.ensures ∙ c.if-not-is_blank.false in
    record {
      cut = short_cut c.args.bytes.now c.args.first c.plain_length-len.result c.requires.front (omega (arith, c.if-len-eq0.false)) below c.plain_length-len.ensures.plain
          (not_byte _ 34 c.if-first-eq34.false) (not_byte _ 47 c.if-first-eq47.false) blank;
      gap = (below, blank);
    }
