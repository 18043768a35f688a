-- What stands at the front: a run that is seen at a look, or what the first byte says.
use Rattle.std.proofs.Common.{sym, ap, ◌∙◌}
use Rattle.spef_text.specs.Starts.{front_cut}
use Rattle.spef_text.proofs.Cutting.{cut_within_bytes, gap_there}
use Rattle.spef_text.proofs.scan.front_at.Goals as goal

pub returns-in-Some-clause-value : goal.returns-in-Some-clause-value
returns-in-Some-clause-value c = sym c.in-Some.ensures.cut ∙ ap front_cut c.requires.parts

pub returns-in-Some-clause-within : goal.returns-in-Some-clause-within
returns-in-Some-clause-within c =
    cut_within_bytes c.args.bytes.now c.args.first c.args.rest.now _ c.requires.parts (sym c.in-Some.ensures.cut ∙ ap front_cut c.requires.parts)

pub returns-in-Some-clause-gap : goal.returns-in-Some-clause-gap
returns-in-Some-clause-gap c seen = gap_there c.args.bytes.now c.in-Some.len c.in-Some.ensures.gap.0 c.in-Some.ensures.gap.1

pub returns-in-None-clause-within : goal.returns-in-None-clause-within
returns-in-None-clause-within c =
    cut_within_bytes c.args.bytes.now c.args.first c.args.rest.now _ c.requires.parts c.other_cut.ensures
