-- The pins stand at their places.
use Rattle.std.proofs.Common.{◌∙◌}
use Rattle.command_rows.proofs.ArcLemmas.{is_named}
use Rattle.command_rows.proofs.arc_rows.refusal_of.Goals as goal

pub returns : goal.returns
returns c = record {
  names = record { instance = c.in_ok-instance.instance; from = c.in_ok-from.from; to = c.in_ok-to.to };
  instance = c.in_ok-instance.ensures ∙ c.bytes.ensures;
  from = is_named c.args.pins.now c.args.arc.now.from c.index-pins-arc.result _ c.requires.from c.index-pins-arc.is (c.in_ok-from.ensures ∙ c.bytes-2.ensures);
  to = is_named c.args.pins.now c.args.arc.now.to c.index-pins-arc-2.result _ c.requires.to c.index-pins-arc-2.is (c.in_ok-to.ensures ∙ c.bytes-3.ensures);
  is = c.refused_look_up.ensures;
}
