use Rattle.std.proofs.Common.{◌≡◌, ◌+◌, suc, slice_get, slice_index_or, ◌∙◌, ap, subst, arith}
use Rattle.std.proofs.lemmas.Option.{slice_get-get_or}
use Rattle.rc_tree.specs.Pins.{pin_nodes}
use Rattle.rc_tree.specs.Searched.{all_nodes}
use Rattle.rc_tree.proofs.Nets.{Apart}
use Rattle.rc_tree.proofs.Judging.{sink_there}
use Rattle.rc_tree.proofs.pin_source.PinLoadsPinSource.sink_number.Goals as goal

-- src/pin_source.rt
pub returns : goal.returns
returns g c =
    let next : c.args.sink + 1 ≡ suc c.args.sink = omega arith in
    ap (slice_get (all_nodes c.args._section.now c.args.self.now)) next
    ∙ sink_there c.args._section.now c.args.self.now (subst (λ p. Apart (pin_nodes p)) c.self.view_is c.self.invariant.apart) c.args.sink (slice_index_or c.args.self.now.sinks c.args.sink c.args.self.now.driver) (slice_get-get_or c.args.self.now.sinks c.args.sink c.args.self.now.driver c.requires.within)
