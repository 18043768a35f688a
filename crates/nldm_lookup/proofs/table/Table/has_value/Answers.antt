use Rattle.std.proofs.Common.{unsigned_abs, FitsSigned, subst, arith}
use Rattle.std.specs.Int.{w64}
use Rattle.std.proofs.lemmas.Int.{ints, to_z-of_z}
use Rattle.nldm_lookup.specs.Betweens.{IsPassed}
use Rattle.nldm_lookup.proofs.Answering.{weight_fits}
use Rattle.nldm_lookup.proofs.Spanning.{spanned_value}
use Rattle.nldm_lookup.proofs.table.Table.has_value.Goals as goal

pub returns-then-spans-clause-value : goal.returns-then-spans-clause-value
returns-then-spans-clause-value g c answer is =
    let k : FitsSigned w64 c.args.slew.0 = weight_fits c.args.slew.0 (omega (arith, ints, c.requires.not_negative, c.requires.small)) in
    let size = simp to_z-of_z at c.unsigned_abs.ensures.value in
    spanned_value c.args.self.now (unsigned_abs c.args.slew.0) c.args.load.0 c.args.grain c.args.beyond answer c.spans.ensures.whole
    (subst (λ slew. ¬ IsPassed c.args.self.now.slew slew) size (c.spans.ensures.slew c.if-spans.true)) (c.spans.ensures.load c.if-spans.true) is
