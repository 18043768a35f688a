use Rattle.std.proofs.Common.{◌≡◌, ℕ, Ok, ap, ◌∙◌, take, arith}
use Rattle.std.proofs.lemmas.List.{take_all}
use Rattle.name_table.specs.SdfNames.{part}
use Rattle.name_table.proofs.Spelling.{part_stays, settled_as, escaped_as}
use Rattle.name_table.proofs.sdf_names.escape_sdf.Goals as goal

pub returns-clause-settled : goal.returns-clause-settled
returns-clause-settled c =
    settled_as {E = ℕ} (Ok c.from_vec.result) _ (part (take c.loop-byte.byte-index c.args.name.now)) c.from_vec.ensures c.loop-byte.invariant
    (part_stays (take c.loop-byte.byte-index c.args.name.now))

pub returns-clause-well_spelled : goal.returns-clause-well_spelled
returns-clause-well_spelled c =
    escaped_as {E = ℕ} (Ok c.from_vec.result) _ c.args.name.now c.from_vec.ensures
    (c.loop-byte.invariant ∙ ap part (take_all c.loop-byte.byte-index c.args.name.now (let all = c.loop-byte-test.false in omega arith)))
