-- What the sections give, the text gives.
use Rattle.std.proofs.Common.{Ok, subst}
use Rattle.wire_phases.specs.SpefPhases.{sole_corner, ParsesSpef}
use Rattle.wire_phases.proofs.WireRows.{text_follows}
use Rattle.wire_phases.proofs.wire_rows.wire_rows_of_file.Goals as goal

-- src/wire_rows.rt
pub returns-clause-follows : goal.returns-clause-follows
returns-clause-follows g c =
    let parses = subst (λ bytes. ParsesSpef bytes (Ok c.in_ok-file.file)) c.bytes.ensures c.in_ok-file.ensures.follows in
    text_follows (sole_corner c.args.pick) c.args.text c.in_ok-file.file c.in_ok-head.head c.wire_rows_of_sections.result parses c.in_ok-head.ensures.follows c.wire_rows_of_sections.ensures.follows
