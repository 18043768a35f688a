use Rattle.std.proofs.Common.{◌≡◌, None}
use Rattle.name_table.specs.Characters.{characters}
use Rattle.name_table.specs.SdfNames.{canonical}
use Rattle.edge_io.specs.Bytes.{slash}
use Rattle.name_table.specs.SpefNames.{halves_at, whole_node, node_name, joined, text_of}
use Rattle.name_table.proofs.Cutting.{answered, cut_named, node_of-joined}
use Rattle.name_table.proofs.Spelling.{node_stays, stays_alone}
use Rattle.name_table.proofs.spef_names.read_spef_node.Goals as goal

-- src/spef_names.rt
pub returns-in-None-clause-settled : goal.returns-in-None-clause-settled
returns-in-None-clause-settled c =
    answered (λ node. canonical slash node.sdf ≡ node.sdf) (whole_node c.args.marks.now (characters c.args.word.now)) _ c.whole_node.ensures
    (stays_alone _ (node_stays c.args.marks.now (characters c.args.word.now) None))

pub returns-in-Some-clause-named : goal.returns-in-Some-clause-named
returns-in-Some-clause-named c = cut_named c.args.marks.now c.args.cut c.args.word.now c.in-Some.place _ c.cut_node.ensures c.in-Some.ensures.some

pub returns-in-Some-clause-joined : goal.returns-in-Some-clause-joined
returns-in-Some-clause-joined c =
    answered (λ node. joined c.args.marks.now node.head node.tail ≡ text_of c.args.marks.now (characters c.args.word.now)) (node_name c.args.marks.now c.args.cut c.args.word.now) _
    (cut_named c.args.marks.now c.args.cut c.args.word.now c.in-Some.place _ c.cut_node.ensures c.in-Some.ensures.some)
    (node_of-joined c.args.marks.now c.args.cut (characters c.args.word.now))

pub returns-in-Some-clause-settled : goal.returns-in-Some-clause-settled
returns-in-Some-clause-settled c =
    answered (λ node. canonical slash node.sdf ≡ node.sdf) (node_name c.args.marks.now c.args.cut c.args.word.now) _
    (cut_named c.args.marks.now c.args.cut c.args.word.now c.in-Some.place _ c.cut_node.ensures c.in-Some.ensures.some)
    (stays_alone _ (node_stays c.args.marks.now (characters c.args.word.now) (halves_at c.args.marks.now.delimiter c.args.cut (characters c.args.word.now))))
