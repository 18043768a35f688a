use Rattle.std.proofs.Common.{sym, ap, ◌∙◌, subst}
use Rattle.std.specs.Prelude.{[]}
use Rattle.spef_nets.specs.Refs.{Refs, AreRefs}
use Rattle.spef_nets.specs.DraftOf.{drafted}
use Rattle.spef_nets.specs.Drafts.{Drafted, corners_of}
use Rattle.spef_nets.proofs.RefLemmas.{none_yet}
use Rattle.spef_nets.proofs.Stepping.{with_nodes}
use Rattle.spef_nets.proofs.ResStepping.{begun}
use Rattle.spef_nets.proofs.source.Source.begin.Goals as goal

-- src/section_reading.rt
pub read_joints-requires-clause-refs : goal.read_joints-requires-clause-refs
read_joints-requires-clause-refs g c =
    subst (λ (r : Refs). AreRefs c.args.self.now.file.now c.args.draft.now.net [] [] r) (sym (ap (λ (d : Drafted). d.refs) c.requires.fresh)) (none_yet c.args.self.now.file.now c.args.draft.now.net [] [])

pub returns-clause-upto : goal.returns-clause-upto
returns-clause-upto g c =
    let after = drafted (record { net = c.args.draft.now.net; refs = c.read_joints.new.refs; conns = c.args.draft.now.conns; loads = c.args.draft.now.loads; caps = c.args.draft.now.caps; farads = c.args.draft.now.farads; joints = c.args.draft.now.joints; ohms = c.args.draft.now.ohms }) in
    begun (corners_of g.C.CornerSet.COUNT g.C.CornerSet.number_of g.C.CornerSet.member_of c.args.self.now.pick) c.args.self.now.file.now c.args.self.now.head.now c.args.s c.args.draft.now.net after c.requires.net c.requires.new c.in_ok-read_joints.ensures.refs
    (c.in_ok-read_joints.ensures.nodes ∙ ap (λ (d : Drafted). d.refs.nodes) c.requires.fresh) (ap (λ (d : Drafted). with_nodes d.net after.refs.nodes) c.requires.fresh)
