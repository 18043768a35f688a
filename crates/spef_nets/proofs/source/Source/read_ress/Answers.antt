use Rattle.std.proofs.Common.{◌≡◌, ℕ, length, refl, subst, arith, ◌∙◌}
use Rattle.spef_text.specs.Entries.{section_at}
use Rattle.spef_nets.specs.Drafts.{corners_of, IsUpto}
use Rattle.spef_nets.specs.DraftOf.{drafted}
use Rattle.spef_nets.proofs.Referring.{joined_at_place}
use Rattle.spef_nets.proofs.source.Source.read_ress.Goals as goal

pub loop-i-init : goal.loop-i-init
loop-i-init g c = record { upto = c.requires.upto; words = refl }

pub loop-i-preserved : goal.loop-i-preserved
loop-i-preserved g c = record {
  upto = c.in_ok-read_res.ensures.upto;
  words = c.in_ok-read_res.ensures.words ∙ c.loop-i.invariant.words;
}

pub returns-clause-upto : goal.returns-clause-upto
returns-clause-upto g c =
    let e : c.loop-i.i ≡ length (section_at c.args.self.now.file.now.reading.sections c.args.s).ress = omega arith in
    subst (λ (k : ℕ). IsUpto (corners_of g.C.CornerSet.COUNT g.C.CornerSet.number_of g.C.CornerSet.member_of c.args.self.now.pick) c.args.self.now.file.now c.args.self.now.head.now c.args.s
    (length (section_at c.args.self.now.file.now.reading.sections c.args.s).ress) (length (section_at c.args.self.now.file.now.reading.sections c.args.s).conns) (length (section_at c.args.self.now.file.now.reading.sections c.args.s).caps) k (drafted c.loop-i.draft)) e c.loop-i.invariant.upto

pub read_res-requires-clause-joined : goal.read_res-requires-clause-joined
read_res-requires-clause-joined g c = λ res at.
    joined_at_place c.args.self.now.file.now (drafted c.args.draft.now).refs.words (drafted c.loop-i.draft).refs.words (section_at c.args.self.now.file.now.reading.sections c.args.s).ress c.args.joints.now c.loop-i.i res _ c.requires.joints c.loop-i.invariant.words at
