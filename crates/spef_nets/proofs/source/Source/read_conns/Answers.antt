use Rattle.std.proofs.Common.{◌≡◌, ℕ, length, subst, arith}
use Rattle.spef_text.specs.Entries.{section_at}
use Rattle.spef_nets.specs.Drafts.{corners_of, IsUpto}
use Rattle.spef_nets.specs.DraftOf.{drafted}
use Rattle.spef_nets.proofs.Referring.{grows_none, grows_more}
use Rattle.spef_nets.proofs.source.Source.read_conns.Goals as goal

pub loop-i-init : goal.loop-i-init
loop-i-init g c = record { upto = c.requires.upto; grows = grows_none (drafted c.args.draft.now).refs.words }

pub loop-i-preserved : goal.loop-i-preserved
loop-i-preserved g c = record {
  upto = c.in_ok-read_conn.ensures.upto;
  grows = grows_more (drafted c.args.draft.now).refs.words (drafted c.loop-i.draft).refs.words (drafted c.read_conn.new.draft).refs.words c.loop-i.invariant.grows c.in_ok-read_conn.ensures.grows;
}

pub returns-clause-upto : goal.returns-clause-upto
returns-clause-upto g c =
    let e : c.loop-i.i ≡ length (section_at c.args.self.now.file.now.reading.sections c.args.s).conns = omega arith in
    subst (λ (k : ℕ). IsUpto (corners_of g.C.CornerSet.COUNT g.C.CornerSet.number_of g.C.CornerSet.member_of c.args.self.now.pick) c.args.self.now.file.now c.args.self.now.head.now c.args.s
    (length (section_at c.args.self.now.file.now.reading.sections c.args.s).ress) k 0 0 (drafted c.loop-i.draft)) e c.loop-i.invariant.upto

pub returns-clause-grows : goal.returns-clause-grows
returns-clause-grows g c = c.loop-i.invariant.grows
