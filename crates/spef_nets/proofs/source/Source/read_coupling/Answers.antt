use Rattle.std.proofs.Common.{ℕ, length, refl, sym, ◌∙◌, subst}
use Rattle.std.specs.Prelude.{Option, Some}
use Rattle.spef_text.specs.Entries.{section_at}
use Rattle.spef_nets.specs.Refs.{IsRef}
use Rattle.spef_nets.specs.DraftOf.{drafted}
use Rattle.spef_nets.specs.Drafts.{corners_of, IsStop, BelongsBy}
use Rattle.spef_nets.proofs.Referring.{word_within, word_named, node_of, still_ref}
use Rattle.spef_nets.proofs.Stepping.{handed_on, unless_stop}
use Rattle.spef_nets.specs.declared.ends.SectionEnd.TheVariants.{ForeignCoupling}
use Rattle.spef_nets.proofs.CapStepping.{upto_referred, within_if_known, foreign_stop, second_unknown, coupled_stop, coupled_middle, coupled_kept}
use Rattle.spef_nets.proofs.source.Source.read_coupling.Goals as goal

-- src/section_reading.rt
pub belongs-near-requires-clause-within : goal.belongs-near-requires-clause-within
belongs-near-requires-clause-within g c =
    let up = (upto_referred (corners_of g.C.CornerSet.COUNT g.C.CornerSet.number_of g.C.CornerSet.member_of c.args.self.now.pick) c.args.self.now.file.now c.args.self.now.head.now c.args.s (length (section_at c.args.self.now.file.now.reading.sections c.args.s).ress) (length (section_at c.args.self.now.file.now.reading.sections c.args.s).conns) c.args.i 0 c.args.second_token (drafted c.args.draft.now) (drafted (record { net = c.args.draft.now.net; refs = c.spelling_at.new.refs; conns = c.args.draft.now.conns; loads = c.args.draft.now.loads; caps = c.args.draft.now.caps; farads = c.args.draft.now.farads; joints = c.args.draft.now.joints; ohms = c.args.draft.now.ohms })) c.in_ok-second.second c.requires.upto c.in_ok-second.ensures refl) in
    let ref = (still_ref c.args.self.now.file.now (drafted c.args.draft.now).refs.words (drafted (record { net = c.args.draft.now.net; refs = c.spelling_at.new.refs; conns = c.args.draft.now.conns; loads = c.args.draft.now.loads; caps = c.args.draft.now.caps; farads = c.args.draft.now.farads; joints = c.args.draft.now.joints; ohms = c.args.draft.now.ohms })).refs.words c.args.cap.now.first (Some c.args.first) up.2 c.requires.first) in
    word_within c.args.self.now.file.now c.args.draft.now.net _ _ (drafted (record { net = c.args.draft.now.net; refs = c.spelling_at.new.refs; conns = c.args.draft.now.conns; loads = c.args.draft.now.loads; caps = c.args.draft.now.caps; farads = c.args.draft.now.farads; joints = c.args.draft.now.joints; ohms = c.args.draft.now.ohms })).refs c.args.cap.now.first c.args.first up.0.refs ref

pub belongs-near-requires-clause-placed : goal.belongs-near-requires-clause-placed
belongs-near-requires-clause-placed g c = (upto_referred (corners_of g.C.CornerSet.COUNT g.C.CornerSet.number_of g.C.CornerSet.member_of c.args.self.now.pick) c.args.self.now.file.now c.args.self.now.head.now c.args.s (length (section_at c.args.self.now.file.now.reading.sections c.args.s).ress) (length (section_at c.args.self.now.file.now.reading.sections c.args.s).conns) c.args.i 0 c.args.second_token (drafted c.args.draft.now) (drafted (record { net = c.args.draft.now.net; refs = c.spelling_at.new.refs; conns = c.args.draft.now.conns; loads = c.args.draft.now.loads; caps = c.args.draft.now.caps; farads = c.args.draft.now.farads; joints = c.args.draft.now.joints; ohms = c.args.draft.now.ohms })) c.in_ok-second.second c.requires.upto c.in_ok-second.ensures refl).0.refs.placed

pub belongs_if_known-far-requires-clause-within : goal.belongs_if_known-far-requires-clause-within
belongs_if_known-far-requires-clause-within g c =
    let up = (upto_referred (corners_of g.C.CornerSet.COUNT g.C.CornerSet.number_of g.C.CornerSet.member_of c.args.self.now.pick) c.args.self.now.file.now c.args.self.now.head.now c.args.s (length (section_at c.args.self.now.file.now.reading.sections c.args.s).ress) (length (section_at c.args.self.now.file.now.reading.sections c.args.s).conns) c.args.i 0 c.args.second_token (drafted c.args.draft.now) (drafted (record { net = c.args.draft.now.net; refs = c.spelling_at.new.refs; conns = c.args.draft.now.conns; loads = c.args.draft.now.loads; caps = c.args.draft.now.caps; farads = c.args.draft.now.farads; joints = c.args.draft.now.joints; ohms = c.args.draft.now.ohms })) c.in_ok-second.second c.requires.upto c.in_ok-second.ensures refl) in
    let ref = (still_ref c.args.self.now.file.now (drafted c.args.draft.now).refs.words (drafted (record { net = c.args.draft.now.net; refs = c.spelling_at.new.refs; conns = c.args.draft.now.conns; loads = c.args.draft.now.loads; caps = c.args.draft.now.caps; farads = c.args.draft.now.farads; joints = c.args.draft.now.joints; ohms = c.args.draft.now.ohms })).refs.words c.args.cap.now.first (Some c.args.first) up.2 c.requires.first) in
    within_if_known c.args.self.now.file.now c.args.draft.now.net _ _ (drafted (record { net = c.args.draft.now.net; refs = c.spelling_at.new.refs; conns = c.args.draft.now.conns; loads = c.args.draft.now.loads; caps = c.args.draft.now.caps; farads = c.args.draft.now.farads; joints = c.args.draft.now.joints; ohms = c.args.draft.now.ohms })).refs c.args.second_token c.in_ok-second.second up.0.refs up.1

pub belongs_if_known-far-requires-clause-placed : goal.belongs_if_known-far-requires-clause-placed
belongs_if_known-far-requires-clause-placed g c = (upto_referred (corners_of g.C.CornerSet.COUNT g.C.CornerSet.number_of g.C.CornerSet.member_of c.args.self.now.pick) c.args.self.now.file.now c.args.self.now.head.now c.args.s (length (section_at c.args.self.now.file.now.reading.sections c.args.s).ress) (length (section_at c.args.self.now.file.now.reading.sections c.args.s).conns) c.args.i 0 c.args.second_token (drafted c.args.draft.now) (drafted (record { net = c.args.draft.now.net; refs = c.spelling_at.new.refs; conns = c.args.draft.now.conns; loads = c.args.draft.now.loads; caps = c.args.draft.now.caps; farads = c.args.draft.now.farads; joints = c.args.draft.now.joints; ohms = c.args.draft.now.ohms })) c.in_ok-second.second c.requires.upto c.in_ok-second.ensures refl).0.refs.placed

pub returns-then-neither-clause-err : goal.returns-then-neither-clause-err
returns-then-neither-clause-err g c =
    let up = (upto_referred (corners_of g.C.CornerSet.COUNT g.C.CornerSet.number_of g.C.CornerSet.member_of c.args.self.now.pick) c.args.self.now.file.now c.args.self.now.head.now c.args.s (length (section_at c.args.self.now.file.now.reading.sections c.args.s).ress) (length (section_at c.args.self.now.file.now.reading.sections c.args.s).conns) c.args.i 0 c.args.second_token (drafted c.args.draft.now) (drafted (record { net = c.args.draft.now.net; refs = c.spelling_at.new.refs; conns = c.args.draft.now.conns; loads = c.args.draft.now.loads; caps = c.args.draft.now.caps; farads = c.args.draft.now.farads; joints = c.args.draft.now.joints; ohms = c.args.draft.now.ohms })) c.in_ok-second.second c.requires.upto c.in_ok-second.ensures refl) in
    let ref = (still_ref c.args.self.now.file.now (drafted c.args.draft.now).refs.words (drafted (record { net = c.args.draft.now.net; refs = c.spelling_at.new.refs; conns = c.args.draft.now.conns; loads = c.args.draft.now.loads; caps = c.args.draft.now.caps; farads = c.args.draft.now.farads; joints = c.args.draft.now.joints; ohms = c.args.draft.now.ohms })).refs.words c.args.cap.now.first (Some c.args.first) up.2 c.requires.first) in
    let a = (node_of c.args.self.now.file.now c.args.draft.now.net _ _ (drafted (record { net = c.args.draft.now.net; refs = c.spelling_at.new.refs; conns = c.args.draft.now.conns; loads = c.args.draft.now.loads; caps = c.args.draft.now.caps; farads = c.args.draft.now.farads; joints = c.args.draft.now.joints; ohms = c.args.draft.now.ohms })).refs c.args.cap.now.first c.args.first up.0.refs ref) in
    let none = c.neither.ensures.yes c.if-neither.true in
    unless_stop c.args.self.now.file.now c.args.self.now.head.now c.args.s c.foreign.result (ForeignCoupling c.args.draft.now.net c.args.cap.now.first) c.foreign.ensures
    (foreign_stop (corners_of g.C.CornerSet.COUNT g.C.CornerSet.number_of g.C.CornerSet.member_of c.args.self.now.pick) c.args.self.now.file.now c.args.self.now.head.now c.args.s c.args.i c.args.cap.now (drafted (record { net = c.args.draft.now.net; refs = c.spelling_at.new.refs; conns = c.args.draft.now.conns; loads = c.args.draft.now.loads; caps = c.args.draft.now.caps; farads = c.args.draft.now.farads; joints = c.args.draft.now.joints; ohms = c.args.draft.now.ohms })) up.0 c.requires.cap a.0 a.1 c.args.second_token c.requires.second c.args.first c.in_ok-second.second c.belongs-near.result c.belongs_if_known-far.result (ForeignCoupling c.args.draft.now.net c.args.cap.now.first) ref c.belongs-near.ensures up.1 c.belongs_if_known-far.ensures none.0 none.1 refl)

pub returns-in_err-second-2-clause-err : goal.returns-in_err-second-2-clause-err
returns-in_err-second-2-clause-err g c =
    let up = (upto_referred (corners_of g.C.CornerSet.COUNT g.C.CornerSet.number_of g.C.CornerSet.member_of c.args.self.now.pick) c.args.self.now.file.now c.args.self.now.head.now c.args.s (length (section_at c.args.self.now.file.now.reading.sections c.args.s).ress) (length (section_at c.args.self.now.file.now.reading.sections c.args.s).conns) c.args.i 0 c.args.second_token (drafted c.args.draft.now) (drafted (record { net = c.args.draft.now.net; refs = c.spelling_at.new.refs; conns = c.args.draft.now.conns; loads = c.args.draft.now.loads; caps = c.args.draft.now.caps; farads = c.args.draft.now.farads; joints = c.args.draft.now.joints; ohms = c.args.draft.now.ohms })) c.in_ok-second.second c.requires.upto c.in_ok-second.ensures refl) in
    let ref = (still_ref c.args.self.now.file.now (drafted c.args.draft.now).refs.words (drafted (record { net = c.args.draft.now.net; refs = c.spelling_at.new.refs; conns = c.args.draft.now.conns; loads = c.args.draft.now.loads; caps = c.args.draft.now.caps; farads = c.args.draft.now.farads; joints = c.args.draft.now.joints; ohms = c.args.draft.now.ohms })).refs.words c.args.cap.now.first (Some c.args.first) up.2 c.requires.first) in
    let a = (node_of c.args.self.now.file.now c.args.draft.now.net _ _ (drafted (record { net = c.args.draft.now.net; refs = c.spelling_at.new.refs; conns = c.args.draft.now.conns; loads = c.args.draft.now.loads; caps = c.args.draft.now.caps; farads = c.args.draft.now.farads; joints = c.args.draft.now.joints; ohms = c.args.draft.now.ohms })).refs c.args.cap.now.first c.args.first up.0.refs ref) in
    handed_on c.from_residual-in_err-second-2.result c.in_err-second-2.field-0.0 (IsStop c.args.self.now.file.now c.args.self.now.head.now c.args.s) c.from_residual-in_err-second-2.ensures.1
    (subst (IsStop c.args.self.now.file.now c.args.self.now.head.now c.args.s) (sym c.in_err-second-2.ensures.err)
    (second_unknown (corners_of g.C.CornerSet.COUNT g.C.CornerSet.number_of g.C.CornerSet.member_of c.args.self.now.pick) c.args.self.now.file.now c.args.self.now.head.now c.args.s c.args.i c.args.cap.now (drafted (record { net = c.args.draft.now.net; refs = c.spelling_at.new.refs; conns = c.args.draft.now.conns; loads = c.args.draft.now.loads; caps = c.args.draft.now.caps; farads = c.args.draft.now.farads; joints = c.args.draft.now.joints; ohms = c.args.draft.now.ohms })) up.0 c.requires.cap a.0 a.1 c.args.second_token c.requires.second c.args.first c.belongs-near.result c.belongs_if_known-far.result (c.neither.ensures.no c.if-neither.false) ref c.belongs-near.ensures c.in_ok-second.second c.in_err-second-2.ensures.none up.1 c.belongs_if_known-far.ensures))

pub returns-in_err-value-clause-err : goal.returns-in_err-value-clause-err
returns-in_err-value-clause-err g c =
    let up = (upto_referred (corners_of g.C.CornerSet.COUNT g.C.CornerSet.number_of g.C.CornerSet.member_of c.args.self.now.pick) c.args.self.now.file.now c.args.self.now.head.now c.args.s (length (section_at c.args.self.now.file.now.reading.sections c.args.s).ress) (length (section_at c.args.self.now.file.now.reading.sections c.args.s).conns) c.args.i 0 c.args.second_token (drafted c.args.draft.now) (drafted (record { net = c.args.draft.now.net; refs = c.spelling_at.new.refs; conns = c.args.draft.now.conns; loads = c.args.draft.now.loads; caps = c.args.draft.now.caps; farads = c.args.draft.now.farads; joints = c.args.draft.now.joints; ohms = c.args.draft.now.ohms })) c.in_ok-second.second c.requires.upto c.in_ok-second.ensures refl) in
    let ref = (still_ref c.args.self.now.file.now (drafted c.args.draft.now).refs.words (drafted (record { net = c.args.draft.now.net; refs = c.spelling_at.new.refs; conns = c.args.draft.now.conns; loads = c.args.draft.now.loads; caps = c.args.draft.now.caps; farads = c.args.draft.now.farads; joints = c.args.draft.now.joints; ohms = c.args.draft.now.ohms })).refs.words c.args.cap.now.first (Some c.args.first) up.2 c.requires.first) in
    let a = (node_of c.args.self.now.file.now c.args.draft.now.net _ _ (drafted (record { net = c.args.draft.now.net; refs = c.spelling_at.new.refs; conns = c.args.draft.now.conns; loads = c.args.draft.now.loads; caps = c.args.draft.now.caps; farads = c.args.draft.now.farads; joints = c.args.draft.now.joints; ohms = c.args.draft.now.ohms })).refs c.args.cap.now.first c.args.first up.0.refs ref) in
    let other_ref = (subst (λ (o : Option ℕ). IsRef c.args.self.now.file.now (drafted (record { net = c.args.draft.now.net; refs = c.spelling_at.new.refs; conns = c.args.draft.now.conns; loads = c.args.draft.now.loads; caps = c.args.draft.now.caps; farads = c.args.draft.now.farads; joints = c.args.draft.now.joints; ohms = c.args.draft.now.ohms })).refs.words c.args.second_token o) c.in_ok-second-2.ensures.ok up.1) in
    let other_it = (subst (λ (o : Option ℕ). BelongsBy (drafted (record { net = c.args.draft.now.net; refs = c.spelling_at.new.refs; conns = c.args.draft.now.conns; loads = c.args.draft.now.loads; caps = c.args.draft.now.caps; farads = c.args.draft.now.farads; joints = c.args.draft.now.joints; ohms = c.args.draft.now.ohms })).refs o c.belongs_if_known-far.result) c.in_ok-second-2.ensures.ok c.belongs_if_known-far.ensures) in
    let b = node_of c.args.self.now.file.now c.args.draft.now.net _ _ (drafted (record { net = c.args.draft.now.net; refs = c.spelling_at.new.refs; conns = c.args.draft.now.conns; loads = c.args.draft.now.loads; caps = c.args.draft.now.caps; farads = c.args.draft.now.farads; joints = c.args.draft.now.joints; ohms = c.args.draft.now.ohms })).refs c.args.second_token c.in_ok-second-2.second up.0.refs other_ref in
    handed_on c.from_residual-in_err-value.result c.in_err-value.field-0.0 (IsStop c.args.self.now.file.now c.args.self.now.head.now c.args.s) c.from_residual-in_err-value.ensures.1
    (coupled_stop (corners_of g.C.CornerSet.COUNT g.C.CornerSet.number_of g.C.CornerSet.member_of c.args.self.now.pick) c.args.self.now.file.now c.args.self.now.head.now c.args.s c.args.i c.args.cap.now (drafted (record { net = c.args.draft.now.net; refs = c.spelling_at.new.refs; conns = c.args.draft.now.conns; loads = c.args.draft.now.loads; caps = c.args.draft.now.caps; farads = c.args.draft.now.farads; joints = c.args.draft.now.joints; ohms = c.args.draft.now.ohms })) up.0 c.requires.cap a.0 a.1 c.args.second_token c.requires.second c.args.first c.belongs-near.result c.belongs_if_known-far.result (c.neither.ensures.no c.if-neither.false) ref c.belongs-near.ensures c.in_ok-second-2.second b.0 other_ref other_it b.1 c.in_err-value.field-0.0 c.in_err-value.ensures.err)

pub count-requires-clause-within : goal.count-requires-clause-within
count-requires-clause-within g c =
    let up = (upto_referred (corners_of g.C.CornerSet.COUNT g.C.CornerSet.number_of g.C.CornerSet.member_of c.args.self.now.pick) c.args.self.now.file.now c.args.self.now.head.now c.args.s (length (section_at c.args.self.now.file.now.reading.sections c.args.s).ress) (length (section_at c.args.self.now.file.now.reading.sections c.args.s).conns) c.args.i 0 c.args.second_token (drafted c.args.draft.now) (drafted (record { net = c.args.draft.now.net; refs = c.spelling_at.new.refs; conns = c.args.draft.now.conns; loads = c.args.draft.now.loads; caps = c.args.draft.now.caps; farads = c.args.draft.now.farads; joints = c.args.draft.now.joints; ohms = c.args.draft.now.ohms })) c.in_ok-second.second c.requires.upto c.in_ok-second.ensures refl) in
    let ref = (still_ref c.args.self.now.file.now (drafted c.args.draft.now).refs.words (drafted (record { net = c.args.draft.now.net; refs = c.spelling_at.new.refs; conns = c.args.draft.now.conns; loads = c.args.draft.now.loads; caps = c.args.draft.now.caps; farads = c.args.draft.now.farads; joints = c.args.draft.now.joints; ohms = c.args.draft.now.ohms })).refs.words c.args.cap.now.first (Some c.args.first) up.2 c.requires.first) in
    word_within c.args.self.now.file.now c.args.draft.now.net _ _ (drafted (record { net = c.args.draft.now.net; refs = c.spelling_at.new.refs; conns = c.args.draft.now.conns; loads = c.args.draft.now.loads; caps = c.args.draft.now.caps; farads = c.args.draft.now.farads; joints = c.args.draft.now.joints; ohms = c.args.draft.now.ohms })).refs c.args.cap.now.first c.args.first up.0.refs ref

pub count-requires-clause-named : goal.count-requires-clause-named
count-requires-clause-named g c =
    let up = (upto_referred (corners_of g.C.CornerSet.COUNT g.C.CornerSet.number_of g.C.CornerSet.member_of c.args.self.now.pick) c.args.self.now.file.now c.args.self.now.head.now c.args.s (length (section_at c.args.self.now.file.now.reading.sections c.args.s).ress) (length (section_at c.args.self.now.file.now.reading.sections c.args.s).conns) c.args.i 0 c.args.second_token (drafted c.args.draft.now) (drafted (record { net = c.args.draft.now.net; refs = c.spelling_at.new.refs; conns = c.args.draft.now.conns; loads = c.args.draft.now.loads; caps = c.args.draft.now.caps; farads = c.args.draft.now.farads; joints = c.args.draft.now.joints; ohms = c.args.draft.now.ohms })) c.in_ok-second.second c.requires.upto c.in_ok-second.ensures refl) in
    let ref = (still_ref c.args.self.now.file.now (drafted c.args.draft.now).refs.words (drafted (record { net = c.args.draft.now.net; refs = c.spelling_at.new.refs; conns = c.args.draft.now.conns; loads = c.args.draft.now.loads; caps = c.args.draft.now.caps; farads = c.args.draft.now.farads; joints = c.args.draft.now.joints; ohms = c.args.draft.now.ohms })).refs.words c.args.cap.now.first (Some c.args.first) up.2 c.requires.first) in
    word_named c.args.self.now.file.now c.args.draft.now.net _ _ (drafted (record { net = c.args.draft.now.net; refs = c.spelling_at.new.refs; conns = c.args.draft.now.conns; loads = c.args.draft.now.loads; caps = c.args.draft.now.caps; farads = c.args.draft.now.farads; joints = c.args.draft.now.joints; ohms = c.args.draft.now.ohms })).refs c.args.cap.now.first c.args.first up.0.refs ref

pub count-requires-clause-placed : goal.count-requires-clause-placed
count-requires-clause-placed g c = (upto_referred (corners_of g.C.CornerSet.COUNT g.C.CornerSet.number_of g.C.CornerSet.member_of c.args.self.now.pick) c.args.self.now.file.now c.args.self.now.head.now c.args.s (length (section_at c.args.self.now.file.now.reading.sections c.args.s).ress) (length (section_at c.args.self.now.file.now.reading.sections c.args.s).conns) c.args.i 0 c.args.second_token (drafted c.args.draft.now) (drafted (record { net = c.args.draft.now.net; refs = c.spelling_at.new.refs; conns = c.args.draft.now.conns; loads = c.args.draft.now.loads; caps = c.args.draft.now.caps; farads = c.args.draft.now.farads; joints = c.args.draft.now.joints; ohms = c.args.draft.now.ohms })) c.in_ok-second.second c.requires.upto c.in_ok-second.ensures refl).0.refs.placed

pub count-requires-2-clause-within : goal.count-requires-2-clause-within
count-requires-2-clause-within g c =
    let up = (upto_referred (corners_of g.C.CornerSet.COUNT g.C.CornerSet.number_of g.C.CornerSet.member_of c.args.self.now.pick) c.args.self.now.file.now c.args.self.now.head.now c.args.s (length (section_at c.args.self.now.file.now.reading.sections c.args.s).ress) (length (section_at c.args.self.now.file.now.reading.sections c.args.s).conns) c.args.i 0 c.args.second_token (drafted c.args.draft.now) (drafted (record { net = c.args.draft.now.net; refs = c.spelling_at.new.refs; conns = c.args.draft.now.conns; loads = c.args.draft.now.loads; caps = c.args.draft.now.caps; farads = c.args.draft.now.farads; joints = c.args.draft.now.joints; ohms = c.args.draft.now.ohms })) c.in_ok-second.second c.requires.upto c.in_ok-second.ensures refl) in
    let ref = (still_ref c.args.self.now.file.now (drafted c.args.draft.now).refs.words (drafted (record { net = c.args.draft.now.net; refs = c.spelling_at.new.refs; conns = c.args.draft.now.conns; loads = c.args.draft.now.loads; caps = c.args.draft.now.caps; farads = c.args.draft.now.farads; joints = c.args.draft.now.joints; ohms = c.args.draft.now.ohms })).refs.words c.args.cap.now.first (Some c.args.first) up.2 c.requires.first) in
    let a = (node_of c.args.self.now.file.now c.args.draft.now.net _ _ (drafted (record { net = c.args.draft.now.net; refs = c.spelling_at.new.refs; conns = c.args.draft.now.conns; loads = c.args.draft.now.loads; caps = c.args.draft.now.caps; farads = c.args.draft.now.farads; joints = c.args.draft.now.joints; ohms = c.args.draft.now.ohms })).refs c.args.cap.now.first c.args.first up.0.refs ref) in
    let other_ref = (subst (λ (o : Option ℕ). IsRef c.args.self.now.file.now (drafted (record { net = c.args.draft.now.net; refs = c.spelling_at.new.refs; conns = c.args.draft.now.conns; loads = c.args.draft.now.loads; caps = c.args.draft.now.caps; farads = c.args.draft.now.farads; joints = c.args.draft.now.joints; ohms = c.args.draft.now.ohms })).refs.words c.args.second_token o) c.in_ok-second-2.ensures.ok up.1) in
    let other_it = (subst (λ (o : Option ℕ). BelongsBy (drafted (record { net = c.args.draft.now.net; refs = c.spelling_at.new.refs; conns = c.args.draft.now.conns; loads = c.args.draft.now.loads; caps = c.args.draft.now.caps; farads = c.args.draft.now.farads; joints = c.args.draft.now.joints; ohms = c.args.draft.now.ohms })).refs o c.belongs_if_known-far.result) c.in_ok-second-2.ensures.ok c.belongs_if_known-far.ensures) in
    let b = node_of c.args.self.now.file.now c.args.draft.now.net _ _ (drafted (record { net = c.args.draft.now.net; refs = c.spelling_at.new.refs; conns = c.args.draft.now.conns; loads = c.args.draft.now.loads; caps = c.args.draft.now.caps; farads = c.args.draft.now.farads; joints = c.args.draft.now.joints; ohms = c.args.draft.now.ohms })).refs c.args.second_token c.in_ok-second-2.second up.0.refs other_ref in
    let middle = coupled_middle (corners_of g.C.CornerSet.COUNT g.C.CornerSet.number_of g.C.CornerSet.member_of c.args.self.now.pick) c.args.self.now.file.now c.args.self.now.head.now c.args.s c.args.i c.args.cap.now (drafted (record { net = c.args.draft.now.net; refs = c.spelling_at.new.refs; conns = c.args.draft.now.conns; loads = c.args.draft.now.loads; caps = c.args.draft.now.caps; farads = c.args.draft.now.farads; joints = c.args.draft.now.joints; ohms = c.args.draft.now.ohms })) up.0 c.requires.cap a.0 a.1 c.args.second_token c.requires.second c.args.first c.belongs-near.result c.belongs_if_known-far.result (c.neither.ensures.no c.if-neither.false) ref c.belongs-near.ensures c.in_ok-second-2.second b.0 other_ref other_it b.1 (drafted c.count.new.draft) c.in_ok-value.value c.in_ok-count.ensures refl c.in_ok-value.ensures.ok in
    word_within c.args.self.now.file.now c.args.draft.now.net _ _ (drafted c.count.new.draft).refs c.args.second_token c.in_ok-second-2.second middle.0 middle.1

pub count-requires-2-clause-named : goal.count-requires-2-clause-named
count-requires-2-clause-named g c =
    let up = (upto_referred (corners_of g.C.CornerSet.COUNT g.C.CornerSet.number_of g.C.CornerSet.member_of c.args.self.now.pick) c.args.self.now.file.now c.args.self.now.head.now c.args.s (length (section_at c.args.self.now.file.now.reading.sections c.args.s).ress) (length (section_at c.args.self.now.file.now.reading.sections c.args.s).conns) c.args.i 0 c.args.second_token (drafted c.args.draft.now) (drafted (record { net = c.args.draft.now.net; refs = c.spelling_at.new.refs; conns = c.args.draft.now.conns; loads = c.args.draft.now.loads; caps = c.args.draft.now.caps; farads = c.args.draft.now.farads; joints = c.args.draft.now.joints; ohms = c.args.draft.now.ohms })) c.in_ok-second.second c.requires.upto c.in_ok-second.ensures refl) in
    let ref = (still_ref c.args.self.now.file.now (drafted c.args.draft.now).refs.words (drafted (record { net = c.args.draft.now.net; refs = c.spelling_at.new.refs; conns = c.args.draft.now.conns; loads = c.args.draft.now.loads; caps = c.args.draft.now.caps; farads = c.args.draft.now.farads; joints = c.args.draft.now.joints; ohms = c.args.draft.now.ohms })).refs.words c.args.cap.now.first (Some c.args.first) up.2 c.requires.first) in
    let a = (node_of c.args.self.now.file.now c.args.draft.now.net _ _ (drafted (record { net = c.args.draft.now.net; refs = c.spelling_at.new.refs; conns = c.args.draft.now.conns; loads = c.args.draft.now.loads; caps = c.args.draft.now.caps; farads = c.args.draft.now.farads; joints = c.args.draft.now.joints; ohms = c.args.draft.now.ohms })).refs c.args.cap.now.first c.args.first up.0.refs ref) in
    let other_ref = (subst (λ (o : Option ℕ). IsRef c.args.self.now.file.now (drafted (record { net = c.args.draft.now.net; refs = c.spelling_at.new.refs; conns = c.args.draft.now.conns; loads = c.args.draft.now.loads; caps = c.args.draft.now.caps; farads = c.args.draft.now.farads; joints = c.args.draft.now.joints; ohms = c.args.draft.now.ohms })).refs.words c.args.second_token o) c.in_ok-second-2.ensures.ok up.1) in
    let other_it = (subst (λ (o : Option ℕ). BelongsBy (drafted (record { net = c.args.draft.now.net; refs = c.spelling_at.new.refs; conns = c.args.draft.now.conns; loads = c.args.draft.now.loads; caps = c.args.draft.now.caps; farads = c.args.draft.now.farads; joints = c.args.draft.now.joints; ohms = c.args.draft.now.ohms })).refs o c.belongs_if_known-far.result) c.in_ok-second-2.ensures.ok c.belongs_if_known-far.ensures) in
    let b = node_of c.args.self.now.file.now c.args.draft.now.net _ _ (drafted (record { net = c.args.draft.now.net; refs = c.spelling_at.new.refs; conns = c.args.draft.now.conns; loads = c.args.draft.now.loads; caps = c.args.draft.now.caps; farads = c.args.draft.now.farads; joints = c.args.draft.now.joints; ohms = c.args.draft.now.ohms })).refs c.args.second_token c.in_ok-second-2.second up.0.refs other_ref in
    let middle = coupled_middle (corners_of g.C.CornerSet.COUNT g.C.CornerSet.number_of g.C.CornerSet.member_of c.args.self.now.pick) c.args.self.now.file.now c.args.self.now.head.now c.args.s c.args.i c.args.cap.now (drafted (record { net = c.args.draft.now.net; refs = c.spelling_at.new.refs; conns = c.args.draft.now.conns; loads = c.args.draft.now.loads; caps = c.args.draft.now.caps; farads = c.args.draft.now.farads; joints = c.args.draft.now.joints; ohms = c.args.draft.now.ohms })) up.0 c.requires.cap a.0 a.1 c.args.second_token c.requires.second c.args.first c.belongs-near.result c.belongs_if_known-far.result (c.neither.ensures.no c.if-neither.false) ref c.belongs-near.ensures c.in_ok-second-2.second b.0 other_ref other_it b.1 (drafted c.count.new.draft) c.in_ok-value.value c.in_ok-count.ensures refl c.in_ok-value.ensures.ok in
    word_named c.args.self.now.file.now c.args.draft.now.net _ _ (drafted c.count.new.draft).refs c.args.second_token c.in_ok-second-2.second middle.0 middle.1

pub count-requires-2-clause-placed : goal.count-requires-2-clause-placed
count-requires-2-clause-placed g c =
    let up = (upto_referred (corners_of g.C.CornerSet.COUNT g.C.CornerSet.number_of g.C.CornerSet.member_of c.args.self.now.pick) c.args.self.now.file.now c.args.self.now.head.now c.args.s (length (section_at c.args.self.now.file.now.reading.sections c.args.s).ress) (length (section_at c.args.self.now.file.now.reading.sections c.args.s).conns) c.args.i 0 c.args.second_token (drafted c.args.draft.now) (drafted (record { net = c.args.draft.now.net; refs = c.spelling_at.new.refs; conns = c.args.draft.now.conns; loads = c.args.draft.now.loads; caps = c.args.draft.now.caps; farads = c.args.draft.now.farads; joints = c.args.draft.now.joints; ohms = c.args.draft.now.ohms })) c.in_ok-second.second c.requires.upto c.in_ok-second.ensures refl) in
    let ref = (still_ref c.args.self.now.file.now (drafted c.args.draft.now).refs.words (drafted (record { net = c.args.draft.now.net; refs = c.spelling_at.new.refs; conns = c.args.draft.now.conns; loads = c.args.draft.now.loads; caps = c.args.draft.now.caps; farads = c.args.draft.now.farads; joints = c.args.draft.now.joints; ohms = c.args.draft.now.ohms })).refs.words c.args.cap.now.first (Some c.args.first) up.2 c.requires.first) in
    let a = (node_of c.args.self.now.file.now c.args.draft.now.net _ _ (drafted (record { net = c.args.draft.now.net; refs = c.spelling_at.new.refs; conns = c.args.draft.now.conns; loads = c.args.draft.now.loads; caps = c.args.draft.now.caps; farads = c.args.draft.now.farads; joints = c.args.draft.now.joints; ohms = c.args.draft.now.ohms })).refs c.args.cap.now.first c.args.first up.0.refs ref) in
    let other_ref = (subst (λ (o : Option ℕ). IsRef c.args.self.now.file.now (drafted (record { net = c.args.draft.now.net; refs = c.spelling_at.new.refs; conns = c.args.draft.now.conns; loads = c.args.draft.now.loads; caps = c.args.draft.now.caps; farads = c.args.draft.now.farads; joints = c.args.draft.now.joints; ohms = c.args.draft.now.ohms })).refs.words c.args.second_token o) c.in_ok-second-2.ensures.ok up.1) in
    let other_it = (subst (λ (o : Option ℕ). BelongsBy (drafted (record { net = c.args.draft.now.net; refs = c.spelling_at.new.refs; conns = c.args.draft.now.conns; loads = c.args.draft.now.loads; caps = c.args.draft.now.caps; farads = c.args.draft.now.farads; joints = c.args.draft.now.joints; ohms = c.args.draft.now.ohms })).refs o c.belongs_if_known-far.result) c.in_ok-second-2.ensures.ok c.belongs_if_known-far.ensures) in
    let b = node_of c.args.self.now.file.now c.args.draft.now.net _ _ (drafted (record { net = c.args.draft.now.net; refs = c.spelling_at.new.refs; conns = c.args.draft.now.conns; loads = c.args.draft.now.loads; caps = c.args.draft.now.caps; farads = c.args.draft.now.farads; joints = c.args.draft.now.joints; ohms = c.args.draft.now.ohms })).refs c.args.second_token c.in_ok-second-2.second up.0.refs other_ref in
    let middle = coupled_middle (corners_of g.C.CornerSet.COUNT g.C.CornerSet.number_of g.C.CornerSet.member_of c.args.self.now.pick) c.args.self.now.file.now c.args.self.now.head.now c.args.s c.args.i c.args.cap.now (drafted (record { net = c.args.draft.now.net; refs = c.spelling_at.new.refs; conns = c.args.draft.now.conns; loads = c.args.draft.now.loads; caps = c.args.draft.now.caps; farads = c.args.draft.now.farads; joints = c.args.draft.now.joints; ohms = c.args.draft.now.ohms })) up.0 c.requires.cap a.0 a.1 c.args.second_token c.requires.second c.args.first c.belongs-near.result c.belongs_if_known-far.result (c.neither.ensures.no c.if-neither.false) ref c.belongs-near.ensures c.in_ok-second-2.second b.0 other_ref other_it b.1 (drafted c.count.new.draft) c.in_ok-value.value c.in_ok-count.ensures refl c.in_ok-value.ensures.ok in
    middle.0.placed

pub returns-clause-upto : goal.returns-clause-upto
returns-clause-upto g c =
    let up = (upto_referred (corners_of g.C.CornerSet.COUNT g.C.CornerSet.number_of g.C.CornerSet.member_of c.args.self.now.pick) c.args.self.now.file.now c.args.self.now.head.now c.args.s (length (section_at c.args.self.now.file.now.reading.sections c.args.s).ress) (length (section_at c.args.self.now.file.now.reading.sections c.args.s).conns) c.args.i 0 c.args.second_token (drafted c.args.draft.now) (drafted (record { net = c.args.draft.now.net; refs = c.spelling_at.new.refs; conns = c.args.draft.now.conns; loads = c.args.draft.now.loads; caps = c.args.draft.now.caps; farads = c.args.draft.now.farads; joints = c.args.draft.now.joints; ohms = c.args.draft.now.ohms })) c.in_ok-second.second c.requires.upto c.in_ok-second.ensures refl) in
    let ref = (still_ref c.args.self.now.file.now (drafted c.args.draft.now).refs.words (drafted (record { net = c.args.draft.now.net; refs = c.spelling_at.new.refs; conns = c.args.draft.now.conns; loads = c.args.draft.now.loads; caps = c.args.draft.now.caps; farads = c.args.draft.now.farads; joints = c.args.draft.now.joints; ohms = c.args.draft.now.ohms })).refs.words c.args.cap.now.first (Some c.args.first) up.2 c.requires.first) in
    let a = (node_of c.args.self.now.file.now c.args.draft.now.net _ _ (drafted (record { net = c.args.draft.now.net; refs = c.spelling_at.new.refs; conns = c.args.draft.now.conns; loads = c.args.draft.now.loads; caps = c.args.draft.now.caps; farads = c.args.draft.now.farads; joints = c.args.draft.now.joints; ohms = c.args.draft.now.ohms })).refs c.args.cap.now.first c.args.first up.0.refs ref) in
    let other_ref = (subst (λ (o : Option ℕ). IsRef c.args.self.now.file.now (drafted (record { net = c.args.draft.now.net; refs = c.spelling_at.new.refs; conns = c.args.draft.now.conns; loads = c.args.draft.now.loads; caps = c.args.draft.now.caps; farads = c.args.draft.now.farads; joints = c.args.draft.now.joints; ohms = c.args.draft.now.ohms })).refs.words c.args.second_token o) c.in_ok-second-2.ensures.ok up.1) in
    let other_it = (subst (λ (o : Option ℕ). BelongsBy (drafted (record { net = c.args.draft.now.net; refs = c.spelling_at.new.refs; conns = c.args.draft.now.conns; loads = c.args.draft.now.loads; caps = c.args.draft.now.caps; farads = c.args.draft.now.farads; joints = c.args.draft.now.joints; ohms = c.args.draft.now.ohms })).refs o c.belongs_if_known-far.result) c.in_ok-second-2.ensures.ok c.belongs_if_known-far.ensures) in
    let b = node_of c.args.self.now.file.now c.args.draft.now.net _ _ (drafted (record { net = c.args.draft.now.net; refs = c.spelling_at.new.refs; conns = c.args.draft.now.conns; loads = c.args.draft.now.loads; caps = c.args.draft.now.caps; farads = c.args.draft.now.farads; joints = c.args.draft.now.joints; ohms = c.args.draft.now.ohms })).refs c.args.second_token c.in_ok-second-2.second up.0.refs other_ref in
    (coupled_kept (corners_of g.C.CornerSet.COUNT g.C.CornerSet.number_of g.C.CornerSet.member_of c.args.self.now.pick) c.args.self.now.file.now c.args.self.now.head.now c.args.s c.args.i c.args.cap.now (drafted (record { net = c.args.draft.now.net; refs = c.spelling_at.new.refs; conns = c.args.draft.now.conns; loads = c.args.draft.now.loads; caps = c.args.draft.now.caps; farads = c.args.draft.now.farads; joints = c.args.draft.now.joints; ohms = c.args.draft.now.ohms })) up.0 c.requires.cap a.0 a.1 c.args.second_token c.requires.second c.args.first c.belongs-near.result c.belongs_if_known-far.result (c.neither.ensures.no c.if-neither.false) ref c.belongs-near.ensures c.in_ok-second-2.second b.0 other_ref other_it b.1 (drafted c.count.new.draft) (drafted c.count-2.new.draft) c.in_ok-value.value c.in_ok-count.ensures refl c.in_ok-count-2.ensures refl c.in_ok-value.ensures.ok).0

pub returns-clause-grows : goal.returns-clause-grows
returns-clause-grows g c =
    let up = (upto_referred (corners_of g.C.CornerSet.COUNT g.C.CornerSet.number_of g.C.CornerSet.member_of c.args.self.now.pick) c.args.self.now.file.now c.args.self.now.head.now c.args.s (length (section_at c.args.self.now.file.now.reading.sections c.args.s).ress) (length (section_at c.args.self.now.file.now.reading.sections c.args.s).conns) c.args.i 0 c.args.second_token (drafted c.args.draft.now) (drafted (record { net = c.args.draft.now.net; refs = c.spelling_at.new.refs; conns = c.args.draft.now.conns; loads = c.args.draft.now.loads; caps = c.args.draft.now.caps; farads = c.args.draft.now.farads; joints = c.args.draft.now.joints; ohms = c.args.draft.now.ohms })) c.in_ok-second.second c.requires.upto c.in_ok-second.ensures refl) in
    let ref = (still_ref c.args.self.now.file.now (drafted c.args.draft.now).refs.words (drafted (record { net = c.args.draft.now.net; refs = c.spelling_at.new.refs; conns = c.args.draft.now.conns; loads = c.args.draft.now.loads; caps = c.args.draft.now.caps; farads = c.args.draft.now.farads; joints = c.args.draft.now.joints; ohms = c.args.draft.now.ohms })).refs.words c.args.cap.now.first (Some c.args.first) up.2 c.requires.first) in
    let a = (node_of c.args.self.now.file.now c.args.draft.now.net _ _ (drafted (record { net = c.args.draft.now.net; refs = c.spelling_at.new.refs; conns = c.args.draft.now.conns; loads = c.args.draft.now.loads; caps = c.args.draft.now.caps; farads = c.args.draft.now.farads; joints = c.args.draft.now.joints; ohms = c.args.draft.now.ohms })).refs c.args.cap.now.first c.args.first up.0.refs ref) in
    let other_ref = (subst (λ (o : Option ℕ). IsRef c.args.self.now.file.now (drafted (record { net = c.args.draft.now.net; refs = c.spelling_at.new.refs; conns = c.args.draft.now.conns; loads = c.args.draft.now.loads; caps = c.args.draft.now.caps; farads = c.args.draft.now.farads; joints = c.args.draft.now.joints; ohms = c.args.draft.now.ohms })).refs.words c.args.second_token o) c.in_ok-second-2.ensures.ok up.1) in
    let other_it = (subst (λ (o : Option ℕ). BelongsBy (drafted (record { net = c.args.draft.now.net; refs = c.spelling_at.new.refs; conns = c.args.draft.now.conns; loads = c.args.draft.now.loads; caps = c.args.draft.now.caps; farads = c.args.draft.now.farads; joints = c.args.draft.now.joints; ohms = c.args.draft.now.ohms })).refs o c.belongs_if_known-far.result) c.in_ok-second-2.ensures.ok c.belongs_if_known-far.ensures) in
    let b = node_of c.args.self.now.file.now c.args.draft.now.net _ _ (drafted (record { net = c.args.draft.now.net; refs = c.spelling_at.new.refs; conns = c.args.draft.now.conns; loads = c.args.draft.now.loads; caps = c.args.draft.now.caps; farads = c.args.draft.now.farads; joints = c.args.draft.now.joints; ohms = c.args.draft.now.ohms })).refs c.args.second_token c.in_ok-second-2.second up.0.refs other_ref in
    let kept = coupled_kept (corners_of g.C.CornerSet.COUNT g.C.CornerSet.number_of g.C.CornerSet.member_of c.args.self.now.pick) c.args.self.now.file.now c.args.self.now.head.now c.args.s c.args.i c.args.cap.now (drafted (record { net = c.args.draft.now.net; refs = c.spelling_at.new.refs; conns = c.args.draft.now.conns; loads = c.args.draft.now.loads; caps = c.args.draft.now.caps; farads = c.args.draft.now.farads; joints = c.args.draft.now.joints; ohms = c.args.draft.now.ohms })) up.0 c.requires.cap a.0 a.1 c.args.second_token c.requires.second c.args.first c.belongs-near.result c.belongs_if_known-far.result (c.neither.ensures.no c.if-neither.false) ref c.belongs-near.ensures c.in_ok-second-2.second b.0 other_ref other_it b.1 (drafted c.count.new.draft) (drafted c.count-2.new.draft) c.in_ok-value.value c.in_ok-count.ensures refl c.in_ok-count-2.ensures refl c.in_ok-value.ensures.ok in
    (up.2.0, kept.1 ∙ up.2.1)
