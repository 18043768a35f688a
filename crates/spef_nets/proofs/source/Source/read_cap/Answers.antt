use Rattle.std.proofs.Common.{ℕ, length, refl, sym, ◌∙◌, subst}
use Rattle.std.specs.Prelude.{Option}
use Rattle.spef_text.specs.Entries.{section_at}
use Rattle.spef_nets.specs.Refs.{IsRef}
use Rattle.spef_nets.specs.DraftOf.{drafted}
use Rattle.spef_nets.specs.Drafts.{corners_of, IsStop}
use Rattle.spef_nets.proofs.Referring.{word_within, word_named, node_of}
use Rattle.spef_nets.proofs.Stepping.{handed_on, on_ok_grows}
use Rattle.spef_nets.proofs.CapStepping.{upto_referred, cap_unknown, ground_stop, ground_kept}
use Rattle.spef_nets.proofs.source.Source.read_cap.Goals as goal

-- src/section_reading.rt
pub returns-in_err-first-2-clause-err : goal.returns-in_err-first-2-clause-err
returns-in_err-first-2-clause-err g c =
    let up = (upto_referred (corners_of g.C.CornerSet.COUNT g.C.CornerSet.number_of g.C.CornerSet.member_of c.args.self.now.pick) c.args.self.now.file.now c.args.self.now.head.now c.args.s (length (section_at c.args.self.now.file.now.reading.sections c.args.s).ress) (length (section_at c.args.self.now.file.now.reading.sections c.args.s).conns) c.args.i 0 c.cap-cap.result.first (drafted c.args.draft.now) (drafted (record { net = c.args.draft.now.net; refs = c.spelling_at.new.refs; conns = c.args.draft.now.conns; loads = c.args.draft.now.loads; caps = c.args.draft.now.caps; farads = c.args.draft.now.farads; joints = c.args.draft.now.joints; ohms = c.args.draft.now.ohms })) c.in_ok-first.first c.requires.upto c.in_ok-first.ensures refl) in
    handed_on c.from_residual-in_err-first-2.result c.in_err-first-2.field-0.0 (IsStop c.args.self.now.file.now c.args.self.now.head.now c.args.s) c.from_residual-in_err-first-2.ensures.1
    (subst (IsStop c.args.self.now.file.now c.args.self.now.head.now c.args.s) (sym c.in_err-first-2.ensures.err)
    (cap_unknown (corners_of g.C.CornerSet.COUNT g.C.CornerSet.number_of g.C.CornerSet.member_of c.args.self.now.pick) c.args.self.now.file.now c.args.self.now.head.now c.args.s c.args.i c.cap-cap.result (drafted (record { net = c.args.draft.now.net; refs = c.spelling_at.new.refs; conns = c.args.draft.now.conns; loads = c.args.draft.now.loads; caps = c.args.draft.now.caps; farads = c.args.draft.now.farads; joints = c.args.draft.now.joints; ohms = c.args.draft.now.ohms })) up.0 c.cap-cap.ensures (subst (λ (o : Option ℕ). IsRef c.args.self.now.file.now (drafted (record { net = c.args.draft.now.net; refs = c.spelling_at.new.refs; conns = c.args.draft.now.conns; loads = c.args.draft.now.loads; caps = c.args.draft.now.caps; farads = c.args.draft.now.farads; joints = c.args.draft.now.joints; ohms = c.args.draft.now.ohms })).refs.words c.cap-cap.result.first o) c.in_err-first-2.ensures.none up.1)))

pub read_coupling-requires-clause-first : goal.read_coupling-requires-clause-first
read_coupling-requires-clause-first g c =
    let up = (upto_referred (corners_of g.C.CornerSet.COUNT g.C.CornerSet.number_of g.C.CornerSet.member_of c.args.self.now.pick) c.args.self.now.file.now c.args.self.now.head.now c.args.s (length (section_at c.args.self.now.file.now.reading.sections c.args.s).ress) (length (section_at c.args.self.now.file.now.reading.sections c.args.s).conns) c.args.i 0 c.cap-cap.result.first (drafted c.args.draft.now) (drafted (record { net = c.args.draft.now.net; refs = c.spelling_at.new.refs; conns = c.args.draft.now.conns; loads = c.args.draft.now.loads; caps = c.args.draft.now.caps; farads = c.args.draft.now.farads; joints = c.args.draft.now.joints; ohms = c.args.draft.now.ohms })) c.in_ok-first.first c.requires.upto c.in_ok-first.ensures refl) in
    (subst (λ (o : Option ℕ). IsRef c.args.self.now.file.now (drafted (record { net = c.args.draft.now.net; refs = c.spelling_at.new.refs; conns = c.args.draft.now.conns; loads = c.args.draft.now.loads; caps = c.args.draft.now.caps; farads = c.args.draft.now.farads; joints = c.args.draft.now.joints; ohms = c.args.draft.now.ohms })).refs.words c.cap-cap.result.first o) c.in_ok-first-2.ensures.ok up.1)

pub read_coupling-requires-clause-upto : goal.read_coupling-requires-clause-upto
read_coupling-requires-clause-upto g c = (upto_referred (corners_of g.C.CornerSet.COUNT g.C.CornerSet.number_of g.C.CornerSet.member_of c.args.self.now.pick) c.args.self.now.file.now c.args.self.now.head.now c.args.s (length (section_at c.args.self.now.file.now.reading.sections c.args.s).ress) (length (section_at c.args.self.now.file.now.reading.sections c.args.s).conns) c.args.i 0 c.cap-cap.result.first (drafted c.args.draft.now) (drafted (record { net = c.args.draft.now.net; refs = c.spelling_at.new.refs; conns = c.args.draft.now.conns; loads = c.args.draft.now.loads; caps = c.args.draft.now.caps; farads = c.args.draft.now.farads; joints = c.args.draft.now.joints; ohms = c.args.draft.now.ohms })) c.in_ok-first.first c.requires.upto c.in_ok-first.ensures refl).0

pub returns-in_err-value-in-None-clause-err : goal.returns-in_err-value-in-None-clause-err
returns-in_err-value-in-None-clause-err g c =
    let up = (upto_referred (corners_of g.C.CornerSet.COUNT g.C.CornerSet.number_of g.C.CornerSet.member_of c.args.self.now.pick) c.args.self.now.file.now c.args.self.now.head.now c.args.s (length (section_at c.args.self.now.file.now.reading.sections c.args.s).ress) (length (section_at c.args.self.now.file.now.reading.sections c.args.s).conns) c.args.i 0 c.cap-cap.result.first (drafted c.args.draft.now) (drafted (record { net = c.args.draft.now.net; refs = c.spelling_at.new.refs; conns = c.args.draft.now.conns; loads = c.args.draft.now.loads; caps = c.args.draft.now.caps; farads = c.args.draft.now.farads; joints = c.args.draft.now.joints; ohms = c.args.draft.now.ohms })) c.in_ok-first.first c.requires.upto c.in_ok-first.ensures refl) in
    let ref = (subst (λ (o : Option ℕ). IsRef c.args.self.now.file.now (drafted (record { net = c.args.draft.now.net; refs = c.spelling_at.new.refs; conns = c.args.draft.now.conns; loads = c.args.draft.now.loads; caps = c.args.draft.now.caps; farads = c.args.draft.now.farads; joints = c.args.draft.now.joints; ohms = c.args.draft.now.ohms })).refs.words c.cap-cap.result.first o) c.in_ok-first-2.ensures.ok up.1) in
    let a = (node_of c.args.self.now.file.now c.args.draft.now.net _ _ (drafted (record { net = c.args.draft.now.net; refs = c.spelling_at.new.refs; conns = c.args.draft.now.conns; loads = c.args.draft.now.loads; caps = c.args.draft.now.caps; farads = c.args.draft.now.farads; joints = c.args.draft.now.joints; ohms = c.args.draft.now.ohms })).refs c.cap-cap.result.first c.in_ok-first-2.first up.0.refs ref) in
    handed_on c.from_residual-in_err-value-in-None.result c.in_err-value-in-None.field-0.0 (IsStop c.args.self.now.file.now c.args.self.now.head.now c.args.s) c.from_residual-in_err-value-in-None.ensures.1
    (ground_stop (corners_of g.C.CornerSet.COUNT g.C.CornerSet.number_of g.C.CornerSet.member_of c.args.self.now.pick) c.args.self.now.file.now c.args.self.now.head.now c.args.s c.args.i c.cap-cap.result (drafted (record { net = c.args.draft.now.net; refs = c.spelling_at.new.refs; conns = c.args.draft.now.conns; loads = c.args.draft.now.loads; caps = c.args.draft.now.caps; farads = c.args.draft.now.farads; joints = c.args.draft.now.joints; ohms = c.args.draft.now.ohms })) up.0 c.cap-cap.ensures a.0 a.1 c.in-None.is c.in_err-value-in-None.field-0.0 c.in_err-value-in-None.ensures.err)

pub put_cap-requires-clause-within : goal.put_cap-requires-clause-within
put_cap-requires-clause-within g c =
    let up = (upto_referred (corners_of g.C.CornerSet.COUNT g.C.CornerSet.number_of g.C.CornerSet.member_of c.args.self.now.pick) c.args.self.now.file.now c.args.self.now.head.now c.args.s (length (section_at c.args.self.now.file.now.reading.sections c.args.s).ress) (length (section_at c.args.self.now.file.now.reading.sections c.args.s).conns) c.args.i 0 c.cap-cap.result.first (drafted c.args.draft.now) (drafted (record { net = c.args.draft.now.net; refs = c.spelling_at.new.refs; conns = c.args.draft.now.conns; loads = c.args.draft.now.loads; caps = c.args.draft.now.caps; farads = c.args.draft.now.farads; joints = c.args.draft.now.joints; ohms = c.args.draft.now.ohms })) c.in_ok-first.first c.requires.upto c.in_ok-first.ensures refl) in
    let ref = (subst (λ (o : Option ℕ). IsRef c.args.self.now.file.now (drafted (record { net = c.args.draft.now.net; refs = c.spelling_at.new.refs; conns = c.args.draft.now.conns; loads = c.args.draft.now.loads; caps = c.args.draft.now.caps; farads = c.args.draft.now.farads; joints = c.args.draft.now.joints; ohms = c.args.draft.now.ohms })).refs.words c.cap-cap.result.first o) c.in_ok-first-2.ensures.ok up.1) in
    word_within c.args.self.now.file.now c.args.draft.now.net _ _ (drafted (record { net = c.args.draft.now.net; refs = c.spelling_at.new.refs; conns = c.args.draft.now.conns; loads = c.args.draft.now.loads; caps = c.args.draft.now.caps; farads = c.args.draft.now.farads; joints = c.args.draft.now.joints; ohms = c.args.draft.now.ohms })).refs c.cap-cap.result.first c.in_ok-first-2.first up.0.refs ref

pub put_cap-requires-clause-named : goal.put_cap-requires-clause-named
put_cap-requires-clause-named g c =
    let up = (upto_referred (corners_of g.C.CornerSet.COUNT g.C.CornerSet.number_of g.C.CornerSet.member_of c.args.self.now.pick) c.args.self.now.file.now c.args.self.now.head.now c.args.s (length (section_at c.args.self.now.file.now.reading.sections c.args.s).ress) (length (section_at c.args.self.now.file.now.reading.sections c.args.s).conns) c.args.i 0 c.cap-cap.result.first (drafted c.args.draft.now) (drafted (record { net = c.args.draft.now.net; refs = c.spelling_at.new.refs; conns = c.args.draft.now.conns; loads = c.args.draft.now.loads; caps = c.args.draft.now.caps; farads = c.args.draft.now.farads; joints = c.args.draft.now.joints; ohms = c.args.draft.now.ohms })) c.in_ok-first.first c.requires.upto c.in_ok-first.ensures refl) in
    let ref = (subst (λ (o : Option ℕ). IsRef c.args.self.now.file.now (drafted (record { net = c.args.draft.now.net; refs = c.spelling_at.new.refs; conns = c.args.draft.now.conns; loads = c.args.draft.now.loads; caps = c.args.draft.now.caps; farads = c.args.draft.now.farads; joints = c.args.draft.now.joints; ohms = c.args.draft.now.ohms })).refs.words c.cap-cap.result.first o) c.in_ok-first-2.ensures.ok up.1) in
    word_named c.args.self.now.file.now c.args.draft.now.net _ _ (drafted (record { net = c.args.draft.now.net; refs = c.spelling_at.new.refs; conns = c.args.draft.now.conns; loads = c.args.draft.now.loads; caps = c.args.draft.now.caps; farads = c.args.draft.now.farads; joints = c.args.draft.now.joints; ohms = c.args.draft.now.ohms })).refs c.cap-cap.result.first c.in_ok-first-2.first up.0.refs ref

pub put_cap-requires-clause-placed : goal.put_cap-requires-clause-placed
put_cap-requires-clause-placed g c = (upto_referred (corners_of g.C.CornerSet.COUNT g.C.CornerSet.number_of g.C.CornerSet.member_of c.args.self.now.pick) c.args.self.now.file.now c.args.self.now.head.now c.args.s (length (section_at c.args.self.now.file.now.reading.sections c.args.s).ress) (length (section_at c.args.self.now.file.now.reading.sections c.args.s).conns) c.args.i 0 c.cap-cap.result.first (drafted c.args.draft.now) (drafted (record { net = c.args.draft.now.net; refs = c.spelling_at.new.refs; conns = c.args.draft.now.conns; loads = c.args.draft.now.loads; caps = c.args.draft.now.caps; farads = c.args.draft.now.farads; joints = c.args.draft.now.joints; ohms = c.args.draft.now.ohms })) c.in_ok-first.first c.requires.upto c.in_ok-first.ensures refl).0.refs.placed

pub returns-in_ok-put_cap-in-None-clause-upto : goal.returns-in_ok-put_cap-in-None-clause-upto
returns-in_ok-put_cap-in-None-clause-upto g c =
    let up = (upto_referred (corners_of g.C.CornerSet.COUNT g.C.CornerSet.number_of g.C.CornerSet.member_of c.args.self.now.pick) c.args.self.now.file.now c.args.self.now.head.now c.args.s (length (section_at c.args.self.now.file.now.reading.sections c.args.s).ress) (length (section_at c.args.self.now.file.now.reading.sections c.args.s).conns) c.args.i 0 c.cap-cap.result.first (drafted c.args.draft.now) (drafted (record { net = c.args.draft.now.net; refs = c.spelling_at.new.refs; conns = c.args.draft.now.conns; loads = c.args.draft.now.loads; caps = c.args.draft.now.caps; farads = c.args.draft.now.farads; joints = c.args.draft.now.joints; ohms = c.args.draft.now.ohms })) c.in_ok-first.first c.requires.upto c.in_ok-first.ensures refl) in
    let ref = (subst (λ (o : Option ℕ). IsRef c.args.self.now.file.now (drafted (record { net = c.args.draft.now.net; refs = c.spelling_at.new.refs; conns = c.args.draft.now.conns; loads = c.args.draft.now.loads; caps = c.args.draft.now.caps; farads = c.args.draft.now.farads; joints = c.args.draft.now.joints; ohms = c.args.draft.now.ohms })).refs.words c.cap-cap.result.first o) c.in_ok-first-2.ensures.ok up.1) in
    let a = (node_of c.args.self.now.file.now c.args.draft.now.net _ _ (drafted (record { net = c.args.draft.now.net; refs = c.spelling_at.new.refs; conns = c.args.draft.now.conns; loads = c.args.draft.now.loads; caps = c.args.draft.now.caps; farads = c.args.draft.now.farads; joints = c.args.draft.now.joints; ohms = c.args.draft.now.ohms })).refs c.cap-cap.result.first c.in_ok-first-2.first up.0.refs ref) in
    (ground_kept (corners_of g.C.CornerSet.COUNT g.C.CornerSet.number_of g.C.CornerSet.member_of c.args.self.now.pick) c.args.self.now.file.now c.args.self.now.head.now c.args.s c.args.i c.cap-cap.result (drafted (record { net = c.args.draft.now.net; refs = c.spelling_at.new.refs; conns = c.args.draft.now.conns; loads = c.args.draft.now.loads; caps = c.args.draft.now.caps; farads = c.args.draft.now.farads; joints = c.args.draft.now.joints; ohms = c.args.draft.now.ohms })) up.0 c.cap-cap.ensures a.0 a.1 c.in-None.is (drafted c.put_cap.new.self) c.in_ok-first-2.first c.in_ok-value-in-None.value ref c.in_ok-put_cap-in-None.ensures refl c.in_ok-value-in-None.ensures.ok).0

pub returns-in_ok-put_cap-in-None-clause-grows : goal.returns-in_ok-put_cap-in-None-clause-grows
returns-in_ok-put_cap-in-None-clause-grows g c =
    let up = (upto_referred (corners_of g.C.CornerSet.COUNT g.C.CornerSet.number_of g.C.CornerSet.member_of c.args.self.now.pick) c.args.self.now.file.now c.args.self.now.head.now c.args.s (length (section_at c.args.self.now.file.now.reading.sections c.args.s).ress) (length (section_at c.args.self.now.file.now.reading.sections c.args.s).conns) c.args.i 0 c.cap-cap.result.first (drafted c.args.draft.now) (drafted (record { net = c.args.draft.now.net; refs = c.spelling_at.new.refs; conns = c.args.draft.now.conns; loads = c.args.draft.now.loads; caps = c.args.draft.now.caps; farads = c.args.draft.now.farads; joints = c.args.draft.now.joints; ohms = c.args.draft.now.ohms })) c.in_ok-first.first c.requires.upto c.in_ok-first.ensures refl) in
    let ref = (subst (λ (o : Option ℕ). IsRef c.args.self.now.file.now (drafted (record { net = c.args.draft.now.net; refs = c.spelling_at.new.refs; conns = c.args.draft.now.conns; loads = c.args.draft.now.loads; caps = c.args.draft.now.caps; farads = c.args.draft.now.farads; joints = c.args.draft.now.joints; ohms = c.args.draft.now.ohms })).refs.words c.cap-cap.result.first o) c.in_ok-first-2.ensures.ok up.1) in
    let a = (node_of c.args.self.now.file.now c.args.draft.now.net _ _ (drafted (record { net = c.args.draft.now.net; refs = c.spelling_at.new.refs; conns = c.args.draft.now.conns; loads = c.args.draft.now.loads; caps = c.args.draft.now.caps; farads = c.args.draft.now.farads; joints = c.args.draft.now.joints; ohms = c.args.draft.now.ohms })).refs c.cap-cap.result.first c.in_ok-first-2.first up.0.refs ref) in
    let kept = ground_kept (corners_of g.C.CornerSet.COUNT g.C.CornerSet.number_of g.C.CornerSet.member_of c.args.self.now.pick) c.args.self.now.file.now c.args.self.now.head.now c.args.s c.args.i c.cap-cap.result (drafted (record { net = c.args.draft.now.net; refs = c.spelling_at.new.refs; conns = c.args.draft.now.conns; loads = c.args.draft.now.loads; caps = c.args.draft.now.caps; farads = c.args.draft.now.farads; joints = c.args.draft.now.joints; ohms = c.args.draft.now.ohms })) up.0 c.cap-cap.ensures a.0 a.1 c.in-None.is (drafted c.put_cap.new.self) c.in_ok-first-2.first c.in_ok-value-in-None.value ref c.in_ok-put_cap-in-None.ensures refl c.in_ok-value-in-None.ensures.ok in
    (up.2.0, kept.1 ∙ up.2.1)

pub returns-in-Some-clause-grows : goal.returns-in-Some-clause-grows
returns-in-Some-clause-grows g c =
    let up = (upto_referred (corners_of g.C.CornerSet.COUNT g.C.CornerSet.number_of g.C.CornerSet.member_of c.args.self.now.pick) c.args.self.now.file.now c.args.self.now.head.now c.args.s (length (section_at c.args.self.now.file.now.reading.sections c.args.s).ress) (length (section_at c.args.self.now.file.now.reading.sections c.args.s).conns) c.args.i 0 c.cap-cap.result.first (drafted c.args.draft.now) (drafted (record { net = c.args.draft.now.net; refs = c.spelling_at.new.refs; conns = c.args.draft.now.conns; loads = c.args.draft.now.loads; caps = c.args.draft.now.caps; farads = c.args.draft.now.farads; joints = c.args.draft.now.joints; ohms = c.args.draft.now.ohms })) c.in_ok-first.first c.requires.upto c.in_ok-first.ensures refl) in
    on_ok_grows (drafted c.args.draft.now).refs.words (drafted (record { net = c.args.draft.now.net; refs = c.spelling_at.new.refs; conns = c.args.draft.now.conns; loads = c.args.draft.now.loads; caps = c.args.draft.now.caps; farads = c.args.draft.now.farads; joints = c.args.draft.now.joints; ohms = c.args.draft.now.ohms })).refs.words (drafted c.read_coupling.new.draft).refs.words c.read_coupling.result up.2 c.read_coupling.ensures.grows
