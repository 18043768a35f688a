use Rattle.std.proofs.Common.{ℕ, refl, sym, ◌∙◌, subst}
use Rattle.std.specs.Prelude.{Option}
use Rattle.spef_nets.specs.Refs.{IsRef}
use Rattle.spef_nets.specs.DraftOf.{drafted}
use Rattle.spef_nets.specs.Drafts.{corners_of, IsStop}
use Rattle.spef_nets.proofs.Referring.{word_within, word_named, node_of}
use Rattle.spef_nets.proofs.Stepping.{handed_on, put_res_words}
use Rattle.spef_nets.proofs.ResStepping.{first_unknown, other_unknown, res_stop, res_kept}
use Rattle.spef_nets.proofs.source.Source.read_res.Goals as goal

-- src/section_reading.rt
pub returns-in_err-first-clause-err : goal.returns-in_err-first-clause-err
returns-in_err-first-clause-err g c =
    let joined = c.requires.joined c.res-res.result c.res-res.ensures in
    handed_on c.from_residual.result c.in_err-first.field-0.0 (IsStop c.args.self.now.file.now c.args.self.now.head.now c.args.s) c.from_residual.ensures.1
    (subst (IsStop c.args.self.now.file.now c.args.self.now.head.now c.args.s) (sym c.in_err-first.ensures.err)
    (first_unknown (corners_of g.C.CornerSet.COUNT g.C.CornerSet.number_of g.C.CornerSet.member_of c.args.self.now.pick) c.args.self.now.file.now c.args.self.now.head.now c.args.s c.args.i c.res-res.result (drafted c.args.draft.now) c.requires.upto c.res-res.ensures (subst (λ (o : Option ℕ). IsRef c.args.self.now.file.now (drafted c.args.draft.now).refs.words c.res-res.result.first o) (sym c.spelling_of.ensures ∙ c.in_err-first.ensures.none) joined.0)))

pub returns-in_err-second-clause-err : goal.returns-in_err-second-clause-err
returns-in_err-second-clause-err g c =
    let joined = c.requires.joined c.res-res.result c.res-res.ensures in
    let first_ref = (subst (λ (o : Option ℕ). IsRef c.args.self.now.file.now (drafted c.args.draft.now).refs.words c.res-res.result.first o) (sym c.spelling_of.ensures ∙ c.in_ok-first.ensures.ok) joined.0) in
    let a = node_of c.args.self.now.file.now c.args.draft.now.net _ _ (drafted c.args.draft.now).refs c.res-res.result.first c.in_ok-first.first c.requires.upto.refs first_ref in
    handed_on c.from_residual-in_err-second.result c.in_err-second.field-0.0 (IsStop c.args.self.now.file.now c.args.self.now.head.now c.args.s) c.from_residual-in_err-second.ensures.1
    (subst (IsStop c.args.self.now.file.now c.args.self.now.head.now c.args.s) (sym c.in_err-second.ensures.err)
    (other_unknown (corners_of g.C.CornerSet.COUNT g.C.CornerSet.number_of g.C.CornerSet.member_of c.args.self.now.pick) c.args.self.now.file.now c.args.self.now.head.now c.args.s c.args.i c.res-res.result (drafted c.args.draft.now) c.requires.upto c.res-res.ensures a.0 a.1 (subst (λ (o : Option ℕ). IsRef c.args.self.now.file.now (drafted c.args.draft.now).refs.words c.res-res.result.second o) (sym c.spelling_of-2.ensures ∙ c.in_err-second.ensures.none) joined.1)))

pub returns-in_err-value-clause-err : goal.returns-in_err-value-clause-err
returns-in_err-value-clause-err g c =
    let joined = c.requires.joined c.res-res.result c.res-res.ensures in
    let first_ref = (subst (λ (o : Option ℕ). IsRef c.args.self.now.file.now (drafted c.args.draft.now).refs.words c.res-res.result.first o) (sym c.spelling_of.ensures ∙ c.in_ok-first.ensures.ok) joined.0) in
    let a = node_of c.args.self.now.file.now c.args.draft.now.net _ _ (drafted c.args.draft.now).refs c.res-res.result.first c.in_ok-first.first c.requires.upto.refs first_ref in
    let second_ref = (subst (λ (o : Option ℕ). IsRef c.args.self.now.file.now (drafted c.args.draft.now).refs.words c.res-res.result.second o) (sym c.spelling_of-2.ensures ∙ c.in_ok-second.ensures.ok) joined.1) in
    let b = node_of c.args.self.now.file.now c.args.draft.now.net _ _ (drafted c.args.draft.now).refs c.res-res.result.second c.in_ok-second.second c.requires.upto.refs second_ref in
    handed_on c.from_residual-in_err-value.result c.in_err-value.field-0.0 (IsStop c.args.self.now.file.now c.args.self.now.head.now c.args.s) c.from_residual-in_err-value.ensures.1
    (res_stop (corners_of g.C.CornerSet.COUNT g.C.CornerSet.number_of g.C.CornerSet.member_of c.args.self.now.pick) c.args.self.now.file.now c.args.self.now.head.now c.args.s c.args.i c.res-res.result (drafted c.args.draft.now) c.requires.upto c.res-res.ensures a.0 a.1 b.0 b.1 c.in_err-value.field-0.0 c.in_err-value.ensures.err)

pub put_res-requires-clause-first : goal.put_res-requires-clause-first
put_res-requires-clause-first g c =
    let joined = c.requires.joined c.res-res.result c.res-res.ensures in
    let first_ref = (subst (λ (o : Option ℕ). IsRef c.args.self.now.file.now (drafted c.args.draft.now).refs.words c.res-res.result.first o) (sym c.spelling_of.ensures ∙ c.in_ok-first.ensures.ok) joined.0) in
    let a = node_of c.args.self.now.file.now c.args.draft.now.net _ _ (drafted c.args.draft.now).refs c.res-res.result.first c.in_ok-first.first c.requires.upto.refs first_ref in
    let second_ref = (subst (λ (o : Option ℕ). IsRef c.args.self.now.file.now (drafted c.args.draft.now).refs.words c.res-res.result.second o) (sym c.spelling_of-2.ensures ∙ c.in_ok-second.ensures.ok) joined.1) in
    let b = node_of c.args.self.now.file.now c.args.draft.now.net _ _ (drafted c.args.draft.now).refs c.res-res.result.second c.in_ok-second.second c.requires.upto.refs second_ref in
    word_within c.args.self.now.file.now c.args.draft.now.net _ _ (drafted c.args.draft.now).refs c.res-res.result.first c.in_ok-first.first c.requires.upto.refs first_ref

pub put_res-requires-clause-first_named : goal.put_res-requires-clause-first_named
put_res-requires-clause-first_named g c =
    let joined = c.requires.joined c.res-res.result c.res-res.ensures in
    let first_ref = (subst (λ (o : Option ℕ). IsRef c.args.self.now.file.now (drafted c.args.draft.now).refs.words c.res-res.result.first o) (sym c.spelling_of.ensures ∙ c.in_ok-first.ensures.ok) joined.0) in
    let a = node_of c.args.self.now.file.now c.args.draft.now.net _ _ (drafted c.args.draft.now).refs c.res-res.result.first c.in_ok-first.first c.requires.upto.refs first_ref in
    let second_ref = (subst (λ (o : Option ℕ). IsRef c.args.self.now.file.now (drafted c.args.draft.now).refs.words c.res-res.result.second o) (sym c.spelling_of-2.ensures ∙ c.in_ok-second.ensures.ok) joined.1) in
    let b = node_of c.args.self.now.file.now c.args.draft.now.net _ _ (drafted c.args.draft.now).refs c.res-res.result.second c.in_ok-second.second c.requires.upto.refs second_ref in
    word_named c.args.self.now.file.now c.args.draft.now.net _ _ (drafted c.args.draft.now).refs c.res-res.result.first c.in_ok-first.first c.requires.upto.refs first_ref

pub put_res-requires-clause-second : goal.put_res-requires-clause-second
put_res-requires-clause-second g c =
    let joined = c.requires.joined c.res-res.result c.res-res.ensures in
    let first_ref = (subst (λ (o : Option ℕ). IsRef c.args.self.now.file.now (drafted c.args.draft.now).refs.words c.res-res.result.first o) (sym c.spelling_of.ensures ∙ c.in_ok-first.ensures.ok) joined.0) in
    let a = node_of c.args.self.now.file.now c.args.draft.now.net _ _ (drafted c.args.draft.now).refs c.res-res.result.first c.in_ok-first.first c.requires.upto.refs first_ref in
    let second_ref = (subst (λ (o : Option ℕ). IsRef c.args.self.now.file.now (drafted c.args.draft.now).refs.words c.res-res.result.second o) (sym c.spelling_of-2.ensures ∙ c.in_ok-second.ensures.ok) joined.1) in
    let b = node_of c.args.self.now.file.now c.args.draft.now.net _ _ (drafted c.args.draft.now).refs c.res-res.result.second c.in_ok-second.second c.requires.upto.refs second_ref in
    word_within c.args.self.now.file.now c.args.draft.now.net _ _ (drafted c.args.draft.now).refs c.res-res.result.second c.in_ok-second.second c.requires.upto.refs second_ref

pub put_res-requires-clause-second_named : goal.put_res-requires-clause-second_named
put_res-requires-clause-second_named g c =
    let joined = c.requires.joined c.res-res.result c.res-res.ensures in
    let first_ref = (subst (λ (o : Option ℕ). IsRef c.args.self.now.file.now (drafted c.args.draft.now).refs.words c.res-res.result.first o) (sym c.spelling_of.ensures ∙ c.in_ok-first.ensures.ok) joined.0) in
    let a = node_of c.args.self.now.file.now c.args.draft.now.net _ _ (drafted c.args.draft.now).refs c.res-res.result.first c.in_ok-first.first c.requires.upto.refs first_ref in
    let second_ref = (subst (λ (o : Option ℕ). IsRef c.args.self.now.file.now (drafted c.args.draft.now).refs.words c.res-res.result.second o) (sym c.spelling_of-2.ensures ∙ c.in_ok-second.ensures.ok) joined.1) in
    let b = node_of c.args.self.now.file.now c.args.draft.now.net _ _ (drafted c.args.draft.now).refs c.res-res.result.second c.in_ok-second.second c.requires.upto.refs second_ref in
    word_named c.args.self.now.file.now c.args.draft.now.net _ _ (drafted c.args.draft.now).refs c.res-res.result.second c.in_ok-second.second c.requires.upto.refs second_ref

pub put_res-requires-clause-placed : goal.put_res-requires-clause-placed
put_res-requires-clause-placed g c = c.requires.upto.refs.placed

pub returns-clause-upto : goal.returns-clause-upto
returns-clause-upto g c =
    let joined = c.requires.joined c.res-res.result c.res-res.ensures in
    let first_ref = (subst (λ (o : Option ℕ). IsRef c.args.self.now.file.now (drafted c.args.draft.now).refs.words c.res-res.result.first o) (sym c.spelling_of.ensures ∙ c.in_ok-first.ensures.ok) joined.0) in
    let a = node_of c.args.self.now.file.now c.args.draft.now.net _ _ (drafted c.args.draft.now).refs c.res-res.result.first c.in_ok-first.first c.requires.upto.refs first_ref in
    let second_ref = (subst (λ (o : Option ℕ). IsRef c.args.self.now.file.now (drafted c.args.draft.now).refs.words c.res-res.result.second o) (sym c.spelling_of-2.ensures ∙ c.in_ok-second.ensures.ok) joined.1) in
    let b = node_of c.args.self.now.file.now c.args.draft.now.net _ _ (drafted c.args.draft.now).refs c.res-res.result.second c.in_ok-second.second c.requires.upto.refs second_ref in
    res_kept (corners_of g.C.CornerSet.COUNT g.C.CornerSet.number_of g.C.CornerSet.member_of c.args.self.now.pick) c.args.self.now.file.now c.args.self.now.head.now c.args.s c.args.i c.res-res.result (drafted c.args.draft.now) c.requires.upto c.res-res.ensures a.0 a.1 b.0 b.1 (drafted c.put_res.new.self) c.in_ok-first.first c.in_ok-second.second c.in_ok-value.value first_ref second_ref c.in_ok-put_res.ensures refl c.in_ok-value.ensures.ok

pub returns-clause-words : goal.returns-clause-words
returns-clause-words g c = put_res_words (corners_of g.C.CornerSet.COUNT g.C.CornerSet.number_of g.C.CornerSet.member_of c.args.self.now.pick) (drafted c.args.draft.now) (drafted c.put_res.new.self) c.in_ok-first.first c.in_ok-second.second c.in_ok-value.value c.in_ok-put_res.ensures
