use Rattle.std.proofs.Common.{◌≡◌, ℕ, List, [], ◌∷◌, ◌++◌, sym, ap, ◌∙◌, subst}
use Rattle.std.specs.Prelude.{Contains}
use Rattle.spef_nets.specs.Nodes.{net_at}
use Rattle.spef_nets.specs.Faults.{IsUnknownAt, IsSectionEnd}
use Rattle.spef_nets.specs.Drafts.{corners_of, IsUnless}
use Rattle.spef_nets.specs.declared.ends.SectionEnd.{SectionEnd}
use Rattle.spef_nets.specs.declared.ends.SectionEnd.TheVariants.{RepeatedNet}
use Rattle.spef_nets.proofs.Stepping.{handed_on}
use Rattle.spef_nets.proofs.ReadingLemmas.{section_end, unknown_net, refused_net, new_net, read_more}
use Rattle.spef_nets.proofs.reading.read_behind.Goals as goal

-- src/reading.rt
pub returns-in_err-put_net-clause-refused : goal.returns-in_err-put_net-clause-refused
returns-in_err-put_net-clause-refused g c =
    handed_on c.from_residual.result c.in_err-put_net.field-0.0 (IsSectionEnd c.args.source.now.file.now c.args.source.now.head.now) c.from_residual.ensures.1
    (section_end (corners_of g.C.CornerSet.COUNT g.C.CornerSet.number_of g.C.CornerSet.member_of c.args.source.now.pick) c.args.source.now.file.now c.args.source.now.head.now c.args.nets.now c.requires.reading c.len-place.result c.len-place.ensures c.requires.left c.in_err-put_net.field-0.0
    (unknown_net (corners_of g.C.CornerSet.COUNT g.C.CornerSet.number_of g.C.CornerSet.member_of c.args.source.now.pick) c.args.source.now.file.now c.args.source.now.head.now c.args.nets.now c.requires.reading c.len-place.result c.len-place.ensures c.requires.left c.in_err-put_net.field-0.0
    (subst (λ (t : ℕ). IsUnless (IsUnknownAt c.args.source.now.file.now t) c.in_err-put_net.field-0.0) c.net_token-token.ensures c.in_err-put_net.ensures.err)))

pub returns-in_err-number_net-clause-refused : goal.returns-in_err-number_net-clause-refused
returns-in_err-number_net-clause-refused g c =
    handed_on c.from_residual-in_err-number_net.result c.in_err-number_net.field-0.0 (IsSectionEnd c.args.source.now.file.now c.args.source.now.head.now) c.from_residual-in_err-number_net.ensures.1
    (section_end (corners_of g.C.CornerSet.COUNT g.C.CornerSet.number_of g.C.CornerSet.member_of c.args.source.now.pick) c.args.source.now.file.now c.args.source.now.head.now c.args.nets.now c.requires.reading c.len-place.result c.len-place.ensures c.requires.left c.in_err-number_net.field-0.0
    (refused_net (corners_of g.C.CornerSet.COUNT g.C.CornerSet.number_of g.C.CornerSet.member_of c.args.source.now.pick) c.args.source.now.file.now c.args.source.now.head.now c.args.nets.now c.requires.reading c.len-place.result c.len-place.ensures c.requires.left
    c.put_net.new.net (ap (net_at c.args.source.now.file.now) (sym c.net_token-token.ensures) ∙ c.in_ok-put_net.ensures.ok) c.in_err-number_net.field-0.0
    (subst (λ (t : ℕ). IsUnless (λ (end : SectionEnd). Contains c.args.nets.now c.put_net.new.net × (end ≡ RepeatedNet c.put_net.new.net t)) c.in_err-number_net.field-0.0) c.net_token-token.ensures c.in_err-number_net.ensures.err)))

pub read_section-requires-clause-net : goal.read_section-requires-clause-net
read_section-requires-clause-net g c = ap (net_at c.args.source.now.file.now) (sym c.net_token-token.ensures) ∙ c.in_ok-put_net.ensures.ok

pub read_section-requires-clause-new : goal.read_section-requires-clause-new
read_section-requires-clause-new g c =
    new_net (corners_of g.C.CornerSet.COUNT g.C.CornerSet.number_of g.C.CornerSet.member_of c.args.source.now.pick) c.args.source.now.file.now c.args.source.now.head.now c.args.nets.now c.requires.reading c.len-place.result c.len-place.ensures c.requires.left
    c.put_net.new.net (ap (net_at c.args.source.now.file.now) (sym c.net_token-token.ensures) ∙ c.in_ok-put_net.ensures.ok) c.in_ok-number_net.ensures.new

pub returns-in_err-read_section-clause-refused : goal.returns-in_err-read_section-clause-refused
returns-in_err-read_section-clause-refused g c =
    handed_on c.from_residual-in_err-read_section.result c.in_err-read_section.field-0.0 (IsSectionEnd c.args.source.now.file.now c.args.source.now.head.now) c.from_residual-in_err-read_section.ensures.1
    (section_end (corners_of g.C.CornerSet.COUNT g.C.CornerSet.number_of g.C.CornerSet.member_of c.args.source.now.pick) c.args.source.now.file.now c.args.source.now.head.now c.args.nets.now c.requires.reading c.len-place.result c.len-place.ensures c.requires.left c.in_err-read_section.field-0.0 c.in_err-read_section.ensures.err)

pub returns-clause-reading : goal.returns-clause-reading
returns-clause-reading g c =
    read_more (corners_of g.C.CornerSet.COUNT g.C.CornerSet.number_of g.C.CornerSet.member_of c.args.source.now.pick) c.args.source.now.file.now c.args.source.now.head.now c.args.nets.now c.requires.reading c.len-place.result c.len-place.ensures c.requires.left
    c.put_net.new.net (ap (net_at c.args.source.now.file.now) (sym c.net_token-token.ensures) ∙ c.in_ok-put_net.ensures.ok) c.number_net.new.nets c.in_ok-read_section.ensures.faultless c.in_ok-number_net.ensures.put

pub returns-clause-put : goal.returns-clause-put
returns-clause-put g c = c.in_ok-number_net.ensures.put ∙ ap (λ (n : List ℕ). c.args.nets.now ++ n ∷ []) (sym c.in_ok-read_section.ensures.net)
