use Rattle.std.proofs.Common.{ℕ, subst}
use Rattle.std.specs.Prelude.{Option, Some}
use Rattle.spef_nets.specs.RefsOf.{refs_of}
use Rattle.spef_nets.specs.Drafts.{Refers}
use Rattle.spef_nets.proofs.Referring.{Referred, refers, word_within}
use Rattle.spef_nets.proofs.source.Source.joined_at.Goals as goal

-- src/section_reading.rt
known : (c : goal.After-join-arg-1) → Referred c.args.self.now.file.now c.args.net.now c.requires.refs.0 c.requires.refs.1 c.args.token (refs_of c.args.refs.now) (refs_of c.spelling_at.new.refs) (Some c.in-Some.spelling)
known c =
    refers c.args.self.now.file.now c.args.net.now c.requires.refs.0 c.requires.refs.1 c.args.token (refs_of c.args.refs.now) (refs_of c.spelling_at.new.refs) (Some c.in-Some.spelling) c.requires.refs.2
    (subst (λ (w : Option ℕ). Refers c.args.self.now.file.now c.args.net.now c.args.token (refs_of c.args.refs.now) (refs_of c.spelling_at.new.refs) w) c.in-Some.is c.in_ok-spelling.ensures)

pub join-requires-clause-within : goal.join-requires-clause-within
join-requires-clause-within c =
    word_within c.args.self.now.file.now c.args.net.now c.requires.refs.0 c.requires.refs.1 (refs_of c.spelling_at.new.refs) c.args.token c.in-Some.spelling (known c).are (known c).ref

pub join-requires-clause-placed : goal.join-requires-clause-placed
join-requires-clause-placed c = (known c).are.placed
