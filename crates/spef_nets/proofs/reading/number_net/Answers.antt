-- A net that has a section already is refused.
use Rattle.std.proofs.Common.{◌≡◌}
use Rattle.spef_nets.specs.Drafts.{IsUnless}
use Rattle.spef_nets.specs.declared.ends.SectionEnd.{SectionEnd}
use Rattle.spef_nets.specs.declared.ends.SectionEnd.TheVariants.{UnknownIndex, BadNumber, ValueTooLarge, RepeatedNet, ForeignCoupling, OutOfMemory}
use Rattle.spef_nets.proofs.reading.number_net.Goals as goal

-- what holds besides is said with it
unless_held : {P : Type 0} (other end : SectionEnd) → P → IsUnless (λ e. e ≡ other) end → IsUnless (λ e. P × (e ≡ other)) end
unless_held other OutOfMemory holds is = tt
unless_held other (UnknownIndex at) holds is = (holds, is)
unless_held other (BadNumber at) holds is = (holds, is)
unless_held other (ValueTooLarge at) holds is = (holds, is)
unless_held other (RepeatedNet net at) holds is = (holds, is)
unless_held other (ForeignCoupling net at) holds is = (holds, is)

-- src/reading.rt
pub returns-then-not-branch-clause-err : goal.returns-then-not-branch-clause-err
returns-then-not-branch-clause-err c =
    unless_held (RepeatedNet c.args.net.now c.args.token) c.repeated.result (c.in_ok-put.ensures.held c.if-not-branch.true) c.repeated.ensures
