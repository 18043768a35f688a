use Rattle.std.proofs.Common.{◌≡◌, ◌⊎◌, inl, refl}
use Rattle.spef_text.proofs.SectionOrder.{sections_in_order}
use Rattle.spef_nets.specs.Faults.{IsSectionEnd, IsLeastFault}
use Rattle.spef_nets.specs.declared.ends.SectionEnd.TheVariants.{OutOfMemory}
use Rattle.spef_nets.proofs.FaultOrder.{least_end}
use Rattle.spef_nets.proofs.Stepping.{handed_on}
use Rattle.spef_nets.proofs.reading.read_sections.Goals as goal

-- src/reading.rt
pub returns-in_err-push_all-clause-least : goal.returns-in_err-push_all-clause-least
returns-in_err-push_all-clause-least g c =
    handed_on c.from_residual-in_err-push_all.result c.in_err-push_all.field-0.0 (λ end. (end ≡ OutOfMemory) ⊎ IsLeastFault c.args.file.now c.args.head.now end) c.from_residual-in_err-push_all.ensures.1
    (least_end c.args.file.now c.args.head.now c.in_err-push_all.field-0.0 (sections_in_order c.args.file.now c.formed.ensures.formed) c.in_err-push_all.ensures.refused)

pub invariant_of-result : goal.invariant_of-result
invariant_of-result g c = c.in_ok-push_all.ensures.held

pub returns-in_err-nets-clause-refused : goal.returns-in_err-nets-clause-refused
returns-in_err-nets-clause-refused g c = handed_on c.from_residual.result OutOfMemory (IsSectionEnd c.args.file.now c.args.head.now) c.from_residual.ensures.1 tt

pub returns-in_err-nets-clause-least : goal.returns-in_err-nets-clause-least
returns-in_err-nets-clause-least g c =
    handed_on c.from_residual.result OutOfMemory (λ end. (end ≡ OutOfMemory) ⊎ IsLeastFault c.args.file.now c.args.head.now end) c.from_residual.ensures.1 (inl refl)

pub returns-in_err-tables-clause-refused : goal.returns-in_err-tables-clause-refused
returns-in_err-tables-clause-refused g c = handed_on c.from_residual-in_err-tables.result OutOfMemory (IsSectionEnd c.args.file.now c.args.head.now) c.from_residual-in_err-tables.ensures.1 tt

pub returns-in_err-tables-clause-least : goal.returns-in_err-tables-clause-least
returns-in_err-tables-clause-least g c =
    handed_on c.from_residual-in_err-tables.result OutOfMemory (λ end. (end ≡ OutOfMemory) ⊎ IsLeastFault c.args.file.now c.args.head.now end) c.from_residual-in_err-tables.ensures.1 (inl refl)
