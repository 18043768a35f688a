use Rattle.std.proofs.Common.{◌≡◌, ℕ, ℤ, List, ◌*◌, length, subst, sym}
use Rattle.nldm_lookup.specs.Tables.{IsTableFault, value_count, no_memory}
use Rattle.nldm_lookup.specs.declared.faults.TableFault.TheVariants.{ValueCount}
use Rattle.nldm_lookup.proofs.table.Table.new.Goals as goal

counted : (slew load : List ℕ) (values : List ℤ) (a b : ℕ) → a ≡ length slew → b ≡ length load → (length values ≡ a * b → ⊥) → IsTableFault slew load values (ValueCount (a * b) (length values))
counted slew load values a b same other =
    subst (λ n. (length values ≡ n * b → ⊥) → IsTableFault slew load values (ValueCount (n * b) (length values))) (sym same)
    (subst (λ m. (length values ≡ length slew * m → ⊥) → IsTableFault slew load values (ValueCount (length slew * m) (length values))) (sym other) (λ wrong. value_count wrong))

pub returns-then-values-want-clause-refused : goal.returns-then-values-want-clause-refused
returns-then-values-want-clause-refused c = counted c.args.slew c.args.load c.args.values.now c.len.result c.len-2.result c.len.ensures.len c.len-2.ensures.len c.if-values-want.true

pub returns-in-Err-clause-refused : goal.returns-in-Err-clause-refused
returns-in-Err-clause-refused c = no_memory
