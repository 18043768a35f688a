-- Indices that are spelled alike have the same digits.
use Rattle.std.proofs.Common.{sym, ap, ◌∙◌}
use Rattle.std.proofs.lemmas.Slice.Eq.{bytes_eq-Decides}
use Rattle.spef_text.specs.Classes.{index_digits}
use Rattle.spef_text.proofs.references.same_index.Goals as goal

pub returns-then-are_equal : goal.returns-then-are_equal
returns-then-are_equal c =
    let one = c.args.one.now in
    let other = c.args.other.now in
    let alike = (bytes_eq-Decides one other).0 (sym c.are_equal.ensures ∙ c.if-are_equal.true) in
    c.if-are_equal.true ∙ sym ((bytes_eq-Decides (index_digits one) (index_digits other)).1 (ap index_digits alike))
