-- An entry whose key is the name is what a look-up finds, since keys differ.
use Rattle.std.proofs.Common.{◌≡◌, ℕ, List, Some, sym, ◌∙◌, subst}
use Rattle.std.specs.Prelude.{slice_get}
use Rattle.std.specs.Borrow.{Bor}
use Rattle.netlist_link.proofs.PortFinding.{found_at}
use Rattle.netlist_link.proofs.port_numbers.PortNumbers.number_at.Goals as goal

pub returns-then-are_equal : goal.returns-then-are_equal
returns-then-are_equal c =
    let key = c.in_ok-other.other.now in
    let number = c.in_ok-other.number.now in
    found_at c.args.self.now.numbers.entries c.args.place key number c.args.name.now c.as_slice-entries.ensures.unique
    (subst (λ (entries : List (Bor (List ℕ) × ℕ)). slice_get entries c.args.place ≡ Some (key, number)) c.as_slice-entries.ensures.entries
    (sym c.in_ok-other.ensures.entry)) (sym c.are_equal.ensures ∙ c.if-are_equal.true)
