use Rattle.std.proofs.Common.{◌≡◌, ℕ, List, [], option_to_list, codes, ap, ◌∙◌, subst}
use Rattle.liberty_groups.specs.Tables.{tree_of}
use Rattle.liberty_tables.specs.Library.{value_in}
use Rattle.timing_arcs.specs.PinModel.{IsCapacitance, default_texts}
use Rattle.timing_arcs.proofs.SizeLemmas.{nothing_given}
use Rattle.timing_arcs.proofs.capacitances.default_capacitance.Goals as goal

pub returns-in-None-clause-some : goal.returns-in-None-clause-some
returns-in-None-clause-some c =
    let none : [] ≡ default_texts (tree_of c.args.tree.now) = ap option_to_list (c.in-None.ensures ∙ ap (value_in (codes "default_input_pin_cap")) c.root.ensures.tree) in
    subst (λ (texts : List (List ℕ)). IsCapacitance c.args.unit.now texts 0) none (nothing_given c.args.unit.now)
