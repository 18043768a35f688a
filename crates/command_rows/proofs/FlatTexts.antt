-- The line of an instance, by what the code has of it.
use Rattle.std.proofs.Common.{◌≡◌, ℕ, List, [], ◌∷◌, ◌++◌, get_or, Some, sym, ap, ap₂, ◌∙◌}
use Rattle.std.specs.Prelude.{slice_get, codes}
use Rattle.std.proofs.lemmas.Option.{get_or_from_slice_get}
use Rattle.cell_models.specs.NamedSets.{NamedCells, set_names}
use Rattle.netlist_link.specs.FlatNetlist.{FlatNetlist, instance_at}
use Rattle.design_phases.specs.DesignReading.{LinkedDesign}
use Rattle.command_rows.specs.FlatText.{instance_line}

pub instance_written : (design : LinkedDesign) (netlist : FlatNetlist) (cells : List NamedCells) (i cell : ℕ) (text name bytes : List ℕ) → netlist ≡ design.netlist → cells ≡ design.cells → text ≡ (instance_at netlist i).text
    → cell ≡ (instance_at netlist i).cell → slice_get (set_names cells) cell ≡ Some name → bytes ≡ name
    → codes "instance " ++ (text ++ (codes " " ++ (bytes ++ 10 ∷ []))) ≡ instance_line design (instance_at design.netlist i)
instance_written design netlist cells i cell text name bytes same are text_is cell_is named is =
    let its_text : text ≡ (instance_at design.netlist i).text = text_is ∙ ap (λ (n : FlatNetlist). (instance_at n i).text) same in
    let its_cell : cell ≡ (instance_at design.netlist i).cell = cell_is ∙ ap (λ (n : FlatNetlist). (instance_at n i).cell) same in
    let its_name : bytes ≡ get_or (set_names design.cells) (instance_at design.netlist i).cell [] =
    is ∙ sym (get_or_from_slice_get (set_names cells) cell name [] named) ∙ ap₂ (λ (c : List NamedCells) n. get_or (set_names c) n []) are its_cell in
    ap₂ (λ t b. codes "instance " ++ (t ++ (codes " " ++ (b ++ 10 ∷ [])))) its_text its_name
