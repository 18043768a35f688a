-- The net of the first bit of a connection.
use Rattle.std.proofs.Common.{◌≡◌, ℕ, ◌<◌, List, [], ◌∷◌, length, Option, Some, None, sym, subst, arith}
use Rattle.std.specs.Prelude.{slice_get}
use Rattle.std.proofs.lemmas.Option.{none-some, same_Some}
use Rattle.verilog_netlist.specs.NetModules.{module_at}
use Rattle.verilog_netlist.specs.SoundModules.{AreWithin}
use Rattle.verilog_netlist.specs.declared.runs.Bit.{Bit}
use Rattle.verilog_netlist.specs.declared.runs.Bit.TheVariants.{Tied, Wire}
use Rattle.hierarchy.specs.Walks.{visits}
use Rattle.netlist_link.specs.FlatPins.{wired, IsNumbered}
use Rattle.netlist_link.specs.PathTables.{top_of}
use Rattle.netlist_link.specs.BitTables.{module_of, IsBitIn}
use Rattle.netlist_link.specs.InstanceRows.{IsFirstNet}
use Rattle.netlist_link.specs.declared.checking.Design.{Design}

module _ (d : Design) where
  -- a bit within the ranges of a visited module's names
  pub bit_inside : (visit : ℕ) (bit : Bit) → visit < length (visits d.modules.now (top_of d.walk.now))
      → AreWithin (module_at d.modules.now (module_of d visit)).names bit 1 → IsBitIn d visit bit
  bit_inside visit Tied below is = tt
  bit_inside visit (Wire name bit) below is = record { visit_below = below; name_below = is.0; bit_below = (let fits = is.1 in omega arith) }

  pub first_is : (path : List ℕ) (bits : List Bit) (bit : Bit) (net : Option ℕ) → slice_get bits 0 ≡ Some bit
      → IsNumbered d.modules.now (top_of d.walk.now) (wired d.modules.now (top_of d.walk.now) path bit) net → IsFirstNet d path bits (Some net)
  first_is path [] bit net at is = absurd (none-some bit at)
  first_is path (first ∷ later) bit net at is =
      subst (λ (b : Bit). IsNumbered d.modules.now (top_of d.walk.now) (wired d.modules.now (top_of d.walk.now) path b) net) (sym (same_Some first bit at)) is

  pub none_first : (path : List ℕ) (bits : List Bit) → slice_get bits 0 ≡ None → IsFirstNet d path bits None
  none_first path [] at = tt
  none_first path (first ∷ later) at = absurd (none-some first (sym at))
