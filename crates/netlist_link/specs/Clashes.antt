-- Names of which no two may be the same.
use Rattle.std.specs.Prelude.{◌≡◌, ℕ, List, map}
use Rattle.std.specs.Borrow.{Bor}
use Rattle.name_table.specs.Names.{AreDistinct}
use Rattle.hierarchy.specs.Walks.{cells_met}
use Rattle.netlist_link.specs.FlatNames.{net_text, instance_text}
use Rattle.netlist_link.specs.LinkEnds.{IsFirstClash}
use Rattle.netlist_link.specs.PathTables.{top_of}
use Rattle.netlist_link.specs.BitTables.{nets_of}
use Rattle.netlist_link.specs.Designs.{met_of}
use Rattle.netlist_link.specs.declared.checking.Design.{Design}
use Rattle.netlist_link.specs.declared.ends.LinkEnd.{LinkEnd}
use Rattle.netlist_link.specs.declared.ends.LinkEnd.TheVariants as refused

-- the names of the nets of a design, and of its instances of cells
abbrev pub texts_of_nets : Design → List (List ℕ)
texts_of_nets d = map (net_text d.modules.now (top_of d.walk.now)) (nets_of d)

abbrev pub texts_of_instances : Design → List (List ℕ)
texts_of_instances d = map (instance_text d.modules.now (top_of d.walk.now)) (cells_met d.modules.now (top_of d.walk.now))

-- the name of an instance that is met
abbrev pub text_of : Design → ℕ → List ℕ
text_of d i = instance_text d.modules.now (top_of d.walk.now) (met_of d i)

-- these texts are kept, and they differ
pub record AreNamed (texts kept : List (List ℕ)) : Type 0 where
  pub are : kept ≡ texts
  pub distinct : AreDistinct texts

-- the first clash of these texts, or want of memory
pub data IsClash (texts : List (List ℕ)) : LinkEnd → Type 0 where
  clash_is : (text : List ℕ) → IsFirstClash texts text → IsClash texts (refused.NameClash text)
  no_room_is : IsClash texts refused.OutOfMemory

-- the texts of borrowed bytes
abbrev pub texts_in : List (Bor (List ℕ)) → List (List ℕ)
texts_in borrowed = map (λ text. text.now) borrowed
