-- Answers that are the same, but for what may be told freely.
use Rattle.std.specs.Prelude.{◌≡◌, ⊤}
use Rattle.rc_tree.specs.declared.ends.TreeEnd.{TreeEnd}
use Rattle.rc_tree.specs.declared.ends.TreeEnd.TheVariants as tree
use Rattle.net_parasitics.specs.declared.ends.ParasiticsEnd.{ParasiticsEnd}
use Rattle.net_parasitics.specs.declared.ends.ParasiticsEnd.TheVariants.{MissingNet, Tree, OutOfMemory}

-- the same end of a tree: a mesh by whichever resistor
abbrev pub IsSameTreeEnd : TreeEnd → TreeEnd → Type 0
IsSameTreeEnd (tree.StrangePin one) (tree.StrangePin other) = one ≡ other
IsSameTreeEnd tree.TooLarge tree.TooLarge = ⊤
IsSameTreeEnd (tree.Unreached one) (tree.Unreached other) = one ≡ other
IsSameTreeEnd (tree.Mesh one) (tree.Mesh other) = ⊤
IsSameTreeEnd _ _ = ⊥

-- the same end, but for where memory is short
abbrev pub IsSameEnd : ParasiticsEnd → ParasiticsEnd → Type 0
IsSameEnd OutOfMemory other = ⊤
IsSameEnd (MissingNet one) OutOfMemory = ⊤
IsSameEnd (Tree net end) OutOfMemory = ⊤
IsSameEnd (MissingNet one) (MissingNet other) = one ≡ other
IsSameEnd (Tree one some) (Tree other more) = (one ≡ other) × IsSameTreeEnd some more
IsSameEnd _ _ = ⊥
