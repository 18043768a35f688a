-- What is answered for a file.
use Rattle.std.specs.Prelude.{◌≡◌, ℕ, List, Result, Ok, Err, ⊤}
use Rattle.token_fronts.specs.Reading.{Says}
use Rattle.liberty_groups.specs.Tokens.{AreTokens, IsToken}
use Rattle.liberty_groups.specs.Groups.{Group}
use Rattle.liberty_groups.specs.Grammar.{IsLiberty}
use Rattle.liberty_groups.specs.declared.faults.SyntaxFault.{SyntaxFault}
use Rattle.liberty_groups.specs.declared.faults.ParseEnd.{ParseEnd}
use Rattle.liberty_groups.specs.declared.faults.ParseEnd.TheVariants.{Syntax, OutOfMemory}

-- the bytes are a Liberty file, and it says this tree
abbrev pub SaysTree : List ℕ → Group → Type 0
SaysTree bytes tree = Says AreTokens IsToken IsLiberty bytes tree

-- where a fault is answered, it is so
abbrev pub IfSyntax : {A : Type 0} → Result A ParseEnd → (SyntaxFault → Type 0) → Type 0
IfSyntax (Ok answer) holds = ⊤
IfSyntax (Err (Syntax fault)) holds = holds fault
IfSyntax (Err OutOfMemory) holds = ⊤

-- the answer is this tree, unless memory ran out
abbrev pub Gives : {A : Type 0} → (A → Group) → Group → Result A ParseEnd → Type 0
Gives tree_of tree (Ok answer) = tree_of answer ≡ tree
Gives tree_of tree (Err (Syntax fault)) = ⊥
Gives tree_of tree (Err OutOfMemory) = ⊤
