-- What a shelf holds, and what opening and reading say of it.
use Rattle.std.specs.Prelude.{◌≡◌, ℕ, ◌<◌, List, [], ◌++◌, length, take, drop, Option, Some, None, IsSome}

-- the bytes of each file that is held, by its name
abbrev pub Held : Type 0
Held = List ℕ → Option (List ℕ)

-- it tells that it does not hold the name
abbrev pub TellsMissing : Option Held → List ℕ → Type 0
TellsMissing None name = ⊥
TellsMissing (Some held) name = held name ≡ None

-- the file of that name is open with all of its bytes left; nothing is said of a shelf that does not tell
abbrev pub Opens : Option Held → List ℕ → Option (List ℕ) → Type 0
Opens None name left = Unit {0}
Opens (Some held) name left = (held name ≡ left) × IsSome left

-- the first bytes of the piece were the first of what was left, and none only at the end
pub record TakesFront (count : ℕ) (piece left left' : List ℕ) : Type 0 where
  pub joined : left ≡ take count piece ++ left'
  pub ends : count ≡ 0 → 0 < length piece → left ≡ []

-- a read of so many bytes into the piece, told or not
abbrev pub ReadsFront : ℕ → List ℕ → Option (List ℕ) → Option (List ℕ) → Type 0
ReadsFront count piece None after = after ≡ None
ReadsFront count piece (Some left) None = ⊥
ReadsFront count piece (Some left) (Some left') = TakesFront count piece left left'

-- the file of that name has these bytes
abbrev pub HoldsFile : Option Held → List ℕ → List ℕ → Type 0
HoldsFile None name bytes = Unit {0}
HoldsFile (Some held) name bytes = held name ≡ Some bytes

-- the file of that name has more bytes than that
abbrev pub HoldsMore : Option Held → List ℕ → ℕ → Type 0
HoldsMore None name limit = Unit {0}
HoldsMore (Some held) name limit = (bytes : List ℕ) × (held name ≡ Some bytes) × (limit < length bytes)

-- of the file of that name just this many bytes were taken
abbrev pub Took : Option Held → List ℕ → ℕ → Option (List ℕ) → Type 0
Took None name count left = Unit {0}
Took (Some held) name count left = (bytes : List ℕ) × (held name ≡ Some bytes) × (left ≡ Some (drop count bytes))
