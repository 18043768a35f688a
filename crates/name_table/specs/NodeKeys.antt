-- What makes a node of a SPEF file (IEEE 1481) the one that it is: its head and its tail, however they are written.
use Rattle.std.specs.Prelude.{ℕ, Bool, true, false, not, if◌then◌else◌, List, [], ◌∷◌, filter, Option, Some, None, option_to_list}
use Rattle.std.specs.List.{list_any}
use Rattle.std.specs.Str.{bytes_eq}
use Rattle.name_table.specs.declared.spef_names.NodeName.{NodeName}

pub record Key : Type 0 where
  pub head : List ℕ
  pub tail : Option (List ℕ)

abbrev pub key_of : NodeName → Key
key_of node = record { head = node.head; tail = node.tail }

abbrev pub same_tail : Option (List ℕ) → Option (List ℕ) → Bool
same_tail None None = true
same_tail None (Some other) = false
same_tail (Some one) None = false
same_tail (Some one) (Some other) = bytes_eq one other

unfoldable pub same_key : Key → Key → Bool
same_key one other = if bytes_eq one.head other.head then same_tail one.tail other.tail else false

-- the same head and the same tail are the same node
abbrev pub same_node : NodeName → NodeName → Bool
same_node one other = same_key (key_of one) (key_of other)

-- what a hash takes of a key: the head, and then the tail, if there is one
abbrev pub key_writes : Key → List (List ℕ)
key_writes key = key.head ∷ option_to_list key.tail

abbrev pub among : Key → List Key → Bool
among key keys = list_any (same_key key) keys

-- each item once, at its first place, by a test of which items are one
abbrev pub each_once : {X : Type 0} → (X → X → Bool) → List X → List X
each_once same [] = []
each_once same (item ∷ later) = item ∷ filter (λ other. not (same item other)) (each_once same later)
