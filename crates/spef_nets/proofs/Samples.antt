-- What the definitions say of small values and nodes.
use Rattle.std.proofs.Common.{◌≡◌, ℕ, true, false, List, [], ◌∷◌, map, Some, None, refl, codes}
use Rattle.spef_text.specs.Entries.{Section, plain_head}
use Rattle.spef_text.specs.SpefFiles.{SpefText}
use Rattle.spef_nets.specs.Elements.{Grounded, connections, capacitances}
use Rattle.corner_set.specs.declared.pick.Pick.TheVariants.{Min, Typ, Max}
use Rattle.spef_nets.specs.Values.{triple_of, picked}
use Rattle.name_table.specs.NodeKeys.{same_key, same_node}
use Rattle.spef_nets.specs.Nodes.{named, belongs}

one_for_all : picked Max (triple_of (codes "1.5")) ≡ codes "1.5"
one_for_all = refl

first_is_min : picked Min (triple_of (codes "1:2.5:-3e2")) ≡ codes "1"
first_is_min = refl

second_is_typ : picked Typ (triple_of (codes "1:2.5:-3e2")) ≡ codes "2.5"
second_is_typ = refl

third_is_max : picked Max (triple_of (codes "1:2.5:-3e2")) ≡ codes "-3e2"
third_is_max = refl

same_however_written : same_node (record { head = codes "u"; tail = Some (codes "Z"); sdf = codes "u/Z" }) (record { head = codes "u"; tail = Some (codes "Z"); sdf = [] }) ≡ true
unfolding same_key
same_however_written = refl

tail_tells : same_node (record { head = codes "u"; tail = None; sdf = [] }) (record { head = codes "u"; tail = Some []; sdf = [] }) ≡ false
unfolding same_key
tail_tells = refl

-- a section of the net `n` with a coupling from a foreign node to one of its own, and one that is listed twice
small : SpefText
small = record {
  texts = codes "n" ∷ codes "a:1" ∷ codes "q:1" ∷ codes "n:2" ∷ codes "0.5" ∷ [];
  reading = record { head = plain_head; sections = [] };
}

small_section : Section
small_section = record {
  net = 1;
  conns = record { port = false; node = 2; direction = 73; load = None } ∷ record { port = true; node = 2; direction = 79; load = Some 5 } ∷ [];
  caps = record { first = 3; second = Some 4; value = 5 } ∷ record { first = 3; second = Some 3; value = 5 } ∷ record { first = 4; second = Some 2; value = 5 } ∷ [];
  ress = [];
}

heads : List Grounded → List (List ℕ)
heads caps = map (λ cap. cap.node.head) caps

far_node_first : heads (capacitances small small_section) ≡ codes "n" ∷ codes "n" ∷ codes "a" ∷ []
unfolding named belongs same_key heads small_section small
far_node_first = refl

first_listing_counts : map (λ conn. conn.direction) (connections small small_section) ≡ 73 ∷ []
unfolding named same_key small_section small
first_listing_counts = refl
