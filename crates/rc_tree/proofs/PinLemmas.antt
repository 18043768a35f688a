-- A sink more among the pins of a net.
use Rattle.std.proofs.Common.{◌≡◌, ◌≢◌, ℕ, ◌+◌, ◌*◌, ◌≤◌, List, [], ◌∷◌, ◌++◌, map, length, drop, Result, Ok, Err, OnOk, OnErr, All, AllPairs, Contains, length-append, length-drop, length-take-le, add-mul, one-mul, sym, ◌∙◌, ap, subst, arith}
use Rattle.std.proofs.lemmas.List.{map_push, get_or_default}
use Rattle.std.proofs.lemmas.List.Elements.{All-append}
use Rattle.std.proofs.lemmas.List.Quantifiers.{all_pairs_push}
use Rattle.corner_set.specs.Places.{HasRow}
use Rattle.delay_units.specs.declared.quantities.Farads.{Farads}
use Rattle.name_table.specs.declared.spef_names.NodeName.{NodeName}
use Rattle.rc_tree.specs.Nodes.{node_of}
use Rattle.delay_units.specs.Bounds.{most_farads}
use Rattle.rc_tree.specs.Pins.{Pins, pin_nodes, row_of, AreSound}

length-row_of : (count : ℕ) (values : List Farads) (row : ℕ) → HasRow count values row → length (row_of count values row) ≡ count
length-row_of count values row has = length-take-le count (drop (row * count) values) (let rest = length-drop (row * count) values in omega (arith, rest, has))

pub sound_more : (count : ℕ) (pins : Pins) (sink : NodeName) (values : List Farads) (row : ℕ) → AreSound count pins → HasRow count values row → (Contains (pin_nodes pins) (node_of sink) → ⊥) → All (λ load. load.0 ≤ most_farads) (row_of count values row)
    → (sinks : List NodeName) (loads : List Farads) → sinks ≡ pins.sinks ++ sink ∷ [] → loads ≡ pins.loads ++ row_of count values row → AreSound count (record { driver = pins.driver; sinks = sinks; loads = loads })
sound_more count pins sink values row sound has other small sinks loads sinks_are loads_are = record {
  rows = let size = ap length loads_are ∙ length-append pins.loads (row_of count values row) in let more = length-row_of count values row has in let held = sound.rows in
      let sinks_size = ap length sinks_are ∙ length-append pins.sinks (sink ∷ []) in
      let product : length sinks * count ≡ length pins.sinks * count + count = ap (λ k. k * count) sinks_size ∙ add-mul (length pins.sinks) 1 count ∙ ap (λ k. length pins.sinks * count + k) (one-mul count) in
      omega (arith, size, more, held, product);
  apart = subst (λ ss. AllPairs (λ one two. one ≢ two) (node_of pins.driver ∷ map node_of ss)) (sym sinks_are)
      (subst (λ ns. AllPairs (λ one two. one ≢ two) (node_of pins.driver ∷ ns)) (sym (map_push node_of pins.sinks sink))
      (all_pairs_push (λ one two. one ≢ two) (pin_nodes pins) (node_of sink) sound.apart (λ k d below is. other (k, below, get_or_default (pin_nodes pins) k (node_of sink) d below ∙ is))));
  small = subst (All (λ load. load.0 ≤ most_farads)) (sym loads_are) (All-append (λ load. load.0 ≤ most_farads) pins.loads (row_of count values row) sound.small small);
}

-- the same whether there was memory or not
pub sound_after : {A E : Type 0} (r : Result A E) (count : ℕ) (pins : Pins) (sink : NodeName) (values : List Farads) (row : ℕ) → AreSound count pins → HasRow count values row → (Contains (pin_nodes pins) (node_of sink) → ⊥) → All (λ load. load.0 ≤ most_farads) (row_of count values row)
    → (sinks : List NodeName) (loads : List Farads) → OnOk r (sinks ≡ pins.sinks ++ sink ∷ []) → OnOk r (loads ≡ pins.loads ++ row_of count values row) → OnErr r (sinks ≡ pins.sinks) → OnErr r (loads ≡ pins.loads) → AreSound count (record { driver = pins.driver; sinks = sinks; loads = loads })
sound_after (Ok a) count pins sink values row sound has other small sinks loads sinks_are loads_are err_sinks err_loads = sound_more count pins sink values row sound has other small sinks loads sinks_are loads_are
sound_after (Err e) count pins sink values row sound has other small sinks loads sinks_are loads_are err_sinks err_loads =
    subst (λ s. AreSound count (record { driver = pins.driver; sinks = s; loads = loads })) (sym err_sinks) (subst (λ l. AreSound count (record { driver = pins.driver; sinks = pins.sinks; loads = l })) (sym err_loads) sound)

-- what holds of a list holds of the names that it leads to
pub named_more : {A E X Y : Type 0} (f : X → Y) (r : Result A E) (before after : List X) (x : X) → OnOk r (after ≡ before ++ x ∷ []) → OnOk r (map f after ≡ map f before ++ f x ∷ [])
named_more f (Ok a) before after x is = ap (map f) is ∙ map_push f before x
named_more f (Err e) before after x is = tt

pub named_same : {A E X Y : Type 0} (f : X → Y) (r : Result A E) (before after : List X) → OnErr r (after ≡ before) → OnErr r (map f after ≡ map f before)
named_same f (Ok a) before after is = tt
named_same f (Err e) before after is = ap (map f) is
