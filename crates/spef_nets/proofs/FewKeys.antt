-- A few nodes that are searched through, and those behind them.
use Rattle.std.proofs.Common.{◌≡◌, ℕ, ◌+◌, ◌<◌, true, false, ◌||◌, List, [], ◌∷◌, ◌++◌, length, take, get_or, refl, sym, ap, ◌∙◌, subst, arith, length-append}
use Rattle.std.specs.Prelude.{Some, slice_get}
use Rattle.std.proofs.lemmas.List.{take_more, append_assoc, append-nil}
use Rattle.std.proofs.lemmas.List.Folds.{list_any-append}
use Rattle.std.proofs.lemmas.Option.{slice_get-get_or}
use Rattle.name_table.specs.NodeKeys.{Key, same_key, among}
use Rattle.spef_nets.specs.Refs.{IsInterned, held, added}
use Rattle.spef_nets.proofs.Lists.{get_left, get_right}
use Rattle.spef_nets.proofs.RefLemmas.{same_key_is}

pub found_key : (few : List Key) (place : ℕ) (d key : Key) → place < length few → same_key key (get_or few place d) ≡ true → slice_get few place ≡ Some key
found_key few place d key within same = slice_get-get_or few place d within ∙ ap Some (sym (same_key_is key (get_or few place d) same))

pub none_among_more : (few : List Key) (place : ℕ) (d key : Key) → place < length few → same_key key (get_or few place d) ≡ false → among key (take place few) ≡ false → among key (take (place + 1) few) ≡ false
none_among_more few place d key within other before =
    ap (among key) (take_more few place d within) ∙ list_any-append (same_key key) (take place few) (get_or few place d ∷ [])
    ∙ ap (λ b. b || (same_key key (get_or few place d) || false)) before ∙ ap (λ b. b || false) other

pub held_among : (few behind : List Key) (key : Key) (place : ℕ) → slice_get few place ≡ Some key → IsInterned (few ++ behind) (few ++ behind) key place
held_among few behind key place at = held refl (get_left few behind place key at)

added_last : (few more : List Key) (key : Key) → more ≡ few ++ key ∷ [] → among key few ≡ false → IsInterned (few ++ []) (more ++ []) key (length few)
added_last few more key grows absent = added
    (append-nil more ∙ grows ∙ ap (λ l. l ++ key ∷ []) (sym (append-nil few)))
    (ap length (sym (append-nil few)))
    (ap (among key) (append-nil few) ∙ absent)

pub added_among : (few more behind : List Key) (key : Key) → behind ≡ [] → more ≡ few ++ key ∷ [] → among key few ≡ false → IsInterned (few ++ behind) (more ++ behind) key (length few)
added_among few more behind key none grows absent = subst (λ (l : List Key). IsInterned (few ++ l) (more ++ l) key (length few)) (sym none) (added_last few more key grows absent)

pub interned_behind : (few behind after : List Key) (key : Key) (place : ℕ) → among key few ≡ false → IsInterned behind after key place → IsInterned (few ++ behind) (few ++ after) key (place + length few)
interned_behind few behind after key place absent (held stay at) = held (ap (λ l. few ++ l) stay) ((let e : place + length few ≡ length few + place = omega arith in ap (slice_get (few ++ behind)) e) ∙ get_right few behind place ∙ at)
interned_behind few behind after key place absent (added grows last new) = added
    (ap (λ l. few ++ l) grows ∙ sym (append_assoc few behind (key ∷ [])))
    (let sum : length (few ++ behind) ≡ length few + length behind = length-append few behind in omega (arith, last, sum))
    (list_any-append (same_key key) few behind ∙ ap (λ b. b || among key behind) absent ∙ new)
