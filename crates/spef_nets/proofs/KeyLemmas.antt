-- Keys of the table of nodes, and words that are borrowed.
use Rattle.std.proofs.Common.{◌≡◌, ℕ, ◌+◌, Bool, true, false, not, cond, ◌||◌, if◌then◌else◌, List, [], ◌∷◌, ◌++◌, length, map, refl, sym, ap, ◌∙◌, arith}
use Rattle.std.specs.Prelude.{Some, slice_get}
use Rattle.std.proofs.Common.{Bor}
use Rattle.std.specs.List.{list_any, position_or_len}
use Rattle.indexmap.specs.IndexSet.{insert_key}
use Rattle.name_table.specs.NodeKeys.{Key, same_key}
use Rattle.spef_nets.specs.Refs.{IsInterned, held, added}
use Rattle.spef_nets.proofs.Lists.{map_at}
use Rattle.spef_nets.proofs.RefLemmas.{same_key_is}

past : (key : Key) (keys : List Key) → list_any (same_key key) keys ≡ false → position_or_len (same_key key) keys ≡ length keys
past key [] e = refl
past key (first ∷ keys) e = by (past key keys) (same_key key first) refl e
  where
    by : (list_any (same_key key) keys ≡ false → position_or_len (same_key key) keys ≡ length keys) → (here : Bool) → same_key key first ≡ here → (here || list_any (same_key key) keys) ≡ false
        → position_or_len (same_key key) (first ∷ keys) ≡ length (first ∷ keys)
    by rest true is h = absurd (cc)
    by rest false is h =
        let tail : position_or_len (same_key key) keys ≡ length keys = rest h in
        ap (λ b. cond (not b) (1 + position_or_len (same_key key) keys) 0) is ∙ ap (λ n. 1 + n) tail ∙ omega arith

pub interned : (keys after : List Key) (key : Key) (place : ℕ) → after ≡ insert_key same_key keys key → place ≡ position_or_len (same_key key) keys
    → (stored : Key) × (slice_get after place ≡ Some stored) × (same_key key stored ≡ true)
    → IsInterned keys after key place
interned keys after key place is at (stored, stands, same) = by (list_any (same_key key) keys) refl
  where
    by : (any : Bool) → list_any (same_key key) keys ≡ any → IsInterned keys after key place
    by true e =
        let stay : after ≡ keys = is ∙ ap (λ b. if b then keys else keys ++ key ∷ []) e in
        held stay (ap (λ ks. slice_get ks place) (sym stay) ∙ stands ∙ ap Some (sym (same_key_is key stored same)))
    by false e = added (is ∙ ap (λ b. if b then keys else keys ++ key ∷ []) e) (at ∙ past key keys e) e

-- what stands at a number among the words that are borrowed
pub stands_is : (keys : List (Bor (List ℕ))) (number : ℕ) (kept : Bor (List ℕ)) (word : List ℕ) → Some kept ≡ slice_get keys number → kept.now ≡ word → slice_get (map (λ key. key.now) keys) number ≡ Some word
stands_is keys number kept word stands same = map_at (λ (key : Bor (List ℕ)). key.now) keys number kept (sym stands) ∙ ap Some same
