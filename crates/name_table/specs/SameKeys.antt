-- Keys that are found the same are one key; so they can be compared and hashed.
use Rattle.std.specs.Prelude.{◌≡◌, ℕ, Bool, true, false, List, Option, Some, None}
use Rattle.std.specs.Bool.{Decides}
use Rattle.std.specs.Cmp.{IsEquivalence, decided}
use Rattle.std.specs.Hash.{Alike, same_Alike}
use Rattle.std.specs.Str.{bytes_eq}
use Rattle.std.proofs.Common.{refl, sym, ap, ◌∙◌, cond, true≢false}
use Rattle.std.proofs.lemmas.Slice.Eq.{bytes_eq-Decides}
use Rattle.name_table.specs.NodeKeys.{Key, same_tail, same_key, key_writes}

same_tail_is : (one other : Option (List ℕ)) → same_tail one other ≡ true → one ≡ other
same_tail_is None None e = refl
same_tail_is None (Some b) e = absurd (true≢false (sym e))
same_tail_is (Some a) None e = absurd (true≢false (sym e))
same_tail_is (Some a) (Some b) e = ap Some ((bytes_eq-Decides a b).0 e)

tail_is_same : (one : Option (List ℕ)) → same_tail one one ≡ true
tail_is_same None = refl
tail_is_same (Some a) = (bytes_eq-Decides a a).1 refl

pub same_tail-Decides : (one other : Option (List ℕ)) → Decides (same_tail one other) (one ≡ other)
same_tail-Decides one other = (same_tail_is one other, λ e. ap (same_tail one) (sym e) ∙ tail_is_same one)

pub same_key_is : (one other : Key) → same_key one other ≡ true → one ≡ other
unfolding same_key
same_key_is one other e = by (bytes_eq one.head other.head) refl e
  where
    by : (same : Bool) → bytes_eq one.head other.head ≡ same → cond same (same_tail one.tail other.tail) false ≡ true → one ≡ other
    by true is e = λ i. record { head = (bytes_eq-Decides one.head other.head).0 is i; tail = same_tail_is one.tail other.tail e i }
    by false is e = absurd (true≢false (sym e))

pub key_is_same : (one : Key) → same_key one one ≡ true
unfolding same_key
key_is_same one = ap (λ b. cond b (same_tail one.tail one.tail) false) ((bytes_eq-Decides one.head one.head).1 refl) ∙ tail_is_same one.tail

pub same_key-Decides : (one other : Key) → Decides (same_key one other) (one ≡ other)
same_key-Decides one other = (same_key_is one other, λ e. ap (same_key one) (sym e) ∙ key_is_same one)

pub keys_equiv : IsEquivalence same_key
keys_equiv = decided same_key same_key-Decides

pub hashed_alike : Alike same_key key_writes
hashed_alike = same_Alike key_writes same_key-Decides
