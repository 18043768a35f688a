-- Nets and constants by their numbers among the nets that are kept.
use Rattle.std.proofs.Common.{◌≡◌, ℕ, zero, suc, ◌<◌, List, [], ◌∷◌, ◌++◌, length, get_or, Option, Some, None, refl, ap, arith}
use Rattle.std.specs.Prelude.{slice_get}
use Rattle.std.proofs.lemmas.Option.{none-some}
use Rattle.netlist_link.specs.FlatBits.{NetBit}
use Rattle.netlist_link.specs.FlatBitTables.{IsKept, AreKept}

module _ (kept : List NetBit) where
  pub kept_append : (ts us : List (Option NetBit)) (ns ms : List (Option ℕ)) → AreKept kept ts ns → AreKept kept us ms
      → AreKept kept (ts ++ us) (ns ++ ms)
  kept_append [] us [] ms are more = more
  kept_append [] us (n ∷ ns) ms are more = absurd are
  kept_append (t ∷ ts) us [] ms are more = absurd are
  kept_append (t ∷ ts) us (n ∷ ns) ms are more = (are.0, kept_append ts us ns ms are.1 more)

  pub kept_count : (ts : List (Option NetBit)) (ns : List (Option ℕ)) → AreKept kept ts ns → length ns ≡ length ts
  kept_count [] [] are = refl
  kept_count [] (n ∷ ns) are = absurd are
  kept_count (t ∷ ts) [] are = absurd are
  kept_count (t ∷ ts) (n ∷ ns) are = ap suc (kept_count ts ns are.1)

  pub kept_read : (ts : List (Option NetBit)) (ns : List (Option ℕ)) (i : ℕ) → i < length ts → AreKept kept ts ns
      → IsKept kept (get_or ts i None) (get_or ns i None)
  kept_read [] ns i below are = absurd (omega arith)
  kept_read (t ∷ ts) [] i below are = absurd are
  kept_read (t ∷ ts) (n ∷ ns) zero below are = are.0
  kept_read (t ∷ ts) (n ∷ ns) (suc i) below are = kept_read ts ns i (omega arith) are.1

stays : (kept more : List NetBit) (n : ℕ) (net : NetBit) → slice_get kept n ≡ Some net → slice_get (kept ++ more) n ≡ Some net
stays [] more n net is = absurd (none-some net is)
stays (first ∷ kept) more zero net is = is
stays (first ∷ kept) more (suc n) net is = stays kept more n net is

pub kept_last : (kept : List NetBit) (net : NetBit) → slice_get (kept ++ net ∷ []) (length kept) ≡ Some net
kept_last [] net = refl
kept_last (first ∷ kept) net = kept_last kept net

module _ (kept more : List NetBit) where
  is_more : (t : Option NetBit) (n : Option ℕ) → IsKept kept t n → IsKept (kept ++ more) t n
  is_more None None is = is
  is_more None (Some n) is = absurd is
  is_more (Some t) None is = absurd is
  is_more (Some t) (Some n) is = stays kept more n t is

  -- with more nets the numbers stay
  pub kept_more : (ts : List (Option NetBit)) (ns : List (Option ℕ)) → AreKept kept ts ns → AreKept (kept ++ more) ts ns
  kept_more [] [] are = are
  kept_more [] (n ∷ ns) are = absurd are
  kept_more (t ∷ ts) [] are = absurd are
  kept_more (t ∷ ts) (n ∷ ns) are = (is_more t n are.0, kept_more ts ns are.1)
