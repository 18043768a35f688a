-- The entry at a place of a table of names, where it has a name.
use Rattle.std.proofs.Common.{◌≡◌, ℕ, true, List, Some, subst}
use Rattle.std.specs.Prelude.{slice_get}
use Rattle.std.specs.Borrow.{Bor}
use Rattle.std.specs.Cmp.{IsEquivalence, decided, on_equiv}
use Rattle.std.specs.List.{IsDistinct}
use Rattle.std.specs.Map.{lookup, keys_of}
use Rattle.std.specs.Str.{bytes_eq}
use Rattle.std.proofs.lemmas.Map.Entries.{lookup_from_place}
use Rattle.std.proofs.lemmas.Slice.Eq.{bytes_eq-Decides}
use Rattle.name_table.proofs.Keys.{same_text}
use Rattle.netlist_link.proofs.Clashing.{borrowed}

texts_equiv : IsEquivalence (same_text borrowed)
texts_equiv = on_equiv borrowed (decided bytes_eq bytes_eq-Decides)

pub found_at : (entries : List (Bor (List ℕ) × ℕ)) (place : ℕ) (key : Bor (List ℕ)) (number : ℕ) (name : List ℕ)
    → IsDistinct (same_text borrowed) (keys_of entries) → slice_get entries place ≡ Some (key, number) → bytes_eq key.now name ≡ true
    → lookup (λ other. bytes_eq name other.now) entries ≡ Some number
found_at entries place key number name distinct here same =
    let is : key.now ≡ name = (bytes_eq-Decides key.now name).0 same in
    subst (λ (text : List ℕ). lookup (λ other. bytes_eq text other.now) entries ≡ Some number) is
    (lookup_from_place {eq = same_text borrowed} texts_equiv entries place key number distinct here)
