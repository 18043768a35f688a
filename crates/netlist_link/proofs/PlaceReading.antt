-- The place of a name, read from where it stands.
use Rattle.std.proofs.Common.{◌≡◌, ℕ, zero, suc, ◌+◌, ◌<◌, ◌≤◌, List, [], ◌∷◌, length, take, get_or, refl, sym, ap, ◌∙◌, subst, arith}
use Rattle.std.specs.Prelude.{slice_index, flat_map}
use Rattle.std.proofs.lemmas.List.{take_all}
use Rattle.std.proofs.lemmas.List.Concat.{get_or-flat_map}
use Rattle.std.proofs.lemmas.List.Folds.{length-flat_map-take}
use Rattle.verilog_netlist.specs.ModuleNames.{NetName}
use Rattle.verilog_netlist.specs.NetModules.{NetModule, module_at, no_module}
use Rattle.hierarchy.specs.Walks.{joined_from}
use Rattle.netlist_link.specs.NamePlaces.{bits_before, places_of_module, AreNamePlaces}
use Rattle.netlist_link.specs.declared.flat_bits.NamePlaces.{NamePlaces}

-- one item for each number
pub numbered : (f : ℕ → ℕ) (from n j : ℕ) → j < n → get_or (joined_from (λ k. f k ∷ []) from n) j 0 ≡ f (from + j)
numbered f from zero j below = absurd (omega arith)
numbered f from (suc n) zero below = let same : from ≡ from + 0 = omega arith in ap f same
numbered f from (suc n) (suc j) below =
    let same : suc from + j ≡ from + suc j = omega arith in
    numbered f (suc from) n j (omega arith) ∙ ap f same

pub length-numbered : (f : ℕ → ℕ) (from n : ℕ) → length (joined_from (λ k. f k ∷ []) from n) ≡ n
length-numbered f from zero = refl
length-numbered f from (suc n) = ap suc (length-numbered f (suc from) n)

module _ (modules : List NetModule) (places : NamePlaces) (are : AreNamePlaces modules places) (m name : ℕ) (below : m < length modules)
    (within : name ≤ length (module_at modules m).names) where
  abbrev names : List NetName
  names = (module_at modules m).names

  bits_are : places.bits.items ≡ flat_map places_of_module modules
  bits_are = are.bits_are ∙ ap (flat_map places_of_module) (take_all (length modules) modules (omega arith))

  long : length (places_of_module (module_at modules m)) ≡ length names + 1
  long = length-numbered (bits_before names) 0 (length names + 1)

  pub start_there : m < length places.starts.items
  start_there = let len = are.starts_len in omega arith

  pub place_there : slice_index places.starts.items m + name < length places.bits.items
  place_there =
      let start = are.starts_are m below in
      let len = ap length bits_are in
      let few : length (flat_map places_of_module (take m modules)) + length (places_of_module (module_at modules m)) ≤ length (flat_map places_of_module modules) =
      length-flat_map-take places_of_module modules m no_module below in
      let own = long in
      omega arith

  pub place_read : get_or places.bits.items (slice_index places.starts.items m + name) 0 ≡ bits_before names name
  place_read =
      ap (λ (n : ℕ). get_or places.bits.items (n + name) 0) (are.starts_are m below)
      ∙ ap (λ (l : List ℕ). get_or l (length (flat_map places_of_module (take m modules)) + name) 0) bits_are
      ∙ get_or-flat_map places_of_module modules m name no_module 0 below (subst (λ (n : ℕ). name < n) (sym long) (omega arith))
      ∙ numbered (bits_before names) 0 (length names + 1) name (omega arith)
      ∙ (let same : 0 + name ≡ name = omega arith in ap (bits_before names) same)
