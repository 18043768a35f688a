-- Where a file of a list stands by its name, when the list grows.
use Rattle.std.proofs.Common.{◌≡◌, ℕ, ◌<◌, Bool, true, false, cond, List, [], ◌∷◌, ◌++◌, reverse, take, drop, Option, Some, None, option_map, find, refl, ap, sym, ◌∙◌}
use Rattle.std.proofs.lemmas.List.{reverse-append, get_or_append_left}
use Rattle.std.specs.Str.{bytes_eq}
use Rattle.std.proofs.lemmas.Slice.Eq.{bytes_eq-Decides}
use Rattle.edge_io.specs.HeldFiles.{held_in, bytes_at, left_of, IsOpen}
use Rattle.edge_io.specs.MemShelf.{Puts}
use Rattle.edge_io.specs.declared.memory_shelf.HeldFile.{HeldFile}

-- the last file has its name; for every other name it does not count
pub held_in-push : (files : List HeldFile) (file : HeldFile) (name : List ℕ) → held_in (files ++ file ∷ []) name ≡ cond (bytes_eq file.name name) (Some file.bytes) (held_in files name)
held_in-push files file name =
    ap (λ list. option_map (λ (f : HeldFile). f.bytes) (find (λ (f : HeldFile). bytes_eq f.name name) list)) (reverse-append files (file ∷ []))
    ∙ elim (bytes_eq file.name name) as (λ b. option_map (λ (f : HeldFile). f.bytes) (cond b (Some file) (find (λ (f : HeldFile). bytes_eq f.name name) (reverse files))) ≡ cond b (Some file.bytes) (held_in files name)) [ true ↦ refl | false ↦ refl ]

-- among the first files: the place of the file of that name, if there is one
abbrev pub IsPlaceAmong : ℕ → List HeldFile → List ℕ → Option ℕ → Type 0
IsPlaceAmong count files name None = held_in (take count files) name ≡ None
IsPlaceAmong count files name (Some place) = (place < count) × (held_in (take count files) name ≡ Some (bytes_at files place))

-- a file that is put at the end is held under its name, and every other name keeps its bytes
pub puts_last : (files : List HeldFile) (name bytes : List ℕ) → Puts (held_in files) (held_in (files ++ record { name = name; bytes = bytes } ∷ [])) name bytes
puts_last files name bytes = record {
  named = held_in-push files record { name = name; bytes = bytes } name ∙ ap (λ b. cond b (Some bytes) (held_in files name)) ((bytes_eq-Decides name name).1 refl);
  others = λ other ne. held_in-push files record { name = name; bytes = bytes } other ∙ otherwise (bytes_eq name other) bytes (held_in files other) (λ same. ne (sym ((bytes_eq-Decides name other).0 same)));
} where
  otherwise : (b : Bool) (bytes : List ℕ) (held : Option (List ℕ)) → (b ≡ true → ⊥) → cond b (Some bytes) held ≡ held
  otherwise true bytes held differs = absurd (differs refl)
  otherwise false bytes held differs = refl

-- what is left of an open file stays when another is put at the end
pub left_of_push : (files : List HeldFile) (file : HeldFile) (place : Option ℕ) (at : ℕ) → IsOpen files place at → left_of (files ++ file ∷ []) place at ≡ left_of files place at
left_of_push files file None at is_open = refl
left_of_push files file (Some place) at is_open = ap (λ (f : HeldFile). drop at f.bytes) (get_or_append_left files (file ∷ []) record { name = []; bytes = [] } place is_open.0)
