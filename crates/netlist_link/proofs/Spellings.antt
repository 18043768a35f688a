-- The spellings of names, which are not kept as long as they are the texts.
use Rattle.std.proofs.Common.{◌≡◌, ℕ, ◌<◌, ◌≤◌, List, [], ◌∷◌, ◌++◌, length, refl, sym, ap, ◌∙◌, arith}
use Rattle.netlist_link.specs.InstanceNames.{spelled_or}

pub none_kept : (texts kept : List (List ℕ)) → length kept ≤ 0 → kept ≡ []
none_kept texts [] none = refl
none_kept texts (first ∷ others) none = absurd (omega (arith, none))

pub some_kept : (texts kept : List (List ℕ)) → 0 < length kept → spelled_or texts kept ≡ kept
some_kept texts [] some = absurd (omega (arith, some))
some_kept texts (first ∷ others) some = refl

pub one_kept : (texts kept : List (List ℕ)) (spelling : List ℕ) → spelled_or texts (kept ++ spelling ∷ []) ≡ kept ++ spelling ∷ []
one_kept texts [] spelling = refl
one_kept texts (first ∷ others) spelling = refl

pub all_alike : (texts kept : List (List ℕ)) → length kept ≤ 0 → spelled_or texts kept ≡ texts
all_alike texts [] none = refl
all_alike texts (first ∷ others) none = absurd (omega (arith, none))

-- a name that is spelled as it is, where no spelling is kept
pub alike_push : (texts after kept : List (List ℕ)) (name : List ℕ) → kept ≡ [] → after ≡ texts ++ name ∷ []
    → spelled_or after kept ≡ spelled_or texts kept ++ name ∷ []
alike_push texts after kept name none is =
    ap (spelled_or after) none ∙ is ∙ ap (λ (l : List (List ℕ)). l ++ name ∷ []) (sym (ap (spelled_or texts) none))

-- a spelling behind those that are kept by now
pub kept_push : (texts after kept all now : List (List ℕ)) (spelling : List ℕ) → all ≡ spelled_or texts kept → now ≡ all ++ spelling ∷ []
    → spelled_or after now ≡ spelled_or texts kept ++ spelling ∷ []
kept_push texts after kept all now spelling are is =
    ap (spelled_or after) is ∙ one_kept after all spelling ∙ ap (λ (l : List (List ℕ)). l ++ spelling ∷ []) are
