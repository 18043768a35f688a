-- A name that is held changes nothing, and any other goes last.
use Rattle.std.proofs.Common.{◌≡◌, ℕ, Bool, true, false, List, [], ◌∷◌, ◌++◌, refl, sym, ◌∙◌, true≢false}
use Rattle.std.specs.Prelude.{Contains}
use Rattle.std.specs.List.{list_any}
use Rattle.std.specs.Str.{bytes_eq}
use Rattle.std.specs.Cmp.{decided}
use Rattle.std.proofs.lemmas.List.{append-nil}
use Rattle.std.proofs.lemmas.Map.Views.{list_any-from_Contains, Contains-from_any}
use Rattle.std.proofs.lemmas.Slice.Eq.{bytes_eq-Decides}
use Rattle.hierarchy.specs.InstanceCells.{Grows}
use Rattle.hierarchy.proofs.instance_cells.look_up.Goals as goal

grows_by : (names after : List (List ℕ)) (name : List ℕ) → (Contains names name → after ≡ names)
    → (¬ Contains names name → after ≡ names ++ name ∷ []) → Grows names after
grows_by names after name kept added = by (list_any (bytes_eq name) names) refl
  where
    by : (b : Bool) → list_any (bytes_eq name) names ≡ b → Grows names after
    by true e = record {
      more = [];
      are = kept (Contains-from_any {eq = bytes_eq} (λ x y. (bytes_eq-Decides x y).0) name names e) ∙ sym (append-nil names);
    }
    by false e = record {
      more = name ∷ [];
      are = added (λ h. true≢false (sym (list_any-from_Contains {eq = bytes_eq} (decided bytes_eq bytes_eq-Decides) name names h) ∙ e));
    }

pub returns-clause-grows : goal.returns-clause-grows
returns-clause-grows c = grows_by c.args.names.now c.intern.new.self c.args.name.now c.in_ok-id.ensures.kept c.in_ok-id.ensures.added
