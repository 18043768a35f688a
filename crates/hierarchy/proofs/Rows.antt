-- The modules of the instances of a module, one instance more.
use Rattle.std.proofs.Common.{◌≡◌, ℕ, ◌+◌, ◌<◌, ◌≤◌, List, [], ◌∷◌, ◌++◌, length, sym, ap, ◌∙◌, arith, if◌then◌else◌}
use Rattle.std.proofs.lemmas.List.{append-nil}
use Rattle.std.proofs.lemmas.Bool.{lt-ltb, le-ltb}
use Rattle.verilog_netlist.specs.NetModules.{NetModule}
use Rattle.hierarchy.specs.Hierarchy.{lower_of}
use Rattle.hierarchy.specs.Walks.{joined_from}
use Rattle.hierarchy.specs.Lowers.{lower_item}
use Rattle.hierarchy.proofs.Joining.{joined-more}

module _ (modules : List NetModule) (m k : ℕ) (row row' : List ℕ) (so_far : row ≡ joined_from (lower_item modules m) 0 k) where
  more : joined_from (lower_item modules m) 0 (k + 1) ≡ row ++ lower_item modules m k
  more = let e : 0 + k ≡ k = omega arith in
      joined-more (lower_item modules m) 0 k ∙ ap (λ j. joined_from (lower_item modules m) 0 k ++ lower_item modules m j) e
      ∙ ap (λ xs. xs ++ lower_item modules m k) (sym so_far)

  pub row_more : (lower : ℕ) → lower ≡ lower_of modules m k → lower < length modules → row' ≡ row ++ lower ∷ []
      → row' ≡ joined_from (lower_item modules m) 0 (k + 1)
  row_more lower is within pushed =
      let small : lower_of modules m k < length modules = omega arith in
      let item : lower_item modules m k ≡ lower_of modules m k ∷ [] =
      ap (λ b. if b then lower_of modules m k ∷ [] else []) (lt-ltb (lower_of modules m k) (length modules) small) in
      pushed ∙ ap (λ l. row ++ l ∷ []) is ∙ ap (λ xs. row ++ xs) (sym item) ∙ sym more

  pub row_same : length modules ≤ lower_of modules m k → row' ≡ row → row' ≡ joined_from (lower_item modules m) 0 (k + 1)
  row_same past same =
      let item : lower_item modules m k ≡ [] =
      ap (λ b. if b then lower_of modules m k ∷ [] else []) (le-ltb (lower_of modules m k) (length modules) past) in
      same ∙ sym (append-nil row) ∙ ap (λ xs. row ++ xs) (sym item) ∙ sym more
