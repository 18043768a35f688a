-- The trees of rows.
use Rattle.std.proofs.Common.{◌≡◌, ℕ, zero, suc, ◌+◌, ◌<◌, List, [], ◌∷◌, ◌++◌, length, map, get_or, refl, sym, ap, ◌∙◌, subst, arith, append-nil, append_assoc}
use Rattle.std.specs.List.{All}
use Rattle.std.proofs.lemmas.List.{get_or_append_left, get_or_at, length-append}
use Rattle.liberty_groups.specs.Groups.{Group, group, Groups, no_group, and_group, list_of, groups_of}
use Rattle.liberty_groups.specs.Tables.{Row, Tables, nothing, gathered, tree_in, trees_behind, trees_of, group_at, AreBehindFrom, AreBehind}

abbrev pub no_row : Row
no_row = record { name = []; args = []; attributes = []; children = [] }

length_push : {A : Type 0} (xs : List A) (x : A) → length (xs ++ x ∷ []) ≡ length xs + 1
length_push xs x = length-append xs (x ∷ [])

-- rows behind others leave the trees in front
pub kept : (trees : List Group) (rows : List Row) (n : ℕ) → n < length trees → get_or (trees_behind trees rows) n nothing ≡ get_or trees n nothing
kept trees [] n lt = refl
kept trees (row ∷ rows) n lt =
    kept (trees ++ tree_in trees row ∷ []) rows n (let e = length_push trees (tree_in trees row) in omega arith)
    ∙ get_or_append_left trees (tree_in trees row ∷ []) nothing n lt

-- groups are gathered alike where they have the same trees
pub alike : (some other : List Group) (before : Groups) (numbers : List ℕ) (bound : ℕ) → All (λ (n : ℕ). n < bound) numbers
    → ((n : ℕ) → n < bound → get_or some n nothing ≡ get_or other n nothing) → gathered some before numbers ≡ gathered other before numbers
alike some other before [] bound all same = refl
alike some other before (n ∷ numbers) bound all same =
    ap (λ (g : Group). gathered some (and_group before g) numbers) (same n (all 0 n (omega arith)))
    ∙ alike some other (and_group before (get_or other n nothing)) numbers bound (λ k d lt. all (suc k) d (omega arith)) same

pub same_tree : (some other : List Group) (row : Row) (bound : ℕ) → All (λ (n : ℕ). n < bound) row.children
    → ((n : ℕ) → n < bound → get_or some n nothing ≡ get_or other n nothing) → tree_in some row ≡ tree_in other row
same_tree some other row bound all same = ap (group row.name row.args row.attributes) (alike some other no_group row.children bound all same)

-- the tree of a row, from those of all
pub tree_here : (trees : List Group) (rows : List Row) (i : ℕ) → AreBehindFrom (length trees) rows → i < length rows
    → get_or (trees_behind trees rows) (length trees + i) nothing ≡ tree_in (trees_behind trees rows) (get_or rows i no_row)
tree_here trees [] i order lt = absurd (omega arith)
tree_here trees (row ∷ rows) zero (all, order) lt =
    let more : List Group = trees ++ tree_in trees row ∷ [] in
    let long = length_push trees (tree_in trees row) in
    subst (λ (n : ℕ). get_or (trees_behind more rows) n nothing ≡ tree_in (trees_behind more rows) row) (omega arith)
    (kept more rows (length trees) (omega arith)
    ∙ get_or_at trees (tree_in trees row) [] nothing (length trees) refl
    ∙ same_tree trees (trees_behind more rows) row (length trees) all
    (λ n lt_n. sym (kept more rows n (omega arith) ∙ get_or_append_left trees (tree_in trees row ∷ []) nothing n lt_n)))
tree_here trees (row ∷ rows) (suc i) (all, order) lt =
    let more : List Group = trees ++ tree_in trees row ∷ [] in
    let long = length_push trees (tree_in trees row) in
    subst (λ (n : ℕ). get_or (trees_behind more rows) n nothing ≡ tree_in (trees_behind more rows) (get_or rows i no_row)) (omega arith)
    (tree_here more rows i (subst (λ (n : ℕ). AreBehindFrom n rows) (sym long) order) (omega arith))

pub group_here : (tables : Tables) (i : ℕ) → AreBehind tables.rows → i < length tables.rows
    → group_at tables i ≡ tree_in (trees_of tables.rows) (get_or tables.rows i no_row)
group_here tables i order lt =
    subst (λ (n : ℕ). get_or (trees_of tables.rows) n nothing ≡ tree_in (trees_of tables.rows) (get_or tables.rows i no_row)) (omega arith) (tree_here [] tables.rows i order lt)

-- the groups in a group, as a list
list_gathered : (trees : List Group) (before : Groups) (numbers : List ℕ)
    → list_of (gathered trees before numbers) ≡ list_of before ++ map (λ (n : ℕ). get_or trees n nothing) numbers
list_gathered trees before [] = sym (append-nil (list_of before))
list_gathered trees before (n ∷ numbers) =
    list_gathered trees (and_group before (get_or trees n nothing)) numbers
    ∙ append_assoc (list_of before) (get_or trees n nothing ∷ []) (map (λ (n : ℕ). get_or trees n nothing) numbers)

pub groups_here : (trees : List Group) (row : Row) → groups_of (tree_in trees row) ≡ map (λ (n : ℕ). get_or trees n nothing) row.children
groups_here trees row = list_gathered trees no_group row.children

-- one row more
pub one_more_tree : (trees : List Group) (rows : List Row) (row : Row) → trees_behind trees (rows ++ row ∷ []) ≡ trees_behind trees rows ++ tree_in (trees_behind trees rows) row ∷ []
one_more_tree trees [] row = refl
one_more_tree trees (first ∷ rows) row = one_more_tree (trees ++ tree_in trees first ∷ []) rows row

pub tree_count : (trees : List Group) (rows : List Row) → length (trees_behind trees rows) ≡ length trees + length rows
tree_count trees [] = sym (omega arith)
tree_count trees (row ∷ rows) = let e = tree_count (trees ++ tree_in trees row ∷ []) rows in let l = length_push trees (tree_in trees row) in omega arith

-- what each row comes behind
pub children_before : (number : ℕ) (rows : List Row) (i : ℕ) → AreBehindFrom number rows → i < length rows → All (λ (n : ℕ). n < number + i) (get_or rows i no_row).children
children_before number [] i order lt = absurd (omega arith)
children_before number (row ∷ rows) zero (all, order) lt = subst (λ (m : ℕ). All (λ (n : ℕ). n < m) row.children) (omega arith) all
children_before number (row ∷ rows) (suc i) (all, order) lt =
    subst (λ (m : ℕ). All (λ (n : ℕ). n < m) (get_or rows i no_row).children) (omega arith) (children_before (number + 1) rows i order (omega arith))

pub one_more_behind : (number : ℕ) (rows : List Row) (row : Row) → AreBehindFrom number rows → All (λ (n : ℕ). n < number + length rows) row.children → AreBehindFrom number (rows ++ row ∷ [])
one_more_behind number [] row order all = (subst (λ (m : ℕ). All (λ (n : ℕ). n < m) row.children) (omega arith) all, _)
one_more_behind number (first ∷ rows) row (before, order) all =
    (before, one_more_behind (number + 1) rows row order (subst (λ (m : ℕ). All (λ (n : ℕ). n < m) row.children) (omega arith) all))
