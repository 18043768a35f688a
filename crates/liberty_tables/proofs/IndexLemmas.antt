-- The groups of one name among some groups, and one group more.
use Rattle.std.proofs.Common.{◌≡◌, ℕ, zero, suc, ◌+◌, ◌<◌, ◌⊎◌, inl, inr, Bool, true, false, cond, ◌&&◌, List, [], ◌∷◌, ◌++◌, length, take, Option, Some, None, Contains, All, length-append, refl, sym, ap, ◌∙◌, subst, arith}
use Rattle.std.specs.Prelude.{slice_get}
use Rattle.std.specs.List.{find}
use Rattle.std.specs.Str.{bytes_eq}
use Rattle.std.proofs.lemmas.List.Elements.{All-nil, All-cons, All-append, Contains-append_left, Contains-push}
use Rattle.std.proofs.lemmas.Slice.Eq.{bytes_eq-Decides}
use Rattle.liberty_groups.specs.Groups.{Group, groups_of}
use Rattle.liberty_groups.specs.Tables.{Tables, group_at, IsGroup}
use Rattle.liberty_groups.specs.declared.rows.GroupId.{GroupId}
use Rattle.liberty_tables.specs.GroupIndex.{arg_of, AreIndexed, Adds, is_held, is_added}
use Rattle.liberty_tables.specs.Library.{is_named, first_arg, is_text, is_for, group_for}
use Rattle.liberty_tables.proofs.Fronts.{front_at}

stays : {X : Type 0} (p : X → Bool) (xs ys : List X) (x : X) → find p xs ≡ Some x → find p (xs ++ ys) ≡ Some x
stays p [] ys x e = absurd (cc)
stays p (y ∷ xs) ys x e = by (p y) (stays p xs ys x) e
  where
    by : (here : Bool) → (find p xs ≡ Some x → find p (xs ++ ys) ≡ Some x) → cond here (Some y) (find p xs) ≡ Some x → cond here (Some y) (find p (xs ++ ys)) ≡ Some x
    by true rest e = e
    by false rest e = rest e

pushed : {X : Type 0} (p : X → Bool) (xs : List X) (y : X) → find p xs ≡ None → find p (xs ++ y ∷ []) ≡ cond (p y) (Some y) None
pushed p [] y e = refl
pushed p (x ∷ xs) y e = by (p x) (pushed p xs y) e
  where
    by : (here : Bool) → (find p xs ≡ None → find p (xs ++ y ∷ []) ≡ cond (p y) (Some y) None) → cond here (Some x) (find p xs) ≡ None → cond here (Some x) (find p (xs ++ y ∷ [])) ≡ cond (p y) (Some y) None
    by true rest e = absurd (cc)
    by false rest e = rest e

got_push : {X : Type 0} (xs : List X) (x y : X) (k : ℕ) → slice_get (xs ++ x ∷ []) k ≡ Some y → (slice_get xs k ≡ Some y) ⊎ ((k ≡ length xs) × (x ≡ y))
got_push [] x y zero e = inr (refl, cc)
got_push [] x y (suc k) e = absurd (cc)
got_push (z ∷ xs) x y zero e = inl e
got_push (z ∷ xs) x y (suc k) e = elim (got_push xs x y k e) [ inl got ↦ inl got | inr end ↦ inr (let l = end.0 in omega (arith, l), end.1) ]

got_within : {X : Type 0} (xs : List X) (x : X) (k : ℕ) → slice_get xs k ≡ Some x → k < length xs
got_within [] x k e = absurd (cc)
got_within (y ∷ xs) x zero e = omega arith
got_within (y ∷ xs) x (suc k) e = let h = got_within xs x k e in omega (arith, h)

-- ---- a group by its first argument

-- a group of a name and a first argument, by its first argument
for_by : (name arg : List ℕ) (inner : Group) → is_for name arg inner ≡ is_text arg (arg_of name inner)
for_by name arg inner = by (is_named name inner) (first_arg inner)
  where
    by : (named : Bool) (first : Option (List ℕ)) → (named && is_text arg first) ≡ is_text arg (cond named first None)
    by true first = refl
    by false first = refl

other_arg : (name arg other : List ℕ) (inner : Group) → arg_of name inner ≡ Some other → (other ≡ arg → ⊥) → is_for name arg inner ≡ false
other_arg name arg other inner is differs = for_by name arg inner ∙ ap (is_text arg) is ∙ otherwise (bytes_eq other arg) (λ same. differs ((bytes_eq-Decides other arg).0 same))
  where
    otherwise : (b : Bool) → (b ≡ true → ⊥) → b ≡ false
    otherwise true differs = absurd (differs refl)
    otherwise false differs = refl

same_arg : (name arg : List ℕ) (inner : Group) → arg_of name inner ≡ Some arg → is_for name arg inner ≡ true
same_arg name arg inner is = for_by name arg inner ∙ ap (is_text arg) is ∙ (bytes_eq-Decides arg arg).1 refl

no_arg : (name arg : List ℕ) (inner : Group) → arg_of name inner ≡ None → is_for name arg inner ≡ false
no_arg name arg inner none = for_by name arg inner ∙ ap (is_text arg) none

none_more : (name arg : List ℕ) (groups : List Group) (last : Group) → find (is_for name arg) groups ≡ None → is_for name arg last ≡ false → find (is_for name arg) (groups ++ last ∷ []) ≡ None
none_more name arg groups last none other = pushed (is_for name arg) groups last none ∙ ap (λ b. cond b (Some last) None) other

-- no group yet
pub none_indexed : (tree : Tables) (name : List ℕ) (args : List (List ℕ)) (ids : List GroupId) → args ≡ [] → ids ≡ [] → AreIndexed tree name [] args ids
none_indexed tree name args ids no_arg no_id = record {
  even = ap length no_id ∙ sym (ap length no_arg);
  held = λ place arg id at here. absurd (cc);
  absent = λ arg none. refl;
  within = subst (All (λ (id : GroupId). IsGroup tree id.0)) (sym no_id) (All-nil (λ (id : GroupId). IsGroup tree id.0));
}

-- a group that has another name, or no argument
pub passed_over : (tree : Tables) (name : List ℕ) (groups : List Group) (args : List (List ℕ)) (ids : List GroupId) (last : Group) → AreIndexed tree name groups args ids → arg_of name last ≡ None → AreIndexed tree name (groups ++ last ∷ []) args ids
passed_over tree name groups args ids last so_far none = record {
  even = so_far.even;
  held = λ place arg id at here. stays (is_for name arg) groups (last ∷ []) (group_at tree id.0) (so_far.held place arg id at here);
  absent = λ arg out. none_more name arg groups last (so_far.absent arg out) (no_arg name arg last none);
  within = so_far.within;
}

-- a group that is added
pub added : (tree : Tables) (name : List ℕ) (groups : List Group) (last : GroupId) (args : List (List ℕ)) (ids : List GroupId) (arg : List ℕ) (args' : List (List ℕ)) (ids' : List GroupId)
    → IsGroup tree last.0 → arg_of name (group_at tree last.0) ≡ Some arg → AreIndexed tree name groups args ids → Adds arg last args ids args' ids'
    → AreIndexed tree name (groups ++ group_at tree last.0 ∷ []) args' ids'
added tree name groups last args ids arg args' ids' within is so_far (is_held held same_args same_ids) =
    let more = groups ++ group_at tree last.0 ∷ [] in
    subst (λ a. AreIndexed tree name more a ids') (sym same_args) (subst (AreIndexed tree name more args) (sym same_ids) record {
      even = so_far.even;
      held = λ place other id at here. stays (is_for name other) groups (group_at tree last.0 ∷ []) (group_at tree id.0) (so_far.held place other id at here);
      absent = λ other out. none_more name other groups (group_at tree last.0) (so_far.absent other out)
          (other_arg name other arg (group_at tree last.0) is (λ same. out (subst (Contains args) same held)));
      within = so_far.within;
    })
added tree name groups last args ids arg args' ids' within is so_far (is_added out more_args more_ids) =
    let more = groups ++ group_at tree last.0 ∷ [] in
    subst (λ a. AreIndexed tree name more a ids') (sym more_args) (subst (AreIndexed tree name more (args ++ arg ∷ [])) (sym more_ids) record {
      even = length-append ids (last ∷ []) ∙ ap (λ (n : ℕ). n + 1) so_far.even ∙ sym (length-append args (arg ∷ []));
      held = λ place other id at here. elim (got_push args arg other place at) [
        | inl old ↦ elim (got_push ids last id place here) [
          | inl before ↦ stays (is_for name other) groups (group_at tree last.0 ∷ []) (group_at tree id.0) (so_far.held place other id old before)
          | inr end ↦ (let below = got_within args other place old in let even = so_far.even in let l = end.0 in absurd (omega (arith, below, even, l)))
        ]
        | inr end ↦ elim (got_push ids last id place here) [
          | inl before ↦ (let below = got_within ids id place before in let even = so_far.even in let l = end.0 in absurd (omega (arith, below, even, l)))
          | inr also ↦ subst (λ a. find (is_for name a) more ≡ Some (group_at tree id.0)) end.1 (subst (λ (i : GroupId). find (is_for name arg) more ≡ Some (group_at tree i.0)) also.1 newest)
        ]
      ];
      absent = λ other none. none_more name other groups (group_at tree last.0) (so_far.absent other (λ among. none (Contains-append_left args (arg ∷ []) other among)))
          (other_arg name other arg (group_at tree last.0) is (λ same. none (subst (Contains (args ++ arg ∷ [])) same (Contains-push args arg))));
      within = All-append (λ (id : GroupId). IsGroup tree id.0) ids (last ∷ []) so_far.within (All-cons (λ (id : GroupId). IsGroup tree id.0) last [] within (All-nil (λ (id : GroupId). IsGroup tree id.0)));
    })
  where
    newest : find (is_for name arg) (groups ++ group_at tree last.0 ∷ []) ≡ Some (group_at tree last.0)
    newest = pushed (is_for name arg) groups (group_at tree last.0) (so_far.absent arg out) ∙ ap (λ b. cond b (Some (group_at tree last.0)) None) (same_arg name arg (group_at tree last.0) is)

-- the same of one group after another
pub taken : (tree : Tables) (name : List ℕ) (groups : List Group) (place : ℕ) (last : Group) (args : List (List ℕ)) (ids : List GroupId) → slice_get groups place ≡ Some last
    → AreIndexed tree name (take place groups ++ last ∷ []) args ids → AreIndexed tree name (take (place + 1) groups) args ids
taken tree name groups place last args ids at are = subst (λ gs. AreIndexed tree name gs args ids) (sym (front_at groups place last at)) are

-- ---- what is found

pub found_first : (tree : Tables) (name : List ℕ) (outer : Group) (args : List (List ℕ)) (ids : List GroupId) (place : ℕ) (arg : List ℕ) (id : GroupId) → AreIndexed tree name (groups_of outer) args ids
    → slice_get args place ≡ Some arg → slice_get ids place ≡ Some id → group_for name arg outer ≡ Some (group_at tree id.0)
unfolding group_for
found_first tree name outer args ids place arg id are at here = are.held place arg id at here

pub absent_first : (tree : Tables) (name : List ℕ) (outer : Group) (args : List (List ℕ)) (ids : List GroupId) (arg : List ℕ) → AreIndexed tree name (groups_of outer) args ids → ¬ Contains args arg → group_for name arg outer ≡ None
unfolding group_for
absent_first tree name outer args ids arg are out = are.absent arg out
