-- The last attribute of a name, found from the front.
use Rattle.std.proofs.Common.{◌≡◌, ◌≢◌, ℕ, Bool, true, false, cond, List, [], ◌∷◌, ◌++◌, Option, Some, None, option_map, refl, sym, ap, ◌∙◌}
use Rattle.std.specs.Prelude.{IfSome, IfNone}
use Rattle.std.specs.Str.{bytes_eq}
use Rattle.std.proofs.lemmas.List.Elements.{All-head, All-tail}
use Rattle.std.proofs.lemmas.Slice.Eq.{bytes_eq-Decides}
use Rattle.liberty_groups.specs.Groups.{Attribute}
use Rattle.liberty_groups.specs.Tables.{IsLastOf, HasNone}
use Rattle.liberty_tables.specs.Attributes.{unless_later, values_of}

otherwise : (named : Bool) (values : List (List ℕ)) → (named ≡ true → ⊥) → cond named (Some values) None ≡ None
otherwise true values differs = absurd (differs refl)
otherwise false values differs = refl

other_name : (key : List ℕ) (attribute : Attribute) → attribute.name ≢ key → unless_later key attribute None ≡ None
other_name key attribute differs = otherwise (bytes_eq attribute.name key) attribute.values (λ same. differs ((bytes_eq-Decides attribute.name key).0 same))

this_name : (key : List ℕ) (attribute : Attribute) → attribute.name ≡ key → unless_later key attribute None ≡ Some attribute.values
this_name key attribute named = ap (λ b. cond b (Some attribute.values) None) ((bytes_eq-Decides attribute.name key).1 named)

-- where no attribute has the name there are no values
pub no_values : (key : List ℕ) (attributes : List Attribute) → HasNone key attributes → values_of key attributes ≡ None
no_values key [] none = refl
no_values key (attribute ∷ rest) none =
    let differs = All-head (λ (a : Attribute). a.name ≢ key) attribute rest none in
    let later = no_values key rest (All-tail (λ (a : Attribute). a.name ≢ key) attribute rest none) in
    ap (unless_later key attribute) later ∙ other_name key attribute differs

last_behind : (key : List ℕ) (before : List Attribute) (attribute : Attribute) (behind : List Attribute) → attribute.name ≡ key → HasNone key behind → values_of key (before ++ attribute ∷ behind) ≡ Some attribute.values
last_behind key [] attribute behind named none = ap (unless_later key attribute) (no_values key behind none) ∙ this_name key attribute named
last_behind key (first ∷ before) attribute behind named none = ap (unless_later key first) (last_behind key before attribute behind named none)

-- the last attribute of the name has the values
pub last_values : (key : List ℕ) (attributes : List Attribute) (attribute : Attribute) → IsLastOf key attributes attribute → values_of key attributes ≡ Some attribute.values
last_values key attributes attribute is = ap (values_of key) is.split ∙ last_behind key is.before attribute is.behind is.named is.last

-- the same of an attribute that was looked for
pub found_values : {A : Type 0} (of : A → Attribute) (key : List ℕ) (attributes : List Attribute) (found : Option A)
    → IfSome found (λ a. IsLastOf key attributes (of a)) → IfNone found (HasNone key attributes)
    → option_map (λ a. (of a).values) found ≡ values_of key attributes
found_values of key attributes None last none = sym (no_values key attributes none)
found_values of key attributes (Some a) last none = sym (last_values key attributes (of a) last)
