-- Numbers of names, which stay as names come behind them.
use Rattle.std.proofs.Common.{◌≡◌, ℕ, ◌+◌, ◌<◌, ◌≤◌, ⊎_elim, List, [], ◌∷◌, ◌++◌, length, map, get_or, Option, Some, None, sym, ap, ◌∙◌, subst, arith}
use Rattle.std.specs.Prelude.{slice_get, IfSome, IfNone}
use Rattle.std.proofs.lemmas.Bool.{cases_lt}
use Rattle.std.proofs.lemmas.Option.{slice_get_within, same_Some}
use Rattle.std.proofs.lemmas.List.{append-nil, append_assoc, map-append, length_push, get_or_append_left, get_or_at}
use Rattle.verilog_netlist.specs.NetModules.{NetModule, instance_at}
use Rattle.verilog_netlist.proofs.TableReading.{slice_get_before}
use Rattle.hierarchy.specs.Hierarchy.{module_named, instance_count}
use Rattle.hierarchy.specs.InstanceCells.{Grows, IsLowerNamed, HasNumbers, HaveRows, HaveLowers, CellTable, AreInstanceCells, HasInstance, number_at}

pub grows_same : (names : List (List ℕ)) → Grows names names
grows_same names = record { more = []; are = sym (append-nil names) }

pub grows_on : (first next last : List (List ℕ)) → Grows first next → Grows next last → Grows first last
grows_on first next last one other = record {
  more = one.more ++ other.more;
  are = other.are ∙ ap (λ (names : List (List ℕ)). names ++ other.more) one.are ∙ append_assoc first one.more other.more;
}

pub grown_at : (old new : List (List ℕ)) → Grows old new → (n : ℕ) (name : List ℕ) → slice_get old n ≡ Some name → slice_get new n ≡ Some name
grown_at old new grows n name here = subst (λ (names : List (List ℕ)). slice_get names n ≡ Some name) (sym grows.are)
    (slice_get_before old grows.more n (slice_get_within old n name here) ∙ here)

module _ (modules : List NetModule) where
  pub numbers_none : (names : List (List ℕ)) (m : ℕ) (row : List ℕ) → row ≡ [] → HasNumbers modules names m 0 row
  numbers_none names m row none = record { count = ap length none; each = λ k below. absurd (omega arith) }

  pub numbers_kept : (old new : List (List ℕ)) (m many : ℕ) (row : List ℕ) → Grows old new → HasNumbers modules old m many row
      → HasNumbers modules new m many row
  numbers_kept old new m many row grows has = record {
    count = has.count;
    each = λ k below. grown_at old new grows (get_or row k 0) (instance_at modules m k).cell (has.each k below);
  }

  -- an instance more
  pub numbers_more : (old new : List (List ℕ)) (m k : ℕ) (row row' : List ℕ) (number : ℕ) → HasNumbers modules old m k row → Grows old new
      → slice_get new number ≡ Some (instance_at modules m k).cell → row' ≡ row ++ number ∷ [] → HasNumbers modules new m (k + 1) row'
  numbers_more old new m k row row' number so_far grows here pushed =
      let kept = numbers_kept old new m k row grows so_far in
      let count = so_far.count in
      let longer = length_push row number in
      subst (HasNumbers modules new m (k + 1)) (sym pushed) (record {
        count = omega arith;
        each = λ j below. ⊎_elim
            (λ less. subst (λ (n : ℕ). slice_get new n ≡ Some (instance_at modules m j).cell)
            (sym (get_or_append_left row (number ∷ []) 0 j (omega (arith, less)))) (kept.each j less))
            (λ past. let same : k ≡ j = omega (arith, below, past) in
            subst (λ (i : ℕ). slice_get new (get_or (row ++ number ∷ []) i 0) ≡ Some (instance_at modules m i).cell) same
            (subst (λ (n : ℕ). slice_get new n ≡ Some (instance_at modules m k).cell) (sym (get_or_at row number [] 0 k count)) here))
            (cases_lt j k);
      })

  -- a module more
  pub rows_more : {X : Type 0} (items : X → List ℕ) (old new : List (List ℕ)) (m : ℕ) (rows rows' : List X) (row : X)
      → HaveRows modules old m (map items rows) → Grows old new → HasNumbers modules new m (instance_count modules m) (items row)
      → rows' ≡ rows ++ row ∷ [] → HaveRows modules new (m + 1) (map items rows')
  rows_more items old new m rows rows' row so_far grows here pushed =
      let all : map items rows' ≡ map items rows ++ items row ∷ [] = ap (map items) pushed ∙ map-append items rows (row ∷ []) in
      let count = so_far.count in
      let longer = length_push (map items rows) (items row) in
      subst (HaveRows modules new (m + 1)) (sym all) (record {
        count = omega arith;
        each = λ j below. ⊎_elim
            (λ less. subst (HasNumbers modules new j (instance_count modules j))
            (sym (get_or_append_left (map items rows) (items row ∷ []) [] j (omega (arith, less))))
            (numbers_kept old new j (instance_count modules j) (get_or (map items rows) j []) grows (so_far.each j less)))
            (λ past. let same : m ≡ j = omega (arith, below, past) in
            subst (λ (i : ℕ). HasNumbers modules new i (instance_count modules i) (get_or (map items rows ++ items row ∷ []) i [])) same
            (subst (HasNumbers modules new m (instance_count modules m)) (sym (get_or_at (map items rows) (items row) [] [] m count)) here))
            (cases_lt j m);
      })

  pub lower_is : (name : List ℕ) (lower : Option ℕ) → IfSome lower (λ m. m ≡ module_named modules name)
      → IfSome lower (λ m. m < length modules) → IfNone lower (length modules ≤ module_named modules name) → IsLowerNamed modules name lower
  lower_is name None named within none = none
  lower_is name (Some m) named within none = (named, within)

  -- a name more
  pub lowers_more : (names : List (List ℕ)) (n : ℕ) (lowers lowers' : List (Option ℕ)) (name : List ℕ) (lower : Option ℕ)
      → HaveLowers modules names n lowers → slice_get names n ≡ Some name → IsLowerNamed modules name lower
      → lowers' ≡ lowers ++ lower ∷ [] → HaveLowers modules names (n + 1) lowers'
  lowers_more names n lowers lowers' name lower so_far here is pushed =
      let count = so_far.count in
      let longer = length_push lowers lower in
      subst (HaveLowers modules names (n + 1)) (sym pushed) (record {
        count = omega arith;
        each = λ j other below there. ⊎_elim
            (λ less. subst (IsLowerNamed modules other) (sym (get_or_append_left lowers (lower ∷ []) None j (omega (arith, less))))
            (so_far.each j other less there))
            (λ past. let same : j ≡ n = omega (arith, below, past) in
            let name_is : name ≡ other = same_Some name other (sym here ∙ sym (ap (slice_get names) same) ∙ there) in
            subst (λ (i : ℕ). IsLowerNamed modules other (get_or (lowers ++ lower ∷ []) i None)) (sym same)
            (subst (IsLowerNamed modules other) (sym (get_or_at lowers lower [] None n count))
            (subst (λ (text : List ℕ). IsLowerNamed modules text lower) name_is is)))
            (cases_lt j n);
      })

-- an instance has a number in the table, which is that of a name
module _ (table : CellTable) (m k : ℕ) where
  pub number_there : (modules : List NetModule) → AreInstanceCells modules table → m < length modules → k < instance_count modules m
      → slice_get table.names (number_at table.rows m k) ≡ Some (instance_at modules m k).cell
  number_there modules are within place = (are.rows.each m within).each k place

  pub row_there : HasInstance table m k → m < length table.rows
  row_there has = let count = has.are.rows.count in omega (arith, has.within)

  pub place_there : HasInstance table m k → k < length (get_or table.rows m [])
  place_there has = let count = (has.are.rows.each m has.within).count in omega (arith, has.place)

  pub named_there : HasInstance table m k → number_at table.rows m k < length table.names
  named_there has = slice_get_within table.names (number_at table.rows m k) (instance_at has.modules m k).cell
      (number_there has.modules has.are has.within has.place)

  pub lower_there : HasInstance table m k → number_at table.rows m k < length table.lowers
  lower_there has = let below = named_there has in let count = has.are.lowers.count in omega arith

  -- and the module of this name
  pub lower_here : (modules : List NetModule) → AreInstanceCells modules table → m < length modules → k < instance_count modules m
      → IsLowerNamed modules (instance_at modules m k).cell (get_or table.lowers (number_at table.rows m k) None)
  lower_here modules are within place =
      let here = number_there modules are within place in
      are.lowers.each (number_at table.rows m k) (instance_at modules m k).cell (slice_get_within table.names (number_at table.rows m k) (instance_at modules m k).cell here) here

pub lower_named : (modules : List NetModule) (name : List ℕ) (lower : Option ℕ) → IsLowerNamed modules name lower
    → IfSome lower (λ m. m ≡ module_named modules name)
lower_named modules name None is = tt
lower_named modules name (Some m) is = is.0

pub lower_within : (modules : List NetModule) (name : List ℕ) (lower : Option ℕ) → IsLowerNamed modules name lower
    → IfSome lower (λ m. m < length modules)
lower_within modules name None is = tt
lower_within modules name (Some m) is = is.1

pub lower_none : (modules : List NetModule) (name : List ℕ) (lower : Option ℕ) → IsLowerNamed modules name lower
    → IfNone lower (length modules ≤ module_named modules name)
lower_none modules name None is = is
lower_none modules name (Some m) is = tt
