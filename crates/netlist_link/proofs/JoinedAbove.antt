-- What the connections of an instance without a fault join to the names of its module.
use Rattle.std.proofs.Common.{◌≡◌, ℕ, zero, suc, ◌<◌, Bool, true, false, if◌then◌else◌, List, [], ◌∷◌, ◌++◌, length, get_or, Option, Some, None, inl, inr, refl, sym, ap, ◌∙◌, subst, arith}
use Rattle.std.specs.Prelude.{slice_get, flat_map}
use Rattle.std.specs.Option.{option_and_then}
use Rattle.std.specs.Str.{bytes_eq}
use Rattle.std.specs.List.{filter_map, cons_option}
use Rattle.std.proofs.lemmas.Bool.Decides.{eqb_tells}
use Rattle.std.proofs.lemmas.Option.{none-some, same_Some}
use Rattle.std.proofs.lemmas.Slice.Eq.{bytes_eq-Decides}
use Rattle.hierarchy.specs.Walks.{Met, is_module, entered}
use Rattle.verilog_netlist.specs.NetModules.{NetModule, NetConnection, no_connection, bits_in}
use Rattle.verilog_netlist.specs.declared.runs.Bit.{Bit}
use Rattle.netlist_link.specs.FlatBits.{some_bits, joined_to}
use Rattle.netlist_link.specs.LinkEnds.{bits_faults}
use Rattle.netlist_link.specs.declared.ends.LinkEnd.TheVariants as refused
use Rattle.netlist_link.proofs.Joining.{find_at}

no_bits : (bits : List Bit) → length bits ≡ 0 → some_bits bits ≡ None
no_bits [] is = refl
no_bits (b ∷ bits) is = absurd (omega arith)

few_bits : (bits : List Bit) → 0 < length bits → some_bits bits ≡ Some bits
few_bits [] below = absurd (omega arith)
few_bits (b ∷ bits) below = refl

text_fails : (port text : List ℕ) → (text ≡ port → ⊥) → bytes_eq port text ≡ false
text_fails port text never = by (bytes_eq port text) refl
  where
    by : (b : Bool) → bytes_eq port text ≡ b → bytes_eq port text ≡ false
    by true same = absurd (never (sym ((bytes_eq-Decides port text).0 same)))
    by false same = same

abbrev at : List NetConnection → ℕ → NetConnection
at connections c = get_or connections c no_connection

pub joined_none : (connections : List NetConnection) (port : List ℕ)
    → ((c : ℕ) → c < length connections → (at connections c).port ≡ port → length (bits_in (at connections c).runs) ≡ 0)
    → joined_to connections port ≡ None
joined_none [] port none = refl
joined_none (x ∷ xs) port none = by (bytes_eq port x.port) refl (joined_none xs port (λ c below same. none (suc c) (omega arith) same))
  where
    by : (b : Bool) → bytes_eq port x.port ≡ b → joined_to xs port ≡ None → joined_to (x ∷ xs) port ≡ None
    by true is rest = rw is (no_bits (bits_in x.runs) (none 0 (omega arith) (sym ((bytes_eq-Decides port x.port).0 is))))
    by false is rest = rw is rest

pub joined_some : (connections : List NetConnection) (port : List ℕ) (c : ℕ) → c < length connections → (at connections c).port ≡ port
    → ((i : ℕ) → i < c → (at connections i).port ≡ port → ⊥) → 0 < length (bits_in (at connections c).runs)
    → joined_to connections port ≡ Some (bits_in (at connections c).runs)
joined_some connections port c below is other few =
    ap (option_and_then (λ (connection : NetConnection). some_bits (bits_in connection.runs)))
    (find_at (λ (connection : NetConnection). bytes_eq port connection.port) connections c no_connection below
    ((bytes_eq-Decides port (at connections c).port).1 (sym is)) (λ i less. text_fails port (at connections i).port (other i less)))
    ∙ few_bits (bits_in (at connections c).runs) few

front_none : {X : Type 0} (a b : List X) → a ++ b ≡ [] → a ≡ []
front_none [] b is = refl
front_none (x ∷ a) b is = absurd (let n = ap length is in omega arith)

back_none : {X : Type 0} (a b : List X) → a ++ b ≡ [] → b ≡ []
back_none [] b is = is
back_none (x ∷ a) b is = absurd (let n = ap length is in omega arith)

pub none_in : {X Y : Type 0} (f : X → List Y) (xs : List X) (i : ℕ) (x : X) → flat_map f xs ≡ [] → slice_get xs i ≡ Some x → f x ≡ []
none_in f [] i x is here = absurd (none-some x here)
none_in f (y ∷ xs) zero x is here = subst (λ z. f z ≡ []) (same_Some y x here) (front_none (f y) (flat_map f xs) is)
none_in f (y ∷ xs) (suc i) x is here = none_in f xs i x (back_none (f y) (flat_map f xs) is) here

pub width_fits : (instance port : List ℕ) (w bits : ℕ) → bits_faults instance port (record { width = w; is_taken = true }) bits ≡ [] → 0 < bits → bits ≡ w
width_fits instance port w bits is few = elim (eqb_tells bits 0) [
  | inl (_, none) ↦ absurd (omega arith)
  | inr (some, _) ↦ elim (eqb_tells bits w) [
    | inl (_, same) ↦ same
    | inr (other, _) ↦
        (let there : bits_faults instance port (record { width = w; is_taken = true }) bits ≡ refused.Width instance port w bits ∷ [] = rw (some, other) refl in
        let n = ap length (sym there ∙ is) in absurd (omega arith))
  ]
]

module _ (modules : List NetModule) (top : ℕ) where
  -- an instance of a module that is met, by which a module is visited
  pub record IsEntered (mets : List Met) (path : List ℕ) : Type 0 where
    pub met : Met
    pub place : ℕ
    pub here : slice_get mets place ≡ Some met
    pub is : is_module modules top met ≡ true
    pub path_is : met.instance ∷ met.path ≡ path

  pub entered_met : (mets : List Met) (u : ℕ) → u < length (filter_map (entered modules top) mets)
      → IsEntered mets (get_or (filter_map (entered modules top) mets) u [])
  entered_met [] u below = absurd (omega arith)
  entered_met (met ∷ mets) u below = by (is_module modules top met) refl (entered_met mets) u below
    where
      into : Bool → Option (List ℕ)
      into is = if is then Some (met.instance ∷ met.path) else None

      rest : List (List ℕ)
      rest = filter_map (entered modules top) mets

      later : (path : List ℕ) → IsEntered mets path → IsEntered (met ∷ mets) path
      later path h = record { met = h.met; place = suc h.place; here = h.here; is = h.is; path_is = h.path_is }

      by : (is : Bool) → is_module modules top met ≡ is → ((u : ℕ) → u < length rest → IsEntered mets (get_or rest u [])) → (u : ℕ) → u < length (cons_option (into is) rest)
          → IsEntered (met ∷ mets) (get_or (cons_option (into is) rest) u [])
      by true is behind zero below = record { met = met; place = 0; here = refl; is = is; path_is = refl }
      by true is behind (suc u) below = later (get_or rest u []) (behind u (omega arith))
      by false is behind u below = later (get_or rest u []) (behind u below)
