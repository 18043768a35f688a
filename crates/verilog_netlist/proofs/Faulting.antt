-- The least of the first faults of each kind.
use Rattle.std.proofs.Common.{◌≡◌, ℕ, ◌+◌, ◌<◌, ◌≤◌, Bool, true, false, nat_lt, ◌==◌, ◌⊎◌, inl, inr, List, Option, Some, None, refl, sym, ap, subst, arith, if◌then◌else◌, ap₂, ◌∙◌}
use Rattle.std.proofs.lemmas.Bool.{cases_eq, ltb-true, ltb-false}
use Rattle.verilog_netlist.specs.Firsts.{IsFirst}
use Rattle.verilog_netlist.specs.Namespaces.{IsRepeated}
use Rattle.verilog_netlist.specs.Directions.{IsUnpaired}
use Rattle.verilog_netlist.specs.Ranges.{IsBadRange}
use Rattle.verilog_netlist.specs.Faults.{HasFault, rank_of, ComesBefore, IsFirstFault, FindsFault, or_earlier}
use Rattle.verilog_netlist.specs.declared.entries.Entry.{Entry}
use Rattle.verilog_netlist.specs.declared.faults.FirstFault.{FirstFault}
use Rattle.verilog_netlist.specs.declared.faults.NameFault.{NameFault}
use Rattle.verilog_netlist.specs.declared.faults.NameFault.TheVariants as fault
use Rattle.std.proofs.lemmas.Option.{same_Some}

module _ (Q : NameFault → ℕ → Type 0) where
  -- the least fault of the kinds before this rank
  pub record IsLeastOf (n : ℕ) (first : FirstFault) : Type 0 where
    pub is : Q first.fault first.place
    pub rank : rank_of first.fault < n
    pub least : (k : NameFault) (p : ℕ) → rank_of k < n → Q k p → ComesBefore first k p

  abbrev pub IsLeast : ℕ → Option FirstFault → Type 0
  IsLeast n None = (k : NameFault) (p : ℕ) → rank_of k < n → Q k p → ⊥
  IsLeast n (Some first) = IsLeastOf n first

  pub none_least : IsLeast 0 None
  none_least k p below q = absurd (omega arith)

  module _ (n : ℕ) (next : NameFault) (rank : rank_of next ≡ n) (split : (k : NameFault) → rank_of k < n + 1 → (rank_of k < n) ⊎ (k ≡ next)) where
    no_later : (place p : ℕ) → (p < place → ⊥) → (place < p) ⊎ (place ≡ p)
    no_later place p never = elim (cases_eq place p) [
      | inl at ↦ inr at
      | inr other ↦ inl (by (nat_lt p place) refl other)
    ]
      where
        by : (b : Bool) → nat_lt p place ≡ b → (place ≡ p → ⊥) → place < p
        by true less other = absurd (never (ltb-true p place less))
        by false more other = let m = ltb-false p place more in omega arith

    -- the first of this kind is no later than another of this kind
    own : (place : ℕ) → ((before : ℕ) → before < place → Q next before → ⊥) → (k : NameFault) (p : ℕ) → k ≡ next → Q k p → ComesBefore (record { fault = next; place = place }) k p
    own place none k p same q = elim (no_later place p (λ below. none p below (subst (λ (f : NameFault). Q f p) same q))) [
      | inl less ↦ inl less
      | inr at ↦ inr (at, (let r = ap rank_of same in omega arith))
    ]

    replaces : (place : ℕ) → Q next place → ((before : ℕ) → before < place → Q next before → ⊥) → ((k : NameFault) (p : ℕ) → rank_of k < n → Q k p → place < p) → IsLeastOf (n + 1) (record { fault = next; place = place })
    replaces place q none older = record {
      is = q;
      rank = (omega arith);
      least = λ k p below has. elim (split k below) [
        | inl old ↦ inl (older k p old has)
        | inr same ↦ own place none k p same has
      ];
    }

    keeps : (first : FirstFault) → IsLeastOf n first → ((p : ℕ) → Q next p → first.place ≤ p) → IsLeastOf (n + 1) first
    keeps first h later = record {
      is = h.is;
      rank = (let r = h.rank in omega arith);
      least = λ k p below has. elim (split k below) [
        | inl old ↦ h.least k p old has
        | inr same ↦ elim (cases_eq first.place p) [
          | inl at ↦ inr (at, (let r = h.rank in let s = ap rank_of same in omega arith))
          | inr other ↦ inl (let l = later p (subst (λ (f : NameFault). Q f p) same has) in omega arith)
        ]
      ];
    }

    before_it : (first : FirstFault) (place : ℕ) → place < first.place → (k : NameFault) (p : ℕ) → ComesBefore first k p → place < p
    before_it first place less k p (inl after) = omega arith
    before_it first place less k p (inr at) = let a = at.0 in omega arith

    behind : (first : FirstFault) (place : ℕ) → first.place ≤ place → (p : ℕ) → (place < p) ⊎ (place ≡ p) → first.place ≤ p
    behind first place more p (inl after) = omega arith
    behind first place more p (inr at) = omega arith

    pub least_next : (found : Option FirstFault) (place : Option ℕ) → IsLeast n found → IsFirst (Q next) place → IsLeast (n + 1) (or_earlier found next place)
    least_next None None found none = λ k p below has. elim (split k below) [
      | inl old ↦ found k p old has
      | inr same ↦ none p (subst (λ (f : NameFault). Q f p) same has)
    ]
    least_next (Some first) None found none = keeps first found (λ p has. absurd (none p has))
    least_next None (Some place) found is = replaces place is.0 is.1 (λ k p old has. absurd (found k p old has))
    least_next (Some first) (Some place) found is = by (nat_lt place first.place) refl
      where
        by : (b : Bool) → nat_lt place first.place ≡ b → IsLeast (n + 1) (if nat_lt place first.place then Some (record { fault = next; place = place }) else Some first)
        by true e = subst (λ (b : Bool). IsLeast (n + 1) (if b then Some (record { fault = next; place = place }) else Some first)) (sym e)
            (replaces place is.0 is.1 (λ k p old has. before_it first place (ltb-true place first.place e) k p (found.least k p old has)))
        by false e = subst (λ (b : Bool). IsLeast (n + 1) (if b then Some (record { fault = next; place = place }) else Some first)) (sym e)
            (keeps first found (λ p has. behind first place (ltb-false place first.place e) p (no_later place p (λ below. is.1 p below has))))

split_first : (k : NameFault) → rank_of k < 0 + 1 → (rank_of k < 0) ⊎ (k ≡ fault.Repeated)
split_first fault.Repeated below = inr refl
split_first fault.PortDirection below = absurd (omega arith)
split_first fault.BadRange below = absurd (omega arith)

split_second : (k : NameFault) → rank_of k < 1 + 1 → (rank_of k < 1) ⊎ (k ≡ fault.PortDirection)
split_second fault.Repeated below = inl (omega arith)
split_second fault.PortDirection below = inr refl
split_second fault.BadRange below = absurd (omega arith)

split_third : (k : NameFault) → rank_of k < 2 + 1 → (rank_of k < 2) ⊎ (k ≡ fault.BadRange)
split_third fault.Repeated below = inl (omega arith)
split_third fault.PortDirection below = inl (omega arith)
split_third fault.BadRange below = inr refl

any_rank : (k : NameFault) → rank_of k < 3
any_rank fault.Repeated = omega arith
any_rank fault.PortDirection = omega arith
any_rank fault.BadRange = omega arith

module _ (bytes : List ℕ) (entries : List Entry) (repeated unpaired bad_range : Option ℕ)
    (r : IsFirst (IsRepeated bytes entries) repeated) (u : IsFirst (IsUnpaired bytes entries) unpaired) (b : IsFirst (IsBadRange bytes entries) bad_range) where
  abbrev Q : NameFault → ℕ → Type 0
  Q = HasFault bytes entries

  abbrev first : Option FirstFault
  first = or_earlier None fault.Repeated repeated

  abbrev second : Option FirstFault
  second = or_earlier first fault.PortDirection unpaired

  all : IsLeast Q 3 (or_earlier second fault.BadRange bad_range)
  all = least_next Q 2 fault.BadRange refl split_third second bad_range (least_next Q 1 fault.PortDirection refl split_second first unpaired
      (least_next Q 0 fault.Repeated refl split_first None repeated (none_least Q) r) u) b

  of_all : (found : Option FirstFault) → IsLeast Q 3 found → FindsFault bytes entries found
  of_all None none = λ k p has. none k p (any_rank k) has
  of_all (Some one) h = record { is = h.is; least = λ k p has. h.least k p (any_rank k) has }

  pub finds_first : FindsFault bytes entries (or_earlier second fault.BadRange bad_range)
  finds_first = of_all (or_earlier second fault.BadRange bad_range) all

fault_by_rank : ℕ → Option NameFault
fault_by_rank n = if n == 0 then Some fault.Repeated else (if n == 1 then Some fault.PortDirection else Some fault.BadRange)

ranked : (k : NameFault) → fault_by_rank (rank_of k) ≡ Some k
unfolding fault_by_rank
ranked fault.Repeated = refl
ranked fault.PortDirection = refl
ranked fault.BadRange = refl

one_rank : (one other : NameFault) → rank_of one ≡ rank_of other → one ≡ other
one_rank one other e = same_Some _ _ (sym (ranked one) ∙ ap fault_by_rank e ∙ ranked other)

both_ways : (one other : FirstFault) → ComesBefore one other.fault other.place → ComesBefore other one.fault one.place → one ≡ other
both_ways one other (inl less) (inl more) = absurd (omega arith)
both_ways one other (inl less) (inr at) = absurd (let a = at.0 in omega arith)
both_ways one other (inr at) (inl less) = absurd (let a = at.0 in omega arith)
both_ways one other (inr at) (inr back) =
    let rank : rank_of one.fault ≡ rank_of other.fault = let a = at.1 in let b = back.1 in omega arith in
    ap₂ (λ (k : NameFault) (p : ℕ). record { fault = k; place = p }) (one_rank one.fault other.fault rank) at.0

-- a netlist has one first fault
pub one_first : (bytes : List ℕ) (entries : List Entry) (one other : FirstFault) → IsFirstFault bytes entries one → IsFirstFault bytes entries other → one ≡ other
one_first bytes entries one other h k = both_ways one other (h.least other.fault other.place k.is) (k.least one.fault one.place h.is)
