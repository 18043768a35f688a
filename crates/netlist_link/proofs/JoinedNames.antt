-- Which connection joins something to a name of a visited module.
use Rattle.std.proofs.Common.{◌⊎◌, ◌≡◌, ℕ, ◌+◌, ◌<◌, List, length, get_or, set, Option, Some, None, inl, inr, sym, ◌∙◌, subst, arith}
use Rattle.std.proofs.lemmas.Bool.{cases_lt, cases_eq}
use Rattle.std.proofs.lemmas.List.{length-set, get_or-set_same, get_or-set_other}
use Rattle.verilog_netlist.specs.ModuleNames.{NetName, no_name}
use Rattle.verilog_netlist.specs.SoundModules.{Differ}
use Rattle.netlist_link.specs.PortTables.{IsPortNamed}
use Rattle.netlist_link.specs.FlatBitTables.{connection_of, joined_bits, names_of, JoinsName, IsJoinedAmong, HoldJoined}
use Rattle.netlist_link.specs.declared.checking.Design.{Design}

-- the texts of a module's names differ
abbrev pub NamesDiffer : List NetName → Type 0
NamesDiffer names = Differ (length names) (λ i. (get_or names i no_name).text)

pub one_port : (names : List NetName) (port : List ℕ) (a b : ℕ) → NamesDiffer names → a < length names → b < length names → IsPortNamed names a port
    → IsPortNamed names b port → (a ≡ b → ⊥) → ⊥
one_port names port a b differ a_below b_below a_is b_is other = elim (cases_lt a b) [
  | inl less ↦ differ a b less b_below (a_is.text ∙ sym b_is.text)
  | inr past ↦ differ b a (elim (cases_lt b a) [ inl less ↦ less | inr most ↦ (let same : a ≡ b = omega arith in absurd (other same)) ]) a_below (b_is.text ∙ sym a_is.text)
]

module _ (d : Design) (v c : ℕ) (joined : List (Option ℕ)) (held : HoldJoined d v c joined) where
  abbrev port : List ℕ
  port = (connection_of d v c).port

  step : (name : ℕ) → (JoinsName d v name c → ⊥) → (number : Option ℕ) → IsJoinedAmong d v c name number → IsJoinedAmong d v (c + 1) name number
  step name never None so_far = λ e less joins. elim (cases_lt e c) [
    | inl before ↦ so_far e before joins
    | inr past ↦ (let same : e ≡ c = omega arith in never (subst (JoinsName d v name) same joins))
  ]
  step name never (Some e) so_far = ((let less = so_far.0 in omega arith), so_far.1)

  -- a connection that joins nothing to any name
  skip : ((name : ℕ) → name < length joined → JoinsName d v name c → ⊥) → HoldJoined d v (c + 1) joined
  skip never = record {
    count = held.count;
    each = λ name below. step name (never name below) (get_or joined name None) (held.each name below);
  }

  pub pass_empty : length (joined_bits d v c) ≡ 0 → HoldJoined d v (c + 1) joined
  pass_empty none = skip (λ name below joins. let some = joins.some in absurd (omega arith))

  pub pass_unknown : ((i : ℕ) → i < length (names_of d v) → IsPortNamed (names_of d v) i port → ⊥) → HoldJoined d v (c + 1) joined
  pass_unknown never = skip (λ name below joins. never name (let count = held.count in omega arith) joins.port)

  -- a connection that joins something to the port of this number
  pub join_one : (number : ℕ) → NamesDiffer (names_of d v) → number < length (names_of d v) → IsPortNamed (names_of d v) number port
      → 0 < length (joined_bits d v c) → HoldJoined d v (c + 1) (set joined number (Some c))
  join_one number differ within is some = record {
    count = length-set joined number (Some c) ∙ held.count;
    each = λ name below. let len = length-set joined number (Some c) in let count = held.count in by name (omega arith) (cases_eq name number);
  }
    where
      by : (name : ℕ) → name < length joined → (name ≡ number) ⊎ (name ≡ number → ⊥)
          → IsJoinedAmong d v (c + 1) name (get_or (set joined number (Some c)) name None)
      by name below (inl same) = subst (λ (n : ℕ). IsJoinedAmong d v (c + 1) n (get_or (set joined number (Some c)) n None)) (sym same)
          (subst (IsJoinedAmong d v (c + 1) number)
          (sym (get_or-set_same joined number (Some c) None (let count = held.count in omega arith))) (omega arith, record { port = is; some = some }))
      by name below (inr other) = subst (IsJoinedAmong d v (c + 1) name) (sym (get_or-set_other joined number name (Some c) None other))
          (step name (λ joins. one_port (names_of d v) port name number differ (let count = held.count in omega arith) within joins.port is other)
          (get_or joined name None) (held.each name below))
