-- Chains of links on their way.
use Rattle.std.proofs.Common.{◌≡◌, ◌≢◌, ℕ, ◌+◌, ◌<◌, List, [], ◌∷◌, ◌++◌, length, get_or, set, slice_index, Option, None, Some, length-append, length-set, get_or-set_same, get_or-set_other, sym, ap, ◌∙◌, subst, inl, inr, arith}
use Rattle.std.proofs.lemmas.Bool.{cases_eq}
use Rattle.std.proofs.lemmas.List.{get_or_push, get_or_append_left}
use Rattle.std.specs.List.{slice_index_or}
use Rattle.graph_order.specs.Fans.{IsLatest}

-- the first so many links are chained
pub record Chaining (keys : List ℕ) (nodes : ℕ) (last previous : List (Option ℕ)) (many : ℕ) : Type 0 where
  pub last_len : length last ≡ nodes
  pub previous_len : length previous ≡ many
  pub last_at : (node : ℕ) → node < nodes → IsLatest keys many node (slice_index_or last node None)
  pub previous_at : (link : ℕ) → link < many → IsLatest keys link (slice_index keys link) (slice_index_or previous link None)

latest_here : (keys : List ℕ) (many node : ℕ) → slice_index keys many ≡ node → IsLatest keys (many + 1) node (Some many)
latest_here keys many node is = record {
  within = omega arith;
  here = λ link at. let same : link ≡ many = omega (arith, at) in ap (slice_index keys) same ∙ is;
  rest = λ link from below. absurd (omega (arith, from, below));
}

latest_other : (keys : List ℕ) (many node : ℕ) (latest : Option ℕ) → slice_index keys many ≢ node → IsLatest keys many node latest → IsLatest keys (many + 1) node latest
latest_other keys many node latest other held = record {
  within = let w = held.within in omega (arith, w);
  here = held.here;
  rest = λ link from below. elim (cases_eq link many) [
    | inl is ↦ λ at. other (ap (slice_index keys) (sym is) ∙ at)
    | inr ne ↦ let ne' : link ≢ many = ne in held.rest link from (omega (arith, below, ne'))
  ];
}

-- one link more is chained
pub chaining_more : (keys : List ℕ) (nodes : ℕ) (last previous : List (Option ℕ)) (many node : ℕ) (before : Option ℕ) → many < length keys → slice_index keys many ≡ node → node < nodes
    → before ≡ get_or last node None → Chaining keys nodes last previous many → Chaining keys nodes (set last node (Some many)) (previous ++ before ∷ []) (many + 1)
chaining_more keys nodes last previous many node before below at node_in before_is held = record {
  last_len = length-set last node (Some many) ∙ held.last_len;
  previous_len = length-append previous (before ∷ []) ∙ ap (λ k. k + 1) held.previous_len;
  last_at = λ x x_in. elim (cases_eq x node) [
    | inl is ↦ subst (IsLatest keys (many + 1) x) (sym (ap (λ k. get_or (set last node (Some many)) k None) is ∙ get_or-set_same last node (Some many) None (let l = held.last_len in omega (arith, l, node_in))))
        (latest_here keys many x (at ∙ sym is))
    | inr ne ↦ subst (IsLatest keys (many + 1) x) (sym (get_or-set_other last node x (Some many) None ne))
        (latest_other keys many x (get_or last x None) (λ same. ne (sym same ∙ at)) (held.last_at x x_in))
  ];
  previous_at = λ link link_in. elim (cases_eq link many) [
    | inl is ↦ subst (λ k. IsLatest keys k (slice_index keys k) (get_or (previous ++ before ∷ []) k None)) (sym is)
        (subst (λ x. IsLatest keys many x (get_or (previous ++ before ∷ []) many None)) (sym at)
        (subst (IsLatest keys many node) (sym (get_or_push previous before None many held.previous_len ∙ before_is)) (held.last_at node node_in)))
    | inr ne ↦ let ne' : link ≢ many = ne in let lower : link < many = omega (arith, link_in, ne') in
        subst (IsLatest keys link (slice_index keys link)) (sym (get_or_append_left previous (before ∷ []) None link (let l = held.previous_len in omega (arith, l, lower)))) (held.previous_at link lower)
  ];
}
