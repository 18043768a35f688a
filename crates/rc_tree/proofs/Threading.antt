-- Threading the resistors at each node.
use Rattle.std.proofs.Common.{◌≡◌, ◌≢◌, ℕ, ◌+◌, ◌-◌, ◌<◌, List, [], ◌∷◌, ◌++◌, length, get_or, replicate, slice_index, slice_set, length-append, length-set, get_or-set_same, get_or-set_other, sym, ◌∙◌, ap, subst, arith, inl, inr}
use Rattle.std.proofs.lemmas.Bool.{cases_eq}
use Rattle.std.proofs.lemmas.List.{get_or_push, get_or_append_left, get_or-replicate, length-replicate}
use Rattle.rc_tree.specs.Threads.{IsLatest, IsThreaded}

-- the first so many resistors are threaded
pub record Threading (near : List ℕ) (nodes : ℕ) (heads nexts : List ℕ) (many : ℕ) : Type 0 where
  pub heads_len : length heads ≡ nodes
  pub nexts_len : length nexts ≡ many
  pub heads_at : (node : ℕ) → node < nodes → IsLatest near many node (slice_index heads node)
  pub nexts_at : (place : ℕ) → place < many → IsLatest near place (slice_index near place) (slice_index nexts place)

pub threading_start : (near : List ℕ) (nodes : ℕ) (heads nexts : List ℕ) → heads ≡ replicate nodes 0 → nexts ≡ [] → Threading near nodes heads nexts 0
threading_start near nodes heads nexts heads_are nexts_are = record {
  heads_len = ap length heads_are ∙ length-replicate nodes 0;
  nexts_len = ap length nexts_are;
  heads_at = λ node below. let z : slice_index heads node ≡ 0 = ap (λ l. get_or l node 0) heads_are ∙ get_or-replicate nodes node 0 0 below in
      record { within = omega (arith, z); here = λ some. absurd (omega (arith, z, some)); rest = λ place from under. absurd (omega arith) };
  nexts_at = λ place below. absurd (omega arith);
}

later : (near : List ℕ) (many node : ℕ) (latest : ℕ) → slice_index near many ≢ node → IsLatest near many node latest → IsLatest near (many + 1) node latest
later near many node latest apart is = record {
  within = let w = is.within in omega (arith, w);
  here = is.here;
  rest = λ place from below. elim (cases_eq place many) [
    | inl at ↦ λ same. apart (ap (slice_index near) (sym at) ∙ same)
    | inr ne ↦ let ne' : place ≢ many = ne in is.rest place from (omega (arith, ne', below))
  ];
}

pub threading_step : (near : List ℕ) (nodes : ℕ) (heads nexts heads' nexts' : List ℕ) (many node next : ℕ) → node ≡ slice_index near many → node < nodes → next ≡ slice_index heads node
    → nexts' ≡ nexts ++ next ∷ [] → heads' ≡ slice_set heads node (many + 1) → Threading near nodes heads nexts many → Threading near nodes heads' nexts' (many + 1)
threading_step near nodes heads nexts heads' nexts' many node next node_is node_below next_is nexts_are heads_are state = record {
  heads_len = ap length heads_are ∙ length-set heads node (many + 1) ∙ state.heads_len;
  nexts_len = ap length nexts_are ∙ length-append nexts (next ∷ []) ∙ ap (λ k. k + 1) state.nexts_len;
  heads_at = λ v below. elim (cases_eq v node) [
    | inl at ↦
        let now : slice_index heads' v ≡ many + 1 = ap (λ l. get_or l v 0) heads_are ∙ ap (λ w. get_or (slice_set heads node (many + 1)) w 0) at ∙ get_or-set_same heads node (many + 1) 0 (let l = state.heads_len in omega (arith, l, node_below)) in
        record {
          within = omega (arith, now);
          here = λ some. ap (λ k. slice_index near (k - 1)) now ∙ ap (slice_index near) (let e : many + 1 - 1 ≡ many = omega arith in e) ∙ sym node_is ∙ sym at;
          rest = λ place from under. absurd (omega (arith, now, from, under));
        }
    | inr ne ↦ subst (IsLatest near (many + 1) v) (sym (ap (λ l. get_or l v 0) heads_are ∙ get_or-set_other heads node v (many + 1) 0 ne))
        (later near many v (slice_index heads v) (λ same. ne (sym (node_is ∙ same))) (state.heads_at v below))
  ];
  nexts_at = λ place below. elim (cases_eq place many) [
    | inl at ↦
        let now : slice_index nexts' place ≡ slice_index heads node = ap (λ l. get_or l place 0) nexts_are ∙ get_or_push nexts next 0 place (state.nexts_len ∙ sym at) ∙ next_is in
        subst (IsLatest near place (slice_index near place)) (sym now)
        (subst (λ k. IsLatest near k (slice_index near k) (slice_index heads node)) (sym at) (subst (λ v. IsLatest near many v (slice_index heads node)) node_is (state.heads_at node node_below)))
    | inr ne ↦
        let ne' : place ≢ many = ne in
        let place_below : place < many = omega (arith, ne', below) in
        subst (IsLatest near place (slice_index near place)) (sym (ap (λ l. get_or l place 0) nexts_are ∙ get_or_append_left nexts (next ∷ []) 0 place (let l = state.nexts_len in omega (arith, l, place_below))))
        (state.nexts_at place place_below)
  ];
}

pub threading_end : (near : List ℕ) (nodes : ℕ) (heads nexts : List ℕ) (many : ℕ) → many ≡ length near → Threading near nodes heads nexts many → IsThreaded near nodes heads nexts
threading_end near nodes heads nexts many is state = record {
  heads_len = state.heads_len;
  nexts_len = state.nexts_len ∙ is;
  heads_at = λ node below. subst (λ k. IsLatest near k node (slice_index heads node)) is (state.heads_at node below);
  nexts_at = λ place below. state.nexts_at place (omega (arith, below, is));
}
