-- What stands in a corner that is filled.
use Rattle.std.proofs.Common.{◌≡◌, ◌≢◌, ℕ, ◌+◌, ◌*◌, ◌<◌, ◌≤◌, List, [], length, replicate, get_or, slice_index, slice_index_or, sym, ◌∙◌, ap, subst, arith, add-mul, one-mul, mul-le-mul_right, inl, inr}
use Rattle.std.proofs.Math.Nat.{zero-mul}
use Rattle.std.proofs.lemmas.Bool.{cases_eq, cases_lt}
use Rattle.std.proofs.lemmas.List.{get_or_default, get_or_past, get_or-replicate, length-replicate}
use Rattle.corner_set.specs.Places.{place}
use Rattle.delay_units.specs.declared.quantities.Farads.{Farads}
use Rattle.delay_units.specs.declared.quantities.Ohms.{Ohms}
use Rattle.spef_nets.specs.NetElements.{NetElements as SectionElements}
use Rattle.delay_units.specs.Bounds.{most_farads, most_ohms}
use Rattle.rc_tree.specs.Arenas.{IsArena}
use Rattle.rc_tree.specs.Pins.{Pins}
use Rattle.rc_tree.specs.Values.{farads_at, ohms_at}
use Rattle.rc_tree.specs.Sums.{sum_below, one}
use Rattle.rc_tree.specs.Numbering.{section_farads, sink_farads}
use Rattle.rc_tree.specs.Filling.{Layout, IsLayout, IsFilled, KeepsOhms, KeepsFarads}
use Rattle.rc_tree.specs.declared.node_ids.NodeId.{NodeId}
use Rattle.rc_tree.proofs.Sums.{sum_cong, sum_add, sum_swap, sum_pick, sum_bound, sum_mul}
use Rattle.rc_tree.proofs.ArenaNets.{arena_load}

pub has_row : (count n size row : ℕ) → size ≡ n * count → row < n → row * count + count ≤ size
has_row count n size row room below =
    let more : (row + 1) * count ≤ n * count = mul-le-mul_right count (let h : row + 1 ≤ n = omega arith in h) in
    let is : (row + 1) * count ≡ row * count + count = add-mul row 1 count ∙ ap (λ s. row * count + s) (one-mul count) in
    omega (arith, more, is, room)

-- values at places that are spread over rows
pub spread_sum : (n many : ℕ) (spot value weight : ℕ → ℕ) → ((q : ℕ) → q < many → spot q < n) → sum_below n (λ row. weight row * sum_below many (λ q. one (spot q) row * value q)) ≡ sum_below many (λ q. weight (spot q) * value q)
spread_sum n many spot value weight within =
    sum_cong n (λ row. weight row * sum_below many (λ q. one (spot q) row * value q)) (λ row. sum_below many (λ q. one (spot q) row * (weight row * value q)))
    (λ row h. sym (sum_mul many (weight row) (λ q. one (spot q) row * value q)) ∙ sum_cong many (λ q. weight row * (one (spot q) row * value q)) (λ q. one (spot q) row * (weight row * value q)) (λ q h'. turn (weight row) (one (spot q) row) (value q)))
    ∙ sum_swap n many (λ row q. one (spot q) row * (weight row * value q))
    ∙ sum_cong many (λ q. sum_below n (λ row. one (spot q) row * (weight row * value q))) (λ q. weight (spot q) * value q) (λ q h. sum_pick n (spot q) (λ row. weight row * value q) (within q h))
  where
    turn : (a b c : ℕ) → a * (b * c) ≡ b * (a * c)
    turn a b c = omega arith

pub spread_all : (n many : ℕ) (spot value : ℕ → ℕ) → ((q : ℕ) → q < many → spot q < n) → sum_below n (λ row. sum_below many (λ q. one (spot q) row * value q)) ≡ sum_below many value
spread_all n many spot value within =
    sum_cong n (λ row. sum_below many (λ q. one (spot q) row * value q)) (λ row. 1 * sum_below many (λ q. one (spot q) row * value q)) (λ row h. sym (one-mul (sum_below many (λ q. one (spot q) row * value q))))
    ∙ spread_sum n many spot value (λ row. 1) within ∙ sum_cong many (λ q. 1 * value q) value (λ q h. one-mul (value q))

-- what the three calls leave
pub record CornerFacts (count : ℕ) (section : SectionElements) (pins : Pins) (n : ℕ) (vias spots : List ℕ) (sinks : List NodeId) (ohms : List Ohms) (mid after : List Farads) (number : ℕ) : Type 0 where
  pub root : ohms_at count ohms 0 number ≡ 0
  pub links : (node : ℕ) → 0 < node → node < length vias → ohms_at count ohms node number ≡ ohms_at count section.ohms (slice_index vias node) number
  pub small : (node : ℕ) → 0 < node → node < length vias → ohms_at count ohms node number ≤ most_ohms
  pub placed : (row : ℕ) → row < n → farads_at count mid row number ≡ section_farads count section spots number row
  pub loaded : (row : ℕ) → row < n → farads_at count after row number ≡ farads_at count mid row number + sink_farads count pins sinks number row
  pub within : (q : ℕ) → q < length section.caps → slice_index section.caps q < length section.nodes
  pub each : (q : ℕ) → q < length section.caps → farads_at count section.farads q number ≤ most_farads
  pub loads : (s : ℕ) → s < length sinks → farads_at count pins.loads s number ≤ most_farads

pub filled_corner : (count : ℕ) (section : SectionElements) (pins : Pins) (layout : Layout) (ohms : List Ohms) (mid after : List Farads) (number : ℕ) → IsLayout section pins layout
    → CornerFacts count section pins (length layout.parents) layout.vias layout.spots layout.sinks ohms mid after number → IsFilled count section pins layout ohms after number
filled_corner count section pins layout ohms mid after number is facts = record {
  root = facts.root;
  links = λ node some below. facts.links node some (omega (arith, below, is.vias_len));
  nodes = both;
  within = facts.within;
  small = λ node below. elim (cases_eq node 0) [
    | inl z ↦ (let at = ap (λ j. ohms_at count ohms j number) z in let root = facts.root in omega (arith, at, root))
    | inr nz ↦ (let nz' : node ≢ 0 = nz in facts.small node (omega (arith, nz')) (omega (arith, below, is.vias_len)))
  ];
  load =
      let n = length layout.parents in
      let spots : (q : ℕ) → q < length section.caps → slice_index layout.spots (slice_index section.caps q) < n = λ q h. is.spots (slice_index section.caps q) (facts.within q h) in
      let all : sum_below n (λ node. farads_at count after node number) ≡ sum_below n (λ node. section_farads count section layout.spots number node) + sum_below n (λ node. sink_farads count pins layout.sinks number node) =
      sum_cong n (λ node. farads_at count after node number) (λ node. section_farads count section layout.spots number node + sink_farads count pins layout.sinks number node) both ∙ sum_add n (λ node. section_farads count section layout.spots number node) (λ node. sink_farads count pins layout.sinks number node) in
      let ones = spread_all n (length section.caps) (λ q. slice_index layout.spots (slice_index section.caps q)) (λ q. farads_at count section.farads q number) spots in
      let twos = spread_all n (length layout.sinks) (λ s. (slice_index_or layout.sinks s (record { 0 = 0 })).0) (λ s. farads_at count pins.loads s number) is.sinks in
      let most_ones = sum_bound (length section.caps) most_farads (λ q. farads_at count section.farads q number) facts.each in
      let most_twos = sum_bound (length layout.sinks) most_farads (λ s. farads_at count pins.loads s number) facts.loads in
      omega (arith, all, ones, twos, most_ones, most_twos, is.caps);
}
  where
    both : (node : ℕ) → node < length layout.parents → farads_at count after node number ≡ section_farads count section layout.spots number node + sink_farads count pins layout.sinks number node
    both node below = facts.loaded node below ∙ ap (λ x. x + sink_farads count pins layout.sinks number node) (facts.placed node below)

-- the corners that are filled so far; the others are empty
pub record Corners (count : ℕ) (section : SectionElements) (pins : Pins) (layout : Layout) (ohms : List Ohms) (farads : List Farads) (number : ℕ) : Type 0 where
  pub ohms_rows : length ohms ≡ length layout.parents * count
  pub farads_rows : length farads ≡ length layout.parents * count
  pub filled : (k : ℕ) → k < number → IsFilled count section pins layout ohms farads k
  pub no_ohms : (row k : ℕ) → number ≤ k → k < count → ohms_at count ohms row k ≡ 0
  pub no_farads : (row k : ℕ) → number ≤ k → k < count → farads_at count farads row k ≡ 0

still_filled : (count : ℕ) (section : SectionElements) (pins : Pins) (layout : Layout) (ohms ohms' : List Ohms) (farads farads' : List Farads) (k : ℕ) → ((row : ℕ) → ohms_at count ohms' row k ≡ ohms_at count ohms row k) → ((row : ℕ) → farads_at count farads' row k ≡ farads_at count farads row k)
    → IsFilled count section pins layout ohms farads k → IsFilled count section pins layout ohms' farads' k
still_filled count section pins layout ohms ohms' farads farads' k same_ohms same_farads is = record {
  root = same_ohms 0 ∙ is.root;
  links = λ node some below. same_ohms node ∙ is.links node some below;
  nodes = λ node below. same_farads node ∙ is.nodes node below;
  within = is.within;
  small = λ node below. let same = same_ohms node in let old = is.small node below in omega (arith, same, old);
  load = let same = sum_cong (length layout.parents) (λ node. farads_at count farads' node k) (λ node. farads_at count farads node k) (λ node h. same_farads node) in let old = is.load in omega (arith, same, old);
}

pub corners_step : (count : ℕ) (section : SectionElements) (pins : Pins) (layout : Layout) (ohms ohms' : List Ohms) (farads farads' : List Farads) (corner number : ℕ) → corner ≡ number → number < count
    → IsFilled count section pins layout ohms' farads' corner → KeepsOhms count ohms ohms' corner → KeepsFarads count farads farads' corner → Corners count section pins layout ohms farads number → Corners count section pins layout ohms' farads' (number + 1)
corners_step count section pins layout ohms ohms' farads farads' corner number is below here keeps_ohms keeps_farads state = record {
  ohms_rows = keeps_ohms.size ∙ state.ohms_rows;
  farads_rows = keeps_farads.size ∙ state.farads_rows;
  filled = λ k k_below. elim (cases_eq k number) [
    | inl e ↦ subst (λ j. IsFilled count section pins layout ohms' farads' j) (is ∙ sym e) here
    | inr ne ↦ (let ne' : k ≢ number = ne in let less : k < number = omega (arith, ne', k_below) in
        still_filled count section pins layout ohms ohms' farads farads' k (λ row. keeps_ohms.others row k (omega (arith, less, below)) (λ e. ne (e ∙ is))) (λ row. keeps_farads.others row k (omega (arith, less, below)) (λ e. ne (e ∙ is))) (state.filled k less))
  ];
  no_ohms = λ row k from k_below. keeps_ohms.others row k k_below (λ e. omega (arith, e, is, from)) ∙ state.no_ohms row k (omega (arith, from)) k_below;
  no_farads = λ row k from k_below. keeps_farads.others row k k_below (λ e. omega (arith, e, is, from)) ∙ state.no_farads row k (omega (arith, from)) k_below;
}

-- a grid of zeros
pub zero_ohms : (count places : ℕ) (values : List Ohms) → values ≡ replicate places (record { 0 = 0 }) → (row number : ℕ) → ohms_at count values row number ≡ 0
zero_ohms count places values is row number = ap (λ l. (get_or {A = Ohms} l (place count row number) (record { 0 = 0 })).0) is ∙ elim (cases_lt (place count row number) places) [
  | inl below ↦ ap (λ (v : Ohms). v.0) (get_or-replicate places (place count row number) (record { 0 = 0 }) (record { 0 = 0 }) below)
  | inr past ↦ ap (λ (v : Ohms). v.0) (get_or_past (replicate places (record { 0 = 0 })) (place count row number) (record { 0 = 0 }) (let l = length-replicate {A = Ohms} places (record { 0 = 0 }) in omega (arith, l, past)))
]

pub zero_farads : (count places : ℕ) (values : List Farads) → values ≡ replicate places (record { 0 = 0 }) → (row number : ℕ) → farads_at count values row number ≡ 0
zero_farads count places values is row number = ap (λ l. (get_or {A = Farads} l (place count row number) (record { 0 = 0 })).0) is ∙ elim (cases_lt (place count row number) places) [
  | inl below ↦ ap (λ (v : Farads). v.0) (get_or-replicate places (place count row number) (record { 0 = 0 }) (record { 0 = 0 }) below)
  | inr past ↦ ap (λ (v : Farads). v.0) (get_or_past (replicate places (record { 0 = 0 })) (place count row number) (record { 0 = 0 }) (let l = length-replicate {A = Farads} places (record { 0 = 0 }) in omega (arith, l, past)))
]

-- the tree keeps to what a tree keeps to
pub planted : (count : ℕ) (section : SectionElements) (pins : Pins) (layout : Layout) (ohms : List Ohms) (farads : List Farads) → IsLayout section pins layout → length ohms ≡ length layout.parents * count → length farads ≡ length layout.parents * count
    → ((k : ℕ) → k < count → IsFilled count section pins layout ohms farads k) → IsArena count (record { parents = layout.parents; ohms = ohms; farads = farads; sinks = layout.sinks })
planted count section pins layout ohms farads is ohms_rows farads_rows filled = record {
  few = is.few;
  ohms_rows = ohms_rows;
  farads_rows = farads_rows;
  down = is.down;
  root = λ k below. let f = filled k below in f.root;
  small_ohms = λ node k node_below below. let f = filled k below in f.small node node_below;
  small_load = λ k below. let f = filled k below in let load = f.load in let all = arena_load count (record { parents = layout.parents; ohms = ohms; farads = farads; sinks = layout.sinks }) k in omega (arith, load, all);
  sinks = λ k d below. let at = is.sinks k below in let same = ap (λ v. v.0) (get_or_default layout.sinks k d (record { 0 = 0 }) below) in omega (arith, at, same);
}

-- the same of lists that are the same
pub planted_so : (count : ℕ) (section : SectionElements) (pins : Pins) (layout : Layout) (parents : List ℕ) (ohms : List Ohms) (farads : List Farads) (sinks : List NodeId) → IsLayout section pins layout → parents ≡ layout.parents → sinks ≡ layout.sinks → length ohms ≡ length layout.parents * count
    → length farads ≡ length layout.parents * count → ((k : ℕ) → k < count → IsFilled count section pins layout ohms farads k) → IsArena count (record { parents = parents; ohms = ohms; farads = farads; sinks = sinks })
planted_so count section pins layout parents ohms farads sinks is parents_are sinks_are ohms_rows farads_rows filled =
    subst (λ p. IsArena count (record { parents = p; ohms = ohms; farads = farads; sinks = sinks })) (sym parents_are)
    (subst (λ k. IsArena count (record { parents = layout.parents; ohms = ohms; farads = farads; sinks = k })) (sym sinks_are) (planted count section pins layout ohms farads is ohms_rows farads_rows filled))

-- a tree with no node
no_nodes : (count : ℕ) → IsArena count (record { parents = []; ohms = []; farads = []; sinks = [] })
no_nodes count = record {
  few = omega arith;
  ohms_rows = sym (zero-mul count);
  farads_rows = sym (zero-mul count);
  down = λ node some below. absurd (omega (arith, below));
  root = λ k below. ap (λ (v : Ohms). v.0) (get_or_past {X = Ohms} [] (place count 0 k) (record { 0 = 0 }) (omega arith));
  small_ohms = λ node k node_below below. absurd (omega (arith, node_below));
  small_load = λ k below. let all = arena_load count (record { parents = []; ohms = []; farads = []; sinks = [] }) k in omega (arith, all);
  sinks = λ k d below. absurd (omega (arith, below));
}

pub bare : (count : ℕ) (parents : List ℕ) (ohms : List Ohms) (farads : List Farads) (sinks : List NodeId) → parents ≡ [] → ohms ≡ [] → farads ≡ [] → sinks ≡ [] → IsArena count (record { parents = parents; ohms = ohms; farads = farads; sinks = sinks })
bare count parents ohms farads sinks parents_are ohms_are farads_are sinks_are =
    subst (λ p. IsArena count (record { parents = p; ohms = ohms; farads = farads; sinks = sinks })) (sym parents_are)
    (subst (λ o. IsArena count (record { parents = []; ohms = o; farads = farads; sinks = sinks })) (sym ohms_are)
    (subst (λ f. IsArena count (record { parents = []; ohms = []; farads = f; sinks = sinks })) (sym farads_are)
    (subst (λ k. IsArena count (record { parents = []; ohms = []; farads = []; sinks = k })) (sym sinks_are) (no_nodes count))))

-- no row has no value
pub no_row : {A : Type 0} (count : ℕ) (x : A) (values : List A) → values ≡ replicate (0 * count) x → values ≡ []
no_row count x values is = is ∙ ap (λ n. replicate n x) (zero-mul count)
