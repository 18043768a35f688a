-- Loads and Elmore sums that are put where those of all nets are kept.
use Rattle.std.proofs.Common.{◌≡◌, ℕ, ◌+◌, ◌*◌, ◌<◌, List, length, get_or, refl, sym, ap, ap₂, subst, ◌∙◌, arith, inl, inr}
use Rattle.std.specs.Prelude.{Some}
use Rattle.std.proofs.lemmas.Bool.{cases_eq}
use Rattle.std.proofs.lemmas.Option.{same_Some}
use Rattle.corner_set.specs.Places.{place, value_at}
use Rattle.delay_units.specs.declared.quantities.Farads.{Farads}
use Rattle.rc_tree.specs.Arenas.{Arena, arena_elements}
use Rattle.rc_tree.specs.Elmore.{IsElmore}
use Rattle.rc_tree.specs.NetLoad.{net_load}
use Rattle.elmore_pass.specs.Delays.{HasDelay}
use Rattle.net_delays.specs.NetTimes.{NetTimes, load_at, elmore_at, start_in, HasNet, HasSink, LeavesLoads, LeavesElmores}
use Rattle.net_parasitics.specs.NetSteps.{node_of_sink, HasTreeTimes, KeepsOtherCorners, KeepsOtherNets, HasOwnLoad}
use Rattle.net_parasitics.specs.Inputs.{Inputs}

-- what is kept does not depend on what is not read
same_load : (count : ℕ) (one other : NetTimes) (net corner : ℕ) → one.loads ≡ other.loads → load_at count one net corner ≡ load_at count other net corner
same_load count one other net corner same = ap (λ (loads : List Farads). (get_or loads (place count net corner) (record { 0 = 0 })).0) same

pub same_elmore : (count : ℕ) (one other : NetTimes) (net sink corner : ℕ) → one.starts ≡ other.starts → one.elmores ≡ other.elmores → elmore_at count one net sink corner ≡ elmore_at count other net sink corner
same_elmore count one other net sink corner starts elmores =
    ap₂ (λ s (e : List ℕ). get_or e (place count (start_in s net + sink) corner) 0) starts elmores

pub has_net : (one other : NetTimes) (net : ℕ) → one.starts ≡ other.starts → HasNet other net → HasNet one net
has_net one other net same has = let len = ap length same in omega (arith, len, has)

pub has_sink : (one other : NetTimes) (net sink : ℕ) → one.starts ≡ other.starts → HasSink other net sink → HasSink one net sink
has_sink one other net sink same has = subst (λ s. (net + 1 < length s) × (start_in s net + sink < start_in s (net + 1))) (sym same) has

-- each number below the count is that of a corner
abbrev pub HaveCorners : (I : Type 0) → (I → ℕ) → ℕ → Type 0
HaveCorners I number_of count = (number : ℕ) → number < count → (corner : I) × (number_of corner ≡ number)

module _ (I : Type 0) (number_of : I → ℕ) (count : ℕ) (there : HaveCorners I number_of count) where
  -- a load is put
  pub after_load : (before after : NetTimes) (net : ℕ) (corner : I) → after.starts ≡ before.starts → after.elmores ≡ before.elmores
      → ((other : ℕ) (at : I) → HasNet before other → LeavesLoads count before after net (number_of corner) other (number_of at))
      → KeepsOtherCorners count before after net (number_of corner)
  after_load before after net corner starts elmores leaves = record {
    starts = starts;
    loads = λ other at has below apart. let i = there at below in
        subst (λ n. ¬ ((other ≡ net) × (n ≡ number_of corner)) → load_at count after other n ≡ load_at count before other n) i.1 (leaves other i.0 has) apart;
    elmores = λ other sink at has below apart. same_elmore count after before other sink at starts elmores;
  }

  -- an Elmore sum is put
  pub after_elmore : (before middle after : NetTimes) (net sink : ℕ) (corner : I) → after.starts ≡ middle.starts → after.loads ≡ middle.loads
      → ((other of : ℕ) (at : I) → HasSink middle other of → LeavesElmores count middle after net sink (number_of corner) other of (number_of at))
      → KeepsOtherCorners count before middle net (number_of corner) → KeepsOtherCorners count before after net (number_of corner)
  after_elmore before middle after net sink corner starts loads leaves kept = record {
    starts = starts ∙ kept.starts;
    loads = λ other at has below apart. same_load count after middle other at loads ∙ kept.loads other at has below apart;
    elmores = λ other of at has below apart. let i = there at below in
        subst (λ n. ¬ ((other ≡ net) × (of ≡ sink) × (n ≡ number_of corner)) → elmore_at count after other of n ≡ elmore_at count middle other of n) i.1
        (leaves other of i.0 (has_sink middle before other of kept.starts has)) (λ same. apart (same.0, same.2))
        ∙ kept.elmores other of at has below apart;
  }

-- the load and the first Elmore sums of a net are put at a corner
pub record ArePut (count : ℕ) (tree : Arena) (before times : NetTimes) (net corner sinks : ℕ) : Type 0 where
  pub load : load_at count times net corner ≡ net_load (arena_elements count tree corner)
  pub elmore : (sink : ℕ) → sink < sinks → IsElmore (arena_elements count tree corner) (node_of_sink tree sink) (elmore_at count times net sink corner)
  pub kept : KeepsOtherCorners count before times net corner

pub none_put : (count : ℕ) (tree : Arena) (before times : NetTimes) (net corner : ℕ) → load_at count times net corner ≡ net_load (arena_elements count tree corner)
    → KeepsOtherCorners count before times net corner → ArePut count tree before times net corner 0
none_put count tree before times net corner load kept = record { load = load; elmore = λ sink less. absurd (omega (arith, less)); kept = kept }

-- one Elmore sum more
pub one_put : (I : Type 0) (number_of : I → ℕ) (count : ℕ) → HaveCorners I number_of count → (tree : Arena) (before middle after : NetTimes) (net sink value : ℕ) (corner : I)
    → after.starts ≡ middle.starts → after.loads ≡ middle.loads
    → ((other of : ℕ) (at : I) → HasSink middle other of → LeavesElmores count middle after net sink (number_of corner) other of (number_of at))
    → elmore_at count after net sink (number_of corner) ≡ value
    → IsElmore (arena_elements count tree (number_of corner)) (node_of_sink tree sink) value
    → ((other : ℕ) → other < sink → HasSink middle net other)
    → ArePut count tree before middle net (number_of corner) sink → ArePut count tree before after net (number_of corner) (sink + 1)
one_put I number_of count there tree before middle after net sink value corner starts loads leaves held is has so_far = record {
  load = same_load count after middle net (number_of corner) loads ∙ so_far.load;
  elmore = λ k less. elim (cases_eq k sink) [
    | inl same ↦ subst (λ n. IsElmore (arena_elements count tree (number_of corner)) (node_of_sink tree n) (elmore_at count after net n (number_of corner))) (sym same)
        (subst (IsElmore (arena_elements count tree (number_of corner)) (node_of_sink tree sink)) (sym held) is)
    | inr other ↦ let before_it : k < sink = omega (arith, less, other) in
        subst (IsElmore (arena_elements count tree (number_of corner)) (node_of_sink tree k))
        (sym (leaves net k corner (has k before_it) (λ same. other same.1))) (so_far.elmore k before_it)
  ];
  kept = after_elmore I number_of count there before middle after net sink corner starts loads leaves so_far.kept;
}

-- the sum that was read is that of the node
pub sum_is : (count : ℕ) (tree : Arena) (sums : List ℕ) (node corner read : ℕ) (delay : HasDelay count tree sums node corner) → value_at count sums node corner ≡ Some read → delay.delay ≡ read
sum_is count tree sums node corner read delay e = same_Some delay.delay read (sym delay.held ∙ e)

-- the first corners of a net are put
pub record AreCornersPut (count : ℕ) (tree : Arena) (before after : NetTimes) (net corners : ℕ) : Type 0 where
  pub times : (corner : ℕ) → corner < corners → HasTreeTimes count tree after net corner
  pub kept : KeepsOtherNets count before after net

pub no_corners : (count : ℕ) (tree : Arena) (before : NetTimes) (net : ℕ) → AreCornersPut count tree before before net 0
no_corners count tree before net = record {
  times = λ corner less. absurd (omega (arith, less));
  kept = record { starts = refl; loads = λ other corner has below apart. refl; elmores = λ other sink corner has below apart. refl };
}

-- other nets are other corners
keeps_more : (count : ℕ) (before middle after : NetTimes) (net corner : ℕ) → KeepsOtherNets count before middle net → KeepsOtherCorners count middle after net corner → KeepsOtherNets count before after net
keeps_more count before middle after net corner kept more = record {
  starts = more.starts ∙ kept.starts;
  loads = λ other at has below apart. more.loads other at (has_net middle before other kept.starts has) below (λ same. apart same.0) ∙ kept.loads other at has below apart;
  elmores = λ other sink at has below apart. more.elmores other sink at (has_sink middle before other sink kept.starts has) below (λ same. apart same.0) ∙ kept.elmores other sink at has below apart;
}

pub one_corner : (count : ℕ) (tree : Arena) (before middle after : NetTimes) (net number corner : ℕ) → number ≡ corner → corner < count → HasNet before net
    → ((sink : ℕ) → sink < length tree.sinks → HasSink before net sink) → HasTreeTimes count tree after net number → KeepsOtherCorners count middle after net number
    → AreCornersPut count tree before middle net corner → AreCornersPut count tree before after net (corner + 1)
one_corner count tree before middle after net number corner is below has sinks put kept so_far = record {
  times = λ k less. elim (cases_eq k corner) [
    | inl same ↦ subst (HasTreeTimes count tree after net) (is ∙ sym same) put
    | inr other ↦ let earlier : k < corner = omega (arith, less, other) in
        let apart : ¬ ((net ≡ net) × (k ≡ number)) = λ same. other (same.1 ∙ is) in
        let held = so_far.times k earlier in record {
          load = kept.loads net k (has_net middle before net so_far.kept.starts has) (omega (arith, earlier, below)) apart ∙ held.load;
          elmore = λ sink within. subst (IsElmore (arena_elements count tree k) (node_of_sink tree sink))
              (sym (kept.elmores net sink k (has_sink middle before net sink so_far.kept.starts (sinks sink within)) (omega (arith, earlier, below)) apart)) (held.elmore sink within);
        }
  ];
  kept = keeps_more count before middle after net number so_far.kept kept;
}

pub next_times : (k n : ℕ) → (k + 1) * n ≡ k * n + n
next_times k n = grind arith

-- the own loads of a net are put at the first corners
pub record AreOwnLoads (inputs : Inputs) (count : ℕ) (before times : NetTimes) (net corners : ℕ) : Type 0 where
  pub loads : (corner : ℕ) → corner < corners → HasOwnLoad inputs count times net corner
  pub elmores : times.elmores ≡ before.elmores
  pub kept : KeepsOtherNets count before times net

pub no_loads : (inputs : Inputs) (count : ℕ) (before : NetTimes) (net : ℕ) → AreOwnLoads inputs count before before net 0
no_loads inputs count before net = record {
  loads = λ corner less. absurd (omega (arith, less));
  elmores = refl;
  kept = record { starts = refl; loads = λ other corner has below apart. refl; elmores = λ other sink corner has below apart. refl };
}

pub one_load : (inputs : Inputs) (count : ℕ) (before middle after : NetTimes) (net number corner : ℕ) → number ≡ corner → corner < count → HasNet before net → HasOwnLoad inputs count after net number
    → after.elmores ≡ middle.elmores → KeepsOtherCorners count middle after net number → AreOwnLoads inputs count before middle net corner → AreOwnLoads inputs count before after net (corner + 1)
one_load inputs count before middle after net number corner is below has put elmores kept so_far = record {
  loads = λ k less. elim (cases_eq k corner) [
    | inl same ↦ subst (HasOwnLoad inputs count after net) (is ∙ sym same) put
    | inr other ↦ let earlier : k < corner = omega (arith, less, other) in
        kept.loads net k (has_net middle before net so_far.kept.starts has) (omega (arith, earlier, below)) (λ same. other (same.1 ∙ is)) ∙ so_far.loads k earlier
  ];
  elmores = elmores ∙ so_far.elmores;
  kept = keeps_more count before middle after net number so_far.kept kept;
}
