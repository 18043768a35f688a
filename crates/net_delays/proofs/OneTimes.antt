-- Two tables of loads and Elmore sums that are alike are equal.
use Rattle.std.proofs.Common.{◌≡◌, ℕ, ◌-◌, ◌*◌, ◌+◌, ◌<◌, ◌∙◌, ap, sym, subst, List, length, get_or, ext_get_or, arith}
use Rattle.corner_set.specs.Places.{place}
use Rattle.delay_units.specs.declared.quantities.Farads.{Farads}
use Rattle.netlist_link.specs.FlatNetlist.{FlatNetlist}
use Rattle.net_delays.specs.NetTimes.{NetTimes, AreNetTimes, Fits, start_in, nets_in, sinks_in}
use Rattle.net_delays.specs.OneTimes.{AreAlike, OneTimes}
use Rattle.net_delays.proofs.Starts.{CornerOf, RowOf, corner_found, row_found, one_sums}

farads_is : (one other : Farads) → one.0 ≡ other.0 → one ≡ other
farads_is one other is = ap (λ n. record { 0 = n }) is

abbrev times_of : List ℕ → List Farads → List ℕ → NetTimes
times_of starts loads elmores = record { starts = starts; loads = loads; elmores = elmores }

times_are : (one other : NetTimes) → one.starts ≡ other.starts → one.loads ≡ other.loads → one.elmores ≡ other.elmores → one ≡ other
times_are one other starts loads elmores =
    ap (λ s. times_of s one.loads one.elmores) starts ∙ ap (λ l. times_of other.starts l one.elmores) loads
    ∙ ap (λ e. times_of other.starts other.loads e) elmores

module _ (count : ℕ) (netlist : FlatNetlist) (one other : NetTimes) (some : AreNetTimes count one) (more : AreNetTimes count other)
    (fit : Fits netlist one) (also : Fits netlist other) (same : AreAlike count netlist one other) where
  starts_are : one.starts ≡ other.starts
  starts_are = one_sums _ _ one.starts other.starts fit also

  all_nets : nets_in one ≡ length netlist.nets
  all_nets = let len = fit.len in omega (arith, len)

  loads_are : one.loads ≡ other.loads
  loads_are =
      let len : length one.loads ≡ length other.loads =
      some.loads ∙ ap (λ (starts : List ℕ). (length starts - 1) * count) starts_are ∙ sym more.loads in
      ext_get_or (record { 0 = 0 }) one.loads other.loads len (λ at below.
      let found : CornerOf count (length netlist.nets) at =
      corner_found count (length netlist.nets) at (subst (λ n. at < n) (some.loads ∙ ap (λ n. n * count) all_nets) below) in
      farads_is (get_or one.loads at (record { 0 = 0 })) (get_or other.loads at (record { 0 = 0 }))
      (ap (λ k. (get_or one.loads k (record { 0 = 0 })).0) found.at_is ∙ same.loads found.row found.corner found.within found.below
      ∙ ap (λ k. (get_or other.loads k (record { 0 = 0 })).0) (sym found.at_is)))

  elmore_is : (at : ℕ) → at < length one.elmores → get_or one.elmores at 0 ≡ get_or other.elmores at 0
  elmore_is at below =
      let all : sinks_in one ≡ start_in one.starts (length netlist.nets) = ap (start_in one.starts) all_nets in
      let found : CornerOf count (start_in one.starts (length netlist.nets)) at =
      corner_found count (start_in one.starts (length netlist.nets)) at (subst (λ n. at < n) (some.elmores ∙ ap (λ n. n * count) all) below) in
      let row : RowOf _ _ one.starts found.row = row_found _ _ one.starts fit found.row found.within in
      let place_is : at ≡ place count (start_in one.starts row.group + row.place) found.corner =
      found.at_is ∙ ap (λ r. place count r found.corner) row.row_is in
      ap (λ k. get_or one.elmores k 0) place_is
      ∙ same.elmores row.group row.place found.corner row.within row.small found.below
      ∙ ap (λ s. get_or other.elmores (place count (start_in s row.group + row.place) found.corner) 0) (sym starts_are)
      ∙ ap (λ k. get_or other.elmores k 0) (sym place_is)

  elmores_are : one.elmores ≡ other.elmores
  elmores_are =
      let len : length one.elmores ≡ length other.elmores =
      some.elmores ∙ ap (λ (starts : List ℕ). start_in starts (length starts - 1) * count) starts_are ∙ sym more.elmores in
      ext_get_or 0 one.elmores other.elmores len elmore_is

  same_times : one ≡ other
  same_times = times_are one other starts_are loads_are elmores_are

pub one_times : OneTimes
one_times = same_times
