-- What the function says of small tables: one that rises with the slew and the load, one that falls below 0, and one of a single value.
use Rattle.std.proofs.Common.{◌≡◌, ◌+◌, [], ◌∷◌, Ok, Err, pos, negsuc, refl}
use Rattle.nldm_lookup.specs.Axes.{most}
use Rattle.nldm_lookup.specs.Tables.{TimingTable}
use Rattle.corner_set.specs.declared.choices.Beyond.TheVariants.{Refuse, Edge, Extend}
use Rattle.nldm_lookup.specs.declared.faults.LookupEnd.TheVariants.{Outside, PastTime}
use Rattle.nldm_lookup.specs.declared.faults.Which.TheVariants.{Slew, Load}
use Rattle.nldm_lookup.specs.declared.grain.Grain.TheVariants.{Atto, Femto}
use Rattle.nldm_lookup.specs.declared.table.Order.TheVariants.{SlewFirst}
use Rattle.slew_order.specs.Lookups.{lookup_of}

abbrev rising : TimingTable
rising = record { slew = 10 ∷ 20 ∷ []; load = 100 ∷ 200 ∷ []; order = SlewFirst; values = pos 1000 ∷ pos 2000 ∷ pos 3000 ∷ pos 5000 ∷ [] }

abbrev falling : TimingTable
falling = record { slew = 10 ∷ 20 ∷ 40 ∷ []; load = 100 ∷ []; order = SlewFirst; values = pos 2 ∷ negsuc 0 ∷ negsuc 1 ∷ [] }

abbrev single : TimingTable
single = record { slew = 10 ∷ []; load = 100 ∷ []; order = SlewFirst; values = pos 1500 ∷ [] }

-- at a point, between, and rounded half up
at_a_point : lookup_of rising 20 100 Atto Refuse ≡ Ok (pos 3000)
unfolding lookup_of
at_a_point = refl

at_the_last : lookup_of rising 20 200 Atto Refuse ≡ Ok (pos 5000)
unfolding lookup_of
at_the_last = refl

between : lookup_of rising 15 150 Atto Refuse ≡ Ok (pos 2750)
unfolding lookup_of
between = refl

in_femtoseconds : lookup_of rising 15 150 Femto Refuse ≡ Ok (pos 3)
unfolding lookup_of
in_femtoseconds = refl

half_up : lookup_of falling 15 0 Atto Refuse ≡ Ok (pos 1)
unfolding lookup_of
half_up = refl

half_up_below_zero : lookup_of falling 30 0 Atto Refuse ≡ Ok (negsuc 0)
unfolding lookup_of
half_up_below_zero = refl

-- below and above the points
slew_refused : lookup_of rising 5 300 Atto Refuse ≡ Err (Outside (record { axis = Slew; value = 5 }))
unfolding lookup_of
slew_refused = refl

load_refused : lookup_of rising 15 300 Atto Refuse ≡ Err (Outside (record { axis = Load; value = 300 }))
unfolding lookup_of
load_refused = refl

below_by_the_edge : lookup_of rising 5 100 Atto Edge ≡ Ok (pos 1000)
unfolding lookup_of
below_by_the_edge = refl

above_by_the_edge : lookup_of rising 25 300 Atto Edge ≡ Ok (pos 5000)
unfolding lookup_of
above_by_the_edge = refl

below_extended : lookup_of rising 8 100 Atto Extend ≡ Ok (pos 600)
unfolding lookup_of
below_extended = refl

above_extended : lookup_of rising 10 350 Atto Extend ≡ Ok (pos 3500)
unfolding lookup_of
above_extended = refl

last_two_extended : lookup_of falling 80 0 Femto Extend ≡ Ok (pos 0)
unfolding lookup_of
last_two_extended = refl

-- a transition is not below 0, and a delay may be
transition_of_nothing : lookup_of rising 0 100 Atto Extend ≡ Ok (pos 0)
unfolding lookup_of
transition_of_nothing = refl

delay_below_zero : lookup_of rising 0 100 Femto Extend ≡ Ok (negsuc 0)
unfolding lookup_of
delay_below_zero = refl

-- past a nanofarad, and past a microsecond
far_load : lookup_of rising 15 (most + 1) Atto Extend ≡ Err PastTime
unfolding lookup_of
far_load = refl

far_value : lookup_of rising 15 most Atto Extend ≡ Err PastTime
unfolding lookup_of
far_value = refl

-- a single point has no ends
single_value : lookup_of single 5 300 Femto Refuse ≡ Ok (pos 2)
unfolding lookup_of
single_value = refl
