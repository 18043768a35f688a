-- Where a bit in a visited module stands among the bits that are kept.
use Rattle.std.proofs.Common.{◌≡◌, ℕ, zero, suc, ◌+◌, ◌-◌, ◌<◌, ◌≤◌, List, [], ◌∷◌, ◌++◌, length, take, get_or, Option, None, inl, inr, refl, sym, ap, ◌∙◌, subst, arith, append-nil, append_assoc, length-append}
use Rattle.std.specs.Prelude.{slice_index, flat_map}
use Rattle.std.proofs.lemmas.Bool.{cases_lt}
use Rattle.std.proofs.lemmas.Option.{slice_get-get_or}
use Rattle.std.proofs.lemmas.List.{get_or_past, get_or_append_left, get_or-append-add}
use Rattle.std.proofs.lemmas.Grind.{flat_map-append}
use Rattle.verilog_netlist.specs.ModuleNames.{NetName}
use Rattle.verilog_netlist.specs.NetModules.{NetModule, no_module, module_at}
use Rattle.verilog_netlist.specs.Ranges.{whole_width}
use Rattle.verilog_netlist.specs.declared.runs.Bit.TheVariants.{Wire}
use Rattle.hierarchy.specs.Walks.{joined_from}
use Rattle.hierarchy.proofs.Joining.{joined-more}
use Rattle.netlist_link.specs.FlatBits.{NetBit, names_on, name_on, nets_of_visit}
use Rattle.netlist_link.specs.FlatPins.{wired}
use Rattle.netlist_link.specs.NamePlaces.{bits_before}
use Rattle.netlist_link.specs.PathTables.{top_of}
use Rattle.netlist_link.specs.BitTables.{path_of, module_of, IsBitOf}
use Rattle.netlist_link.specs.FlatBitTables.{IsKept, targets_of_name, targets_of_visit, visits_of, targets_before, nets_before, HasVisitBits}
use Rattle.netlist_link.specs.declared.checking.Design.{Design}
use Rattle.netlist_link.specs.declared.flat_bits.FlatBits.{FlatBits}
use Rattle.netlist_link.specs.declared.flat_bits.NamePlaces.{NamePlaces}
use Rattle.netlist_link.proofs.Pushing.{take_push}
use Rattle.netlist_link.proofs.NamePlacing.{bits_more}
use Rattle.netlist_link.proofs.KeptBits.{kept_count, kept_read}

-- a module that has a name is a module of the file
pub named_within : (modules : List NetModule) (m name : ℕ) → name < length (module_at modules m).names → m < length modules
named_within modules m name below = elim (cases_lt m (length modules)) [
  | inl less ↦ less
  | inr past ↦ (let none : length (module_at modules m).names ≡ 0 = ap (λ (found : NetModule). length found.names) (get_or_past modules m no_module past) in absurd (omega arith))
]

-- an item of one list among lists that are joined
pub joined_read : {X : Type 0} (lists : ℕ → List X) (from n i j : ℕ) (x : X) → i < n → j < length (lists (from + i))
    → get_or (joined_from lists from n) (length (joined_from lists from i) + j) x ≡ get_or (lists (from + i)) j x
joined_read lists from zero i j x below within = absurd (omega arith)
joined_read lists from (suc n) zero j x below within =
    let here : from + 0 ≡ from = omega arith in
    let same : 0 + j ≡ j = omega arith in
    ap (λ (k : ℕ). get_or (lists from ++ joined_from lists (suc from) n) k x) same
    ∙ get_or_append_left (lists from) (joined_from lists (suc from) n) x j (subst (λ (k : ℕ). j < length (lists k)) here within)
    ∙ ap (λ (k : ℕ). get_or (lists k) j x) (sym here)
joined_read lists from (suc n) (suc i) j x below within =
    let same : suc from + i ≡ from + suc i = omega arith in
    let before = joined_from lists (suc from) i in
    let len = length-append (lists from) before in
    let place : length (lists from ++ before) + j ≡ length (lists from) + (length before + j) = omega arith in
    ap (λ (k : ℕ). get_or (lists from ++ joined_from lists (suc from) n) k x) place
    ∙ get_or-append-add (lists from) (joined_from lists (suc from) n) (length before + j) x
    ∙ joined_read lists (suc from) n i j x (omega arith) (subst (λ (k : ℕ). j < length (lists k)) (sym same) within)
    ∙ ap (λ (k : ℕ). get_or (lists k) j x) same

-- one item for each number
pub singles_read : {X : Type 0} (f : ℕ → X) (from n j : ℕ) (x : X) → j < n → get_or (joined_from (λ k. f k ∷ []) from n) j x ≡ f (from + j)
singles_read f from zero j x below = absurd (omega arith)
singles_read f from (suc n) zero x below = let same : from ≡ from + 0 = omega arith in ap f same
singles_read f from (suc n) (suc j) x below =
    let same : suc from + j ≡ from + suc j = omega arith in
    singles_read f (suc from) n j x (omega arith) ∙ ap f same

pub length-singles : {X : Type 0} (f : ℕ → X) (from n : ℕ) → length (joined_from (λ k. f k ∷ []) from n) ≡ n
length-singles f from zero = refl
length-singles f from (suc n) = ap suc (length-singles f (suc from) n)

-- so many bits are no more than those of more names
pub before_few : (names : List NetName) (old : NamePlaces) (i more : ℕ) → i + more ≤ length names → bits_before names i ≤ bits_before names (i + more)
before_few names old i zero few = let same : i + 0 ≡ i = omega arith in subst (λ (k : ℕ). bits_before names i ≤ bits_before names k) (sym same) (omega arith)
before_few names old i (suc more) few =
    let same : i + suc more ≡ (i + more) + 1 = omega arith in
    let before = before_few names old i more (omega arith) in
    let next = bits_more names old (i + more) (omega arith) in
    subst (λ (k : ℕ). bits_before names i ≤ bits_before names k) (sym same) (omega arith)

module _ (modules : List NetModule) (top : ℕ) (path : List ℕ) (old : NamePlaces) where
  pub targets_len : (name : ℕ) → length (targets_of_name modules top path name) ≡ whole_width (name_on modules top path name).range
  targets_len name = length-singles (λ bit. wired modules top path (Wire name bit)) 0 (whole_width (name_on modules top path name).range)

  -- so many bits stand before those of a name
  pub targets_upto : (i : ℕ) → i ≤ length (names_on modules top path)
      → length (joined_from (targets_of_name modules top path) 0 i) ≡ bits_before (names_on modules top path) i
  targets_upto zero few = refl
  targets_upto (suc i) few =
      let more : suc i ≡ i + 1 = omega arith in
      let from : 0 + i ≡ i = omega arith in
      let own = targets_len i in
      let before = targets_upto i (omega arith) in
      let len = length-append (joined_from (targets_of_name modules top path) 0 i) (targets_of_name modules top path i) in
      let next = bits_more (names_on modules top path) old i (omega arith) in
      let all : length (joined_from (targets_of_name modules top path) 0 (i + 1))
      ≡ length (joined_from (targets_of_name modules top path) 0 i ++ targets_of_name modules top path i) =
      ap length (joined-more (targets_of_name modules top path) 0 i
      ∙ ap (λ (k : ℕ). joined_from (targets_of_name modules top path) 0 i ++ targets_of_name modules top path k) from) in
      subst (λ (k : ℕ). length (joined_from (targets_of_name modules top path) 0 k) ≡ bits_before (names_on modules top path) k) (sym more) (omega arith)

module _ (d : Design) (visit : ℕ) (below : visit < length (visits_of d)) where
  taken : take (visit + 1) (visits_of d) ≡ take visit (visits_of d) ++ path_of d visit ∷ []
  taken = take_push (visits_of d) visit (path_of d visit) (slice_get-get_or (visits_of d) visit [] below)

  -- one visited module more
  pub targets_more : targets_before d (visit + 1) ≡ targets_before d visit ++ targets_of_visit d.modules.now (top_of d.walk.now) (path_of d visit)
  targets_more =
      let targets = targets_of_visit d.modules.now (top_of d.walk.now) in
      ap (flat_map targets) taken ∙ flat_map-append targets (take visit (visits_of d)) (path_of d visit ∷ [])
      ∙ ap (λ (l : List (Option NetBit)). targets_before d visit ++ l) (append-nil (targets (path_of d visit)))

  pub nets_more : nets_before d (visit + 1) ≡ nets_before d visit ++ nets_of_visit d.modules.now (top_of d.walk.now) (path_of d visit)
  nets_more =
      let nets = nets_of_visit d.modules.now (top_of d.walk.now) in
      ap (flat_map nets) taken ∙ flat_map-append nets (take visit (visits_of d)) (path_of d visit ∷ [])
      ∙ ap (λ (l : List NetBit). nets_before d visit ++ l) (append-nil (nets (path_of d visit)))

module _ (d : Design) (visit : ℕ) (bits : FlatBits) (has : HasVisitBits d visit bits) (name bit : ℕ) (inside : IsBitOf d visit name bit) where
  abbrev modules : List NetModule
  modules = d.modules.now

  abbrev names : List NetName
  names = names_on d.modules.now (top_of d.walk.now) (path_of d visit)

  abbrev own : List (Option NetBit)
  own = targets_of_visit d.modules.now (top_of d.walk.now) (path_of d visit)

  abbrev lists : ℕ → List (Option NetBit)
  lists = targets_of_name d.modules.now (top_of d.walk.now) (path_of d visit)

  pub module_there : module_of d visit < length d.modules.now
  module_there = named_within modules (module_of d visit) name inside.name_below

  pub visit_started : visit < length bits.starts.items
  visit_started = let len = has.held.starts_len in let below = has.below in omega arith

  pub start_is : slice_index bits.starts.items visit ≡ length (targets_before d visit)
  start_is = has.held.starts_are visit has.below

  upto : length (joined_from lists 0 name) ≡ bits_before names name
  upto = let below = inside.name_below in targets_upto modules (top_of d.walk.now) (path_of d visit) bits.names name (omega arith)

  name_end : length (joined_from lists 0 name) + whole_width (name_on d.modules.now (top_of d.walk.now) (path_of d visit) name).range ≤ length own
  name_end =
      let below = inside.name_below in
      let here = targets_upto modules (top_of d.walk.now) (path_of d visit) bits.names name (omega arith) in
      let next = bits_more names bits.names name below in
      let whole = targets_upto modules (top_of d.walk.now) (path_of d visit) bits.names (length names) (omega arith) in
      let rest = length names - (name + 1) in
      let parts : (name + 1) + rest ≡ length names = omega arith in
      let few = subst (λ (k : ℕ). bits_before names (name + 1) ≤ bits_before names k) parts (before_few names bits.names (name + 1) rest (omega arith)) in
      omega arith

  -- the bit stands within what is kept
  pub place_within : length (targets_before d visit) + bits_before names name + bit < length bits.bits.items
  place_within =
      let count = kept_count has.nets (targets_before d (visit + 1) ++ has.rest) bits.bits.items has.held.numbers_are in
      let parts = ap length (targets_more d visit inside.visit_below) in
      let one = length-append (targets_before d visit) own in
      let all = length-append (targets_before d (visit + 1)) has.rest in
      let end = name_end in
      let before = upto in
      let below = inside.bit_below in
      omega arith

  -- and what stands there is what the bit is on
  pub place_is : IsKept has.nets (wired d.modules.now (top_of d.walk.now) (path_of d visit) (Wire name bit))
      (get_or bits.bits.items (length (targets_before d visit) + bits_before names name + bit) None)
  place_is =
      let place = length (targets_before d visit) + bits_before names name + bit in
      let all = targets_before d (visit + 1) ++ has.rest in
      let count = kept_count has.nets all bits.bits.items has.held.numbers_are in
      let there = place_within in
      let before = upto in
      let end = name_end in
      let below = inside.bit_below in
      let at : place ≡ length (targets_before d visit) + (length (joined_from lists 0 name) + bit) = omega arith in
      let from : 0 + name ≡ name = omega arith in
      let zero_from : 0 + bit ≡ bit = omega arith in
      let len = targets_len modules (top_of d.walk.now) (path_of d visit) bits.names name in
      let is : get_or all place None ≡ wired d.modules.now (top_of d.walk.now) (path_of d visit) (Wire name bit) =
      ap (λ (l : List (Option NetBit)). get_or (l ++ has.rest) place None) (targets_more d visit inside.visit_below)
      ∙ ap (λ (l : List (Option NetBit)). get_or l place None) (append_assoc (targets_before d visit) own has.rest)
      ∙ ap (λ (k : ℕ). get_or (targets_before d visit ++ (own ++ has.rest)) k None) at
      ∙ get_or-append-add (targets_before d visit) (own ++ has.rest) (length (joined_from lists 0 name) + bit) None
      ∙ get_or_append_left own has.rest None (length (joined_from lists 0 name) + bit) (omega arith)
      ∙ joined_read lists 0 (length names) name bit None inside.name_below (subst (λ (k : ℕ). bit < length (lists k)) (sym from) (omega arith))
      ∙ ap (λ (k : ℕ). get_or (lists k) bit None) from
      ∙ singles_read (λ b. wired modules (top_of d.walk.now) (path_of d visit) (Wire name b)) 0
      (whole_width (name_on d.modules.now (top_of d.walk.now) (path_of d visit) name).range) bit None below
      ∙ ap (λ (b : ℕ). wired modules (top_of d.walk.now) (path_of d visit) (Wire name b)) zero_from in
      subst (λ (target : Option NetBit). IsKept has.nets target (get_or bits.bits.items place None)) is
      (kept_read has.nets all bits.bits.items place (omega arith) has.held.numbers_are)
