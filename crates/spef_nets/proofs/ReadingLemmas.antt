-- The sections of a file are read one after another.
use Rattle.std.proofs.Common.{◌≡◌, ℕ, ◌+◌, ◌<◌, List, [], ◌∷◌, ◌++◌, length, map, take, ◌⊎◌, inl, inr, ⊎_elim, refl, sym, ap, ◌∙◌, subst, arith, add-one, length-append}
use Rattle.std.specs.Prelude.{Option, Some, None, slice_get, Contains}
use Rattle.std.specs.Option.{option_map}
use Rattle.std.specs.List.{flat_map}
use Rattle.std.proofs.lemmas.Bool.{cases_eq}
use Rattle.std.proofs.lemmas.Option.{slice_get-map, slice_get-get_or, slice_get_within, get_or_from_slice_get}
use Rattle.std.proofs.lemmas.List.{map_push}
use Rattle.spef_text.specs.Entries.{Section, section_at, no_section}
use Rattle.spef_text.specs.SpefFiles.{SpefText}
use Rattle.spef_text.specs.Heads.{HeadText, IsHeadOf}
use Rattle.spef_nets.specs.Nodes.{net_at}
use Rattle.spef_nets.specs.NetElements.{NetElements}
use Rattle.spef_nets.specs.Reading.{IsReading, AreFaultlessBefore}
use Rattle.spef_nets.specs.Rows.{no_rows}
use Rattle.spef_nets.specs.RowsOf.{rows_of}
use Rattle.spef_nets.specs.Tables.{start}
use Rattle.spef_nets.specs.TablesOf.{nets_in, HoldNets}
use Rattle.spef_nets.specs.declared.tables.Tables.{Tables}
use Rattle.spef_nets.specs.Sections.{Corners, IsNet, AreNets}
use Rattle.spef_nets.specs.Faults.{Point, reference, naming, IsUnknownAt, nets_before, IsGood, IsFirstFault, conn_points, cap_points, res_points, points_of, IsFaultless, AreFaultless, IsFirstOfAll, IsSectionEnd}
use Rattle.spef_nets.specs.Drafts.{IsStop, IsUnless}
use Rattle.spef_nets.specs.declared.ends.SectionEnd.{SectionEnd}
use Rattle.spef_nets.specs.declared.ends.SectionEnd.TheVariants.{UnknownIndex, BadNumber, ValueTooLarge, RepeatedNet, ForeignCoupling, OutOfMemory}
use Rattle.spef_nets.proofs.Lists.{get_push, take_push, map_at}
use Rattle.spef_nets.proofs.PointLemmas.{Upto, step, stop}
use Rattle.spef_nets.proofs.ResStepping.{good_net}
use Rattle.spef_nets.proofs.TableLemmas.{none_tabled, as_many_nets}

some_is : {X : Type 0} (a b : X) → Some a ≡ Some b → a ≡ b
some_is a b e = cc

-- a name is among the names exactly where it is among those that the sections give
contains_at : {X : Type 0} (xs : List X) (k : ℕ) (x : X) → slice_get xs k ≡ Some x → Contains xs x
contains_at xs k x at = (k, slice_get_within xs k x at, get_or_from_slice_get xs k x x at)

unwrapped : {X : Type 0} (o : Option X) (x : X) → option_map Some o ≡ Some (Some x) → o ≡ Some x
unwrapped None x e = absurd (cc)
unwrapped (Some y) x e = let same : y ≡ x = cc in ap Some same

contains_some : {X : Type 0} (xs : List X) (x : X) → Contains (map Some xs) (Some x) → Contains xs x
contains_some xs x (k, below, is) =
    contains_at xs k x (unwrapped (slice_get xs k) x (sym (slice_get-map Some xs k) ∙ slice_get-get_or (map Some xs) k (Some x) below ∙ ap Some is))

some_contains : {X : Type 0} (xs : List X) (x : X) → Contains xs x → Contains (map Some xs) (Some x)
some_contains xs x (k, below, is) = contains_at (map Some xs) k (Some x) (map_at Some xs k x (slice_get-get_or xs k x below ∙ ap Some is))

pub section_stands : (sections : List Section) (place : ℕ) → place < length sections → slice_get sections place ≡ Some (section_at sections place)
section_stands sections place below = slice_get-get_or sections place no_section below

-- no section has been read
pub none_read : (file : SpefText) (head : HeadText) (nets : List (List ℕ)) → IsHeadOf file head → nets ≡ [] → IsReading file head nets
none_read file head nets of_file none = record {
  of_file = of_file;
  named = ap (map Some) none ∙ ap (λ (l : List (List ℕ)). nets_before file (length l)) (sym none);
  faultless = λ other section below at. (let e : length nets ≡ 0 = ap length none in absurd (omega (arith, below, e)));
}

-- the section at a place is the next one
module _ {I : Type 0} (corners : Corners I) (file : SpefText) (head : HeadText) (nets : List (List ℕ)) (is : IsReading file head nets) (place : ℕ) (next : place ≡ length nets)
    (left : length nets < length file.reading.sections) where
  abbrev section : Section
  section = section_at file.reading.sections place

  at : slice_get file.reading.sections place ≡ Some section
  at = section_stands file.reading.sections place (omega (arith, left, next))

  before : map Some nets ≡ nets_before file place
  before = is.named ∙ ap (nets_before file) (sym next)

  good_before : AreFaultlessBefore file head place
  good_before other its below there = is.faultless other its (omega (arith, below, next)) there

  first_of_all : (end : SectionEnd) → IsFirstFault file place section (points_of file head section) end → IsFirstOfAll file head end
  first_of_all end first = record { place = place; section = section; stands = at; first = first; earlier = good_before }

  -- a section that is refused refuses the file
  pub section_end : (end : SectionEnd) → IsStop file head place end → IsSectionEnd file head end
  section_end OutOfMemory is = tt
  section_end (UnknownIndex token) is = first_of_all (UnknownIndex token) is
  section_end (BadNumber token) is = first_of_all (BadNumber token) is
  section_end (ValueTooLarge token) is = first_of_all (ValueTooLarge token) is
  section_end (RepeatedNet net token) is = first_of_all (RepeatedNet net token) is
  section_end (ForeignCoupling net token) is = first_of_all (ForeignCoupling net token) is

  begin : Upto file head place section [] (points_of file head section)
  begin = record { split = refl; good = λ k d h. absurd (omega arith) }

  -- an index that is missing in the map
  pub unknown_net : (end : SectionEnd) → IsUnless (IsUnknownAt file section.net) end → IsStop file head place end
  unknown_net OutOfMemory is = tt
  unknown_net (UnknownIndex token) is = stop file head place section [] _ (reference section.net) (UnknownIndex token) begin is
  unknown_net (BadNumber token) is = absurd is
  unknown_net (ValueTooLarge token) is = absurd is
  unknown_net (RepeatedNet net token) is = absurd is
  unknown_net (ForeignCoupling net token) is = absurd is

  module _ (net : List ℕ) (named : net_at file section.net ≡ Some net) where
    abbrev behind : List Point
    behind = (conn_points file head [] section.conns ++ flat_map (cap_points head) section.caps) ++ flat_map (res_points head) section.ress

    known : Upto file head place section (reference section.net ∷ []) (naming section.net ∷ behind)
    known = step file head place section [] (naming section.net ∷ behind) (reference section.net) begin (good_net corners file head place net named)

    -- a net that has a section already
    repeated_net : Contains nets net → IsStop file head place (RepeatedNet net section.net)
    repeated_net again =
        stop file head place section (reference section.net ∷ []) behind (naming section.net) (RepeatedNet net section.net) known
        (refl, named, subst (λ (l : List (Option (List ℕ))). Contains l (Some net)) before (some_contains nets net again))

    -- there was no memory for the net's name, or the net has a section already
    pub refused_net : (end : SectionEnd) → IsUnless (λ end. Contains nets net × (end ≡ RepeatedNet net section.net)) end → IsStop file head place end
    refused_net OutOfMemory is = tt
    refused_net (UnknownIndex token) (again, is) = subst (IsStop file head place) (sym is) (repeated_net again)
    refused_net (BadNumber token) (again, is) = subst (IsStop file head place) (sym is) (repeated_net again)
    refused_net (ValueTooLarge token) (again, is) = subst (IsStop file head place) (sym is) (repeated_net again)
    refused_net (RepeatedNet other token) (again, is) = subst (IsStop file head place) (sym is) (repeated_net again)
    refused_net (ForeignCoupling other token) (again, is) = subst (IsStop file head place) (sym is) (repeated_net again)

    pub new_net : (Contains nets net → ⊥) → IsGood file place section (naming section.net)
    new_net new (UnknownIndex token) is = is
    new_net new (BadNumber token) is = is
    new_net new (ValueTooLarge token) is = is
    new_net new (RepeatedNet other token) (same, its, again) =
        let equal : other ≡ net = some_is other net (sym its ∙ named) in
        new (contains_some nets net (subst (λ (l : List (Option (List ℕ))). Contains l (Some net)) (sym before) (subst (λ (x : List ℕ). Contains (nets_before file place) (Some x)) equal again)))
    new_net new (ForeignCoupling other token) is = is
    new_net new OutOfMemory is = is

    one_longer : length (nets ++ net ∷ []) ≡ place + 1
    one_longer = length-append nets (net ∷ []) ∙ ap (λ n. n + 1) (sym next)

    -- one more section
    pub read_more : (after : List (List ℕ)) → IsFaultless file head place section → after ≡ nets ++ net ∷ [] → IsReading file head after
    read_more after good put = subst (λ (l : List (List ℕ)). IsReading file head l) (sym put) (record {
      of_file = is.of_file;
      named = map_push Some nets net ∙ (λ i. before i ++ sym named i ∷ [])
          ∙ sym (map_push (λ (s : Section). net_at file s.net) (take place file.reading.sections) section)
          ∙ ap (map (λ (s : Section). net_at file s.net)) (sym (rw add-one (take_push file.reading.sections place section at)))
          ∙ ap (nets_before file) (sym one_longer);
      faultless = λ other its less there. by other its (subst (λ (n : ℕ). other < n) one_longer less) there (cases_eq other place);
    })
      where
        by : (other : ℕ) (its : Section) → other < place + 1 → slice_get file.reading.sections other ≡ Some its → (other ≡ place) ⊎ (other ≡ place → ⊥) → IsFaultless file head other its
        by other its less there (inl same) =
            let equal : section ≡ its = some_is section its (sym at ∙ ap (slice_get file.reading.sections) (sym same) ∙ there) in
            subst (λ (s : Section). IsFaultless file head other s) equal (subst (λ (n : ℕ). IsFaultless file head n section) (sym same) good)
        by other its less there (inr differ) = good_before other its (omega (arith, less, differ)) there

-- the sections in front of this place have been read, and the tables hold their nets
pub record AreRead {I : Type 0} (corners : Corners I) (file : SpefText) (head : HeadText) (nets : List (List ℕ)) (tables : Tables) (many : ℕ) : Type 0 where
  pub reading : IsReading file head nets
  pub held : HoldNets file head corners.count nets tables
  pub count : length nets ≡ many
  pub each : (place : ℕ) (net : NetElements) → slice_get (nets_in file corners.count nets tables) place ≡ Some net → IsNet corners file head (section_at file.reading.sections place) net

module _ {I : Type 0} (corners : Corners I) (file : SpefText) (head : HeadText) where
  pub no_nets : IsHeadOf file head → (nets : List (List ℕ)) (tables : Tables) → nets ≡ [] → tables.nodes.items ≡ [] → rows_of tables.elements ≡ no_rows → tables.ends.items ≡ []
      → AreRead corners file head nets tables 0
  no_nets of_file nets tables none no_nodes empty no_ends =
      let held : HoldNets file head corners.count nets tables = none_tabled file head corners.count nets tables.ends.items tables.nodes.items (rows_of tables.elements)
      (record { head_of_file = of_file; each = λ k d below. absurd (omega (arith, below)) }) none no_ends no_nodes empty in
      let few : length (nets_in file corners.count nets tables) ≡ length nets = as_many_nets file corners.count tables.nodes.items (rows_of tables.elements) start tables.ends.items nets held.named in
      record {
        reading = none_read file head nets of_file none;
        held = held;
        count = ap length none;
        each = λ place net at. absurd (let within = slice_get_within (nets_in file corners.count nets tables) place net at in omega (arith, within, few, ap length none));
      }

  module _ (nets : List (List ℕ)) (tables : Tables) (many : ℕ) (read : AreRead corners file head nets tables many) where
    abbrev all : List NetElements
    all = nets_in file corners.count nets tables

    all_count : length all ≡ length nets
    all_count = as_many_nets file corners.count tables.nodes.items (rows_of tables.elements) start tables.ends.items nets read.held.named

    pub one_more : (after : List (List ℕ)) (now : Tables) (net : NetElements) → IsNet corners file head (section_at file.reading.sections (length nets)) net
        → nets_in file corners.count after now ≡ all ++ net ∷ [] → HoldNets file head corners.count after now → IsReading file head after
        → AreRead corners file head after now (many + 1)
    one_more after now net is grows held reading = record {
      reading = reading;
      held = held;
      count = sym (as_many_nets file corners.count now.nodes.items (rows_of now.elements) start now.ends.items after held.named) ∙ ap length grows
          ∙ length-append all (net ∷ []) ∙ ap (λ n. n + 1) (all_count ∙ read.count);
      each = λ place it there. ⊎_elim (λ l. read.each place it l)
          (λ r. subst (λ (x : NetElements). IsNet corners file head (section_at file.reading.sections place) x) r.1
          (subst (λ (n : ℕ). IsNet corners file head (section_at file.reading.sections n) net) (sym (r.0 ∙ all_count)) is))
          (get_push all net place it (subst (λ (l : List NetElements). slice_get l place ≡ Some it) grows there));
    }

    pub all_nets : many ≡ length file.reading.sections → AreNets corners file head all
    all_nets whole = record { count = all_count ∙ read.count ∙ whole; each = read.each }

    pub all_faultless : many ≡ length file.reading.sections → AreFaultless file head
    all_faultless whole place section at =
        read.reading.faultless place section (let within = slice_get_within file.reading.sections place section at in omega (arith, within, whole, read.count)) at
