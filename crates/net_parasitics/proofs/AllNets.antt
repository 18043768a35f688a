-- The times and the work of the nets of a netlist, net after net.
use Rattle.std.proofs.Common.{◌≡◌, ◌≢◌, ℕ, zero, suc, ◌+◌, ◌-◌, ◌<◌, ◌≤◌, ◌⊎◌, Bool, true, false, List, [], ◌∷◌, length, Option, Some, None, refl, sym, subst, ◌∙◌, arith, inl, inr, true≢false}
use Rattle.std.specs.Prelude.{Contains, IsTrue, Result, Ok, Err, IfErr, IsErrAnd}
use Rattle.std.specs.Str.{bytes_eq}
use Rattle.std.proofs.lemmas.Bool.{cases_eq}
use Rattle.std.proofs.lemmas.Slice.Eq.{bytes_eq-Decides}
use Rattle.netlist_link.specs.FlatNetlist.{FlatNetlist, net_at}
use Rattle.netlist_link.specs.declared.ends.End.{End}
use Rattle.spef_nets.specs.NetElements.{NetElements, net_names}
use Rattle.rc_tree.specs.Elmore.{IsElmore}
use Rattle.net_delays.specs.NetTimes.{NetTimes, AreNetTimes, HasNet, HasSink, Fits, AreStarts, load_at, elmore_at}
use Rattle.net_parasitics.specs.Inputs.{Inputs}
use Rattle.net_parasitics.specs.NetSections.{IsSectionOf, is_written, is_missing, no_section}
use Rattle.net_parasitics.specs.NetSteps.{KeepsOtherNets, AreFirstTimes, IsFirstNetEnd, IsNetEnd, net_refused, no_memory_for_it, IsFirstMissing, first_missing, TakesWork}
use Rattle.net_parasitics.specs.NetTrees.{IsWired, IsUnwired, elements_at, sink_at, HasTree, needs_none, has_one, AreZero, HasTimes, are_zero, are_times, NoneMissing, AreNetDelays, IsParasiticsEnd, missing_net, no_tree, no_memory}
use Rattle.net_parasitics.specs.WorkCounts.{NetWork, of_none, of_net, most_steps, NetsWork, no_nets, and_net, IsWithin, is_early}
use Rattle.corner_set.specs.declared.choices.Missing.{Missing}
use Rattle.corner_set.specs.declared.choices.Missing.TheVariants.{Refuse}
use Rattle.net_parasitics.specs.declared.ends.ParasiticsEnd.{ParasiticsEnd}
use Rattle.net_parasitics.specs.declared.ends.ParasiticsEnd.TheVariants.{OutOfMemory}

-- what fits a netlist has its nets and their sinks
has_net_of : (netlist : FlatNetlist) (times : NetTimes) (net : ℕ) → Fits netlist times → net < length netlist.nets → HasNet times net
has_net_of netlist times net fits within = let len = fits.len in omega (arith, within, len)

has_sink_of : (netlist : FlatNetlist) (times : NetTimes) (net sink : ℕ) → Fits netlist times → net < length netlist.nets → sink < length (net_at netlist net).sinks → HasSink times net sink
has_sink_of netlist times net sink fits within below = (has_net_of netlist times net fits within, (let next = fits.next net within in omega (arith, below, next)))

module _ (inputs : Inputs) where
  -- a net whose times are those of another table has them there too
  kept_times : (before after : NetTimes) (net other : ℕ) → Fits inputs.netlist before → KeepsOtherNets inputs.count before after net → other < length inputs.netlist.nets → other ≢ net
      → HasTimes inputs before other → HasTimes inputs after other
  kept_times before after net other fits kept within apart (are_zero unwired none) = are_zero unwired (record {
    load = λ corner below. kept.loads other corner (has_net_of inputs.netlist before other fits within) below apart ∙ none.load corner below;
    elmore = λ corner sink below has. kept.elmores other sink corner (has_sink_of inputs.netlist before other sink fits within has) below apart ∙ none.elmore corner sink below has;
  })
  kept_times before after net other fits kept within apart (are_times driver section is tree times) = are_times driver section is tree (record {
    load = λ corner below. kept.loads other corner (has_net_of inputs.netlist before other fits within) below apart ∙ times.load corner below;
    elmore = λ corner sink below has. subst (IsElmore (elements_at inputs other driver section corner) (sink_at inputs other driver section sink))
        (sym (kept.elmores other sink corner (has_sink_of inputs.netlist before other sink fits within has) below apart)) (times.elmore corner sink below has);
  })

  kept_zero : (before after : NetTimes) (net other : ℕ) → Fits inputs.netlist before → KeepsOtherNets inputs.count before after net → other < length inputs.netlist.nets → other ≢ net
      → AreZero inputs before other → AreZero inputs after other
  kept_zero before after net other fits kept within apart none = record {
    load = λ corner below. kept.loads other corner (has_net_of inputs.netlist before other fits within) below apart ∙ none.load corner below;
    elmore = λ corner sink below has. kept.elmores other sink corner (has_sink_of inputs.netlist before other sink fits within has) below apart ∙ none.elmore corner sink below has;
  }

  -- one net more has its times
  pub next_times : (before after : NetTimes) (net : ℕ) → net < length inputs.netlist.nets → AreFirstTimes inputs net before → KeepsOtherNets inputs.count before after net → HasTimes inputs after net
      → AreFirstTimes inputs (net + 1) after
  next_times before after net within first kept here = record {
    fits = subst (AreStarts inputs.netlist) (sym kept.starts) first.fits;
    before = λ other less. elim (cases_eq other net) [
      | inl same ↦ subst (HasTimes inputs after) (sym same) here
      | inr apart ↦ kept_times before after net other first.fits kept (omega (arith, less, within)) apart (first.before other (omega (arith, less, apart)))
    ];
    after = λ other more below. kept_zero before after net other first.fits kept below (λ same. omega (arith, more, same)) (first.after other (omega (arith, more)) below);
  }

  pub tree_of_times : (times : NetTimes) (net : ℕ) → HasTimes inputs times net → HasTree inputs net
  tree_of_times times net (are_zero unwired none) = needs_none unwired
  tree_of_times times net (are_times driver section is tree put) = has_one driver section is tree

  -- the first net that is refused
  pub first_end : (times : NetTimes) (net : ℕ) (end : ParasiticsEnd) → AreFirstTimes inputs net times → IsNetEnd inputs net end → IsFirstNetEnd inputs end
  first_end times net end first is = record { net = net; is = is; earlier = λ other less. tree_of_times times other (first.before other less) }

  pub first_of_all : (end : ParasiticsEnd) → end ≡ OutOfMemory → IsFirstNetEnd inputs end
  first_of_all end is = subst (IsFirstNetEnd inputs) (sym is) (record { net = 0; is = no_memory_for_it; earlier = λ other less. absurd (omega (arith, less)) })

  -- the netlist's end
  pub end_of_nets : (missing : Missing) (end : ParasiticsEnd) → NoneMissing inputs missing → IsFirstNetEnd inputs end → IsParasiticsEnd inputs missing end
  end_of_nets missing end none first = by end first.is
    where
      by : (end : ParasiticsEnd) → IsNetEnd inputs first.net end → IsParasiticsEnd inputs missing end
      by e (net_refused why refused) = no_tree first.net why none refused first.earlier
      by e no_memory_for_it = no_memory

  pub end_of_missing : (missing : Missing) (end : ParasiticsEnd) → (missing ≡ Refuse) × IsFirstMissing inputs end → IsParasiticsEnd inputs missing end
  end_of_missing missing end (is, first_missing net here earlier) = missing_net net is here earlier

  -- such an end comes after a tree was begun, or for want of memory
  pub not_early : (end : ParasiticsEnd) → IsFirstNetEnd inputs end → IsTrue (is_early end) → ⊥
  not_early end first early = by end first.is early
    where
      by : (end : ParasiticsEnd) → IsNetEnd inputs first.net end → IsTrue (is_early end) → ⊥
      by e (net_refused why refused) early = true≢false (sym early)
      by e no_memory_for_it early = true≢false (sym early)

  pub all_delays : (missing : Missing) (times : NetTimes) → NoneMissing inputs missing → AreFirstTimes inputs (length inputs.netlist.nets) times → AreNetTimes inputs.count times → AreNetDelays inputs missing times
  all_delays missing times none first whole = record { fits = first.fits; whole = whole; none_missing = none; each = first.before }

  -- a new table has nothing yet
  pub none_yet : (times : NetTimes) → Fits inputs.netlist times → ((net corner : ℕ) → load_at inputs.count times net corner ≡ 0)
      → ((net sink corner : ℕ) → elmore_at inputs.count times net sink corner ≡ 0) → AreFirstTimes inputs 0 times
  none_yet times fits loads elmores = record {
    fits = fits;
    before = λ net less. absurd (omega (arith, less));
    after = λ net more below. record { load = λ corner within. loads net corner; elmore = λ corner sink within has. elmores net sink corner };
  }

  -- every net has its work: it is wired or not, and it has a section or none
  wired_or : (net : ℕ) → net < length inputs.netlist.nets → ((driver : End) × IsWired inputs.netlist net driver) ⊎ IsUnwired inputs.netlist net
  wired_or net within = by (net_at inputs.netlist net).driver refl
    where
      by : (driver : Option End) → (net_at inputs.netlist net).driver ≡ driver → ((driver : End) × IsWired inputs.netlist net driver) ⊎ IsUnwired inputs.netlist net
      by None is = inr (λ driver wired. let e = sym is ∙ wired.driven in cc)
      by (Some driver) is = elim (cases_eq (length (net_at inputs.netlist net).sinks) 0) [
        | inl none ↦ inr (λ other wired. let some = wired.some in omega (arith, some, none))
        | inr some ↦ inl (driver, record { there = within; driven = is; some = omega (arith, some) })
      ]

section_there : (sections : List NetElements) (text : List ℕ) → (section : NetElements) × IsSectionOf sections text section
section_there [] text = (no_section text, is_missing (λ has. omega (arith, has.1)))
section_there (s ∷ sections) text = by (bytes_eq s.net text) refl (section_there sections text)
  where
    by : (same : Bool) → bytes_eq s.net text ≡ same → (section : NetElements) × IsSectionOf sections text section → (section : NetElements) × IsSectionOf (s ∷ sections) text section
    by true is rest = (s, is_written 0 s refl ((bytes_eq-Decides s.net text).0 is))
    by false is (section, is_written place there at named) = (there, is_written (suc place) there at named)
    by false is (section, is_missing absent) = (no_section text, is_missing none)
      where
        none : ¬ Contains (net_names (s ∷ sections)) text
        none (zero, below, same) = true≢false (sym ((bytes_eq-Decides s.net text).1 same) ∙ is)
        none (suc k, below, same) = absent (k, omega (arith, below), same)

module _ (inputs : Inputs) where
  work_there : (net : ℕ) → net < length inputs.netlist.nets → (work : ℕ) × NetWork inputs net work
  work_there net within = elim (wired_or inputs net within) [
    | inl wired ↦ (let section = section_there inputs.sections (net_at inputs.netlist net).text in
        (most_steps inputs net wired.0 section.0, of_net wired.0 section.0 (record { wired = wired.1; written = section.1 })))
    | inr unwired ↦ (0, of_none unwired)
  ]

  more_work : (nets more work : ℕ) → nets + more ≤ length inputs.netlist.nets → NetsWork inputs nets work → (all : ℕ) × (work ≤ all) × NetsWork inputs (nets + more) all
  more_work nets zero work few given = (work, omega arith, (let same : nets ≡ nets + zero = omega arith in subst (λ n. NetsWork inputs n work) same given))
  more_work nets (suc more) work few given =
      let (all, above, rest) = more_work nets more work (omega (arith, few)) given in
      let (next, its) = work_there (nets + more) (omega (arith, few)) in
      (all + next, omega (arith, above), (let same : suc (nets + more) ≡ nets + suc more = omega arith in subst (λ n. NetsWork inputs n (all + next)) same (and_net rest its)))

  -- the work of the first nets is within that of all
  pub within_all : (nets before after : ℕ) → nets ≤ length inputs.netlist.nets → IsWithin inputs nets before after → IsWithin inputs (length inputs.netlist.nets) before after
  within_all nets before after few within =
      let total : nets + (length inputs.netlist.nets - nets) ≡ length inputs.netlist.nets = omega (arith, few) in
      let (all, above, given) = more_work nets (length inputs.netlist.nets - nets) within.work (omega (arith, total)) within.given in
      record { work = all; given = subst (λ n. NetsWork inputs n all) total given; bound = (let bound = within.bound in omega (arith, bound, above)) }

  pub no_work_yet : (steps : ℕ) → IsWithin inputs 0 steps steps
  no_work_yet steps = record { work = 0; given = no_nets; bound = omega arith }

  pub next_work : (nets before middle after : ℕ) → IsWithin inputs nets before middle → TakesWork inputs nets middle after → IsWithin inputs (nets + 1) before after
  next_work nets before middle after within takes = record {
    work = within.work + takes.work;
    given = (let same : suc nets ≡ nets + 1 = omega arith in subst (λ n. NetsWork inputs n (within.work + takes.work)) same (and_net within.given takes.given));
    bound = (let one = within.bound in let two = takes.bound in omega (arith, one, two));
  }

-- an answer that was handed on
pub handed_on : {A E : Type 0} (P : E → Type 0) (r : Result A E) (end : E) → IsErrAnd r (λ other. other ≡ end) → P end → IfErr r P
handed_on P (Ok value) end is holds = tt
handed_on P (Err other) end is holds = subst P (sym is) holds

-- there is a corner
pub some_corner : (count : ℕ) → (count ≡ 1) ⊎ (count ≡ 3) → 0 < count
some_corner count (inl one) = omega (arith, one)
some_corner count (inr three) = omega (arith, three)
