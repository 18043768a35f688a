-- A design has slews or a reason why it has none, and that is one, but for which cycle is named.
use Rattle.std.proofs.Common.{◌≡◌, ℕ, ◌<◌, inl, inr, ⊎_elim, List, length, refl, sym, ap, ◌∙◌, subst, arith}
use Rattle.std.specs.Prelude.{pos}
use Rattle.std.proofs.lemmas.Bool.{cases_lt, cases_eq}
use Rattle.cell_models.specs.declared.edge.Edge.{Edge}
use Rattle.cell_models.specs.declared.edge.Edge.TheVariants.{Rise, Fall}
use Rattle.cell_models.specs.declared.edge.Part.{Part}
use Rattle.delay_units.specs.declared.quantities.Atto.{Atto}
use Rattle.nldm_lookup.specs.declared.faults.LookupEnd.TheVariants as lookup
use Rattle.nldm_lookup.specs.declared.faults.Outside.{Outside as OutsideAxis}
use Rattle.slew_order.specs.declared.arcs.ArcAt.{ArcAt}
use Rattle.slew_order.specs.declared.lookups.PartEnd.{PartEnd}
use Rattle.slew_order.specs.declared.ends.SlewEnd.TheVariants.{Loop, Outside, PastTime, SlewLimit, OutOfMemory}
use Rattle.slew_order.specs.Cycles.{HasNoCycle, IsCycleFromLeast}
use Rattle.net_delays.specs.NetTimes.{NetTimes, elmore_at}
use Rattle.slew_order.specs.SlewEnds.{IsRefusal, IsFirstRefusal, IsLimit, IsFirstOfSink, IsFirstLimit, NoRefusals, NoLimits}
use Rattle.slew_order.specs.SlewLaws.{SlewsOrEnd, OneSlewEnd}
use Rattle.slew_order.specs.Timings.{SlewSource, arcs_in, arc_number}

-- two numbers of which none is before the other are the same
one_number : (some other : ℕ) → (some < other → ⊥) → (other < some → ⊥) → some ≡ other
one_number some other before after = ⊎_elim (λ same. same)
    (λ unlike. ⊎_elim (λ lt. absurd (before lt)) (λ le. absurd (after (omega (arith, le, unlike)))) (cases_lt some other))
    (cases_eq some other)

module _ (source : SlewSource) where
  -- a cycle stands where none does
  cycle_or_none : (cycle : List ArcAt) → IsCycleFromLeast source.netlist source.cells cycle → HasNoCycle source.netlist source.cells → ⊥
  cycle_or_none cycle (net, is, least) none = none net cycle is

  -- a look-up is refused where none is
  refusal_or_none : (arc : ℕ) (edge : Edge) (corner : ℕ) (end : PartEnd) → IsRefusal source arc edge corner end
      → NoRefusals source (length (arcs_in source)) → ⊥
  refusal_or_none arc edge corner end is none = none arc edge is.has.within corner is.has.at_corner end is

  -- a slew is past the limit where none is
  limit_or_none : (net sink : ℕ) (edge : Edge) (corner before : ℕ) → IsLimit source net sink edge corner before
      → NoLimits source (length source.netlist.nets) → ⊥
  limit_or_none net sink edge corner before is none = none net is.within sink is.sink_within edge corner is.at_corner before is

  -- ---- refusals

  -- a look-up is refused of one part and for one reason
  one_part : (arc : ℕ) (edge : Edge) (corner : ℕ) (some other : PartEnd) → IsRefusal source arc edge corner some
      → IsRefusal source arc edge corner other → some ≡ other
  one_part arc edge corner some other a b =
      let first = a.has.known in
      let second = b.has.known in
      let told = a.refused in
      let known = b.refused in
      cc

  -- the edges of the first refusals of an arc are the same
  one_refused_edge : (arc : ℕ) (edge edge' : Edge) (corner corner' : ℕ) (some other : PartEnd) → IsFirstRefusal source arc edge corner some
      → IsFirstRefusal source arc edge' corner' other → edge ≡ edge'
  one_refused_edge arc Rise Rise corner corner' some other a b = refl
  one_refused_edge arc Rise Fall corner corner' some other a b = absurd (b.edges corner a.refusal.has.at_corner some a.refusal)
  one_refused_edge arc Fall Rise corner corner' some other a b = absurd (a.edges corner' b.refusal.has.at_corner other b.refusal)
  one_refused_edge arc Fall Fall corner corner' some other a b = refl

  -- two first refusals are one
  record IsOneRefusal (arc arc' : ℕ) (edge edge' : Edge) (corner corner' : ℕ) (some other : PartEnd) : Type 0 where
    arcs : arc ≡ arc'
    edges : edge ≡ edge'
    corners : corner ≡ corner'
    ends : some ≡ other

  one_refusal : (arc arc' : ℕ) (edge edge' : Edge) (corner corner' : ℕ) (some other : PartEnd) → IsFirstRefusal source arc edge corner some
      → IsFirstRefusal source arc' edge' corner' other → IsOneRefusal arc arc' edge edge' corner corner' some other
  one_refusal arc arc' edge edge' corner corner' some other a b =
      let same_arc : arc ≡ arc' = one_number arc arc'
      (λ lt. b.arcs arc edge lt corner a.refusal.has.at_corner some a.refusal)
      (λ lt. a.arcs arc' edge' lt corner' b.refusal.has.at_corner other b.refusal) in
      let on_arc : IsFirstRefusal source arc edge' corner' other =
      subst (λ n. IsFirstRefusal source n edge' corner' other) (sym same_arc) b in
      let same_edge : edge ≡ edge' = one_refused_edge arc edge edge' corner corner' some other a on_arc in
      let on_edge : IsFirstRefusal source arc edge corner' other =
      subst (λ e. IsFirstRefusal source arc e corner' other) (sym same_edge) on_arc in
      let same_corner : corner ≡ corner' = one_number corner corner'
      (λ lt. on_edge.corners corner lt some a.refusal)
      (λ lt. a.corners corner' lt other on_edge.refusal) in
      let at_corner : IsFirstRefusal source arc edge corner other =
      subst (λ c. IsFirstRefusal source arc edge c other) (sym same_corner) on_edge in
      let same_end = one_part arc edge corner some other a.refusal at_corner.refusal in
      record { arcs = same_arc; edges = same_edge; corners = same_corner; ends = same_end }

  -- ---- limits

  -- the driver of a net has one slew
  one_slew : (net sink : ℕ) (edge : Edge) (corner : ℕ) (some other : ℕ) → IsLimit source net sink edge corner some
      → IsLimit source net sink edge corner other → some ≡ other
  one_slew net sink edge corner some other a b =
      let first = a.known in
      let second = b.known in
      cc

  -- the edges of the first slews past the limit of a sink are the same
  one_limit_edge : (net sink : ℕ) (edge edge' : Edge) (corner corner' : ℕ) (some other : ℕ) → IsFirstOfSink source net sink edge corner some
      → IsFirstOfSink source net sink edge' corner' other → edge ≡ edge'
  one_limit_edge net sink Rise Rise corner corner' some other a b = refl
  one_limit_edge net sink Rise Fall corner corner' some other a b = absurd (b.edges corner a.limit.at_corner some a.limit)
  one_limit_edge net sink Fall Rise corner corner' some other a b = absurd (a.edges corner' b.limit.at_corner other b.limit)
  one_limit_edge net sink Fall Fall corner corner' some other a b = refl

  -- two first slews past the limit are one
  record IsOneLimit (net net' sink sink' : ℕ) (edge edge' : Edge) (corner corner' some other : ℕ) : Type 0 where
    nets : net ≡ net'
    sinks : sink ≡ sink'
    edges : edge ≡ edge'
    corners : corner ≡ corner'
    slews : some ≡ other

  one_limit : (net net' sink sink' : ℕ) (edge edge' : Edge) (corner corner' some other : ℕ) → IsFirstLimit source net sink edge corner some
      → IsFirstLimit source net' sink' edge' corner' other → IsOneLimit net net' sink sink' edge edge' corner corner' some other
  one_limit net net' sink sink' edge edge' corner corner' some other a b =
      let here = a.first.limit in
      let there = b.first.limit in
      let same_net : net ≡ net' = one_number net net'
      (λ lt. b.nets net lt sink here.sink_within edge corner here.at_corner some here)
      (λ lt. a.nets net' lt sink' there.sink_within edge' corner' there.at_corner other there) in
      let on_net : IsFirstLimit source net sink' edge' corner' other =
      subst (λ n. IsFirstLimit source n sink' edge' corner' other) (sym same_net) b in
      let same_sink : sink ≡ sink' = one_number sink sink'
      (λ lt. on_net.sinks sink lt edge corner here.at_corner some here)
      (λ lt. a.sinks sink' lt edge' corner' on_net.first.limit.at_corner other on_net.first.limit) in
      let on_sink : IsFirstOfSink source net sink edge' corner' other =
      subst (λ n. IsFirstOfSink source net n edge' corner' other) (sym same_sink) on_net.first in
      let same_edge : edge ≡ edge' = one_limit_edge net sink edge edge' corner corner' some other a.first on_sink in
      let on_edge : IsFirstOfSink source net sink edge corner' other =
      subst (λ e. IsFirstOfSink source net sink e corner' other) (sym same_edge) on_sink in
      let same_corner : corner ≡ corner' = one_number corner corner'
      (λ lt. on_edge.corners corner lt some here)
      (λ lt. a.first.corners corner' lt other on_edge.limit) in
      let at_corner : IsFirstOfSink source net sink edge corner other =
      subst (λ c. IsFirstOfSink source net sink edge c other) (sym same_corner) on_edge in
      record {
        nets = same_net;
        sinks = same_sink;
        edges = same_edge;
        corners = same_corner;
        slews = one_slew net sink edge corner some other here at_corner.limit;
      }

-- ---- slews and ends

atto_is : (some other : Atto) → some.0 ≡ other.0 → some ≡ other
atto_is some other is = ap (λ n. record { 0 = n }) is

-- the same refusal by its parts
same_outside : (at at' : ArcAt) (edge edge' : Edge) (corner corner' : ℕ) (part part' : Part) (outside outside' : OutsideAxis) → at ≡ at'
    → edge ≡ edge' → corner ≡ corner' → part ≡ part' → lookup.Outside outside ≡ lookup.Outside outside'
    → Outside at edge corner part outside ≡ Outside at' edge' corner' part' outside'
same_outside at at' edge edge' corner corner' part part' outside outside' ats edges corners parts ends = cc

same_past_time : (at at' : ArcAt) (edge edge' : Edge) (corner corner' : ℕ) (part part' : Part) → at ≡ at' → edge ≡ edge' → corner ≡ corner'
    → part ≡ part' → PastTime at edge corner part ≡ PastTime at' edge' corner' part'
same_past_time at at' edge edge' corner corner' part part' ats edges corners parts = cc

same_limit : (net net' sink sink' : ℕ) (edge edge' : Edge) (corner corner' : ℕ) (before before' : Atto) (elmore elmore' : ℕ) → net ≡ net'
    → sink ≡ sink' → edge ≡ edge' → corner ≡ corner' → before ≡ before' → elmore ≡ elmore'
    → SlewLimit net sink edge corner before elmore ≡ SlewLimit net' sink' edge' corner' before' elmore'
same_limit net net' sink sink' edge edge' corner corner' before before' elmore elmore' nets sinks edges corners slews sums = cc

same_elmore : (times : NetTimes) (count net net' sink sink' corner corner' : ℕ) → net ≡ net' → sink ≡ sink' → corner ≡ corner'
    → elmore_at count times net sink corner ≡ elmore_at count times net' sink' corner'
same_elmore times count net net' sink sink' corner corner' nets sinks corners =
    ap (λ n. elmore_at count times n sink corner) nets ∙ ap (λ s. elmore_at count times net' s corner) sinks
    ∙ ap (λ c. elmore_at count times net' sink' c) corners

pub slews_or_end : SlewsOrEnd
slews_or_end source tables (Loop cycle) a is = absurd (cycle_or_none source cycle is a.no_cycle)
slews_or_end source tables (Outside at edge corner part outside) a (none, (arc, place, first)) =
    absurd (refusal_or_none source arc edge corner (record { part = part; end = lookup.Outside outside }) first.refusal a.no_refusal)
slews_or_end source tables (PastTime at edge corner part) a (none, (arc, place, first)) =
    absurd (refusal_or_none source arc edge corner (record { part = part; end = lookup.PastTime }) first.refusal a.no_refusal)
slews_or_end source tables (SlewLimit net sink edge corner before elmore) a (none, faultless, (slew, is, first), sum) =
    absurd (limit_or_none source net sink edge corner slew first.first.limit a.no_limit)
slews_or_end source tables OutOfMemory a is = refl

pub one_slew_end : OneSlewEnd
one_slew_end source OutOfMemory other a b = inl refl
one_slew_end source (Loop cycle) OutOfMemory a b = inr (inl refl)
one_slew_end source (Loop cycle) (Loop cycle') a b = inr (inr (inr ((cycle, refl), (cycle', refl))))
one_slew_end source (Loop cycle) (Outside at edge corner part outside) a b = absurd (cycle_or_none source cycle a b.0)
one_slew_end source (Loop cycle) (PastTime at edge corner part) a b = absurd (cycle_or_none source cycle a b.0)
one_slew_end source (Loop cycle) (SlewLimit net sink edge corner before elmore) a b = absurd (cycle_or_none source cycle a b.0)
one_slew_end source (Outside at edge corner part outside) OutOfMemory a b = inr (inl refl)
one_slew_end source (Outside at edge corner part outside) (Loop cycle) a b = absurd (cycle_or_none source cycle b a.0)
one_slew_end source (Outside at edge corner part outside) (Outside at' edge' corner' part' outside') (none, (arc, place, first))
    (none', (arc', place', first')) =
    let same = one_refusal source arc arc' edge edge' corner corner' (record { part = part; end = lookup.Outside outside })
    (record { part = part'; end = lookup.Outside outside' }) first first' in
    let arcs : at ≡ at' = place ∙ ap (arc_number source) same.arcs ∙ sym place' in
    inr (inr (inl (same_outside at at' edge edge' corner corner' part part' outside outside' arcs same.edges same.corners
    (ap (λ (e : PartEnd). e.part) same.ends) (ap (λ (e : PartEnd). e.end) same.ends))))
one_slew_end source (Outside at edge corner part outside) (PastTime at' edge' corner' part') (none, (arc, place, first))
    (none', (arc', place', first')) =
    let same = one_refusal source arc arc' edge edge' corner corner' (record { part = part; end = lookup.Outside outside })
    (record { part = part'; end = lookup.PastTime }) first first' in
    let ends : lookup.Outside outside ≡ lookup.PastTime = ap (λ (e : PartEnd). e.end) same.ends in
    cc
one_slew_end source (Outside at edge corner part outside) (SlewLimit net sink edge' corner' before elmore) (none, (arc, place, first)) b =
    absurd (refusal_or_none source arc edge corner (record { part = part; end = lookup.Outside outside }) first.refusal b.1)
one_slew_end source (PastTime at edge corner part) OutOfMemory a b = inr (inl refl)
one_slew_end source (PastTime at edge corner part) (Loop cycle) a b = absurd (cycle_or_none source cycle b a.0)
one_slew_end source (PastTime at edge corner part) (Outside at' edge' corner' part' outside') (none, (arc, place, first))
    (none', (arc', place', first')) =
    let same = one_refusal source arc arc' edge edge' corner corner' (record { part = part; end = lookup.PastTime })
    (record { part = part'; end = lookup.Outside outside' }) first first' in
    let ends : lookup.PastTime ≡ lookup.Outside outside' = ap (λ (e : PartEnd). e.end) same.ends in
    cc
one_slew_end source (PastTime at edge corner part) (PastTime at' edge' corner' part') (none, (arc, place, first))
    (none', (arc', place', first')) =
    let same = one_refusal source arc arc' edge edge' corner corner' (record { part = part; end = lookup.PastTime })
    (record { part = part'; end = lookup.PastTime }) first first' in
    let arcs : at ≡ at' = place ∙ ap (arc_number source) same.arcs ∙ sym place' in
    inr (inr (inl (same_past_time at at' edge edge' corner corner' part part' arcs same.edges same.corners
    (ap (λ (e : PartEnd). e.part) same.ends))))
one_slew_end source (PastTime at edge corner part) (SlewLimit net sink edge' corner' before elmore) (none, (arc, place, first)) b =
    absurd (refusal_or_none source arc edge corner (record { part = part; end = lookup.PastTime }) first.refusal b.1)
one_slew_end source (SlewLimit net sink edge corner before elmore) OutOfMemory a b = inr (inl refl)
one_slew_end source (SlewLimit net sink edge corner before elmore) (Loop cycle) a b = absurd (cycle_or_none source cycle b a.0)
one_slew_end source (SlewLimit net sink edge corner before elmore) (Outside at edge' corner' part outside) a (none, (arc, place, first)) =
    absurd (refusal_or_none source arc edge' corner' (record { part = part; end = lookup.Outside outside }) first.refusal a.1)
one_slew_end source (SlewLimit net sink edge corner before elmore) (PastTime at edge' corner' part) a (none, (arc, place, first)) =
    absurd (refusal_or_none source arc edge' corner' (record { part = part; end = lookup.PastTime }) first.refusal a.1)
one_slew_end source (SlewLimit net sink edge corner before elmore) (SlewLimit net' sink' edge' corner' before' elmore')
    (none, faultless, (slew, is, first), sum) (none', faultless', (slew', is', first'), sum') =
    let same = one_limit source net net' sink sink' edge edge' corner corner' slew slew' first first' in
    inr (inr (inl (same_limit net net' sink sink' edge edge' corner corner' before before' elmore elmore' same.nets same.sinks same.edges
    same.corners (atto_is before before' (is ∙ ap pos same.slews ∙ sym is'))
    (sum ∙ same_elmore source.times source.count net net' sink sink' corner corner' same.nets same.sinks same.corners ∙ sym sum'))))
