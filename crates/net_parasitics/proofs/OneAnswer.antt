-- The nets of a netlist have one answer.
use Rattle.std.proofs.Common.{◌≡◌, ◌≢◌, ℕ, ◌<◌, List, [], ◌∷◌, ◌++◌, length, slice_get, Some, refl, sym, ap, subst, ◌∙◌, arith, inl, inr}
use Rattle.std.specs.Prelude.{Contains, option_map}
use Rattle.std.proofs.lemmas.Bool.{cases_lt, cases_eq}
use Rattle.std.proofs.lemmas.Option.{slice_get_within, get_or_from_slice_get, slice_get-map, same_Some}
use Rattle.cell_models.proofs.CornerLemmas.{at_place}
use Rattle.name_table.specs.Names.{AreDistinct}
use Rattle.name_table.specs.declared.spef_names.NodeName.{NodeName}
use Rattle.netlist_link.specs.FlatNetlist.{net_at}
use Rattle.netlist_link.specs.declared.ends.End.{End}
use Rattle.spef_nets.specs.NetElements.{NetElements as SectionElements, net_names}
use Rattle.spef_nets.specs.declared.parts.Listed.{Listed}
use Rattle.rc_tree.specs.Builds.{IsTreeEnd, names}
use Rattle.rc_tree.specs.NetElements.{NetElements}
use Rattle.rc_tree.specs.Nodes.{Node, node_of}
use Rattle.rc_tree.specs.Pins.{pin_nodes}
use Rattle.rc_tree.specs.RcTree.{IsUnreached}
use Rattle.rc_tree.specs.SectionNets.{AreListed, IsListed, IsFirstStrange}
use Rattle.rc_tree.specs.declared.ends.TreeEnd.{TreeEnd}
use Rattle.rc_tree.specs.declared.ends.TreeEnd.TheVariants as tree
use Rattle.rc_tree.proofs.ElmoreSums.{one_elmore}
use Rattle.rc_tree.proofs.NetShapes.{one_shape, one_unreached}
use Rattle.rc_tree.proofs.Spellings.{one_spelling}
use Rattle.net_delays.specs.NetTimes.{NetTimes, load_at, elmore_at}
use Rattle.net_delays.proofs.OneTimes.{one_times}
use Rattle.net_parasitics.specs.Inputs.{Inputs}
use Rattle.net_parasitics.specs.NetPins.{net_pins}
use Rattle.net_parasitics.specs.NetSections.{IsSectionOf, is_written, is_missing}
use Rattle.net_parasitics.specs.NetTrees.{IsNet, elements_at, sink_at, IsTreeNet, HasTree, needs_none, has_one, AreTimesOf, HasTimes, are_zero, are_times, IsMissing, NoneMissing, AreNetDelays, IsRefused, IsParasiticsEnd, missing_net, no_tree, no_memory}
use Rattle.net_parasitics.specs.OneAnswer.{IsSameTreeEnd, IsSameEnd}
use Rattle.corner_set.specs.declared.choices.Missing.{Missing}
use Rattle.corner_set.specs.declared.choices.Missing.TheVariants.{Refuse}
use Rattle.net_parasitics.specs.declared.ends.ParasiticsEnd.{ParasiticsEnd}
use Rattle.net_parasitics.specs.declared.ends.ParasiticsEnd.TheVariants.{OutOfMemory}
use Rattle.net_parasitics.proofs.MissingNets.{has_at}
use Rattle.net_parasitics.proofs.NodeNames.{one_named}

-- the name of a section is among those of all
named_at : (sections : List SectionElements) (text : List ℕ) (place : ℕ) (section : SectionElements) → slice_get sections place ≡ Some section → section.net ≡ text → Contains (net_names sections) text
named_at sections text place section at named =
    has_at (net_names sections) place text (slice_get-map (λ (s : SectionElements). s.net) sections place ∙ ap (λ o. option_map (λ (s : SectionElements). s.net) o) at ∙ ap Some named)

-- a net has one section
one_section : (sections : List SectionElements) (text : List ℕ) (one other : SectionElements) → AreDistinct (net_names sections) → IsSectionOf sections text one → IsSectionOf sections text other → one ≡ other
one_section sections text one other apart (is_written p a at named) (is_written q b there also) =
    let place : p ≡ q = one_named (λ (s : SectionElements). s.net) sections p q a apart (slice_get_within sections p a at) (slice_get_within sections q b there)
    (ap (λ (s : SectionElements). s.net) (get_or_from_slice_get sections p a a at) ∙ named ∙ sym also ∙ ap (λ (s : SectionElements). s.net) (sym (get_or_from_slice_get sections q b a there))) in
    same_Some a b (sym at ∙ ap (slice_get sections) place ∙ there)
one_section sections text one other apart (is_written p a at named) (is_missing absent) = absurd (absent (named_at sections text p a at named))
one_section sections text one other apart (is_missing absent) (is_written q b there also) = absurd (absent (named_at sections text q b there also))
one_section sections text one other apart (is_missing absent) (is_missing none) = refl

-- what holds of a net by one driver and section holds by any
moved : (inputs : Inputs) (net : ℕ) (P : End → SectionElements → Type 0) (driver other : End) (section also : SectionElements) → AreDistinct (net_names inputs.sections)
    → IsNet inputs net driver section → IsNet inputs net other also → P other also → P driver section
moved inputs net P driver other section also apart is its holds =
    let same : driver ≡ other = same_Some driver other (sym is.wired.driven ∙ its.wired.driven) in
    let one : section ≡ also = one_section inputs.sections (net_at inputs.netlist net).text section also apart is.written its.written in
    subst (λ d. P d section) (sym same) (subst (P other) (sym one) holds)

module _ (inputs : Inputs) (apart : AreDistinct (net_names inputs.sections)) where
  same_load : (one other : NetTimes) (net corner : ℕ) → corner < inputs.count → HasTimes inputs one net → HasTimes inputs other net
      → load_at inputs.count one net corner ≡ load_at inputs.count other net corner
  same_load one other net corner below (are_zero unwired none) (are_zero also nothing) = none.load corner below ∙ sym (nothing.load corner below)
  same_load one other net corner below (are_zero unwired none) (are_times driver section is tree times) = absurd (unwired driver is.wired)
  same_load one other net corner below (are_times driver section is tree times) (are_zero unwired none) = absurd (unwired driver is.wired)
  same_load one other net corner below (are_times driver section is tree times) (are_times d s its also more) =
      times.load corner below ∙ sym ((moved inputs net (λ d s. AreTimesOf inputs other net d s) driver d section s apart is its more).load corner below)

  same_elmore : (one other : NetTimes) (net sink corner : ℕ) → corner < inputs.count → sink < length (net_at inputs.netlist net).sinks → HasTimes inputs one net → HasTimes inputs other net
      → elmore_at inputs.count one net sink corner ≡ elmore_at inputs.count other net sink corner
  same_elmore one other net sink corner below within (are_zero unwired none) (are_zero also nothing) = none.elmore corner sink below within ∙ sym (nothing.elmore corner sink below within)
  same_elmore one other net sink corner below within (are_zero unwired none) (are_times driver section is tree times) = absurd (unwired driver is.wired)
  same_elmore one other net sink corner below within (are_times driver section is tree times) (are_zero unwired none) = absurd (unwired driver is.wired)
  same_elmore one other net sink corner below within (are_times driver section is tree times) (are_times d s its also more) =
      one_elmore (elements_at inputs net driver section corner) (sink_at inputs net driver section sink) (elmore_at inputs.count one net sink corner) (elmore_at inputs.count other net sink corner)
      (times.elmore corner sink below within) ((moved inputs net (λ d s. AreTimesOf inputs other net d s) driver d section s apart is its more).elmore corner sink below within)

pub one_delays : (inputs : Inputs) (missing : Missing) (one other : NetTimes) → AreDistinct (net_names inputs.sections) → AreNetDelays inputs missing one → AreNetDelays inputs missing other
    → one ≡ other
one_delays inputs missing one other apart some more = one_times inputs.count inputs.netlist one other some.whole more.whole some.fits more.fits (record {
  loads = λ net corner within below. same_load inputs apart one other net corner below (some.each net within) (more.each net within);
  elmores = λ net sink corner within has below. same_elmore inputs apart one other net sink corner below has (some.each net within) (more.each net within);
})

-- ---- the end of a tree

strange_listed : (section : SectionElements) (nodes : List Node) (name : NodeName) → IsFirstStrange section nodes name → AreListed section nodes → ⊥
strange_listed section nodes name strange listed =
    let found : IsListed section nodes strange.conn = at_place (IsListed section nodes) section.conns strange.place strange.conn strange.here listed in
    let same : found.0 ≡ name = same_Some found.0 name (sym found.1 ∙ strange.named) in
    strange.strange (subst (λ n. Contains nodes (node_of n)) same found.2)

not_before : (section : SectionElements) (nodes : List Node) (one other : NodeName) (some : IsFirstStrange section nodes one) (more : IsFirstStrange section nodes other) → some.place < more.place → ⊥
not_before section nodes one other some more less =
    let found : IsListed section nodes some.conn = subst (IsListed section nodes) (get_or_from_slice_get section.conns some.place some.conn some.conn some.here) (more.before some.place some.conn less) in
    let same : found.0 ≡ one = same_Some found.0 one (sym found.1 ∙ some.named) in
    some.strange (subst (λ n. Contains nodes (node_of n)) same found.2)

one_strange : (section : SectionElements) (nodes : List Node) (one other : NodeName) → IsFirstStrange section nodes one → IsFirstStrange section nodes other → one ≡ other
one_strange section nodes one other some more = elim (cases_eq some.place more.place) [
  | inl same ↦
      let conn : some.conn ≡ more.conn = same_Some some.conn more.conn (sym some.here ∙ ap (slice_get section.conns) same ∙ more.here) in
      same_Some one other (sym some.named ∙ ap (λ (c : Listed). slice_get section.nodes c.node) conn ∙ more.named)
  | inr differ ↦ elim (cases_lt some.place more.place) [
    | inl less ↦ absurd (not_before section nodes one other some more less)
    | inr past ↦ absurd (not_before section nodes other one more some (omega (arith, past, differ)))
  ]
]

module _ (inputs : Inputs) (some : 0 < inputs.count) (net : ℕ) (driver : End) (section : SectionElements) where
  -- a net that is a tree has no end
  tree_or_end : (end : TreeEnd) → IsTreeNet inputs net driver section → IsTreeEnd inputs.count section (net_pins inputs net driver) end → end ≢ tree.OutOfMemory → ⊥
  tree_or_end (tree.StrangePin name) is end cause = strange_listed section (pin_nodes (net_pins inputs net driver)) name end is.fit.0
  tree_or_end tree.TooLarge is end cause = is.fit.1 end.1
  tree_or_end (tree.Unreached name) is end cause = (one_shape (elements_at inputs net driver section 0)).1 (node_of name) (end.2 0 some) (is.tree 0 some)
  tree_or_end (tree.Mesh place) is end cause = (one_shape (elements_at inputs net driver section 0)).0 (is.tree 0 some) (end.2 0 some).0
  tree_or_end tree.OutOfMemory is end cause = cause refl

  -- a net has one end
  one_tree_end : (one other : TreeEnd) → IsTreeEnd inputs.count section (net_pins inputs net driver) one → IsTreeEnd inputs.count section (net_pins inputs net driver) other
      → one ≢ tree.OutOfMemory → other ≢ tree.OutOfMemory → IsSameTreeEnd one other
  one_tree_end (tree.StrangePin a) (tree.StrangePin b) r s p q = one_strange section (pin_nodes (net_pins inputs net driver)) a b r s
  one_tree_end (tree.StrangePin a) tree.TooLarge r s p q = absurd (strange_listed section (pin_nodes (net_pins inputs net driver)) a r s.0)
  one_tree_end (tree.StrangePin a) (tree.Unreached b) r s p q = absurd (strange_listed section (pin_nodes (net_pins inputs net driver)) a r s.0.0)
  one_tree_end (tree.StrangePin a) (tree.Mesh b) r s p q = absurd (strange_listed section (pin_nodes (net_pins inputs net driver)) a r s.0.0)
  one_tree_end tree.TooLarge (tree.StrangePin b) r s p q = absurd (strange_listed section (pin_nodes (net_pins inputs net driver)) b s r.0)
  one_tree_end tree.TooLarge tree.TooLarge r s p q = tt
  one_tree_end tree.TooLarge (tree.Unreached b) r s p q = absurd (s.0.1 r.1)
  one_tree_end tree.TooLarge (tree.Mesh b) r s p q = absurd (s.0.1 r.1)
  one_tree_end (tree.Unreached a) (tree.StrangePin b) r s p q = absurd (strange_listed section (pin_nodes (net_pins inputs net driver)) b s r.0.0)
  one_tree_end (tree.Unreached a) tree.TooLarge r s p q = absurd (r.0.1 s.1)
  one_tree_end (tree.Unreached a) (tree.Unreached b) r s p q =
      one_spelling (names section (net_pins inputs net driver)) a b r.1 s.1 (one_unreached (elements_at inputs net driver section 0) (node_of a) (node_of b) (r.2 0 some) (s.2 0 some))
  one_tree_end (tree.Unreached a) (tree.Mesh b) r s p q = absurd ((one_shape (elements_at inputs net driver section 0)).2 (node_of a) (r.2 0 some) (s.2 0 some).0)
  one_tree_end (tree.Mesh a) (tree.StrangePin b) r s p q = absurd (strange_listed section (pin_nodes (net_pins inputs net driver)) b s r.0.0)
  one_tree_end (tree.Mesh a) tree.TooLarge r s p q = absurd (r.0.1 s.1)
  one_tree_end (tree.Mesh a) (tree.Unreached b) r s p q = absurd ((one_shape (elements_at inputs net driver section 0)).2 (node_of b) (s.2 0 some) (r.2 0 some).0)
  one_tree_end (tree.Mesh a) (tree.Mesh b) r s p q = tt
  one_tree_end tree.OutOfMemory other r s p q = absurd (p refl)
  one_tree_end (tree.StrangePin a) tree.OutOfMemory r s p q = absurd (q refl)
  one_tree_end tree.TooLarge tree.OutOfMemory r s p q = absurd (q refl)
  one_tree_end (tree.Unreached a) tree.OutOfMemory r s p q = absurd (q refl)
  one_tree_end (tree.Mesh a) tree.OutOfMemory r s p q = absurd (q refl)

-- ---- the end of the nets

module _ (inputs : Inputs) (apart : AreDistinct (net_names inputs.sections)) (some : 0 < inputs.count) where
  not_both : (net : ℕ) (end : TreeEnd) → HasTree inputs net → IsRefused inputs net end → ⊥
  not_both net end (needs_none unwired) refused = unwired refused.driver refused.is.wired
  not_both net end (has_one driver section is tree) refused =
      tree_or_end inputs some net driver section end tree
      (moved inputs net (λ d s. IsTreeEnd inputs.count s (net_pins inputs net d) end) driver refused.driver section refused.section apart is refused.is refused.refused) refused.cause

  none_of : (missing : Missing) (net : ℕ) → missing ≡ Refuse → NoneMissing inputs missing → IsMissing inputs net → ⊥
  none_of missing net is none here = (subst (NoneMissing inputs) is none) net here

  one_refused : (net other : ℕ) (one more : TreeEnd) → IsRefused inputs net one → IsRefused inputs other more → net ≡ other → IsSameTreeEnd one more
  one_refused net other one more r s same =
      let there : IsRefused inputs net more = subst (λ n. IsRefused inputs n more) (sym same) s in
      one_tree_end inputs some net r.driver r.section one more r.refused
      (moved inputs net (λ d s. IsTreeEnd inputs.count s (net_pins inputs net d) more) r.driver there.driver r.section there.section apart r.is there.is there.refused) r.cause there.cause

tree_of : (inputs : Inputs) (times : NetTimes) (net : ℕ) → HasTimes inputs times net → HasTree inputs net
tree_of inputs times net (are_zero unwired none) = needs_none unwired
tree_of inputs times net (are_times driver section is tree put) = has_one driver section is tree

pub no_end : (inputs : Inputs) (missing : Missing) (times : NetTimes) (end : ParasiticsEnd) → AreDistinct (net_names inputs.sections) → 0 < inputs.count → AreNetDelays inputs missing times
    → IsParasiticsEnd inputs missing end → end ≡ OutOfMemory
no_end inputs missing times end apart some delays (missing_net net is here earlier) = absurd (none_of inputs apart some missing net is delays.none_missing here)
no_end inputs missing times end apart some delays (no_tree net why none refused earlier) =
    absurd (not_both inputs apart some net why (tree_of inputs times net (delays.each net refused.is.wired.there)) refused)
no_end inputs missing times end apart some delays no_memory = refl

-- the least of numbers is one
least : (P : ℕ → Type 0) (one other : ℕ) → P one → P other → ((n : ℕ) → n < one → P n → ⊥) → ((n : ℕ) → n < other → P n → ⊥) → one ≡ other
least P one other here there first also = elim (cases_eq one other) [
  | inl same ↦ same
  | inr differ ↦ elim (cases_lt one other) [
    | inl less ↦ absurd (also one less here)
    | inr past ↦ absurd (first other (omega (arith, past, differ)) there)
  ]
]

pub one_end : (inputs : Inputs) (missing : Missing) (one other : ParasiticsEnd) → AreDistinct (net_names inputs.sections) → 0 < inputs.count → IsParasiticsEnd inputs missing one
    → IsParasiticsEnd inputs missing other → IsSameEnd one other
one_end inputs missing one other apart some (missing_net net is here earlier) (missing_net also its there before) = least (IsMissing inputs) net also here there earlier before
one_end inputs missing one other apart some (missing_net net is here earlier) (no_tree also why none refused before) = absurd (none_of inputs apart some missing net is none here)
one_end inputs missing one other apart some (no_tree net why none refused earlier) (missing_net also its there before) = absurd (none_of inputs apart some missing also its none there)
one_end inputs missing one other apart some (no_tree net why none refused earlier) (no_tree also what nothing more before) =
    let same : net ≡ also = least (λ n. (e : TreeEnd) × IsRefused inputs n e) net also (why, refused) (what, more)
    (λ n less has. not_both inputs apart some n has.0 (earlier n less) has.1) (λ n less has. not_both inputs apart some n has.0 (before n less) has.1) in
    (same, one_refused inputs apart some net also why what refused more same)
one_end inputs missing one other apart some no_memory also = tt
one_end inputs missing one other apart some (missing_net net is here earlier) no_memory = tt
one_end inputs missing one other apart some (no_tree net why none refused earlier) no_memory = tt
