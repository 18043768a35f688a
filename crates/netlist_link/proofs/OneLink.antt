-- A design that has a flat netlist is refused for want of memory alone, and a design is refused for one reason.
use Rattle.std.proofs.Common.{◌≡◌, ℕ, ◌<◌, ◌≤◌, inl, inr, ⊎_elim, List, [], ◌∷◌, length, take, get_or, slice_get, Option, Some, None, refl, sym, ap, ◌∙◌, subst, arith}
use Rattle.std.specs.Prelude.{option_to_list, unwrap_or}
use Rattle.std.proofs.lemmas.Bool.{cases_lt, cases_eq}
use Rattle.std.proofs.lemmas.List.{length-map, length-take-le, get_or-take}
use Rattle.std.proofs.lemmas.Option.{slice_get_within, get_or_from_slice_get}
use Rattle.name_table.specs.Names.{AreDistinct}
use Rattle.cell_models.specs.NamedSets.{NamedCells, set_names}
use Rattle.verilog_netlist.specs.NetModules.{NetModule}
use Rattle.hierarchy.specs.UseLaws.{NamesDiffer}
use Rattle.hierarchy.specs.Uses.{IsTop}
use Rattle.netlist_link.specs.FlatNetlist.{FlatNet, FlatNetlist, driving_ends, ends_on}
use Rattle.netlist_link.specs.Links.{IsNetlistOf}
use Rattle.netlist_link.specs.LinkEnds.{IsFirstClash, all_faults, net_texts, instance_texts, IsDoublyDriven, IsLinkEnd, bad_connection, nets_clash, instances_clash, several_drivers, no_memory}
use Rattle.netlist_link.specs.FlatDesigns.{IsFlatDesign, IsFlatEnd, IsSameLinkEnd}
use Rattle.netlist_link.specs.declared.ends.End.{End}
use Rattle.netlist_link.specs.declared.ends.LinkEnd.{LinkEnd}
use Rattle.netlist_link.specs.declared.ends.LinkEnd.TheVariants as refused
use Rattle.netlist_link.proofs.LinkedInstances.{instance_texts_are}
use Rattle.netlist_link.proofs.OneNetlist.{has_element, one_list_of_instances, one_list_of_ports, one_netlist, nets_differ}

pub one_top : (modules : List NetModule) (name : List ℕ) → NamesDiffer modules → (one other : ℕ) → IsTop modules name one
    → IsTop modules name other → one ≡ other
one_top modules name differ one other a b = ⊎_elim (λ same. same)
    (λ unlike. ⊎_elim (λ lt. absurd (differ one other lt b.within (a.named ∙ sym b.named)))
    (λ le. absurd (differ other one (omega arith) a.within (b.named ∙ sym a.named))) (cases_lt one other))
    (cases_eq one other)

nil_or_cons : {X : Type 0} (x : X) (xs : List X) → [] ≡ x ∷ xs → ⊥
nil_or_cons x xs is = omega (arith, ap length is)

-- texts that differ do not clash
no_clash : (texts : List (List ℕ)) (text : List ℕ) → AreDistinct texts → IsFirstClash texts text → ⊥
no_clash texts text apart clash = apart clash.earlier clash.place [] clash.before (slice_get_within texts clash.place text clash.here)
    (get_or_from_slice_get texts clash.earlier text [] clash.same ∙ sym (get_or_from_slice_get texts clash.place text [] clash.here))

-- of two first clashes none is before the other
not_before : (texts : List (List ℕ)) (one other : List ℕ) (a : IsFirstClash texts one) (b : IsFirstClash texts other) → a.place < b.place → ⊥
not_before texts one other a b lt = b.first a.earlier a.place [] a.before within
    (read a.earlier (omega (arith, a.before, lt)) ∙ get_or_from_slice_get texts a.earlier one [] a.same
    ∙ sym (read a.place lt ∙ get_or_from_slice_get texts a.place one [] a.here))
  where
    read : (i : ℕ) → i < b.place → get_or (take b.place texts) i [] ≡ get_or texts i []
    read i below = get_or-take b.place texts i [] below

    within : a.place < length (take b.place texts)
    within = subst (λ n. a.place < n) (sym (length-take-le b.place texts (omega (arith, slice_get_within texts b.place other b.here)))) lt

one_clash : (texts : List (List ℕ)) (one other : List ℕ) → IsFirstClash texts one → IsFirstClash texts other → one ≡ other
one_clash texts one other a b = ⊎_elim
    (λ same. ap (λ text. unwrap_or text []) (sym a.here ∙ ap (slice_get texts) same ∙ b.here))
    (λ unlike. ⊎_elim (λ lt. absurd (not_before texts one other a b lt))
    (λ le. absurd (not_before texts other one b a (omega arith))) (cases_lt a.place b.place))
    (cases_eq a.place b.place)

module _ (modules : List NetModule) (top : ℕ) (cells : List NamedCells) (cells_apart : AreDistinct (set_names cells)) where
  -- a list with an element at the most is no list with two
  one_or_two : (driver : Option End) (ends : List End) → option_to_list driver ≡ ends → 2 ≤ length ends → ⊥
  one_or_two None ends is two = omega (arith, two, ap length is)
  one_or_two (Some end) ends is two = omega (arith, two, ap length is)

  -- a net of a netlist has no two drivers
  no_two_drivers : (netlist : FlatNetlist) → IsNetlistOf modules top cells netlist → (n : ℕ) (text : List ℕ)
      → slice_get (net_texts modules top cells) n ≡ Some text → IsDoublyDriven modules top cells n → ⊥
  no_two_drivers netlist is n text at driven = by (has_element netlist.nets n within)
    where
      within : n < length netlist.nets
      within = subst (λ m. n < m) (sym (ap length is.nets_are) ∙ length-map netlist.nets (λ net. net.text))
          (slice_get_within (net_texts modules top cells) n text at)

      same : driving_ends cells netlist.ports netlist.instances ≡ driving_ends cells driven.ports driven.instances
      same i = driving_ends cells
          (one_list_of_ports modules top cells cells_apart (nets_differ modules top cells netlist is) netlist.ports driven.ports is.ports driven.are_ports i)
          (one_list_of_instances modules top cells cells_apart (nets_differ modules top cells netlist is) netlist.instances driven.instances
          is.instances driven.are_instances i)

      by : (net : FlatNet) × (slice_get netlist.nets n ≡ Some net) → ⊥
      by (net, here) = one_or_two net.driver (ends_on n (driving_ends cells driven.ports driven.instances))
          ((is.linked.joined n net here).driver ∙ ap (ends_on n) same) driven.several

  -- a netlist, and an end
  netlist_or_end : (netlist : FlatNetlist) → all_faults modules top cells ≡ [] → IsNetlistOf modules top cells netlist → (end : LinkEnd)
      → IsLinkEnd modules top cells end → end ≡ refused.OutOfMemory
  netlist_or_end netlist faultless is end (bad_connection first later are) = absurd (nil_or_cons first later (sym faultless ∙ are))
  netlist_or_end netlist faultless is end (nets_clash text free clash) =
      absurd (no_clash (net_texts modules top cells) text (nets_differ modules top cells netlist is) clash)
  netlist_or_end netlist faultless is end (instances_clash text free apart clash) =
      absurd (no_clash (instance_texts modules top cells) text
      (subst AreDistinct (instance_texts_are modules top cells netlist.instances is.instances) is.instance_names) clash)
  netlist_or_end netlist faultless is end (several_drivers n text free apart differ driven at) = absurd (no_two_drivers netlist is n text at driven)
  netlist_or_end netlist faultless is end no_memory = refl

  -- two nets with two drivers, each the first
  one_driven : (n m : ℕ) → AreDistinct (net_texts modules top cells) → IsDoublyDriven modules top cells n → IsDoublyDriven modules top cells m
      → n < m → ⊥
  one_driven n m apart a b lt = omega (arith, a.several, subst (λ ends. length (ends_on n ends) ≤ 1) same (b.earlier n lt))
    where
      same : driving_ends cells b.ports b.instances ≡ driving_ends cells a.ports a.instances
      same i = driving_ends cells
          (one_list_of_ports modules top cells cells_apart apart b.ports a.ports b.are_ports a.are_ports i)
          (one_list_of_instances modules top cells cells_apart apart b.instances a.instances b.are_instances a.are_instances i)

  -- that a fault of a connection stands and does not
  faulty : (first : LinkEnd) (later : List LinkEnd) → all_faults modules top cells ≡ first ∷ later → all_faults modules top cells ≡ [] → ⊥
  faulty first later are none = nil_or_cons first later (sym none ∙ are)

  one_end : (some other : LinkEnd) → IsLinkEnd modules top cells some → IsLinkEnd modules top cells other → IsSameLinkEnd some other
  one_end some other no_memory b = inl refl
  one_end some other (bad_connection first later are) no_memory = inr (inl refl)
  one_end some other (nets_clash text free clash) no_memory = inr (inl refl)
  one_end some other (instances_clash text free apart clash) no_memory = inr (inl refl)
  one_end some other (several_drivers n text free apart differ driven at) no_memory = inr (inl refl)
  one_end some other (bad_connection first later are) (bad_connection first' later' are') =
      inr (inr (ap (λ faults. get_or faults 0 first) (sym are ∙ are')))
  one_end some other (bad_connection first later are) (nets_clash text' free' clash') = absurd (faulty first later are free')
  one_end some other (bad_connection first later are) (instances_clash text' free' apart' clash') = absurd (faulty first later are free')
  one_end some other (bad_connection first later are) (several_drivers n' text' free' apart' differ' driven' at') =
      absurd (faulty first later are free')
  one_end some other (nets_clash text free clash) (bad_connection first' later' are') = absurd (faulty first' later' are' free)
  one_end some other (nets_clash text free clash) (nets_clash text' free' clash') =
      inr (inr (ap refused.NameClash (one_clash (net_texts modules top cells) text text' clash clash')))
  one_end some other (nets_clash text free clash) (instances_clash text' free' apart' clash') =
      absurd (no_clash (net_texts modules top cells) text apart' clash)
  one_end some other (nets_clash text free clash) (several_drivers n' text' free' apart' differ' driven' at') =
      absurd (no_clash (net_texts modules top cells) text apart' clash)
  one_end some other (instances_clash text free apart clash) (bad_connection first' later' are') = absurd (faulty first' later' are' free)
  one_end some other (instances_clash text free apart clash) (nets_clash text' free' clash') =
      absurd (no_clash (net_texts modules top cells) text' apart clash')
  one_end some other (instances_clash text free apart clash) (instances_clash text' free' apart' clash') =
      inr (inr (ap refused.NameClash (one_clash (instance_texts modules top cells) text text' clash clash')))
  one_end some other (instances_clash text free apart clash) (several_drivers n' text' free' apart' differ' driven' at') =
      absurd (no_clash (instance_texts modules top cells) text differ' clash)
  one_end some other (several_drivers n text free apart differ driven at) (bad_connection first' later' are') =
      absurd (faulty first' later' are' free)
  one_end some other (several_drivers n text free apart differ driven at) (nets_clash text' free' clash') =
      absurd (no_clash (net_texts modules top cells) text' apart clash')
  one_end some other (several_drivers n text free apart differ driven at) (instances_clash text' free' apart' clash') =
      absurd (no_clash (instance_texts modules top cells) text' differ clash')
  one_end some other (several_drivers n text free apart differ driven at) (several_drivers n' text' free' apart' differ' driven' at') =
      inr (inr (ap refused.SeveralDrivers (⊎_elim
      (λ same. ap (λ text. unwrap_or text []) (sym at ∙ ap (slice_get (net_texts modules top cells)) same ∙ at'))
      (λ unlike. ⊎_elim (λ lt. absurd (one_driven n n' apart driven driven' lt))
      (λ le. absurd (one_driven n' n apart driven' driven (omega (arith, le, unlike)))) (cases_lt n n')) (cases_eq n n'))))

module _ (modules : List NetModule) (name : List ℕ) (cells : List NamedCells) (differ : NamesDiffer modules)
    (cells_apart : AreDistinct (set_names cells)) where
  pub one_design : (some other : FlatNetlist) → IsFlatDesign modules name cells some → IsFlatDesign modules name cells other → some ≡ other
  one_design some other a b = one_netlist modules b.top cells cells_apart some other
      (subst (λ top. IsNetlistOf modules top cells some) (one_top modules name differ a.top b.top a.is_top b.is_top) a.is) b.is

  pub design_or_end : (netlist : FlatNetlist) (end : LinkEnd) → IsFlatDesign modules name cells netlist → IsFlatEnd modules name cells end
      → end ≡ refused.OutOfMemory
  design_or_end netlist end a b = netlist_or_end modules b.top cells cells_apart netlist
      (subst (λ top. all_faults modules top cells ≡ []) same a.faultless) (subst (λ top. IsNetlistOf modules top cells netlist) same a.is) end b.is
    where
      same : a.top ≡ b.top
      same = one_top modules name differ a.top b.top a.is_top b.is_top

  pub one_flat_end : (some other : LinkEnd) → IsFlatEnd modules name cells some → IsFlatEnd modules name cells other → IsSameLinkEnd some other
  one_flat_end some other a b = one_end modules b.top cells cells_apart some other
      (subst (λ top. IsLinkEnd modules top cells some) (one_top modules name differ a.top b.top a.is_top b.is_top) a.is) b.is
