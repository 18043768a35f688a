-- The nets of a SPEF file have different names.
use Rattle.std.proofs.Common.{◌≡◌, ℕ, zero, suc, ◌<◌, List, [], ◌∷◌, length, take, Some, Ok, Contains, refl, sym, ap, ◌∙◌, subst, arith}
use Rattle.std.specs.Prelude.{slice_get, slice_index_or}
use Rattle.std.proofs.lemmas.List.{length-map}
use Rattle.name_table.specs.Names.{AreDistinct}
use Rattle.spef_text.specs.Entries.{Section, section_at}
use Rattle.spef_text.specs.SpefFiles.{SpefText}
use Rattle.spef_text.specs.Heads.{HeadText}
use Rattle.spef_nets.specs.Faults.{naming, nets_before, AreFaultless}
use Rattle.spef_nets.specs.NetElements.{NetElements, net_names}
use Rattle.spef_nets.specs.Nodes.{net_at}
use Rattle.spef_nets.specs.Sections.{Corners, AreNets}
use Rattle.spef_nets.specs.declared.ends.SectionEnd.TheVariants.{RepeatedNet as Repeated}
use Rattle.wire_phases.specs.SpefPhases.{DesignNets, NetsSpef, are_nets, ReadsNets, through}
use Rattle.refusals.proofs.Places.{got_below, index_is, at_contains, get_map}

at_front : {X : Type 0} (n : ℕ) (xs : List X) (i : ℕ) (x : X) → slice_get xs i ≡ Some x → i < n → slice_get (take n xs) i ≡ Some x
at_front zero xs i x at below = absurd (omega (arith, below))
at_front (suc n) [] i x at below = cc
at_front (suc n) (y ∷ xs) zero x at below = at
at_front (suc n) (y ∷ xs) (suc i) x at below = at_front n xs i x at (omega (arith, below))

abbrev name_of : NetElements → List ℕ
name_of net = net.net

module _ {I : Type 0} (corners : Corners I) (file : SpefText) (head : HeadText) (nets : List NetElements) (faultless : AreFaultless file head) (are : AreNets corners file head nets) where
  -- the section of a net, which names it
  record IsNamed (place : ℕ) (net : NetElements) : Type 0 where
    section : Section
    stands : slice_get file.reading.sections place ≡ Some section
    named : net_at file section.net ≡ Some net.net

  named_at : (place : ℕ) (net : NetElements) → place < length nets → slice_get nets place ≡ Some net → IsNamed place net
  named_at place net below at =
      let got = got_below file.reading.sections place (omega (arith, below, are.count)) in
      let is : section_at file.reading.sections place ≡ got.0 = index_is file.reading.sections place got.0 _ got.1 in
      record {
        section = got.0;
        stands = got.1;
        named = subst (λ (s : Section). net_at file s.net ≡ Some net.net) is (are.each place net at).named;
      }

  -- a net whose name an earlier section has would be at fault
  no_repeat : (i j : ℕ) (one other : NetElements) → i < j → IsNamed i one → IsNamed j other → one.net ≡ other.net → ⊥
  no_repeat i j one other less p q same =
      let first : slice_get (nets_before file j) i ≡ Some (net_at file p.section.net) =
      get_map (λ (section : Section). net_at file section.net) (take j file.reading.sections) i p.section (at_front j file.reading.sections i p.section p.stands less) in
      let is : net_at file p.section.net ≡ Some other.net = p.named ∙ ap (λ n. Some n) same in
      faultless j q.section q.stands 1 (naming 0) (omega arith) (Repeated other.net q.section.net)
      (refl, q.named, subst (Contains (nets_before file j)) is (at_contains (nets_before file j) i (net_at file p.section.net) first))

  nets_apart : AreDistinct (net_names nets)
  nets_apart i j d less below same =
      let inside : j < length nets = subst (λ (n : ℕ). j < n) (length-map nets name_of) below in
      let a = got_below nets i (omega (arith, less, inside)) in
      let b = got_below nets j inside in
      let one : slice_index_or (net_names nets) i d ≡ a.0.net = index_is (net_names nets) i a.0.net d (get_map name_of nets i a.0 a.1) in
      let other : slice_index_or (net_names nets) j d ≡ b.0.net = index_is (net_names nets) j b.0.net d (get_map name_of nets j b.0 b.1) in
      no_repeat i j a.0 b.0 less (named_at i a.0 (omega (arith, less, inside)) a.1) (named_at j b.0 inside b.1) (sym one ∙ same ∙ other)

sections_apart : {I : Type 0} (corners : Corners I) (file : SpefText) (head : HeadText) (nets : List NetElements) → NetsSpef corners file head (Ok nets) → AreDistinct (net_names nets)
sections_apart corners file head nets (are_nets _ faultless are whole) = nets_apart corners file head nets faultless are

-- the nets of a file have different names
pub apart_nets : {I : Type 0} (corners : Corners I) (bytes : List ℕ) (design : DesignNets) → ReadsNets corners bytes (Ok design) → AreDistinct (net_names design.nets)
apart_nets corners bytes _ (through file head nets parses heads says) = sections_apart corners file head nets says
