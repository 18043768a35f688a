-- The phases that read a SPEF file have one answer each.
use Rattle.std.proofs.Common.{◌≡◌, ℕ, ◌-◌, ⊎_elim, true, false, ◌<◌, pos, ◌+ℤ◌, arith, List, length, Some, None, Option, Result, Ok, Err, refl, sym, ap, ap₂, ◌∙◌, subst}
use Rattle.std.specs.Prelude.{slice_get, All}
use Rattle.std.proofs.lemmas.Option.{slice_get_within, get_or_from_slice_get}
use Rattle.delay_units.specs.declared.numbers.Unit.{Unit}
use Rattle.delay_units.proofs.OneDecimal.{one_decimal}
use Rattle.delay_units.proofs.UnitLemmas.{unit_same}
use Rattle.spef_text.specs.Entries.{Reading, section_at}
use Rattle.spef_text.specs.SpefFiles.{SpefText, Reads, SaysSpef, is_refused}
use Rattle.spef_text.specs.Heads.{HeadText, IsHeadOf, IsHeadEnd, IsUnitAt}
use Rattle.spef_text.specs.Units.{IsUnit}
use Rattle.spef_text.specs.declared.units.Quantity.{Quantity}
use Rattle.spef_text.specs.declared.units.Quantity.TheVariants.{Capacitance, Resistance}
use Rattle.spef_text.specs.declared.head_ends.HeadEnd.{HeadEnd}
use Rattle.spef_text.specs.declared.head_ends.HeadEnd.TheVariants as head
use Rattle.spef_text.proofs.Scanning.{one_tokens}
use Rattle.spef_text.proofs.Answering.{one_spef, one_dead}
use Rattle.spef_text.proofs.HeadLemmas as heads
use Rattle.spef_nets.specs.NetElements.{NetElements, AreWhole}
use Rattle.spef_nets.specs.Sections.{Corners}
use Rattle.spef_nets.specs.Faults.{IsSectionEnd}
use Rattle.spef_nets.specs.declared.ends.SectionEnd.{SectionEnd}
use Rattle.spef_nets.specs.declared.ends.SectionEnd.TheVariants as section
use Rattle.spef_nets.proofs.FaultOrder as sections
use Rattle.refusals.specs.declared.refusal.NumberKind.TheVariants.{BadUnit, BadNumber, ValueTooLarge}
use Rattle.refusals.specs.declared.refusal.IndexKind.TheVariants.{Unknown, Repeated}
use Rattle.refusals.specs.declared.refusal.Refusal.{Refusal}
use Rattle.refusals.specs.declared.refusal.Refusal.TheVariants.{SpefSyntax, SpefForm, SpefNumber, NameIndex, RepeatedNet, ForeignCoupling}
use Rattle.wire_phases.specs.SpefPhases.{DesignNets, ParsesSpef, is_spef, no_spef, no_form, HeadsSpef, is_head, bad_unit, repeated_index, NetsSpef, are_nets, unknown_index, bad_number, value_too_large, repeated_net, foreign_coupling}
use Rattle.wire_phases.specs.SpefPhases.{ReadsNets, at_grammar, at_head, at_sections, through}
use Rattle.wire_phases.specs.SpefPhases.{OneReading}
use Rattle.refusals.proofs.Places.{some_is, got_below}
use Rattle.wire_phases.proofs.OneNet.{AreNumbered, by_places, one_net}

-- ---- the grammar

abbrev text_with : List (List ℕ) → Reading → SpefText
text_with texts reading = record { texts = texts; reading = reading }

one_file : (bytes : List ℕ) (one other : SpefText) → Reads bytes one → Reads bytes other → one ≡ other
one_file bytes one other r s =
    let texts : one.texts ≡ other.texts = one_tokens r.parted s.parted in
    let reading : one.reading ≡ other.reading = one_spef bytes one.reading other.reading (record { texts = one.texts; parted = r.parted; formed = r.formed }) (record { texts = other.texts; parted = s.parted; formed = s.formed }) in
    ap₂ text_with texts reading

is_file : (bytes : List ℕ) (file : SpefText) → Reads bytes file → SaysSpef bytes file.reading
is_file bytes file r = record { texts = file.texts; parted = r.parted; formed = r.formed }

two_words : (texts : List (List ℕ)) (one other : ℕ) (word : List ℕ) → one ≡ other → ((text : List ℕ) → slice_get texts (one - 1) ≡ Some text → is_refused text ≡ false) → slice_get texts (other - 1) ≡ Some word → is_refused word ≡ true → ⊥
two_words texts one other word same never at is_word =
    let refused : is_refused word ≡ false = never word (ap (λ n. slice_get texts (n - 1)) same ∙ at) in cc

abbrev file_of : SpefText → Result SpefText Refusal
file_of file = Ok file

pub one_parse : (bytes : List ℕ) (one other : Result SpefText Refusal) → ParsesSpef bytes one → ParsesSpef bytes other → one ≡ other
one_parse bytes one other (is_spef file r) (is_spef more s) = ap file_of (one_file bytes file more r s)
one_parse bytes one other (is_spef file r) (no_spef token leaves form) = absurd (leaves.nothing file.reading (is_file bytes file r))
one_parse bytes one other (is_spef file r) (no_form word token leaves form) = absurd (leaves.nothing file.reading (is_file bytes file r))
one_parse bytes one other (no_spef token leaves form) (is_spef file r) = absurd (leaves.nothing file.reading (is_file bytes file r))
one_parse bytes one other (no_form word token leaves form) (is_spef file r) = absurd (leaves.nothing file.reading (is_file bytes file r))
one_parse bytes one other (no_spef token leaves form) (no_spef its l f) = ap (λ n. Err (SpefSyntax n)) (one_dead bytes token its leaves l)
one_parse bytes one other (no_spef token leaves form) (no_form word its l f) =
    let word_is = f l.texts l.parted in
    absurd (two_words l.texts token its word (one_dead bytes token its leaves l) (form l.texts l.parted).1 word_is.1 word_is.2)
one_parse bytes one other (no_form word its l f) (no_spef token leaves form) =
    let word_is = f l.texts l.parted in
    absurd (two_words l.texts token its word (one_dead bytes token its leaves l) (form l.texts l.parted).1 word_is.1 word_is.2)
one_parse bytes one other (no_form word token leaves form) (no_form more its l f) =
    let same : token ≡ its = one_dead bytes token its leaves l in
    let words : word ≡ more = some_is word more (sym (form l.texts l.parted).1 ∙ ap (λ n. slice_get l.texts (n - 1)) same ∙ (f l.texts l.parted).1) in
    ap₂ (λ w n. Err (SpefForm w n)) words same

-- ---- the head

pos_is : (a b : ℕ) → pos a ≡ pos b → a ≡ b
pos_is a b e = cc

one_unit : (quantity : Quantity) (number word : List ℕ) (one other : Unit) → IsUnit quantity number word one → IsUnit quantity number word other → one ≡ other
one_unit quantity number word one other r s =
    let power : r.power ≡ s.power = some_is r.power s.power (sym r.known ∙ s.known) in
    let value = one_decimal number r.value s.value r.reads s.reads in
    unit_same one other (pos_is one.mantissa other.mantissa (r.mantissa ∙ value.0 ∙ sym s.mantissa)) (r.exponent ∙ ap₂ (λ e p. e +ℤ p) value.1 power ∙ sym s.exponent)

one_unit_at : (quantity : Quantity) (file : SpefText) (item : Option ℕ) (one other : Unit) → IsUnitAt quantity file item one → IsUnitAt quantity file item other → one ≡ other
one_unit_at quantity file None one other r s = unit_same one other (r.1 ∙ sym s.1) (r.2 ∙ sym s.2)
one_unit_at quantity file (Some number) one other r s = one_unit quantity _ _ one other r s

one_head : (file : SpefText) (one other : HeadText) → IsHeadOf file one → IsHeadOf file other → one ≡ other
one_head file one other r s =
    let design : one.design ≡ other.design = r.design ∙ sym s.design in
    let cap : one.cap_unit ≡ other.cap_unit = one_unit_at Capacitance file file.reading.head.cap_unit one.cap_unit other.cap_unit r.cap_unit s.cap_unit in
    let res : one.res_unit ≡ other.res_unit = one_unit_at Resistance file file.reading.head.res_unit one.res_unit other.res_unit r.res_unit s.res_unit in
    (λ i. record { design = design i; cap_unit = cap i; res_unit = res i })

-- the refusal of an end of the head; want of memory refuses nothing
abbrev of_head : HeadEnd → Option Refusal
of_head (head.BadUnit token) = Some (SpefNumber BadUnit token)
of_head (head.RepeatedIndex token) = Some (NameIndex Repeated token)
of_head head.OutOfMemory = None

record HasHeadEnd (file : SpefText) (refusal : Refusal) : Type 0 where
  end : HeadEnd
  holds : IsHeadEnd file end
  is : of_head end ≡ Some refusal

head_end : (file : SpefText) (refusal : Refusal) → HeadsSpef file (Err refusal) → HasHeadEnd file refusal
head_end file refusal (bad_unit token is) = record { end = head.BadUnit token; holds = is; is = refl }
head_end file refusal (repeated_index token is) = record { end = head.RepeatedIndex token; holds = is; is = refl }

no_head_want : (end : HeadEnd) (refusal : Refusal) → of_head end ≡ Some refusal → end ≡ head.OutOfMemory → ⊥
no_head_want end refusal is want = let none : None ≡ Some refusal = ap of_head (sym want) ∙ is in cc

pub one_head_refusal : (file : SpefText) (one other : Refusal) → HeadsSpef file (Err one) → HeadsSpef file (Err other) → one ≡ other
one_head_refusal file one other r s =
    let a = head_end file one r in
    let b = head_end file other s in
    ⊎_elim (λ want. absurd (no_head_want a.end one a.is want))
    (λ rest. ⊎_elim (λ want. absurd (no_head_want b.end other b.is want))
    (λ same. some_is one other (sym a.is ∙ ap of_head same ∙ b.is)) rest)
    (heads.one_end file a.end b.end a.holds b.holds)

pub no_head_beside : (file : SpefText) (refusal : Refusal) (its : HeadText) → HeadsSpef file (Err refusal) → HeadsSpef file (Ok its) → ⊥
no_head_beside file refusal its r (is_head same is) =
    let a = head_end file refusal r in
    no_head_want a.end refusal a.is (heads.no_end file a.end same a.holds is)

pub one_head_text : (file : SpefText) (one other : HeadText) → HeadsSpef file (Ok one) → HeadsSpef file (Ok other) → one ≡ other
one_head_text file one other (is_head same r) (is_head more s) = one_head file one other r s

-- ---- the sections

-- the refusal of an end of the sections
abbrev of_section : SectionEnd → Option Refusal
of_section (section.UnknownIndex token) = Some (NameIndex Unknown token)
of_section (section.BadNumber token) = Some (SpefNumber BadNumber token)
of_section (section.ValueTooLarge token) = Some (SpefNumber ValueTooLarge token)
of_section (section.RepeatedNet net token) = Some (RepeatedNet net)
of_section (section.ForeignCoupling net token) = Some (ForeignCoupling net token)
of_section section.OutOfMemory = None

record HasSectionEnd (file : SpefText) (its : HeadText) (refusal : Refusal) : Type 0 where
  end : SectionEnd
  holds : IsSectionEnd file its end
  is : of_section end ≡ Some refusal

section_end : {I : Type 0} (corners : Corners I) (file : SpefText) (its : HeadText) (refusal : Refusal) → NetsSpef corners file its (Err refusal) → HasSectionEnd file its refusal
section_end corners file its refusal (unknown_index token is) = record { end = section.UnknownIndex token; holds = is; is = refl }
section_end corners file its refusal (bad_number token is) = record { end = section.BadNumber token; holds = is; is = refl }
section_end corners file its refusal (value_too_large token is) = record { end = section.ValueTooLarge token; holds = is; is = refl }
section_end corners file its refusal (repeated_net net token is) = record { end = section.RepeatedNet net token; holds = is; is = refl }
section_end corners file its refusal (foreign_coupling net token is) = record { end = section.ForeignCoupling net token; holds = is; is = refl }

no_section_want : (end : SectionEnd) (refusal : Refusal) → of_section end ≡ Some refusal → end ≡ section.OutOfMemory → ⊥
no_section_want end refusal is want = let none : None ≡ Some refusal = ap of_section (sym want) ∙ is in cc

pub one_section_refusal : {I : Type 0} (corners : Corners I) (file : SpefText) (its : HeadText) (one other : Refusal) → NetsSpef corners file its (Err one) → NetsSpef corners file its (Err other) → one ≡ other
one_section_refusal corners file its one other r s =
    let a = section_end corners file its one r in
    let b = section_end corners file its other s in
    ⊎_elim (λ want. absurd (no_section_want a.end one a.is want))
    (λ rest. ⊎_elim (λ want. absurd (no_section_want b.end other b.is want))
    (λ same. some_is one other (sym a.is ∙ ap of_section same ∙ b.is)) rest)
    (sections.one_end file its a.end b.end a.holds b.holds)

pub no_nets_beside : {I : Type 0} (corners : Corners I) (file : SpefText) (its : HeadText) (refusal : Refusal) (nets : List NetElements) → NetsSpef corners file its (Err refusal) → NetsSpef corners file its (Ok nets) → ⊥
no_nets_beside corners file its refusal nets r (are_nets same faultless are sound) =
    let a = section_end corners file its refusal r in
    no_section_want a.end refusal a.is (sections.no_end file its a.end faultless a.holds)

-- ---- the file

abbrev unread_file : Refusal → Result SpefText Refusal
unread_file refusal = Err refusal

not_both : (file : SpefText) (refusal : Refusal) → file_of file ≡ unread_file refusal → ⊥
not_both file refusal e = cc

files_same : (one other : SpefText) → file_of one ≡ file_of other → one ≡ other
files_same one other e = cc

unread_same : (one other : Refusal) → unread_file one ≡ unread_file other → one ≡ other
unread_same one other e = cc

-- the second head is that of the first file, as the first is
module _ (bytes : List ℕ) (one other : SpefText) (r : ParsesSpef bytes (Ok one)) (s : ParsesSpef bytes (Ok other)) where
  abbrev same_file : other ≡ one
  same_file = files_same other one (one_parse bytes (Ok other) (Ok one) s r)

  moved : (answer : Result HeadText Refusal) → HeadsSpef other answer → HeadsSpef one answer
  moved answer heads = subst (λ (f : SpefText). HeadsSpef f answer) same_file heads

  module _ (first second : HeadText) (h : HeadsSpef one (Ok first)) (k : HeadsSpef other (Ok second)) where
    abbrev same_head : second ≡ first
    same_head = one_head_text one second first (moved (Ok second) k) h

    moved_nets : {I : Type 0} (corners : Corners I) (answer : Result (List NetElements) Refusal) → NetsSpef corners other second answer → NetsSpef corners one first answer
    moved_nets corners answer nets = subst (λ (t : HeadText). NetsSpef corners one t answer) same_head (subst (λ (f : SpefText). NetsSpef corners f second answer) same_file nets)

-- a file has one refusal
pub one_file_refusal : {I : Type 0} (corners : Corners I) (bytes : List ℕ) (one other : Refusal) → ReadsNets corners bytes (Err one) → ReadsNets corners bytes (Err other) → one ≡ other
one_file_refusal corners bytes one other (at_grammar f p) (at_grammar g q) = unread_same one other (one_parse bytes (Err one) (Err other) p q)
one_file_refusal corners bytes one other (at_grammar f p) (at_head file g q h) = absurd (not_both file one (one_parse bytes (Ok file) (Err one) q p))
one_file_refusal corners bytes one other (at_grammar f p) (at_sections file its g q h n) = absurd (not_both file one (one_parse bytes (Ok file) (Err one) q p))
one_file_refusal corners bytes one other (at_head file g q h) (at_grammar f p) = absurd (not_both file other (one_parse bytes (Ok file) (Err other) q p))
one_file_refusal corners bytes one other (at_sections file its g q h n) (at_grammar f p) = absurd (not_both file other (one_parse bytes (Ok file) (Err other) q p))
one_file_refusal corners bytes one other (at_head file f p h) (at_head more g q k) = one_head_refusal file one other h (moved bytes file more p q (Err other) k)
one_file_refusal corners bytes one other (at_head file f p h) (at_sections more its g q k n) = absurd (no_head_beside file one its h (moved bytes file more p q (Ok its) k))
one_file_refusal corners bytes one other (at_sections more its g q k n) (at_head file f p h) = absurd (no_head_beside file other its h (moved bytes file more p q (Ok its) k))
one_file_refusal corners bytes one other (at_sections file its f p h n) (at_sections more second g q k m) =
    one_section_refusal corners file its one other n (moved_nets bytes file more p q its second h k corners (Err other) m)

-- and none where it gives nets
pub no_design_beside : {I : Type 0} (corners : Corners I) (bytes : List ℕ) (refusal : Refusal) (design : DesignNets) → ReadsNets corners bytes (Err refusal) → ReadsNets corners bytes (Ok design) → ⊥
no_design_beside corners bytes refusal design (at_grammar f p) (through file its nets q h n) = not_both file refusal (one_parse bytes (Ok file) (Err refusal) q p)
no_design_beside corners bytes refusal design (at_head file f p h) (through more its nets q k n) = no_head_beside file refusal its h (moved bytes file more p q (Ok its) k)
no_design_beside corners bytes refusal design (at_sections file its f p h n) (through more second nets q k m) =
    no_nets_beside corners file its refusal nets n (moved_nets bytes file more p q its second h k corners (Ok nets) m)

-- the nets of one file
abbrev nets_of : List ℕ → List NetElements → DesignNets
nets_of design nets = record { design = design; nets = nets }

at_place : {X : Type 0} (P : X → Type 0) (xs : List X) (k : ℕ) (x : X) → All P xs → slice_get xs k ≡ Some x → P x
at_place P xs k x all at = subst P (get_or_from_slice_get xs k x x at) (all k x (slice_get_within xs k x at))

nets_same : {I : Type 0} (corners : Corners I) → AreNumbered corners → (file : SpefText) (its : HeadText) (one other : List NetElements) → NetsSpef corners file its (Ok one) → NetsSpef corners file its (Ok other) → one ≡ other
nets_same corners numbered file its one other (are_nets same faultless r sound) (are_nets more clean s whole) =
    by_places one other (r.count ∙ sym s.count) at
  where
    at : (k : ℕ) → k < length one → slice_get one k ≡ slice_get other k
    at k below =
        let a = got_below one k below in
        let b = got_below other k (omega (arith, below, r.count, s.count)) in
        a.1 ∙ ap (λ n. Some n) (one_net corners numbered file its (section_at file.reading.sections k) a.0 b.0 (r.each k a.0 a.1) (s.each k b.0 b.1) (at_place (AreWhole corners.count) one k a.0 sound a.1) (at_place (AreWhole corners.count) other k b.0 whole b.1)) ∙ sym b.1

pub one_design : {I : Type 0} (corners : Corners I) → AreNumbered corners → (bytes : List ℕ) (one other : DesignNets) → ReadsNets corners bytes (Ok one) → ReadsNets corners bytes (Ok other) → one ≡ other
one_design corners numbered bytes one other (through file its nets p h n) (through more second others q k m) =
    let head : its ≡ second = sym (same_head bytes file more p q its second h k) in
    ap₂ nets_of (ap (λ (t : HeadText). t.design) head) (nets_same corners numbered file its nets others n (moved_nets bytes file more p q its second h k corners (Ok others) m))

-- the bytes of a file have one answer
pub one_reading : {I : Type 0} (corners : Corners I) → AreNumbered corners → OneReading corners
one_reading corners numbered bytes (Ok one) (Ok other) r s = ap (λ d. Ok d) (one_design corners numbered bytes one other r s)
one_reading corners numbered bytes (Ok one) (Err other) r s = absurd (no_design_beside corners bytes other one s r)
one_reading corners numbered bytes (Err one) (Ok other) r s = absurd (no_design_beside corners bytes one other r s)
one_reading corners numbered bytes (Err one) (Err other) r s = ap (λ f. Err f) (one_file_refusal corners bytes one other r s)
