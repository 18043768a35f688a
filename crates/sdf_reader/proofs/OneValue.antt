-- A word says one value at most.
use Rattle.std.proofs.Common.{◌≡◌, ℕ, List, [], ◌∷◌, ◌++◌, Option, Some, None, ℤ, pos, ◌+ℤ◌, refl, sym, ap, ◌∙◌, subst}
use Rattle.delay_units.specs.Reading.{IsRoundedPower}
use Rattle.delay_units.specs.declared.quantities.Femto.{Femto}
use Rattle.delay_units.proofs.ReadingLemmas.{one_power}
use Rattle.sdf_reader.specs.Timescales.{power_of}
use Rattle.sdf_reader.specs.Numbers.{IsTime, IsMember, left_out, member, AreMembers, single_value, IsValue, single, triple, HasNoColon}
use Rattle.sdf_reader.specs.declared.rows.Value.{Value}
use Rattle.sdf_reader.specs.declared.timescales.Timescale.{Timescale}
use Rattle.delay_units.proofs.OneDecimal.{one_decimal}
use Rattle.sdf_reader.proofs.ValueLemmas.{member_has_none, one_split, colon_inside, no_time}

one_time : (power : ℕ) (text : List ℕ) (a b : Femto) → IsTime power text a → IsTime power text b → a ≡ b
one_time power text a b is other =
    let same = one_decimal text is.number other.number is.reads other.reads in
    let rounds : IsRoundedPower is.number.digits (is.number.exponent +ℤ pos power) b.0 =
    subst (λ (d : ℤ). IsRoundedPower d (is.number.exponent +ℤ pos power) b.0) (sym same.0)
    (subst (λ (e : ℤ). IsRoundedPower other.number.digits (e +ℤ pos power) b.0) (sym same.1) other.rounds) in
    let grains : a.0 ≡ b.0 = one_power is.number.digits (is.number.exponent +ℤ pos power) a.0 b.0 is.rounds rounds in
    ap (λ (x : ℤ). record { 0 = x }) grains

one_member : (power : ℕ) (text : List ℕ) (m n : Option Femto) → IsMember power text m → IsMember power text n → m ≡ n
one_member power [] None None left_out left_out = refl
one_member power (b ∷ text) None n is other = elim is [ ]
one_member power (b ∷ text) m None is other = elim other [ ]
one_member power [] None (Some time) left_out (member is) = absurd (no_time power time is)
one_member power [] (Some time) None (member is) left_out = absurd (no_time power time is)
one_member power text (Some a) (Some b) (member is) (member other) = ap (λ t. Some t) (one_time power text a b is other)

one_triple : (power : ℕ) (least typical largest : List ℕ) (v w : Value) → AreMembers power least typical largest v → AreMembers power least typical largest w → v ≡ w
one_triple power least typical largest v w are other =
    let min : v.min ≡ w.min = one_member power least v.min w.min are.min other.min in
    let typ : v.typ ≡ w.typ = one_member power typical v.typ w.typ are.typ other.typ in
    let max : v.max ≡ w.max = one_member power largest v.max w.max are.max other.max in
    ap (λ (m : Option Femto). record { min = m; typ = v.typ; max = v.max }) min
    ∙ ap (λ (m : Option Femto). record { min = w.min; typ = m; max = v.max }) typ
    ∙ ap (λ (m : Option Femto). record { min = w.min; typ = w.typ; max = m }) max

same_word : (scale : Timescale) (word other : List ℕ) (v w : Value) → word ≡ other → IsValue scale word v → IsValue scale other w → v ≡ w
same_word scale word other v w e (single {time = a} is) (single {time = b} is') =
    ap single_value (one_time (power_of scale) word a b is (subst (λ (t : List ℕ). IsTime (power_of scale) t b) (sym e) is'))
same_word scale word other v w e (single {time = a} is) (triple {least = l} {typical = t} {largest = m} are) =
    absurd (colon_inside l (t ++ 58 ∷ m) (subst HasNoColon e (member_has_none (power_of scale) word (Some a) (member is))))
same_word scale word other v w e (triple {least = l} {typical = t} {largest = m} are) (single {time = b} is) =
    absurd (colon_inside l (t ++ 58 ∷ m) (subst HasNoColon (sym e) (member_has_none (power_of scale) other (Some b) (member is))))
same_word scale word other v w e (triple {least = l} {typical = t} {largest = m} are) (triple {least = l'} {typical = t'} {largest = m'} others) =
    let p : ℕ = power_of scale in
    let first = one_split l (t ++ 58 ∷ m) l' (t' ++ 58 ∷ m') (member_has_none p l v.min are.min) (member_has_none p l' w.min others.min) e in
    let second = one_split t m t' m' (member_has_none p t v.typ are.typ) (member_has_none p t' w.typ others.typ) first.1 in
    one_triple p l t m v w are
    (subst (λ (x : List ℕ). AreMembers p x t m w) (sym first.0)
    (subst (λ (x : List ℕ). AreMembers p l' x m w) (sym second.0)
    (subst (λ (x : List ℕ). AreMembers p l' t' x w) (sym second.1) others)))

pub one_word_value : (scale : Timescale) (word : List ℕ) (v w : Value) → IsValue scale word v → IsValue scale word w → v ≡ w
one_word_value scale word v w is other = same_word scale word word v w refl is other
