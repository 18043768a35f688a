-- The members of a value, parted by colons.
use Rattle.std.proofs.Common.{◌≡◌, ℕ, zero, suc, ◌+◌, ◌<◌, ◌⊎◌, inl, inr, ◌||◌, ◌==◌, true, false, List, [], ◌∷◌, ◌++◌, length, take, drop, get_or, Option, Some, None, IfSome, IfNone, is_some, refl, sym, ap, ap₂, ◌∙◌, arith, subst}
use Rattle.std.proofs.lemmas.Bool.{eqb-true}
use Rattle.std.proofs.lemmas.List.{drop_more, take-append-drop}
use Rattle.delay_units.specs.Literal.{Literal, Sign, unsigned, plus, minus, Exponent, Spells, AreDigits, sign_text, fraction_text, fraction_digits, exponent_text, IsExponent, mantissa_digits}
use Rattle.delay_units.specs.declared.quantities.Femto.{Femto}
use Rattle.sdf_reader.specs.Timescales.{power_of}
use Rattle.sdf_reader.specs.Numbers.{IsTime, IsMember, left_out, member, AreMembers, single_value, IsValue, single, triple, HasNoColon}
use Rattle.sdf_reader.specs.declared.rows.Value.{Value}
use Rattle.sdf_reader.specs.declared.timescales.Timescale.{Timescale}
use Rattle.sdf_reader.proofs.Clashes.{never_none, never_true, never_false, never_more, never_empty, same_first, same_others}

-- ---- colons

pub no_colon_before : (bytes : List ℕ) (k : ℕ) → ((i : ℕ) → i < k → i < length bytes → get_or bytes i 0 ≡ 58 → ⊥) → HasNoColon (take k bytes)
no_colon_before bytes zero none = tt
no_colon_before [] (suc k) none = tt
no_colon_before (b ∷ bytes) (suc k) none = (none 0 (omega arith) (omega arith), no_colon_before bytes k (λ i lt within. none (suc i) (omega arith) (omega arith)))

pub no_colon : (bytes : List ℕ) → ((i : ℕ) → i < length bytes → get_or bytes i 0 ≡ 58 → ⊥) → HasNoColon bytes
no_colon [] none = tt
no_colon (b ∷ bytes) none = (none 0 (omega arith), no_colon bytes (λ i lt. none (suc i) (omega arith)))

pub cut_there : (text : List ℕ) (k : ℕ) → k < length text → get_or text k 0 ≡ 58 → text ≡ take k text ++ 58 ∷ drop 1 (drop k text)
cut_there text k lt is =
    let more : drop k text ≡ get_or text k 0 ∷ drop (k + 1) text = drop_more text k 0 lt in
    let behind : drop k text ≡ 58 ∷ drop 1 (drop k text) = more ∙ ap (λ b. b ∷ drop (k + 1) text) is ∙ ap (λ l. 58 ∷ l) (sym (ap (drop 1) more)) in
    sym (take-append-drop k text) ∙ ap (λ l. take k text ++ l) behind

-- there is one first colon
pub one_split : (a b c d : List ℕ) → HasNoColon a → HasNoColon c → a ++ 58 ∷ b ≡ c ++ 58 ∷ d → (a ≡ c) × (b ≡ d)
one_split [] b [] d p q e = (refl, same_others e)
one_split [] b (x ∷ c) d p q e = absurd (q.0 (sym (same_first e)))
one_split (x ∷ a) b [] d p q e = absurd (p.0 (same_first e))
one_split (x ∷ a) b (y ∷ c) d p q e =
    let rest = one_split a b c d p.1 q.1 (same_others e) in
    (ap₂ (λ h t. h ∷ t) (same_first e) rest.0, rest.1)

pub colon_inside : (a b : List ℕ) → HasNoColon (a ++ 58 ∷ b) → ⊥
colon_inside [] b none = none.0 refl
colon_inside (x ∷ a) b none = colon_inside a b none.1

joined : (a b : List ℕ) → HasNoColon a → HasNoColon b → HasNoColon (a ++ b)
joined [] b p q = q
joined (x ∷ a) b p q = (p.0, joined a b p.1 q)

-- ---- literals

of_digits : (ds : List ℕ) → AreDigits ds → HasNoColon ds
of_digits [] are = tt
of_digits (d ∷ ds) are =
    let most = are.1 in
    ((λ e. omega (arith, e, most)), of_digits ds are.2)

of_sign : (sign : Sign) → HasNoColon (sign_text sign)
of_sign unsigned = tt
of_sign plus = ((λ e. absurd (omega (arith, e))), tt)
of_sign minus = ((λ e. absurd (omega (arith, e))), tt)

of_fraction : (fraction : Option (List ℕ)) → AreDigits (fraction_digits fraction) → HasNoColon (fraction_text fraction)
of_fraction None are = tt
of_fraction (Some ds) are = ((λ e. absurd (omega (arith, e))), of_digits ds are)

of_mark : (mark : ℕ) → (mark ≡ 101) ⊎ (mark ≡ 69) → mark ≡ 58 → ⊥
of_mark mark (inl is) e = absurd (omega (arith, is, e))
of_mark mark (inr is) e = absurd (omega (arith, is, e))

of_exponent : (exponent : Option Exponent) → IsExponent exponent → HasNoColon (exponent_text exponent)
of_exponent None is = tt
of_exponent (Some e) is = (of_mark e.mark is.0, joined (sign_text e.sign) e.digits (of_sign e.sign) (of_digits e.digits is.1))

pub literal_has_none : (text : List ℕ) (l : Literal) → Spells text l → HasNoColon text
literal_has_none text l spells =
    subst HasNoColon (sym spells.writes)
    (joined (sign_text l.sign) (l.whole ++ (fraction_text l.fraction ++ exponent_text l.exponent)) (of_sign l.sign)
    (joined l.whole (fraction_text l.fraction ++ exponent_text l.exponent) (of_digits l.whole spells.whole)
    (joined (fraction_text l.fraction) (exponent_text l.exponent) (of_fraction l.fraction spells.fraction) (of_exponent l.exponent spells.exponent))))

time_has_none : (power : ℕ) (text : List ℕ) (time : Femto) → IsTime power text time → HasNoColon text
time_has_none power text time is = literal_has_none text is.reads.literal is.reads.spells

pub member_has_none : (power : ℕ) (text : List ℕ) (m : Option Femto) → IsMember power text m → HasNoColon text
member_has_none power [] None left_out = tt
member_has_none power (b ∷ text) None is = elim is [ ]
member_has_none power text (Some time) (member is) = time_has_none power text time is

-- a literal has a byte
no_left : (a b : List ℕ) → [] ≡ a ++ b → a ≡ []
no_left [] b e = refl
no_left (x ∷ a) b e = never_more e

no_right : (a b : List ℕ) → [] ≡ a ++ b → [] ≡ b
no_right [] b e = e
no_right (x ∷ a) b e = never_more e

no_fraction : (fraction : Option (List ℕ)) → fraction_text fraction ≡ [] → fraction_digits fraction ≡ []
no_fraction None e = refl
no_fraction (Some ds) e = never_empty e

nothing_spelled : (l : Literal) → Spells [] l → ⊥
nothing_spelled l spells =
    let behind_sign : [] ≡ l.whole ++ (fraction_text l.fraction ++ exponent_text l.exponent) = no_right (sign_text l.sign) (l.whole ++ (fraction_text l.fraction ++ exponent_text l.exponent)) spells.writes in
    let whole : l.whole ≡ [] = no_left l.whole (fraction_text l.fraction ++ exponent_text l.exponent) behind_sign in
    let behind_whole : [] ≡ fraction_text l.fraction ++ exponent_text l.exponent = no_right l.whole (fraction_text l.fraction ++ exponent_text l.exponent) behind_sign in
    let fraction : fraction_digits l.fraction ≡ [] = no_fraction l.fraction (no_left (fraction_text l.fraction) (exponent_text l.exponent) behind_whole) in
    let none : length (mantissa_digits l) ≡ 0 = ap length (ap₂ (λ a b. a ++ b) whole fraction) in
    let some = spells.some_digit in
    omega (arith, none, some)

-- nothing has no time
pub no_time : (power : ℕ) (time : Femto) → IsTime power [] time → ⊥
no_time power time is = nothing_spelled is.reads.literal is.reads.spells

-- ---- members

pub empty_text : (text : List ℕ) → (length text == 0) ≡ true → text ≡ []
empty_text [] e = refl
empty_text (b ∷ text) e = absurd (let none : length (b ∷ text) ≡ 0 = eqb-true (length (b ∷ text)) 0 e in omega (arith, none))

pub some_text : (text : List ℕ) → (length text == 0) ≡ false → text ≡ [] → ⊥
some_text [] e f = never_false e
some_text (b ∷ text) e f = never_empty f

pub empty_member : (power : ℕ) (text : List ℕ) → text ≡ [] → IsMember power text None
empty_member power text e = subst (λ (t : List ℕ). IsMember power t None) (sym e) left_out

pub member_none : (power : ℕ) (text : List ℕ) → (text ≡ [] → ⊥) → ((time : Femto) → IsTime power text time → ⊥) → (m : Option Femto) → IsMember power text m → ⊥
member_none power [] some none None left_out = some refl
member_none power (b ∷ text) some none None is = elim is [ ]
member_none power text some none (Some time) (member is) = none time is

none_again : (power : ℕ) (text : List ℕ) (m n : Option Femto) → m ≡ None → IsMember power text m → IsMember power text n → n ≡ None
none_again power [] None None e left_out left_out = refl
none_again power [] None (Some time) e left_out (member is) = absurd (nothing_spelled is.reads.literal is.reads.spells)
none_again power (b ∷ text) None n e is other = elim is [ ]
none_again power text (Some time) n e (member is) other = never_none e

none_of : (a b c : Option Femto) → (is_some a || is_some b || is_some c) ≡ false → (a ≡ None) × (b ≡ None) × (c ≡ None)
none_of None None None e = (refl, refl, refl)
none_of (Some a) b c e = never_false e
none_of None (Some b) c e = never_false e
none_of None None (Some c) e = never_false e

all_none : (a b c : Option Femto) → a ≡ None → b ≡ None → c ≡ None → (is_some a || is_some b || is_some c) ≡ true → ⊥
all_none None None None p q r e = never_true e
all_none (Some a) b c p q r e = never_none p
all_none None (Some b) c p q r e = never_none q
all_none None None (Some c) p q r e = never_none r

-- three members that are left out make no value
pub no_triple : (power : ℕ) (least typical largest : List ℕ) (a b c : Option Femto) (value : Value) → IsMember power least a → IsMember power typical b → IsMember power largest c
    → (is_some a || is_some b || is_some c) ≡ false → AreMembers power least typical largest value → ⊥
no_triple power least typical largest a b c value p q r none are =
    let out = none_of a b c none in
    all_none value.min value.typ value.max (none_again power least a value.min out.0 p are.min) (none_again power typical b value.typ out.1 q are.typ) (none_again power largest c value.max out.2 r are.max) are.some

pub no_member : (power : ℕ) (least typical largest : List ℕ) → ((m : Option Femto) → IsMember power least m → ⊥) ⊎ (((m : Option Femto) → IsMember power typical m → ⊥) ⊎ ((m : Option Femto) → IsMember power largest m → ⊥)) → (value : Value) → AreMembers power least typical largest value → ⊥
no_member power least typical largest (inl none) value are = none value.min are.min
no_member power least typical largest (inr (inl none)) value are = none value.typ are.typ
no_member power least typical largest (inr (inr none)) value are = none value.max are.max

-- ---- values

pub single_made : (scale : Timescale) (text : List ℕ) (value : Value) → (time : Femto) × IsTime (power_of scale) text time × (value ≡ single_value time) → IsValue scale text value
single_made scale text value (time, is, e) = subst (λ (v : Value). IsValue scale text v) (sym e) (single is)

pub triple_made : (scale : Timescale) (word least others typical largest : List ℕ) (value : Value) → word ≡ least ++ 58 ∷ others → others ≡ typical ++ 58 ∷ largest → AreMembers (power_of scale) least typical largest value → IsValue scale word value
triple_made scale word least others typical largest value e f are =
    subst (λ (w : List ℕ). IsValue scale w value) (sym (e ∙ ap (λ l. least ++ 58 ∷ l) f)) (triple are)

-- a word without a colon is a literal, or says nothing
pub none_single : (scale : Timescale) (word : List ℕ) (value : Value) → HasNoColon word → ((time : Femto) → IsTime (power_of scale) word time → ⊥) → IsValue scale word value → ⊥
none_single scale word value free none (single {time = time} is) = none time is
none_single scale word value free none (triple {least = least} {typical = typical} {largest = largest} are) = colon_inside least (typical ++ 58 ∷ largest) free

-- a word with a colon has two, and three members
pub none_behind : (scale : Timescale) (word least others : List ℕ) (value : Value) → word ≡ least ++ 58 ∷ others → HasNoColon least → HasNoColon others → IsValue scale word value → ⊥
none_behind scale word least others value e free last (single {time = time} is) = colon_inside least others (subst HasNoColon e (time_has_none (power_of scale) word time is))
none_behind scale word least others value e free last (triple {least = l} {typical = t} {largest = m} are) =
    let same = one_split l (t ++ 58 ∷ m) least others (member_has_none (power_of scale) l value.min are.min) free e in
    colon_inside t m (subst HasNoColon (sym same.1) last)

pub none_triple : (scale : Timescale) (word least others typical largest : List ℕ) (value : Value) → word ≡ least ++ 58 ∷ others → HasNoColon least → others ≡ typical ++ 58 ∷ largest → HasNoColon typical
    → ((v : Value) → AreMembers (power_of scale) least typical largest v → ⊥) → IsValue scale word value → ⊥
none_triple scale word least others typical largest value e free f next none (single {time = time} is) = colon_inside least others (subst HasNoColon e (time_has_none (power_of scale) word time is))
none_triple scale word least others typical largest value e free f next none (triple {least = l} {typical = t} {largest = m} are) =
    let same = one_split l (t ++ 58 ∷ m) least others (member_has_none (power_of scale) l value.min are.min) free e in
    let again = one_split t m typical largest (member_has_none (power_of scale) t value.typ are.typ) next (same.1 ∙ f) in
    none value (subst (λ (x : List ℕ). AreMembers (power_of scale) x typical largest value) same.0
    (subst (λ (x : List ℕ). AreMembers (power_of scale) l x largest value) again.0
    (subst (λ (x : List ℕ). AreMembers (power_of scale) l t x value) again.1 are)))

-- an answer of which more is known
pub if_some : {P Q : Value → Type 0} (found : Option Value) → ((value : Value) → P value → Q value) → IfSome found P → IfSome found Q
if_some None more is = tt
if_some (Some value) more is = more value is

pub if_none : {P Q : Type 0} (found : Option Value) → (P → Q) → IfNone found P → IfNone found Q
if_none None more is = more is
if_none (Some value) more is = tt
