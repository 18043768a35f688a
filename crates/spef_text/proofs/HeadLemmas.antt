-- Why a file has no head, from what the entries of its map say.
use Rattle.std.proofs.Common.{◌≡◌, ℕ, zero, suc, ◌<◌, List, [], ◌∷◌, length, take, get_or, slice_get, Contains, Option, Some, None, ◌⊎◌, ⊎_elim, inl, inr, refl, sym, ap, ◌∙◌, arith, subst}
use Rattle.std.proofs.lemmas.Bool.{cases_lt}
use Rattle.std.proofs.lemmas.List.{get_or-map, get_or-take, length-map, length-take}
use Rattle.std.proofs.lemmas.Option.{get_or_from_slice_get, slice_get_within, slice_get_read}
use Rattle.name_table.specs.Names.{AreDistinct}
use Rattle.spef_text.specs.SpefFiles.{SpefText}
use Rattle.spef_text.specs.Heads.{HeadText, digits_of, indices_of, IsUnitAt, IsBadUnit, HasCapUnit, HasResUnit, IsRepeatedAt, IsRepeat, IsHeadOf, IsHeadEnd}
use Rattle.delay_units.specs.declared.numbers.Unit.{Unit}
use Rattle.spef_text.specs.declared.units.Quantity.{Quantity}
use Rattle.spef_text.specs.declared.units.Quantity.TheVariants.{Capacitance, Resistance}
use Rattle.spef_text.specs.declared.entries.MapEntry.{MapEntry}
use Rattle.spef_text.specs.declared.head_ends.HeadEnd.{HeadEnd}
use Rattle.spef_text.specs.declared.head_ends.HeadEnd.TheVariants.{BadUnit, RepeatedIndex, OutOfMemory}

pub of_repeat : (file : SpefText) (end : HeadEnd) → HasCapUnit file → HasResUnit file → IsRepeat file end → IsHeadEnd file end
of_repeat file (BadUnit token) cap res is = absurd is
of_repeat file (RepeatedIndex token) cap res is = (cap, res, is)
of_repeat file OutOfMemory cap res is = tt

-- what stands in a part stands at its place in the whole
in_whole : (file : SpefText) (entries : List MapEntry) (place k : ℕ) (x : List ℕ) → k < length (indices_of file (take place entries)) → get_or (indices_of file (take place entries)) k x ≡ get_or (indices_of file entries) k x
in_whole file entries place k x within =
    let e = length-map (take place entries) (digits_of file) in
    let f = length-take place entries in
    let part : k < length (take place entries) = omega (arith, within, e) in
    let before : k < place = omega (arith, part, f) in
    let whole : k < length entries = omega (arith, part, f) in
    get_or-map (digits_of file) (take place entries) k d x part ∙ ap (digits_of file) (get_or-take place entries k d before) ∙ sym (get_or-map (digits_of file) entries k d x whole)
  where
    d : MapEntry
    d = record { index = 0; name = 0 }

early : (file : SpefText) (entries : List MapEntry) (place k : ℕ) → k < length (indices_of file (take place entries)) → k < place
early file entries place k within =
    let e = length-map (take place entries) (digits_of file) in
    let f = length-take place entries in
    omega (arith, within, e, f)

-- an index does not stand twice among some that are apart
not_twice : (file : SpefText) (entries : List MapEntry) (place : ℕ) (entry : MapEntry) → slice_get entries place ≡ Some entry → Contains (indices_of file (take place entries)) (digits_of file entry)
    → AreDistinct (indices_of file entries) → ⊥
not_twice file entries place entry stands again distinct =
    let x : List ℕ = digits_of file entry in
    let k : ℕ = again.0 in
    let within : place < length entries = slice_get_within entries place entry stands in
    let later : get_or (indices_of file entries) place x ≡ x = get_or-map (digits_of file) entries place entry x within ∙ ap (digits_of file) (get_or_from_slice_get entries place entry entry stands) in
    let earlier : get_or (indices_of file entries) k x ≡ x = sym (in_whole file entries place k x again.1) ∙ again.2 in
    distinct k place x (early file entries place k again.1) (rw (length-map entries (digits_of file)) within) (earlier ∙ sym later)

-- an index that stands twice is no head's
stands_twice : (file : SpefText) (token : ℕ) → IsRepeatedAt file token → AreDistinct (indices_of file file.reading.head.map) → ⊥
stands_twice file token is distinct = not_twice file file.reading.head.map is.place is.entry is.stands is.again distinct

of_map : (file : SpefText) (head : HeadText) → IsHeadOf file head → AreDistinct (indices_of file file.reading.head.map)
of_map file head of_file = of_file.distinct

pub only_want : (file : SpefText) (end : HeadEnd) (head : HeadText) → IsRepeat file end → IsHeadOf file head → end ≡ OutOfMemory
only_want file (BadUnit token) head is of_file = absurd is
only_want file (RepeatedIndex token) head is of_file = absurd (stands_twice file token is (of_map file head of_file))
only_want file OutOfMemory head is of_file = refl

-- ---- one refusal at most

-- a unit that is bad is none
not_bad : (quantity : Quantity) (file : SpefText) (item : Option ℕ) (token : ℕ) (unit : Unit) → IsBadUnit quantity file item token → IsUnitAt quantity file item unit → ⊥
not_bad quantity file None token unit bad is = bad.0 is.0
not_bad quantity file (Some number) token unit bad is = bad.0 unit is

one_bad : (quantity : Quantity) (file : SpefText) (item : Option ℕ) (one other : ℕ) → IsBadUnit quantity file item one → IsBadUnit quantity file item other → one ≡ other
one_bad quantity file None one other a b = a.1 ∙ sym b.1
one_bad quantity file (Some number) one other a b = a.1 ∙ sym b.1

take_of_take : (i j : ℕ) (xs : List MapEntry) → i < j → take i (take j xs) ≡ take i xs
take_of_take zero j xs h = refl
take_of_take (suc i) zero xs h = absurd (none h)
  where
    none : suc i < 0 → ⊥
    none h = omega (arith, h)
take_of_take (suc i) (suc j) [] h = refl
take_of_take (suc i) (suc j) (x ∷ xs) h = let less : i < j = omega (arith, h) in ap (λ rest. x ∷ rest) (take_of_take i j xs less)

in_front : (i j : ℕ) (xs : List MapEntry) (x : MapEntry) → i < j → slice_get xs i ≡ Some x → slice_get (take j xs) i ≡ Some x
in_front i j xs x less at =
    let within : i < length xs = slice_get_within xs i x at in
    let part : i < length (take j xs) = omega (arith, less, within, length-take j xs) in
    slice_get_read (take j xs) (length (take j xs)) i x refl part (sym (get_or-take j xs i x less ∙ get_or_from_slice_get xs i x x at))

-- no earlier entry than the first stands again
not_earlier : (file : SpefText) (one other : ℕ) (a : IsRepeatedAt file one) (b : IsRepeatedAt file other) → a.place < b.place → ⊥
not_earlier file one other a b less =
    not_twice file (take b.place entries) a.place a.entry (in_front a.place b.place entries a.entry less a.stands)
    (subst (λ (xs : List MapEntry). Contains (indices_of file xs) (digits_of file a.entry)) (sym (take_of_take a.place b.place entries less)) a.again) b.no_earlier
  where
    entries : List MapEntry
    entries = file.reading.head.map

one_repeated : (file : SpefText) (one other : ℕ) → IsRepeatedAt file one → IsRepeatedAt file other → one ≡ other
one_repeated file one other a b =
    ⊎_elim (λ less. absurd (not_earlier file one other a b less))
    (λ more. ⊎_elim (λ less. absurd (not_earlier file other one b a less))
    (λ most. same (omega (arith, more, most)))
    (cases_lt b.place a.place))
    (cases_lt a.place b.place)
  where
    same : a.place ≡ b.place → one ≡ other
    same e =
        let stands : slice_get file.reading.head.map b.place ≡ Some a.entry = ap (λ k. slice_get file.reading.head.map k) (sym e) ∙ a.stands in
        let entry : a.entry ≡ b.entry = cc (stands, b.stands) in
        a.token_is ∙ ap (λ (x : MapEntry). x.index) entry ∙ sym b.token_is

pub no_end : (file : SpefText) (end : HeadEnd) (head : HeadText) → IsHeadEnd file end → IsHeadOf file head → end ≡ OutOfMemory
no_end file (BadUnit token) head is of_file =
    absurd (⊎_elim (λ bad. not_bad Capacitance file file.reading.head.cap_unit token head.cap_unit bad of_file.cap_unit)
    (λ bad. not_bad Resistance file file.reading.head.res_unit token head.res_unit bad.1 of_file.res_unit) is)
no_end file (RepeatedIndex token) head is of_file = absurd (stands_twice file token is.2 (of_map file head of_file))
no_end file OutOfMemory head is of_file = refl

one_unit : (file : SpefText) (one other : ℕ) → IsHeadEnd file (BadUnit one) → IsHeadEnd file (BadUnit other) → one ≡ other
one_unit file one other a b =
    ⊎_elim (λ x. ⊎_elim (λ y. one_bad Capacitance file file.reading.head.cap_unit one other x y)
    (λ y. absurd (not_bad Capacitance file file.reading.head.cap_unit one y.0.0 x y.0.1)) b)
    (λ x. ⊎_elim (λ y. absurd (not_bad Capacitance file file.reading.head.cap_unit other x.0.0 y x.0.1))
    (λ y. one_bad Resistance file file.reading.head.res_unit one other x.1 y.1) b)
    a

unit_or_index : (file : SpefText) (one other : ℕ) → IsHeadEnd file (BadUnit one) → IsHeadEnd file (RepeatedIndex other) → ⊥
unit_or_index file one other a b =
    ⊎_elim (λ x. not_bad Capacitance file file.reading.head.cap_unit one b.0.0 x b.0.1)
    (λ x. not_bad Resistance file file.reading.head.res_unit one b.1.0 x.1 b.1.1)
    a

pub one_end : (file : SpefText) (one other : HeadEnd) → IsHeadEnd file one → IsHeadEnd file other → (one ≡ OutOfMemory) ⊎ ((other ≡ OutOfMemory) ⊎ (one ≡ other))
one_end file OutOfMemory other a b = inl refl
one_end file (BadUnit one) OutOfMemory a b = inr (inl refl)
one_end file (RepeatedIndex one) OutOfMemory a b = inr (inl refl)
one_end file (BadUnit one) (BadUnit other) a b = inr (inr (ap BadUnit (one_unit file one other a b)))
one_end file (BadUnit one) (RepeatedIndex other) a b = absurd (unit_or_index file one other a b)
one_end file (RepeatedIndex one) (BadUnit other) a b = absurd (unit_or_index file other one b a)
one_end file (RepeatedIndex one) (RepeatedIndex other) a b = inr (inr (ap RepeatedIndex (one_repeated file one other a.2 b.2)))
