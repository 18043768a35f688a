-- The points of a file stand in the order of their tokens, and at one token a reference comes first: so the first fault of a file is its least.
use Rattle.std.proofs.Common.{◌≡◌, ℕ, zero, suc, ◌+◌, ◌<◌, ◌≤◌, ◌⊎◌, ⊎_elim, inl, inr, Bool, true, false, cond, List, [], ◌∷◌, ◌++◌, length, take, map, slice_get, Contains, Option, Some, None, refl, sym, ap, ◌∙◌, arith, subst}
use Rattle.std.specs.Prelude.{option_to_list}
use Rattle.std.specs.List.{flat_map}
use Rattle.std.proofs.lemmas.Bool.{cases_lt}
use Rattle.std.proofs.lemmas.List.Elements.{All-contains}
use Rattle.std.proofs.lemmas.Option.{slice_get_read}
use Rattle.delay_units.specs.declared.numbers.Unit.{Unit}
use Rattle.spef_text.specs.Entries.{Section}
use Rattle.spef_text.specs.Heads.{HeadText}
use Rattle.spef_text.specs.SpefFiles.{SpefText}
use Rattle.spef_text.specs.TokenOrder.{conn_tokens, cap_tokens, res_tokens, section_tokens, AreInFileOrder}
use Rattle.spef_text.specs.declared.entries.Conn.{Conn}
use Rattle.spef_text.specs.declared.entries.Cap.{Cap}
use Rattle.spef_text.specs.declared.entries.Res.{Res}
use Rattle.spef_text.proofs.MapLemmas.{contains_at}
use Rattle.spef_text.proofs.SectionOrder.{Between, ends_above, rising}
use Rattle.delay_units.specs.Bounds.{most_farads, most_ohms}
use Rattle.spef_nets.specs.Nodes.{net_at}
use Rattle.spef_nets.specs.Faults.{Point, reference, naming, coupling, amount, is_later, load_points, conn_points, cap_points, res_points, points_of, IsFaultAt, IsGood, IsFirstFault, AreFaultless, IsFirstOfAll, IsSectionEnd, token_of, rank_of, HasFault, IsLeastFault}
use Rattle.spef_nets.specs.declared.ends.SectionEnd.{SectionEnd}
use Rattle.spef_nets.specs.declared.ends.SectionEnd.TheVariants.{UnknownIndex, BadNumber, ValueTooLarge, RepeatedNet, ForeignCoupling, OutOfMemory}

-- the token of a point
at : Point → ℕ
at (reference token) = token
at (naming token) = token
at (coupling cap) = cap.first
at (amount unit most token) = token

-- at one token a reference comes before the others
key : Point → ℕ
key (reference token) = token + token
key (naming token) = token + token + 1
key (coupling cap) = cap.first + cap.first + 1
key (amount unit most token) = token + token + 1

-- past all points of a token
past : ℕ → ℕ
past token = token + token + 1

low_key : (point : Point) → at point + at point ≤ key point
unfolding at key
low_key (reference token) = omega arith
low_key (naming token) = omega arith
low_key (coupling cap) = omega arith
low_key (amount unit most token) = omega arith

high_key : (point : Point) → key point ≤ at point + at point + 1
unfolding at key
high_key (reference token) = omega arith
high_key (naming token) = omega arith
high_key (coupling cap) = omega arith
high_key (amount unit most token) = omega arith

-- ---- points whose keys rise

-- the keys of the points rise, the first is past a, and none is past b
abbrev Keyed : ℕ → List Point → ℕ → Type 0
Keyed a [] b = a ≤ b
Keyed a (point ∷ points) b = (a < key point) × Keyed (key point) points b

keyed_above : (a b : ℕ) (points : List Point) → Keyed a points b → a ≤ b
keyed_above a b [] k = k
keyed_above a b (point ∷ points) k =
    let less = k.0 in
    let rest = keyed_above (key point) b points k.1 in
    omega (arith, less, rest)

keyed_below : (a c b : ℕ) (points : List Point) → a ≤ c → Keyed c points b → Keyed a points b
keyed_below a c b [] h k = omega (arith, h, k)
keyed_below a c b (point ∷ points) h k = let less = k.0 in let lower : a < key point = omega (arith, h, less) in (lower, k.1)

keyed_joined : (a b c : ℕ) (points others : List Point) → Keyed a points b → Keyed b others c → Keyed a (points ++ others) c
keyed_joined a b c [] others k l = keyed_below a b c others k l
keyed_joined a b c (point ∷ points) others k l = (k.0, keyed_joined (key point) b c points others k.1 l)

within : (a b : ℕ) (points : List Point) (i : ℕ) (point : Point) → Keyed a points b → slice_get points i ≡ Some point → (a < key point) × (key point ≤ b)
within a b [] i point k e = absurd (cc)
within a b (first ∷ points) zero point k e =
    let same : first ≡ point = cc in
    let less = k.0 in
    let rest = keyed_above (key first) b points k.1 in
    subst (λ (p : Point). (a < key p) × (key p ≤ b)) same (less, rest)
within a b (first ∷ points) (suc i) point k e =
    let less = k.0 in
    let rest = within (key first) b points i point k.1 e in
    let more = rest.0 in
    (omega (arith, less, more), rest.1)

ordered : (a b : ℕ) (points : List Point) (i j : ℕ) (point other : Point) → Keyed a points b → slice_get points i ≡ Some point → slice_get points j ≡ Some other → i < j → key point < key other
ordered a b [] i j point other k e f h = absurd (cc)
ordered a b (first ∷ points) i zero point other k e f h = absurd (omega (arith, h))
ordered a b (first ∷ points) zero (suc j) point other k e f h =
    let same : first ≡ point = cc in
    subst (λ (p : Point). key p < key other) same (within (key first) b points j other k.1 f).0
ordered a b (first ∷ points) (suc i) (suc j) point other k e f h = let less : i < j = omega (arith, h) in ordered (key first) b points i j point other k.1 e f less

-- ---- the points of the elements, from the order of their tokens

record Parted (n m : ℕ) (numbers others : List ℕ) : Type 0 where
  middle : ℕ
  front : Between n numbers middle
  back : Between middle others m

parted : (n m : ℕ) (numbers others : List ℕ) → Between n (numbers ++ others) m → Parted n m numbers others
parted n m [] others b = record { middle = n; front = omega arith; back = b }
parted n m (number ∷ numbers) others b =
    let p = parted number m numbers others b.1 in
    record { middle = p.middle; front = (b.0, p.front); back = p.back }

next_reference : (n token : ℕ) → n < token → past n < key (reference token)
unfolding past key
next_reference n token h = omega (arith, h)

next_amount : (unit : Unit) (most n token : ℕ) → n < token → past n < key (amount unit most token)
unfolding past key
next_amount unit most n token h = omega (arith, h)

-- behind a reference, an amount of a later token
amount_behind : (unit : Unit) (most n token : ℕ) → n < token → key (reference n) < key (amount unit most token)
unfolding key
amount_behind unit most n token h = omega (arith, h)

reference_behind : (n token : ℕ) → n < token → key (reference n) < key (reference token)
unfolding key
reference_behind n token h = omega (arith, h)

last_amount : (unit : Unit) (most n m : ℕ) → n ≤ m → key (amount unit most n) ≤ past m
unfolding past key
last_amount unit most n m h = omega (arith, h)

last_reference : (n m : ℕ) → n ≤ m → key (reference n) ≤ past m
unfolding past key
last_reference n m h = omega (arith, h)

past_more : (n m : ℕ) → n ≤ m → past n ≤ past m
unfolding past
past_more n m h = omega (arith, h)

load_keyed : (unit : Unit) (most n m : ℕ) (load : Option ℕ) (later : Bool) → Between n (option_to_list load) m → Keyed (key (reference n)) (cond later [] (map (amount unit most) (option_to_list load))) (past m)
load_keyed unit most n m load true b = last_reference n m (ends_above n m (option_to_list load) b)
load_keyed unit most n m None false b = last_reference n m b
load_keyed unit most n m (Some token) false b = (amount_behind unit most n token b.0, last_amount unit most token m b.1)

conn_keyed : (file : SpefText) (head : HeadText) (n m : ℕ) (before : List Conn) (conn : Conn) → Between n (conn_tokens conn) m → Keyed (past n) (reference conn.node ∷ load_points file head before conn) (past m)
conn_keyed file head n m before conn b = (next_reference n conn.node b.0, load_keyed head.cap_unit most_farads conn.node m conn.load (is_later file before conn) b.1)

conns_keyed : (file : SpefText) (head : HeadText) (n m : ℕ) (before conns : List Conn) → Between n (flat_map conn_tokens conns) m → Keyed (past n) (conn_points file head before conns) (past m)
conns_keyed file head n m before [] b = past_more n m b
conns_keyed file head n m before (conn ∷ later) b =
    let p = parted n m (conn_tokens conn) (flat_map conn_tokens later) b in
    keyed_joined (past n) (past p.middle) (past m) (reference conn.node ∷ load_points file head before conn) (conn_points file head (before ++ conn ∷ []) later)
    (conn_keyed file head n p.middle before conn p.front)
    (conns_keyed file head p.middle m (before ++ conn ∷ []) later p.back)

at_coupling : (cap : Cap) → key (reference cap.first) < key (coupling cap)
unfolding key
at_coupling cap = omega arith

behind_coupling : (cap : Cap) (token : ℕ) → cap.first < token → key (coupling cap) < key (reference token)
unfolding key
behind_coupling cap token h = omega (arith, h)

value_of_coupling : (unit : Unit) (most : ℕ) (cap : Cap) (token : ℕ) → cap.first < token → key (coupling cap) < key (amount unit most token)
unfolding key
value_of_coupling unit most cap token h = omega (arith, h)

cap_keyed : (head : HeadText) (n m : ℕ) (cap : Cap) → Between n (cap_tokens cap) m → Keyed (past n) (cap_points head cap) (past m)
cap_keyed head n m cap b = (next_reference n cap.first b.0, (at_coupling cap, by cap.second b.1))
  where
    by : (second : Option ℕ) → Between cap.first (option_to_list second ++ cap.value ∷ []) m
        → Keyed (key (coupling cap)) (map reference (option_to_list second) ++ amount head.cap_unit most_farads cap.value ∷ []) (past m)
    by None b = (value_of_coupling head.cap_unit most_farads cap cap.value b.0, last_amount head.cap_unit most_farads cap.value m b.1)
    by (Some second) b = (behind_coupling cap second b.0, (amount_behind head.cap_unit most_farads second cap.value b.1.0, last_amount head.cap_unit most_farads cap.value m b.1.1))

res_keyed : (head : HeadText) (n m : ℕ) (res : Res) → Between n (res_tokens res) m → Keyed (past n) (res_points head res) (past m)
res_keyed head n m res b =
    (next_reference n res.first b.0, (reference_behind res.first res.second b.1.0, (amount_behind head.res_unit most_ohms res.second res.value b.1.1.0, last_amount head.res_unit most_ohms res.value m b.1.1.1)))

all_keyed : {E : Type 0} (tokens : E → List ℕ) (points : E → List Point) → ((n m : ℕ) (entry : E) → Between n (tokens entry) m → Keyed (past n) (points entry) (past m))
    → (n m : ℕ) (entries : List E) → Between n (flat_map tokens entries) m → Keyed (past n) (flat_map points entries) (past m)
all_keyed tokens points each n m [] b = past_more n m b
all_keyed tokens points each n m (entry ∷ later) b =
    let p = parted n m (tokens entry) (flat_map tokens later) b in
    keyed_joined (past n) (past p.middle) (past m) (points entry) (flat_map points later) (each n p.middle entry p.front) (all_keyed tokens points each p.middle m later p.back)

naming_behind : (n : ℕ) → key (reference n) < key (naming n)
unfolding key
naming_behind n = omega arith

last_naming : (n : ℕ) → key (naming n) ≤ past n
unfolding past key
last_naming n = omega arith

section_keyed : (file : SpefText) (head : HeadText) (n m : ℕ) (section : Section) → Between n (section_tokens section) m → Keyed (past n) (points_of file head section) (past m)
section_keyed file head n m section b =
    let ress = parted section.net m (flat_map conn_tokens section.conns ++ flat_map cap_tokens section.caps) (flat_map res_tokens section.ress) b.1 in
    let caps = parted section.net ress.middle (flat_map conn_tokens section.conns) (flat_map cap_tokens section.caps) ress.front in (
      next_reference n section.net b.0,
      (
        naming_behind section.net,
        keyed_below (key (naming section.net)) (past section.net) (past m) (conn_points file head [] section.conns ++ flat_map (cap_points head) section.caps ++ flat_map (res_points head) section.ress) (last_naming section.net)
            (keyed_joined (past section.net) (past ress.middle) (past m) (conn_points file head [] section.conns ++ flat_map (cap_points head) section.caps) (flat_map (res_points head) section.ress)
            (keyed_joined (past section.net) (past caps.middle) (past ress.middle) (conn_points file head [] section.conns) (flat_map (cap_points head) section.caps)
            (conns_keyed file head section.net caps.middle [] section.conns caps.front)
            (all_keyed cap_tokens (cap_points head) (cap_keyed head) caps.middle ress.middle section.caps caps.back))
            (all_keyed res_tokens (res_points head) (res_keyed head) ress.middle m section.ress ress.back)),
      ),
    )

-- ---- one section behind another

-- where the tokens of the section at a place stand
record Stands (n m : ℕ) (section : Section) : Type 0 where
  low : ℕ
  high : ℕ
  from : n ≤ low
  upto : high ≤ m
  tokens : Between low (section_tokens section) high

stands_at : (n m : ℕ) (sections : List Section) (place : ℕ) (section : Section) → Between n (flat_map section_tokens sections) m → slice_get sections place ≡ Some section → Stands n m section
stands_at n m [] place section b e = absurd (cc)
stands_at n m (first ∷ sections) zero section b e =
    let same : first ≡ section = cc in
    let p = parted n m (section_tokens first) (flat_map section_tokens sections) b in
    subst (λ (s : Section). Stands n m s) same (record { low = n; high = p.middle; from = omega arith; upto = ends_above p.middle m (flat_map section_tokens sections) p.back; tokens = p.front })
stands_at n m (first ∷ sections) (suc place) section b e =
    let p = parted n m (section_tokens first) (flat_map section_tokens sections) b in
    let s = stands_at p.middle m sections place section p.back e in
    let up = ends_above n p.middle (section_tokens first) p.front in
    let more = s.from in
    record { low = s.low; high = s.high; from = omega (arith, up, more); upto = s.upto; tokens = s.tokens }

-- two sections, the second behind the first
record Apart (one other : Section) : Type 0 where
  low : ℕ
  middle : ℕ
  next : ℕ
  high : ℕ
  first : Between low (section_tokens one) middle
  between : middle ≤ next
  second : Between next (section_tokens other) high

apart : (n m : ℕ) (sections : List Section) (i j : ℕ) (one other : Section) → Between n (flat_map section_tokens sections) m → slice_get sections i ≡ Some one → slice_get sections j ≡ Some other → i < j → Apart one other
apart n m [] i j one other b e f h = absurd (cc)
apart n m (first ∷ sections) i zero one other b e f h = absurd (omega (arith, h))
apart n m (first ∷ sections) zero (suc j) one other b e f h =
    let same : first ≡ one = cc in
    let p = parted n m (section_tokens first) (flat_map section_tokens sections) b in
    let s = stands_at p.middle m sections j other p.back f in
    subst (λ (x : Section). Apart x other) same (record { low = n; middle = p.middle; next = s.low; high = s.high; first = p.front; between = s.from; second = s.tokens })
apart n m (first ∷ sections) (suc i) (suc j) one other b e f h =
    let less : i < j = omega (arith, h) in
    let p = parted n m (section_tokens first) (flat_map section_tokens sections) b in
    apart p.middle m sections i j one other p.back e f less

-- ---- what a fault of a point is

record Facts (point : Point) (end : SectionEnd) : Type 0 where
  token : token_of end ≡ at point
  first : key point ≡ at point + at point → rank_of end ≡ 0

not_even : (n : ℕ) → n + n + 1 ≡ n + n → ⊥
not_even n e = omega (arith, e)

facts : (file : SpefText) (place : ℕ) (section : Section) (point : Point) (end : SectionEnd) → IsFaultAt file place section point end → Facts point end
unfolding at key
facts file place section (reference token) (UnknownIndex k) is = record { token = is.0; first = λ e. refl }
facts file place section (reference token) (BadNumber k) is = absurd is
facts file place section (reference token) (ValueTooLarge k) is = absurd is
facts file place section (reference token) (RepeatedNet net k) is = absurd is
facts file place section (reference token) (ForeignCoupling net k) is = absurd is
facts file place section (reference token) OutOfMemory is = absurd is
facts file place section (naming token) (UnknownIndex k) is = absurd is
facts file place section (naming token) (BadNumber k) is = absurd is
facts file place section (naming token) (ValueTooLarge k) is = absurd is
facts file place section (naming token) (RepeatedNet net k) is = record { token = is.0; first = λ e. absurd (not_even token e) }
facts file place section (naming token) (ForeignCoupling net k) is = absurd is
facts file place section (naming token) OutOfMemory is = absurd is
facts file place section (coupling cap) (UnknownIndex k) is = absurd is
facts file place section (coupling cap) (BadNumber k) is = absurd is
facts file place section (coupling cap) (ValueTooLarge k) is = absurd is
facts file place section (coupling cap) (RepeatedNet net k) is = absurd is
facts file place section (coupling cap) (ForeignCoupling net k) is = record { token = is.0; first = λ e. absurd (not_even cap.first e) }
facts file place section (coupling cap) OutOfMemory is = absurd is
facts file place section (amount unit most token) (UnknownIndex k) is = absurd is
facts file place section (amount unit most token) (BadNumber k) is = record { token = is.0; first = λ e. absurd (not_even token e) }
facts file place section (amount unit most token) (ValueTooLarge k) is = record { token = is.0; first = λ e. absurd (not_even token e) }
facts file place section (amount unit most token) (RepeatedNet net k) is = absurd is
facts file place section (amount unit most token) (ForeignCoupling net k) is = absurd is
facts file place section (amount unit most token) OutOfMemory is = absurd is

abbrev IsNoLater : SectionEnd → SectionEnd → Type 0
IsNoLater one other = (token_of one < token_of other) ⊎ ((token_of one ≡ token_of other) × (rank_of one ≤ rank_of other))

-- a fault of an earlier point comes before that of a later one
before : (one other : SectionEnd) (p q : Point) → Facts p one → Facts q other → key p < key q → IsNoLater one other
before one other p q a b less =
    ⊎_elim (λ lt. let e = a.token in let f = b.token in let here : token_of one < token_of other = omega (arith, lt, e, f) in inl here)
    (λ ge.
    let lo = low_key p in
    let hi = high_key q in
    let same : at p ≡ at q = omega (arith, ge, lo, hi, less) in
    let even : key p ≡ at p + at p = omega (arith, ge, lo, hi, less) in
    let zero_rank = a.first even in
    inr (a.token ∙ same ∙ sym b.token, omega (arith, zero_rank)))
    (cases_lt (at p) (at q))

same_some : (A : Type 0) (x : Option A) (one other : A) → x ≡ Some one → x ≡ Some other → one ≡ other
same_some A x one other e f = cc

-- a point has one fault
same_fault : (file : SpefText) (place : ℕ) (section : Section) (point : Point) (one other : SectionEnd) → IsFaultAt file place section point one → IsFaultAt file place section point other → one ≡ other
same_fault file place section (reference token) (UnknownIndex k) (UnknownIndex j) (e, none) (f, nothing) = ap UnknownIndex (e ∙ sym f)
same_fault file place section (reference token) (UnknownIndex k) (BadNumber j) a b = absurd b
same_fault file place section (reference token) (UnknownIndex k) (ValueTooLarge j) a b = absurd b
same_fault file place section (reference token) (UnknownIndex k) (RepeatedNet name j) a b = absurd b
same_fault file place section (reference token) (UnknownIndex k) (ForeignCoupling name j) a b = absurd b
same_fault file place section (reference token) (UnknownIndex k) OutOfMemory a b = absurd b
same_fault file place section (reference token) (BadNumber k) other a b = absurd a
same_fault file place section (reference token) (ValueTooLarge k) other a b = absurd a
same_fault file place section (reference token) (RepeatedNet net k) other a b = absurd a
same_fault file place section (reference token) (ForeignCoupling net k) other a b = absurd a
same_fault file place section (reference token) OutOfMemory other a b = absurd a
same_fault file place section (naming token) (UnknownIndex k) other a b = absurd a
same_fault file place section (naming token) (BadNumber k) other a b = absurd a
same_fault file place section (naming token) (ValueTooLarge k) other a b = absurd a
same_fault file place section (naming token) (RepeatedNet net k) (UnknownIndex j) a b = absurd b
same_fault file place section (naming token) (RepeatedNet net k) (BadNumber j) a b = absurd b
same_fault file place section (naming token) (RepeatedNet net k) (ValueTooLarge j) a b = absurd b
same_fault file place section (naming token) (RepeatedNet net k) (RepeatedNet name j) (e, named, again) (f, called, twice) = ap (λ x. RepeatedNet net x) (e ∙ sym f) ∙ ap (λ x. RepeatedNet x j) (same_some (List ℕ) (net_at file token) net name named called)
same_fault file place section (naming token) (RepeatedNet net k) (ForeignCoupling name j) a b = absurd b
same_fault file place section (naming token) (RepeatedNet net k) OutOfMemory a b = absurd b
same_fault file place section (naming token) (ForeignCoupling net k) other a b = absurd a
same_fault file place section (naming token) OutOfMemory other a b = absurd a
same_fault file place section (coupling cap) (UnknownIndex k) other a b = absurd a
same_fault file place section (coupling cap) (BadNumber k) other a b = absurd a
same_fault file place section (coupling cap) (ValueTooLarge k) other a b = absurd a
same_fault file place section (coupling cap) (RepeatedNet net k) other a b = absurd a
same_fault file place section (coupling cap) (ForeignCoupling net k) (UnknownIndex j) a b = absurd b
same_fault file place section (coupling cap) (ForeignCoupling net k) (BadNumber j) a b = absurd b
same_fault file place section (coupling cap) (ForeignCoupling net k) (ValueTooLarge j) a b = absurd b
same_fault file place section (coupling cap) (ForeignCoupling net k) (RepeatedNet name j) a b = absurd b
same_fault file place section (coupling cap) (ForeignCoupling net k) (ForeignCoupling name j) (e, named, foreign) (f, called, strange) = ap (λ x. ForeignCoupling net x) (e ∙ sym f) ∙ ap (λ x. ForeignCoupling x j) (same_some (List ℕ) (net_at file section.net) net name named called)
same_fault file place section (coupling cap) (ForeignCoupling net k) OutOfMemory a b = absurd b
same_fault file place section (coupling cap) OutOfMemory other a b = absurd a
same_fault file place section (amount unit most token) (UnknownIndex k) other a b = absurd a
same_fault file place section (amount unit most token) (BadNumber k) (UnknownIndex j) a b = absurd b
same_fault file place section (amount unit most token) (BadNumber k) (BadNumber j) (e, is) (f, also) = ap BadNumber (e ∙ sym f)
same_fault file place section (amount unit most token) (BadNumber k) (ValueTooLarge j) (e, bad) (f, large) = absurd (large.0 bad)
same_fault file place section (amount unit most token) (BadNumber k) (RepeatedNet name j) a b = absurd b
same_fault file place section (amount unit most token) (BadNumber k) (ForeignCoupling name j) a b = absurd b
same_fault file place section (amount unit most token) (BadNumber k) OutOfMemory a b = absurd b
same_fault file place section (amount unit most token) (ValueTooLarge k) (UnknownIndex j) a b = absurd b
same_fault file place section (amount unit most token) (ValueTooLarge k) (BadNumber j) (e, large) (f, bad) = absurd (large.0 bad)
same_fault file place section (amount unit most token) (ValueTooLarge k) (ValueTooLarge j) (e, is) (f, also) = ap ValueTooLarge (e ∙ sym f)
same_fault file place section (amount unit most token) (ValueTooLarge k) (RepeatedNet name j) a b = absurd b
same_fault file place section (amount unit most token) (ValueTooLarge k) (ForeignCoupling name j) a b = absurd b
same_fault file place section (amount unit most token) (ValueTooLarge k) OutOfMemory a b = absurd b
same_fault file place section (amount unit most token) (RepeatedNet net k) other a b = absurd a
same_fault file place section (amount unit most token) (ForeignCoupling net k) other a b = absurd a
same_fault file place section (amount unit most token) OutOfMemory other a b = absurd a

-- ---- the first is the least

in_front : (i j : ℕ) (points : List Point) (point : Point) → i < j → slice_get points i ≡ Some point → slice_get (take j points) i ≡ Some point
in_front i zero points point h e = absurd (omega (arith, h))
in_front i (suc j) [] point h e = absurd (cc)
in_front zero (suc j) (first ∷ points) point h e = e
in_front (suc i) (suc j) (first ∷ points) point h e = let less : i < j = omega (arith, h) in in_front i j points point less e

at_place : (points : List Point) (point : Point) → Contains points point → (i : ℕ) × (slice_get points i ≡ Some point)
at_place points point (i, inside, is) = (i, slice_get_read points (length points) i point refl inside (sym is))

module _ (file : SpefText) (head : HeadText) (end : SectionEnd) (n m : ℕ) (rise : Between n (flat_map section_tokens file.reading.sections) m) (first : IsFirstOfAll file head end) where
  first_facts : Facts first.first.point end
  first_facts = facts file first.place first.section first.first.point end first.first.fault

  in_section : (other : SectionEnd) (place : ℕ) (i : ℕ) (point : Point) → place ≡ first.place → slice_get (points_of file head first.section) i ≡ Some point → IsFaultAt file place first.section point other → IsNoLater end other
  in_section other place i point e at_i fault =
      ⊎_elim
      (λ less. absurd (All-contains (IsGood file first.place first.section) (take first.first.at points) point first.first.earlier (contains_at (take first.first.at points) i point (in_front i first.first.at points point less at_i)) other here))
      (λ more. ⊎_elim
      (λ less. before end other first.first.point point first_facts (facts file first.place first.section point other here)
      (ordered (past stands.low) (past stands.high) points first.first.at i first.first.point point (section_keyed file head stands.low stands.high first.section stands.tokens) first.first.stands at_i less))
      (λ most. let same : first.first.at ≡ i = omega (arith, more, most) in
      let point_same = same_some Point (slice_get points i) point first.first.point at_i (ap (λ k. slice_get points k) (sym same) ∙ first.first.stands) in
      let fault_same = subst (λ (p : Point). IsFaultAt file first.place first.section p other) point_same here in
      let one = same_fault file first.place first.section first.first.point end other first.first.fault fault_same in
      inr (ap token_of one, subst (λ (x : SectionEnd). rank_of end ≤ rank_of x) one (omega arith)))
      (cases_lt first.first.at i))
      (cases_lt i first.first.at)
    where
      points : List Point
      points = points_of file head first.section

      here : IsFaultAt file first.place first.section point other
      here = subst (λ k. IsFaultAt file k first.section point other) e fault

      stands : Stands n m first.section
      stands = stands_at n m file.reading.sections first.place first.section rise first.stands

  no_earlier : (other : SectionEnd) → HasFault file head other → IsNoLater end other
  no_earlier other has =
      ⊎_elim
      (λ less. absurd (All-contains (IsGood file has.place has.section) (points_of file head has.section) has.point (first.earlier has.place has.section less has.stands) has.examined other has.fault))
      (λ more. ⊎_elim
      (λ less.
      let a = apart n m file.reading.sections first.place has.place first.section has.section rise first.stands has.stands less in
      let i = at_place (points_of file head has.section) has.point has.examined in
      let low = (within (past a.low) (past a.middle) (points_of file head first.section) first.first.at first.first.point (section_keyed file head a.low a.middle first.section a.first) first.first.stands).1 in
      let high = (within (past a.next) (past a.high) (points_of file head has.section) i.0 has.point (section_keyed file head a.next a.high has.section a.second) i.1).0 in
      let up = past_more a.middle a.next a.between in
      before end other first.first.point has.point first_facts (facts file has.place has.section has.point other has.fault) (omega (arith, low, high, up)))
      (λ most.
      let same : has.place ≡ first.place = omega (arith, more, most) in
      let section_same = same_some Section (slice_get file.reading.sections first.place) has.section first.section (ap (λ k. slice_get file.reading.sections k) (sym same) ∙ has.stands) first.stands in
      let i = at_place (points_of file head has.section) has.point has.examined in
      in_section other has.place i.0 has.point same
      (ap (λ (s : Section). slice_get (points_of file head s) i.0) (sym section_same) ∙ i.1)
      (subst (λ (s : Section). IsFaultAt file has.place s has.point other) section_same has.fault))
      (cases_lt first.place has.place))
      (cases_lt has.place first.place)

  least : IsLeastFault file head end
  least = (
    record {
      place = first.place;
      section = first.section;
      stands = first.stands;
      point = first.first.point;
      examined = contains_at (points_of file head first.section) first.first.at first.first.point first.first.stands;
      fault = first.first.fault;
    },
    no_earlier,
  )

pub first_is_least : (file : SpefText) (head : HeadText) (end : SectionEnd) → AreInFileOrder file.reading.sections → IsFirstOfAll file head end → IsLeastFault file head end
first_is_least file head end in_order first =
    let rise = rising 0 (flat_map section_tokens file.reading.sections) in_order in
    least file head end 0 rise.0 rise.1 first

-- ---- one refusal

-- a file without a fault has no first one
pub no_first : (file : SpefText) (head : HeadText) (end : SectionEnd) → AreFaultless file head → IsFirstOfAll file head end → ⊥
no_first file head end none first =
    All-contains (IsGood file first.place first.section) (points_of file head first.section) first.first.point (none first.place first.section first.stands)
    (contains_at (points_of file head first.section) first.first.at first.first.point first.first.stands) end first.first.fault

pub no_end : (file : SpefText) (head : HeadText) (end : SectionEnd) → AreFaultless file head → IsSectionEnd file head end → end ≡ OutOfMemory
no_end file head OutOfMemory none is = refl
no_end file head (UnknownIndex token) none is = absurd (no_first file head (UnknownIndex token) none is)
no_end file head (BadNumber token) none is = absurd (no_first file head (BadNumber token) none is)
no_end file head (ValueTooLarge token) none is = absurd (no_first file head (ValueTooLarge token) none is)
no_end file head (RepeatedNet net token) none is = absurd (no_first file head (RepeatedNet net token) none is)
no_end file head (ForeignCoupling net token) none is = absurd (no_first file head (ForeignCoupling net token) none is)

not_before : (file : SpefText) (head : HeadText) (one other : SectionEnd) (a : IsFirstOfAll file head one) (b : IsFirstOfAll file head other) → a.place < b.place → ⊥
not_before file head one other a b less =
    All-contains (IsGood file a.place a.section) (points_of file head a.section) a.first.point (b.earlier a.place a.section less a.stands)
    (contains_at (points_of file head a.section) a.first.at a.first.point a.first.stands) one a.first.fault

-- the first of these points that has a fault, twice
one_first : (file : SpefText) (place : ℕ) (section : Section) (points : List Point) (one other : SectionEnd) → IsFirstFault file place section points one → IsFirstFault file place section points other → one ≡ other
one_first file place section points one other a b =
    ⊎_elim (λ less. absurd (All-contains (IsGood file place section) (take b.at points) a.point b.earlier (contains_at (take b.at points) a.at a.point (in_front a.at b.at points a.point less a.stands)) one a.fault))
    (λ more. ⊎_elim
    (λ less. absurd (All-contains (IsGood file place section) (take a.at points) b.point a.earlier (contains_at (take a.at points) b.at b.point (in_front b.at a.at points b.point less b.stands)) other b.fault))
    (λ most.
    let same : a.at ≡ b.at = omega (arith, more, most) in
    let point = same_some Point (slice_get points a.at) a.point b.point a.stands (ap (λ k. slice_get points k) same ∙ b.stands) in
    same_fault file place section b.point one other (subst (λ (p : Point). IsFaultAt file place section p one) point a.fault) b.fault)
    (cases_lt b.at a.at))
    (cases_lt a.at b.at)

one_of_all : (file : SpefText) (head : HeadText) (one other : SectionEnd) → IsFirstOfAll file head one → IsFirstOfAll file head other → one ≡ other
one_of_all file head one other a b =
    ⊎_elim (λ less. absurd (not_before file head one other a b less))
    (λ more. ⊎_elim (λ less. absurd (not_before file head other one b a less))
    (λ most. at_one (omega (arith, more, most)))
    (cases_lt b.place a.place))
    (cases_lt a.place b.place)
  where
    at_one : a.place ≡ b.place → one ≡ other
    at_one e =
        let section = same_some Section (slice_get file.reading.sections a.place) a.section b.section a.stands (ap (λ k. slice_get file.reading.sections k) e ∙ b.stands) in
        let P : ℕ → Section → Type 0 = λ place section. IsFirstFault file place section (points_of file head section) one in
        one_first file b.place b.section (points_of file head b.section) one other (subst (λ k. P k b.section) e (subst (λ (s : Section). P a.place s) section a.first)) b.first

of_first : (file : SpefText) (head : HeadText) (end : SectionEnd) → IsSectionEnd file head end → (end ≡ OutOfMemory) ⊎ IsFirstOfAll file head end
of_first file head OutOfMemory is = inl refl
of_first file head (UnknownIndex token) is = inr is
of_first file head (BadNumber token) is = inr is
of_first file head (ValueTooLarge token) is = inr is
of_first file head (RepeatedNet net token) is = inr is
of_first file head (ForeignCoupling net token) is = inr is

pub one_end : (file : SpefText) (head : HeadText) (one other : SectionEnd) → IsSectionEnd file head one → IsSectionEnd file head other → (one ≡ OutOfMemory) ⊎ ((other ≡ OutOfMemory) ⊎ (one ≡ other))
one_end file head one other a b =
    ⊎_elim (λ e. inl e) (λ first. ⊎_elim (λ e. inr (inl e)) (λ second. inr (inr (one_of_all file head one other first second))) (of_first file head other b)) (of_first file head one a)

-- so a refusal that has a fault has the least
pub least_end : (file : SpefText) (head : HeadText) (end : SectionEnd) → AreInFileOrder file.reading.sections → IsSectionEnd file head end → (end ≡ OutOfMemory) ⊎ IsLeastFault file head end
least_end file head end in_order is = ⊎_elim (λ e. inl e) (λ first. inr (first_is_least file head end in_order first)) (of_first file head end is)
