-- Lists of entries, cut where the sections end.
use Rattle.std.proofs.Common.{◌≡◌, ℕ, zero, suc, ◌+◌, ◌-◌, ◌<◌, ◌≤◌, List, [], ◌∷◌, ◌++◌, length, map, take, drop, false, None, Some, refl, sym, ap, ap₂, ◌∙◌, subst, arith, append-nil}
use Rattle.std.specs.Prelude.{slice_get, slice_index_or}
use Rattle.std.proofs.lemmas.List.{drop-append-le, take-append-le, take_all, length-drop, length-take-le, map-append, length-map, length-append, get_or-take, get_or-drop}
use Rattle.std.proofs.Math.Seq.{drop-length}
use Rattle.std.specs.Option.{option_map}
use Rattle.std.proofs.lemmas.Option.{slice_get-map, slice_get-get_or, slice_get_read, get_or_from_slice_get}
use Rattle.spef_text.specs.Entries.{Section, section_at}
use Rattle.spef_text.specs.Modes.{conn_of, cap_of, res_of}
use Rattle.spef_text.specs.SectionTable.{SectionTable, start, between, section_between, sections_from, last_end, begun_from, table_of, AreInOrder, with_conn_at, with_cap_at, with_res_at, closed}
use Rattle.spef_text.specs.declared.entries.Conn.{Conn}
use Rattle.spef_text.specs.declared.entries.Cap.{Cap}
use Rattle.spef_text.specs.declared.entries.Res.{Res}
use Rattle.spef_text.specs.declared.entries.ConnAt.{ConnAt}
use Rattle.spef_text.specs.declared.entries.CapAt.{CapAt}
use Rattle.spef_text.specs.declared.entries.ResAt.{ResAt}
use Rattle.spef_text.specs.declared.sections.End.{End}

-- a section lies between two ends
pub record Lies (from to : End) (c g r : ℕ) : Type 0 where
  pub conns : from.conns ≤ to.conns
  pub caps : from.caps ≤ to.caps
  pub ress : from.ress ≤ to.ress
  pub conns_end : to.conns ≤ c
  pub caps_end : to.caps ≤ g
  pub ress_end : to.ress ≤ r

-- the last end is behind no entry
pub record IsWithin (from : End) (c g r : ℕ) : Type 0 where
  pub conns : from.conns ≤ c
  pub caps : from.caps ≤ g
  pub ress : from.ress ≤ r

module _ (conns caps ress : ℕ) where
  pub first_within : (from : End) (ends : List End) → AreInOrder from ends conns caps ress → IsWithin from conns caps ress
  first_within from [] o = record { conns = o.0; caps = o.1; ress = o.2 }
  first_within from (to ∷ ends) o =
      let later = first_within to ends o.3 in
      record { conns = omega (arith, o.0, later.conns); caps = omega (arith, o.1, later.caps); ress = omega (arith, o.2, later.ress) }

  pub last_within : (from : End) (ends : List End) → AreInOrder from ends conns caps ress → IsWithin (last_end from ends) conns caps ress
  last_within from [] o = record { conns = o.0; caps = o.1; ress = o.2 }
  last_within from (to ∷ ends) o = last_within to ends o.3

  pub order_grows : (more_conns more_caps more_ress : ℕ) (from : End) (ends : List End) → conns ≤ more_conns → caps ≤ more_caps → ress ≤ more_ress → AreInOrder from ends conns caps ress → AreInOrder from ends more_conns more_caps more_ress
  order_grows c g r from [] hc hg hr o = (omega (arith, o.0), omega (arith, o.1), omega (arith, o.2))
  order_grows c g r from (to ∷ ends) hc hg hr o = (o.0, o.1, o.2, order_grows c g r to ends hc hg hr o.3)

  pub order_closes : (net : ℕ) (from : End) (ends : List End) → AreInOrder from ends conns caps ress → AreInOrder from (ends ++ record { net = net; conns = conns; caps = caps; ress = ress } ∷ []) conns caps ress
  order_closes net from [] o = (o.0, o.1, o.2, (omega arith, omega arith, omega arith))
  order_closes net from (to ∷ ends) o = (o.0, o.1, o.2, order_closes net to ends o.3)

  pub lies_at : (from : End) (ends : List End) (place : ℕ) → AreInOrder from ends conns caps ress → place < length ends → Lies (slice_index_or (from ∷ ends) place start) (slice_index_or ends place start) conns caps ress
  lies_at from [] place o below = absurd (omega arith)
  lies_at from (to ∷ ends) zero o below =
      let later = first_within to ends o.3 in
      record { conns = o.0; caps = o.1; ress = o.2; conns_end = later.conns; caps_end = later.caps; ress_end = later.ress }
  lies_at from (to ∷ ends) (suc place) o below = lies_at to ends place o.3 (omega arith)

abbrev section : ℕ → List Conn → List Cap → List Res → Section
section net conns caps ress = record { net = net; conns = conns; caps = caps; ress = ress }

-- what is appended behind an end changes nothing before it
between-append : {A : Type 0} (from to : ℕ) (all more : List A) → from ≤ to → to ≤ length all → between from to (all ++ more) ≡ between from to all
between-append from to all more below within =
    let first : from ≤ length all = omega arith in
    let second : to - from ≤ length (drop from all) = omega (arith, length-drop from all) in
    ap (take (to - from)) (drop-append-le from all more first) ∙ take-append-le (to - from) (drop from all) more second

same_parts : (net : ℕ) {conns conns' : List Conn} {caps caps' : List Cap} {ress ress' : List Res} → conns ≡ conns' → caps ≡ caps' → ress ≡ ress' → section net conns caps ress ≡ section net conns' caps' ress'
same_parts net {conns} {conns'} {caps} {caps'} {ress} {ress'} c g r =
    ap (λ cs. section net cs caps ress) c ∙ ap (λ gs. section net conns' gs ress) g ∙ ap (λ rs. section net conns' caps' rs) r

module _ (conns more_conns : List ConnAt) (caps more_caps : List CapAt) (ress more_ress : List ResAt) where
  section_stays : (from to : End) → Lies from to (length conns) (length caps) (length ress) → section_between from to (conns ++ more_conns) (caps ++ more_caps) (ress ++ more_ress) ≡ section_between from to conns caps ress
  section_stays from to lies =
      same_parts to.net
      (ap (map conn_of) (between-append from.conns to.conns conns more_conns lies.conns lies.conns_end))
      (ap (map cap_of) (between-append from.caps to.caps caps more_caps lies.caps lies.caps_end))
      (ap (map res_of) (between-append from.ress to.ress ress more_ress lies.ress lies.ress_end))

  sections_stay : (from : End) (ends : List End) → AreInOrder from ends (length conns) (length caps) (length ress) → sections_from from ends (conns ++ more_conns) (caps ++ more_caps) (ress ++ more_ress) ≡ sections_from from ends conns caps ress
  sections_stay from [] o = refl
  sections_stay from (to ∷ ends) o =
      let later = first_within (length conns) (length caps) (length ress) to ends o.3 in
      ap₂ (λ s ss. s ∷ ss)
      (section_stays from to (record { conns = o.0; caps = o.1; ress = o.2; conns_end = later.conns; caps_end = later.caps; ress_end = later.ress }))
      (sections_stay to ends o.3)

-- a section that ends is the one that had begun
module _ (net : ℕ) (conns : List ConnAt) (caps : List CapAt) (ress : List ResAt) where
  abbrev here : End
  here = record { net = net; conns = length conns; caps = length caps; ress = length ress }

  between-end : {A : Type 0} (from : ℕ) (all : List A) → between from (length all) all ≡ drop from all
  between-end from all = take_all (length all - from) (drop from all) (omega (arith, length-drop from all))

  sections_close : (from : End) (ends : List End) → sections_from from (ends ++ here ∷ []) conns caps ress ≡ sections_from from ends conns caps ress ++ begun_from (last_end from ends) net conns caps ress ∷ []
  sections_close from [] =
      ap (λ s. s ∷ [])
      (same_parts net (ap (map conn_of) (between-end from.conns conns)) (ap (map cap_of) (between-end from.caps caps)) (ap (map res_of) (between-end from.ress ress)))
  sections_close from (to ∷ ends) = ap (λ ss. section_between from to conns caps ress ∷ ss) (sections_close to ends)

  last_is : (from : End) (ends : List End) → last_end from (ends ++ here ∷ []) ≡ here
  last_is from [] = refl
  last_is from (to ∷ ends) = last_is to ends

-- the changes of the table
abbrev table : List Section → Section → SectionTable
table done begun = record { done = done; begun = begun }

same_table : {done done' : List Section} {begun begun' : Section} → done ≡ done' → begun ≡ begun' → table done begun ≡ table done' begun'
same_table {done} {done'} {begun} {begun'} d b = ap (λ x. table x begun) d ∙ ap (λ x. table done' x) b

module _ (ends : List End) (net : ℕ) (conns : List ConnAt) (caps : List CapAt) (ress : List ResAt) (order : AreInOrder start ends (length conns) (length caps) (length ress)) where
  abbrev last : End
  last = last_end start ends

  last_in : IsWithin last (length conns) (length caps) (length ress)
  last_in = last_within (length conns) (length caps) (length ress) start ends order

  pub pushes_conn : (conn : ConnAt) → table_of ends net (conns ++ conn ∷ []) caps ress ≡ with_conn_at (table_of ends net conns caps ress) conn
  pushes_conn conn =
      same_table
      (ap₂ (λ gs rs. sections_from start ends (conns ++ conn ∷ []) gs rs) (sym (append-nil caps)) (sym (append-nil ress)) ∙ sections_stay conns (conn ∷ []) caps [] ress [] start ends order)
      (ap (λ cs. section net cs (map cap_of (drop last.caps caps)) (map res_of (drop last.ress ress))) (ap (map conn_of) (drop-append-le last.conns conns (conn ∷ []) last_in.conns) ∙ map-append conn_of (drop last.conns conns) (conn ∷ [])))

  pub pushes_cap : (cap : CapAt) → table_of ends net conns (caps ++ cap ∷ []) ress ≡ with_cap_at (table_of ends net conns caps ress) cap
  pushes_cap cap =
      same_table
      (ap₂ (λ cs rs. sections_from start ends cs (caps ++ cap ∷ []) rs) (sym (append-nil conns)) (sym (append-nil ress)) ∙ sections_stay conns [] caps (cap ∷ []) ress [] start ends order)
      (ap (λ gs. section net (map conn_of (drop last.conns conns)) gs (map res_of (drop last.ress ress))) (ap (map cap_of) (drop-append-le last.caps caps (cap ∷ []) last_in.caps) ∙ map-append cap_of (drop last.caps caps) (cap ∷ [])))

  pub pushes_res : (res : ResAt) → table_of ends net conns caps (ress ++ res ∷ []) ≡ with_res_at (table_of ends net conns caps ress) res
  pushes_res res =
      same_table
      (ap₂ (λ cs gs. sections_from start ends cs gs (ress ++ res ∷ [])) (sym (append-nil conns)) (sym (append-nil caps)) ∙ sections_stay conns [] caps [] ress (res ∷ []) start ends order)
      (ap (λ rs. section net (map conn_of (drop last.conns conns)) (map cap_of (drop last.caps caps)) rs) (ap (map res_of) (drop-append-le last.ress ress (res ∷ []) last_in.ress) ∙ map-append res_of (drop last.ress ress) (res ∷ [])))

  pub conn_order : (conn : ConnAt) → AreInOrder start ends (length (conns ++ conn ∷ [])) (length caps) (length ress)
  conn_order conn = order_grows (length conns) (length caps) (length ress) _ _ _ start ends (omega (arith, length-append conns (conn ∷ []))) (omega arith) (omega arith) order

  pub cap_order : (cap : CapAt) → AreInOrder start ends (length conns) (length (caps ++ cap ∷ [])) (length ress)
  cap_order cap = order_grows (length conns) (length caps) (length ress) _ _ _ start ends (omega arith) (omega (arith, length-append caps (cap ∷ []))) (omega arith) order

  pub res_order : (res : ResAt) → AreInOrder start ends (length conns) (length caps) (length (ress ++ res ∷ []))
  res_order res = order_grows (length conns) (length caps) (length ress) _ _ _ start ends (omega arith) (omega arith) (omega (arith, length-append ress (res ∷ []))) order

  abbrev behind : List End
  behind = ends ++ record { net = net; conns = length conns; caps = length caps; ress = length ress } ∷ []

  pub closes : table_of behind 0 conns caps ress ≡ closed (table_of ends net conns caps ress)
  closes =
      same_table
      (sections_close net conns caps ress start ends)
      (ap (λ from. begun_from from 0 conns caps ress) (last_is net conns caps ress start ends)
      ∙ same_parts 0 (ap (map conn_of) (drop-length conns)) (ap (map cap_of) (drop-length caps)) (ap (map res_of) (drop-length ress)))

  pub close_order : AreInOrder start behind (length conns) (length caps) (length ress)
  close_order = order_closes (length conns) (length caps) (length ress) net start ends order

  -- the same, where the counts and the ends are known by equations
  module _ (c g r : ℕ) (ends' : List End) (is_c : c ≡ length conns) (is_g : g ≡ length caps) (is_r : r ≡ length ress) (are : ends' ≡ ends ++ record { net = net; conns = c; caps = g; ress = r } ∷ []) where
    are_behind : ends' ≡ behind
    are_behind = are ∙ ap (λ n. ends ++ record { net = net; conns = n; caps = g; ress = r } ∷ []) is_c ∙ ap (λ n. ends ++ record { net = net; conns = length conns; caps = n; ress = r } ∷ []) is_g ∙ ap (λ n. ends ++ record { net = net; conns = length conns; caps = length caps; ress = n } ∷ []) is_r

    pub closes_at : table_of ends' 0 conns caps ress ≡ closed (table_of ends net conns caps ress)
    closes_at = ap (λ all. table_of all 0 conns caps ress) are_behind ∙ closes

    pub close_order_at : AreInOrder start ends' (length conns) (length caps) (length ress)
    close_order_at = subst (λ (all : List End). AreInOrder start all (length conns) (length caps) (length ress)) (sym are_behind) close_order

-- how many sections there are, and each of them
pub sections_count : (from : End) (ends : List End) (conns : List ConnAt) (caps : List CapAt) (ress : List ResAt) → length (sections_from from ends conns caps ress) ≡ length ends
sections_count from [] conns caps ress = refl
sections_count from (to ∷ ends) conns caps ress = ap suc (sections_count to ends conns caps ress)

pub section_is : (from : End) (ends : List End) (conns : List ConnAt) (caps : List CapAt) (ress : List ResAt) (place : ℕ) → place < length ends → section_at (sections_from from ends conns caps ress) place ≡ section_between (slice_index_or (from ∷ ends) place start) (slice_index_or ends place start) conns caps ress
section_is from [] conns caps ress place below = absurd (omega arith)
section_is from (to ∷ ends) conns caps ress zero below = refl
section_is from (to ∷ ends) conns caps ress (suc place) below = section_is to ends conns caps ress place (omega arith)

-- the elements of a part
pub part_length : {A B : Type 0} (f : A → B) (from to : ℕ) (all : List A) → from ≤ to → to ≤ length all → length (map f (between from to all)) ≡ to - from
part_length f from to all below within = length-map (between from to all) f ∙ length-take-le (to - from) (drop from all) (omega (arith, length-drop from all))

pub part_element : {A B : Type 0} (f : A → B) (from to : ℕ) (all : List A) (place : ℕ) (d : A) → from ≤ to → to ≤ length all → place < to - from → slice_get (map f (between from to all)) place ≡ Some (f (slice_index_or all (from + place) d))
part_element f from to all place d below within here =
    let long : length (between from to all) ≡ to - from = length-take-le (to - from) (drop from all) (omega (arith, length-drop from all)) in
    slice_get-map f (between from to all) place
    ∙ ap (option_map f) (slice_get-get_or (between from to all) place d (omega arith) ∙ ap (λ x. Some x) (get_or-take (to - from) (drop from all) place d here ∙ get_or-drop from all place d))

-- a section of a table, from where it lies
module _ (ends : List End) (net : ℕ) (conns : List ConnAt) (caps : List CapAt) (ress : List ResAt) (order : AreInOrder start ends (length conns) (length caps) (length ress)) (all : SectionTable) (is : table_of ends net conns caps ress ≡ all) where
  pub count_is : length all.done ≡ length ends
  count_is = ap (λ t. length t.done) (sym is) ∙ sections_count start ends conns caps ress

  module _ (place : ℕ) (below : place < length all.done) where
    abbrev pub from : End
    from = slice_index_or (start ∷ ends) place start

    abbrev pub to : End
    to = slice_index_or ends place start

    pub in_ends : place < length ends
    in_ends = let e = count_is in omega arith

    pub it_lies : Lies from to (length conns) (length caps) (length ress)
    it_lies = lies_at (length conns) (length caps) (length ress) start ends place order in_ends

    pub it_is : section_at all.done place ≡ section_between from to conns caps ress
    it_is = ap (λ t. section_at t.done place) (sym is) ∙ section_is start ends conns caps ress place in_ends

    pub net_is : (section_at all.done place).net ≡ to.net
    net_is = ap (λ s. s.net) it_is

    pub conns_are : length (section_at all.done place).conns ≡ to.conns - from.conns
    conns_are = ap (λ s. length s.conns) it_is ∙ part_length conn_of from.conns to.conns conns it_lies.conns it_lies.conns_end

    pub caps_are : length (section_at all.done place).caps ≡ to.caps - from.caps
    caps_are = ap (λ s. length s.caps) it_is ∙ part_length cap_of from.caps to.caps caps it_lies.caps it_lies.caps_end

    pub ress_are : length (section_at all.done place).ress ≡ to.ress - from.ress
    ress_are = ap (λ s. length s.ress) it_is ∙ part_length res_of from.ress to.ress ress it_lies.ress it_lies.ress_end

    pub conn_in : (i : ℕ) → i < length (section_at all.done place).conns → from.conns + i < length conns
    conn_in i h = let e = conns_are in let l = it_lies in omega arith

    pub cap_in : (i : ℕ) → i < length (section_at all.done place).caps → from.caps + i < length caps
    cap_in i h = let e = caps_are in let l = it_lies in omega arith

    pub res_in : (i : ℕ) → i < length (section_at all.done place).ress → from.ress + i < length ress
    res_in i h = let e = ress_are in let l = it_lies in omega arith

    pub conn_is : (i : ℕ) (d : ConnAt) → i < length (section_at all.done place).conns → slice_get (section_at all.done place).conns i ≡ Some (conn_of (slice_index_or conns (from.conns + i) d))
    conn_is i d h = ap (λ s. slice_get s.conns i) it_is ∙ part_element conn_of from.conns to.conns conns i d it_lies.conns it_lies.conns_end (let e = conns_are in omega arith)

    pub cap_is : (i : ℕ) (d : CapAt) → i < length (section_at all.done place).caps → slice_get (section_at all.done place).caps i ≡ Some (cap_of (slice_index_or caps (from.caps + i) d))
    cap_is i d h = ap (λ s. slice_get s.caps i) it_is ∙ part_element cap_of from.caps to.caps caps i d it_lies.caps it_lies.caps_end (let e = caps_are in omega arith)

    pub res_is : (i : ℕ) (d : ResAt) → i < length (section_at all.done place).ress → slice_get (section_at all.done place).ress i ≡ Some (res_of (slice_index_or ress (from.ress + i) d))
    res_is i d h = ap (λ s. slice_get s.ress i) it_is ∙ part_element res_of from.ress to.ress ress i d it_lies.ress it_lies.ress_end (let e = ress_are in omega arith)

    -- the same, where the ends are known by equations
    module _ (ends' : List End) (same : ends' ≡ ends) (f : End) (is_f : f ≡ slice_index_or (start ∷ ends') place start) where
      f_is : f ≡ from
      f_is = is_f ∙ ap (λ all. slice_index_or (start ∷ all) place start) same

      pub conn_skip : (whole : List ConnAt) → whole ≡ conns → f.conns ≤ length whole
      conn_skip whole e = let l = it_lies in let k = ap (λ x. x.conns) f_is in rw e (omega arith)

      pub conn_here : (whole rest : List ConnAt) (i : ℕ) → whole ≡ conns → rest ≡ drop f.conns whole → i < length (section_at all.done place).conns → i < length rest
      conn_here whole rest i e r h = let l = conn_in i h in let k = ap (λ x. x.conns) f_is in rw (r, e) (omega (arith, length-drop f.conns conns))

      pub cap_skip : (whole : List CapAt) → whole ≡ caps → f.caps ≤ length whole
      cap_skip whole e = let l = it_lies in let k = ap (λ x. x.caps) f_is in rw e (omega arith)

      pub cap_here : (whole rest : List CapAt) (i : ℕ) → whole ≡ caps → rest ≡ drop f.caps whole → i < length (section_at all.done place).caps → i < length rest
      cap_here whole rest i e r h = let l = cap_in i h in let k = ap (λ x. x.caps) f_is in rw (r, e) (omega (arith, length-drop f.caps caps))

      pub res_skip : (whole : List ResAt) → whole ≡ ress → f.ress ≤ length whole
      res_skip whole e = let l = it_lies in let k = ap (λ x. x.ress) f_is in rw e (omega arith)

      pub res_here : (whole rest : List ResAt) (i : ℕ) → whole ≡ ress → rest ≡ drop f.ress whole → i < length (section_at all.done place).ress → i < length rest
      res_here whole rest i e r h = let l = res_in i h in let k = ap (λ x. x.ress) f_is in rw (r, e) (omega (arith, length-drop f.ress ress))

      pub conn_read : (whole rest : List ConnAt) (i : ℕ) (told : Conn) → whole ≡ conns → rest ≡ drop f.conns whole → i < length (section_at all.done place).conns → slice_get (map conn_of rest) i ≡ Some told → slice_get (section_at all.done place).conns i ≡ Some told
      conn_read whole rest i told w r h e =
          let d : ConnAt = record { port = false; node = 0; direction = 0; load = None } in
          let at : slice_index_or rest i d ≡ slice_index_or conns (from.conns + i) d = ap (λ y. slice_index_or y i d) (r ∙ ap (drop f.conns) w) ∙ get_or-drop f.conns conns i d ∙ ap (λ y. slice_index_or conns (y.conns + i) d) f_is in
          let got : slice_get (map conn_of rest) i ≡ Some (conn_of (slice_index_or conns (from.conns + i) d)) = slice_get-map conn_of rest i ∙ ap (option_map conn_of) (slice_get-get_or rest i d (conn_here whole rest i w r h)) ∙ ap (λ y. Some (conn_of y)) at in
          conn_is i d h ∙ sym got ∙ e

      pub cap_read : (whole rest : List CapAt) (i : ℕ) (told : Cap) → whole ≡ caps → rest ≡ drop f.caps whole → i < length (section_at all.done place).caps → slice_get (map cap_of rest) i ≡ Some told → slice_get (section_at all.done place).caps i ≡ Some told
      cap_read whole rest i told w r h e =
          let d : CapAt = record { first = 0; second = None; value = 0 } in
          let at : slice_index_or rest i d ≡ slice_index_or caps (from.caps + i) d = ap (λ y. slice_index_or y i d) (r ∙ ap (drop f.caps) w) ∙ get_or-drop f.caps caps i d ∙ ap (λ y. slice_index_or caps (y.caps + i) d) f_is in
          let got : slice_get (map cap_of rest) i ≡ Some (cap_of (slice_index_or caps (from.caps + i) d)) = slice_get-map cap_of rest i ∙ ap (option_map cap_of) (slice_get-get_or rest i d (cap_here whole rest i w r h)) ∙ ap (λ y. Some (cap_of y)) at in
          cap_is i d h ∙ sym got ∙ e

      pub res_read : (whole rest : List ResAt) (i : ℕ) (told : Res) → whole ≡ ress → rest ≡ drop f.ress whole → i < length (section_at all.done place).ress → slice_get (map res_of rest) i ≡ Some told → slice_get (section_at all.done place).ress i ≡ Some told
      res_read whole rest i told w r h e =
          let d : ResAt = record { first = 0; second = 0; value = 0 } in
          let at : slice_index_or rest i d ≡ slice_index_or ress (from.ress + i) d = ap (λ y. slice_index_or y i d) (r ∙ ap (drop f.ress) w) ∙ get_or-drop f.ress ress i d ∙ ap (λ y. slice_index_or ress (y.ress + i) d) f_is in
          let got : slice_get (map res_of rest) i ≡ Some (res_of (slice_index_or ress (from.ress + i) d)) = slice_get-map res_of rest i ∙ ap (option_map res_of) (slice_get-get_or rest i d (res_here whole rest i w r h)) ∙ ap (λ y. Some (res_of y)) at in
          res_is i d h ∙ sym got ∙ e

      module _ (t : End) (is_t : t ≡ slice_index_or ends place t) where
        t_is : t ≡ to
        t_is = sym (get_or_from_slice_get ends place t start (slice_get_read ends (length ends) place t refl in_ends is_t))

        pub lies_here : Lies f t (length conns) (length caps) (length ress)
        lies_here = rw (f_is, t_is) it_lies

        pub conns_here : t.conns - f.conns ≡ length (section_at all.done place).conns
        conns_here = ap₂ (λ x y. x.conns - y.conns) t_is f_is ∙ sym conns_are

        pub caps_here : t.caps - f.caps ≡ length (section_at all.done place).caps
        caps_here = ap₂ (λ x y. x.caps - y.caps) t_is f_is ∙ sym caps_are

        pub ress_here : t.ress - f.ress ≡ length (section_at all.done place).ress
        ress_here = ap₂ (λ x y. x.ress - y.ress) t_is f_is ∙ sym ress_are

    pub net_here : (t : End) → t ≡ slice_index_or ends place t → t.net ≡ (section_at all.done place).net
    net_here t is_t = ap (λ x. x.net) (sym (get_or_from_slice_get ends place t start (slice_get_read ends (length ends) place t refl in_ends is_t))) ∙ sym net_is

    pub in_vec : (n : ℕ) → n ≡ length ends → place < n
    in_vec n e = let h = in_ends in omega arith
