-- The points of a section, one after another.
use Rattle.std.proofs.Common.{◌≡◌, ℕ, suc, ◌+◌, List, [], ◌∷◌, ◌++◌, length, take, drop, sym, ap, ◌∙◌, subst, arith, append_assoc, append-nil}
use Rattle.std.specs.Prelude.{Some, slice_get, All}
use Rattle.std.specs.List.{flat_map}
use Rattle.std.proofs.lemmas.Grind.{flat_map-append}
use Rattle.std.proofs.lemmas.List.{take-append-le}
use Rattle.std.proofs.lemmas.List.Elements.{All-push}
use Rattle.std.proofs.Math.Seq.{take-length}
use Rattle.spef_text.specs.Entries.{Section}
use Rattle.spef_text.specs.SpefFiles.{SpefText}
use Rattle.spef_text.specs.Heads.{HeadText}
use Rattle.spef_text.specs.declared.entries.Conn.{Conn}
use Rattle.spef_text.specs.declared.entries.Cap.{Cap}
use Rattle.spef_text.specs.declared.entries.Res.{Res}
use Rattle.spef_nets.specs.Faults.{Point, reference, naming, IsFaultAt, IsGood, IsFirstFault, load_points, conn_points, cap_points, res_points, points_of}
use Rattle.spef_nets.specs.Drafts.{points_upto}
use Rattle.spef_nets.specs.declared.ends.SectionEnd.{SectionEnd}
use Rattle.spef_nets.proofs.Lists.{get_right, parts_at, take_push}

take_front : {X : Type 0} (xs ys : List X) → take (length xs) (xs ++ ys) ≡ xs
take_front xs ys = take-append-le (length xs) xs ys (omega arith) ∙ take-length xs

-- points of which these are good, and then these follow
pub record Upto (file : SpefText) (head : HeadText) (place : ℕ) (section : Section) (done after : List Point) : Type 0 where
  pub split : points_of file head section ≡ done ++ after
  pub good : All (IsGood file place section) done

module _ (file : SpefText) (head : HeadText) (place : ℕ) (section : Section) where
  -- one more is good
  pub step : (done after : List Point) (point : Point) → Upto file head place section done (point ∷ after) → IsGood file place section point → Upto file head place section (done ++ point ∷ []) after
  step done after point upto good = record {
    split = upto.split ∙ sym (append_assoc done (point ∷ []) after);
    good = All-push (IsGood file place section) done point upto.good good;
  }

  -- the first that is not
  pub stop : (done after : List Point) (point : Point) (end : SectionEnd) → Upto file head place section done (point ∷ after) → IsFaultAt file place section point end
      → IsFirstFault file place section (points_of file head section) end
  stop done after point end upto fault = record {
    at = length done;
    point = point;
    stands = ap (λ l. slice_get l (length done)) upto.split ∙ (let e : length done ≡ length done + 0 = omega arith in ap (slice_get (done ++ point ∷ after)) e) ∙ get_right done (point ∷ after) 0;
    fault = fault;
    earlier = subst (λ (l : List Point). All (IsGood file place section) l) (sym (ap (take (length done)) upto.split ∙ take_front done (point ∷ after))) upto.good;
  }

  conn_points_append : (before front back : List Conn) → conn_points file head before (front ++ back) ≡ conn_points file head before front ++ conn_points file head (before ++ front) back
  conn_points_append before [] back = ap (λ l. conn_points file head l back) (sym (append-nil before))
  conn_points_append before (conn ∷ front) back =
      ap (λ l. reference conn.node ∷ (load_points file head before conn ++ l)) (conn_points_append (before ++ conn ∷ []) front back)
      ∙ ap (λ l. reference conn.node ∷ l) (sym (append_assoc (load_points file head before conn) (conn_points file head (before ++ conn ∷ []) front) (conn_points file head ((before ++ conn ∷ []) ++ front) back)))
      ∙ ap (λ l. (reference conn.node ∷ (load_points file head before conn ++ conn_points file head (before ++ conn ∷ []) front)) ++ conn_points file head l back) (append_assoc before (conn ∷ []) front)

  module _ (i : ℕ) (conn : Conn) (at : slice_get section.conns i ≡ Some conn) where
    abbrev pub own : List Point
    own = reference conn.node ∷ load_points file head (take i section.conns) conn

    abbrev pub behind_conn : List Point
    behind_conn = (conn_points file head (take i section.conns ++ conn ∷ []) (drop (suc i) section.conns) ++ flat_map (cap_points head) section.caps) ++ flat_map (res_points head) section.ress

    abbrev front : List Point
    front = conn_points file head [] (take i section.conns)

    conn_front : conn_points file head [] (take (suc i) section.conns) ≡ front ++ own
    conn_front =
        ap (conn_points file head []) (take_push section.conns i conn at) ∙ conn_points_append [] (take i section.conns) (conn ∷ [])
        ∙ ap (λ l. front ++ (reference conn.node ∷ l)) (append-nil (load_points file head (take i section.conns) conn))

    conn_whole : conn_points file head [] section.conns ≡ front ++ (own ++ conn_points file head (take i section.conns ++ conn ∷ []) (drop (suc i) section.conns))
    conn_whole = ap (conn_points file head []) (parts_at section.conns i conn at) ∙ conn_points_append [] (take i section.conns) (conn ∷ drop (suc i) section.conns)

    pub conn_split : points_of file head section ≡ points_upto file head section i 0 0 ++ (own ++ behind_conn)
    conn_split =
        ap (λ l. reference section.net ∷ naming section.net ∷ ((l ++ flat_map (cap_points head) section.caps) ++ flat_map (res_points head) section.ress)) conn_whole
        ∙ simp (append_assoc, append-nil)

    pub conn_more : points_upto file head section (suc i) 0 0 ≡ points_upto file head section i 0 0 ++ own
    conn_more = ap (λ l. reference section.net ∷ naming section.net ∷ ((l ++ []) ++ [])) conn_front ∙ simp (append_assoc, append-nil)

  module _ (i : ℕ) (cap : Cap) (at : slice_get section.caps i ≡ Some cap) where
    abbrev pub behind_cap : List Point
    behind_cap = flat_map (cap_points head) (drop (suc i) section.caps) ++ flat_map (res_points head) section.ress

    caps_front : flat_map (cap_points head) (take (suc i) section.caps) ≡ flat_map (cap_points head) (take i section.caps) ++ cap_points head cap
    caps_front = ap (flat_map (cap_points head)) (take_push section.caps i cap at) ∙ flat_map-append (cap_points head) (take i section.caps) (cap ∷ []) ∙ ap (λ l. flat_map (cap_points head) (take i section.caps) ++ l) (append-nil (cap_points head cap))

    caps_whole : flat_map (cap_points head) section.caps ≡ flat_map (cap_points head) (take i section.caps) ++ (cap_points head cap ++ flat_map (cap_points head) (drop (suc i) section.caps))
    caps_whole = ap (flat_map (cap_points head)) (parts_at section.caps i cap at) ∙ flat_map-append (cap_points head) (take i section.caps) (cap ∷ drop (suc i) section.caps)

    pub cap_split : points_of file head section ≡ points_upto file head section (length section.conns) i 0 ++ (cap_points head cap ++ behind_cap)
    cap_split =
        ap (λ l. reference section.net ∷ naming section.net ∷ ((conn_points file head [] section.conns ++ l) ++ flat_map (res_points head) section.ress)) caps_whole
        ∙ ap (λ l. reference section.net ∷ naming section.net ∷ ((conn_points file head [] l ++ (flat_map (cap_points head) (take i section.caps) ++ (cap_points head cap ++ flat_map (cap_points head) (drop (suc i) section.caps)))) ++ flat_map (res_points head) section.ress)) (sym (take-length section.conns))
        ∙ simp (append_assoc, append-nil)

    pub cap_more : points_upto file head section (length section.conns) (suc i) 0 ≡ points_upto file head section (length section.conns) i 0 ++ cap_points head cap
    cap_more = ap (λ l. reference section.net ∷ naming section.net ∷ ((conn_points file head [] (take (length section.conns) section.conns) ++ l) ++ [])) caps_front ∙ simp (append_assoc, append-nil)

  module _ (i : ℕ) (res : Res) (at : slice_get section.ress i ≡ Some res) where
    abbrev pub behind_res : List Point
    behind_res = flat_map (res_points head) (drop (suc i) section.ress)

    ress_front : flat_map (res_points head) (take (suc i) section.ress) ≡ flat_map (res_points head) (take i section.ress) ++ res_points head res
    ress_front = ap (flat_map (res_points head)) (take_push section.ress i res at) ∙ flat_map-append (res_points head) (take i section.ress) (res ∷ []) ∙ ap (λ l. flat_map (res_points head) (take i section.ress) ++ l) (append-nil (res_points head res))

    ress_whole : flat_map (res_points head) section.ress ≡ flat_map (res_points head) (take i section.ress) ++ (res_points head res ++ flat_map (res_points head) (drop (suc i) section.ress))
    ress_whole = ap (flat_map (res_points head)) (parts_at section.ress i res at) ∙ flat_map-append (res_points head) (take i section.ress) (res ∷ drop (suc i) section.ress)

    pub res_split : points_of file head section ≡ points_upto file head section (length section.conns) (length section.caps) i ++ (res_points head res ++ behind_res)
    res_split =
        ap (λ l. reference section.net ∷ naming section.net ∷ ((conn_points file head [] section.conns ++ flat_map (cap_points head) section.caps) ++ l)) ress_whole
        ∙ (λ j. reference section.net ∷ naming section.net ∷ ((conn_points file head [] (sym (take-length section.conns) j) ++ flat_map (cap_points head) (sym (take-length section.caps) j)) ++ (flat_map (res_points head) (take i section.ress) ++ (res_points head res ++ behind_res))))
        ∙ simp append_assoc

    pub res_more : points_upto file head section (length section.conns) (length section.caps) (suc i) ≡ points_upto file head section (length section.conns) (length section.caps) i ++ res_points head res
    res_more = ap (λ l. reference section.net ∷ naming section.net ∷ ((conn_points file head [] (take (length section.conns) section.conns) ++ flat_map (cap_points head) (take (length section.caps) section.caps)) ++ l)) ress_front ∙ simp append_assoc

  -- all points
  pub points_all : points_upto file head section (length section.conns) (length section.caps) (length section.ress) ≡ points_of file head section
  points_all = λ j. reference section.net ∷ naming section.net ∷ ((conn_points file head [] (take-length section.conns j) ++ flat_map (cap_points head) (take-length section.caps j)) ++ flat_map (res_points head) (take-length section.ress j))
