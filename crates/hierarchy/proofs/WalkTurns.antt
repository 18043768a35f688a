-- The turns of a walk.
use Rattle.std.proofs.Common.{◌≡◌, ℕ, suc, ◌+◌, ◌-◌, ◌<◌, ◌≤◌, ⊎_elim, List, [], ◌∷◌, ◌++◌, length, get_or, take, drop, All, Some, None, refl, sym, ap, ◌∙◌, subst, arith, append_assoc, true, false, if◌then◌else◌}
use Rattle.std.specs.List.{filter_map, slice_get}
use Rattle.std.proofs.lemmas.List.{append-nil, length_push, drop_more, take_all}
use Rattle.std.proofs.lemmas.List.Elements.{All-push, All-pop, All-weaker}
use Rattle.std.proofs.lemmas.Bool.{cases_lt, lt-ltb, le-ltb}
use Rattle.verilog_netlist.specs.NetModules.{NetModule}
use Rattle.hierarchy.specs.Hierarchy.{lower_of, is_hierarchy, instance_count, module_on, IsPath, HasLower}
use Rattle.hierarchy.specs.Walks.{Met, joined_from, most_depth, walk, met_at, whole_walk, entered, is_module, visits}
use Rattle.hierarchy.specs.Uses.{IsTooDeep}
use Rattle.hierarchy.specs.WalkTables.{path_at, no_met, IsVisit, IsMet, AreTablesOfWalk}
use Rattle.hierarchy.specs.WalkProgress.{walk_at, rest_of, held, next_met, IsFrame, visited_by, IsGoing}
use Rattle.hierarchy.specs.declared.walking.Visit.{Visit}
use Rattle.hierarchy.specs.declared.walking.MetInstance.{MetInstance}
use Rattle.hierarchy.specs.declared.walking.Frame.{Frame}
use Rattle.hierarchy.proofs.Turning.{slice_get_pushed, IsNext, next_from_rest, nothing_given, given_pushed, given_within, given_place}

-- the frame behind this instance
abbrev pub after : Frame → Frame
after frame = record { visit = frame.visit; «module» = frame.module; next = frame.next + 1 }

module _ (modules : List NetModule) (top : ℕ) where
  pub held-push : (frames : List Frame) (frame : Frame)
      → held modules top (frames ++ frame ∷ []) ≡ rest_of modules top frame ++ held modules top frames
  held-push [] frame = sym (append-nil (rest_of modules top frame))
  held-push (outer ∷ inner) frame =
      ap (λ xs. xs ++ rest_of modules top outer) (held-push inner frame)
      ∙ append_assoc (rest_of modules top frame) (held modules top inner) (rest_of modules top outer)

  -- a module of which no instance is left
  pub rest-none : (frame : Frame) → instance_count modules frame.module ≤ frame.next → rest_of modules top frame ≡ []
  unfolding rest_of
  rest-none frame le =
      let none : instance_count modules frame.module - frame.next ≡ 0 = omega arith in
      ap (λ n. joined_from (met_at modules (walk modules (most_depth - suc (length (path_at modules top frame.visit))))
      (path_at modules top frame.visit) frame.module) frame.next n) none

  -- what is met below the next instance
  abbrev pub below_next : Frame → List Met
  below_next frame = if is_hierarchy modules frame.module frame.next
      then walk_at modules top (frame.next ∷ path_at modules top frame.visit) (lower_of modules frame.module frame.next) else []

  pub rest-next : (frame : Frame) → frame.next < instance_count modules frame.module
      → rest_of modules top frame ≡ next_met modules top frame ∷ (below_next frame ++ rest_of modules top (after frame))
  unfolding rest_of
  rest-next frame lt =
      let path = path_at modules top frame.visit in
      let items = met_at modules (walk modules (most_depth - suc (length path))) path frame.module in
      let n = instance_count modules frame.module - (frame.next + 1) in
      let some : instance_count modules frame.module - frame.next ≡ suc n = omega arith in
      let next : suc frame.next ≡ frame.next + 1 = omega arith in
      ap (joined_from items frame.next) some
      ∙ ap (λ k. items frame.next ++ joined_from items k n) next

  -- a module of which all instances are left
  pub rest-start : (frame : Frame) (path : List ℕ) → path_at modules top frame.visit ≡ path → frame.next ≡ 0 → length path < most_depth
      → rest_of modules top frame ≡ walk_at modules top path frame.module
  unfolding rest_of walk
  rest-start frame path is start few =
      let m = frame.module in
      let items = λ (p : List ℕ). met_at modules (walk modules (most_depth - suc (length p))) p m in
      let left : instance_count modules m - frame.next ≡ instance_count modules m = omega arith in
      let levels : suc (most_depth - suc (length path)) ≡ most_depth - length path = omega arith in
      ap (λ p. joined_from (items p) frame.next (instance_count modules m - frame.next)) is
      ∙ ap (joined_from (items path) frame.next) left
      ∙ ap (λ k. joined_from (items path) k (instance_count modules m)) start
      ∙ ap (λ l. walk modules l path m) levels

  -- the walk enters the top
  pub begins : top < length modules → IsGoing modules top (record { parent = 0; instance = 0; «module» = top } ∷ []) []
      (record { visit = 0; «module» = top; next = 0 } ∷ [])
  begins within =
      let visit : Visit = record { parent = 0; instance = 0; «module» = top } in
      let frame : Frame = record { visit = 0; «module» = top; next = 0 } in
      let stands : IsFrame modules top 1 frame = record { visit = omega arith; path = tt; here = refl; within = within } in
      let entered_top : IsVisit modules top 0 visit = record { here = refl; around = λ some. absurd (omega arith) } in
      record {
        standing = All-push (IsFrame modules top 1) [] frame (λ k d none. absurd (omega arith)) stands;
        count = refl;
        within = omega arith;
        rest = sym (rest-start frame [] refl refl (omega arith));
        each_visit = λ v kept at. ⊎_elim (λ e. absurd (cc e))
            (λ new. subst (λ k. IsVisit modules top v k) new.1 (subst (λ j. IsVisit modules top j visit) (sym new.0) entered_top))
            (slice_get_pushed [] visit kept v at);
        each_met = λ i kept at. absurd (cc at);
      }

  last_frame : (n : ℕ) (frames : List Frame) (frame : Frame) → All (IsFrame modules top n) (frames ++ frame ∷ [])
      → All (IsFrame modules top n) frames × IsFrame modules top n frame
  last_frame n frames frame standing =
      All-pop (IsFrame modules top n) (frames ++ frame ∷ []) frames (Some frame) refl standing

  pub frame_within : (vs : List Visit) (met : List MetInstance) (frames popped : List Frame) (frame : Frame)
      → IsGoing modules top vs met frames → frames ≡ popped ++ frame ∷ [] → frame.module < length modules
  frame_within vs met frames popped frame going pop =
      (last_frame (length vs) popped frame (subst (IsGoing modules top vs met) pop going).standing).1.within

  -- no instance is left in the module
  pub leaves : (vs : List Visit) (met : List MetInstance) (frames : List Frame) (frame : Frame)
      → IsGoing modules top vs met (frames ++ frame ∷ []) → instance_count modules frame.module ≤ frame.next
      → IsGoing modules top vs met frames
  leaves vs met frames frame going none = record {
    standing = (last_frame (length vs) frames frame going.standing).0;
    count = going.count;
    within = going.within;
    rest = going.rest ∙ held-push frames frame ∙ ap (λ xs. xs ++ held modules top frames) (rest-none frame none);
    each_visit = going.each_visit;
    each_met = going.each_met;
  }

  -- the next instance of the innermost module is the next of the whole walk
  pub turn : (vs : List Visit) (met : List MetInstance) (frames : List Frame) (frame : Frame)
      → IsGoing modules top vs met (frames ++ frame ∷ []) → frame.next < instance_count modules frame.module
      → IsNext (whole_walk modules top) (length met) (next_met modules top frame)
      ((below_next frame ++ rest_of modules top (after frame)) ++ held modules top frames)
  turn vs met frames frame going lt = next_from_rest _ _ _ _
      (going.rest ∙ held-push frames frame ∙ ap (λ xs. xs ++ held modules top frames) (rest-next frame lt))

  more_visited : (n m : ℕ) → n ≤ m → (frame : Frame) → IsFrame modules top n frame → IsFrame modules top m frame
  more_visited n m le frame h = record { visit = omega (arith, h.visit); path = h.path; here = h.here; within = h.within }

  behind : (n : ℕ) (frame : Frame) → IsFrame modules top n frame → IsFrame modules top n (after frame)
  behind n frame h = record { visit = h.visit; path = h.path; here = h.here; within = h.within }

  -- what is kept of the instance that is met now
  met_now : (met : List MetInstance) (kept : MetInstance) (item : Met) (rest : List Met)
      → IsNext (whole_walk modules top) (length met) item rest → IsMet modules top item kept
      → ((i : ℕ) (old : MetInstance) → slice_get met i ≡ Some old → IsMet modules top (get_or (whole_walk modules top) i no_met) old)
      → (i : ℕ) (some : MetInstance) → slice_get (met ++ kept ∷ []) i ≡ Some some
      → IsMet modules top (get_or (whole_walk modules top) i no_met) some
  met_now met kept item rest next is each i some at = ⊎_elim (each i some)
      (λ new. subst (λ m. IsMet modules top m some)
      (sym (ap (λ j. get_or (whole_walk modules top) j no_met) new.0 ∙ next.here no_met))
      (subst (λ k. IsMet modules top item k) new.1 is))
      (slice_get_pushed met kept some i at)

  -- an instance of a cell is met
  pub meets_cell : (vs : List Visit) (met : List MetInstance) (frames : List Frame) (frame : Frame)
      → IsGoing modules top vs met (frames ++ frame ∷ []) → frame.next < instance_count modules frame.module
      → length modules ≤ lower_of modules frame.module frame.next
      → IsGoing modules top vs (met ++ record { visit = frame.visit; instance = frame.next; lower = None } ∷ []) (frames ++ after frame ∷ [])
  meets_cell vs met frames frame going lt le =
      let kept : MetInstance = record { visit = frame.visit; instance = frame.next; lower = None } in
      let all = whole_walk modules top in
      let give = entered modules top in
      let stands = last_frame (length vs) frames frame going.standing in
      let next = turn vs met frames frame going lt in
      let path = path_at modules top frame.visit in
      let lower = lower_of modules frame.module frame.next in
      let here : is_hierarchy modules frame.module frame.next ≡ false = le-ltb lower (length modules) le in
      let cell : is_module modules top (next_met modules top frame) ≡ false =
      ap (λ m. is_hierarchy modules m frame.next) (sym stands.1.here) ∙ here in
      let none : give (next_met modules top frame) ≡ None = ap (λ b. if b then Some (frame.next ∷ path) else None) cell in
      let below : below_next frame ≡ [] = ap (λ b. if b then walk_at modules top (frame.next ∷ path) lower else []) here in
      let same = nothing_given give all (length met) _ _ next none in
      let len = length_push met kept in
      let few = given_within give all (length met) in
      let stays : IsMet modules top (next_met modules top frame) kept =
      record { visit = omega (arith, stands.1.visit, going.count, few); path = refl; instance = refl; lower = cell } in
      record {
        standing = All-push (IsFrame modules top (length vs)) frames (after frame) stands.0 (behind (length vs) frame stands.1);
        count = going.count ∙ sym (ap (visited_by modules top) len ∙ ap suc same);
        within = omega (arith, len, next.within);
        rest = ap (λ n. drop n all) len ∙ next.left
            ∙ ap (λ xs. (xs ++ rest_of modules top (after frame)) ++ held modules top frames) below
            ∙ sym (held-push frames (after frame));
        each_visit = going.each_visit;
        each_met = met_now met kept _ _ next stays going.each_met;
      }

  -- modules do not stand in each other too deep
  shallow_path : ¬ IsTooDeep modules top → (path : List ℕ) → IsPath modules top path → length path < most_depth
  shallow_path shallow path is = ⊎_elim (λ lt. lt) (λ le. absurd (shallow (record { path = path; is_path = is; deep = le })))
      (cases_lt (length path) most_depth)

  -- an instance of a module is met, and the walk enters the module
  pub meets_module : (vs : List Visit) (met : List MetInstance) (frames : List Frame) (frame : Frame) (lower : ℕ)
      → ¬ IsTooDeep modules top
      → IsGoing modules top vs met (frames ++ frame ∷ []) → frame.next < instance_count modules frame.module
      → lower ≡ lower_of modules frame.module frame.next → lower < length modules
      → IsGoing modules top (vs ++ record { parent = frame.visit; instance = frame.next; «module» = lower } ∷ [])
      (met ++ record { visit = frame.visit; instance = frame.next; lower = Some (length vs) } ∷ [])
      ((frames ++ after frame ∷ []) ++ record { visit = length vs; «module» = lower; next = 0 } ∷ [])
  meets_module vs met frames frame lower shallow going lt is_lower within =
      let visit : Visit = record { parent = frame.visit; instance = frame.next; «module» = lower } in
      let kept : MetInstance = record { visit = frame.visit; instance = frame.next; lower = Some (length vs) } in
      let inner : Frame = record { visit = length vs; «module» = lower; next = 0 } in
      let all = whole_walk modules top in
      let give = entered modules top in
      let n = length met in
      let stands = last_frame (length vs) frames frame going.standing in
      let next = turn vs met frames frame going lt in
      let path = path_at modules top frame.visit in
      let into = frame.next ∷ path in
      let small : lower_of modules frame.module frame.next < length modules = omega arith in
      let here : is_hierarchy modules frame.module frame.next ≡ true = lt-ltb (lower_of modules frame.module frame.next) (length modules) small in
      let yes : is_module modules top (next_met modules top frame) ≡ true =
      ap (λ m. is_hierarchy modules m frame.next) (sym stands.1.here) ∙ here in
      let some : give (next_met modules top frame) ≡ Some into = ap (λ b. if b then Some into else None) yes in
      let place : path_at modules top (length vs) ≡ into =
      ap (λ v. get_or (visits modules top) v []) going.count ∙ given_place give all n _ _ into [] next some in
      let has : HasLower modules top (module_on modules top path) frame.next =
      subst (λ m. HasLower modules top m frame.next) stands.1.here (lt, small) in
      let is_path : IsPath modules top into = (stands.1.path, has) in
      let few : length into < most_depth = shallow_path shallow into is_path in
      let standing_on : lower ≡ module_on modules top (path_at modules top (length vs)) =
      is_lower ∙ ap (λ m. lower_of modules m frame.next) stands.1.here ∙ sym (ap (module_on modules top) place) in
      let below : below_next frame ≡ rest_of modules top inner =
      ap (λ b. if b then walk_at modules top into (lower_of modules frame.module frame.next) else []) here
      ∙ ap (walk_at modules top into) (sym is_lower) ∙ sym (rest-start inner into place refl few) in
      let given = given_pushed give all n _ _ into next some in
      let one_more : length (filter_map give (take (n + 1) all)) ≡ length (filter_map give (take n all)) + 1 =
      ap length given ∙ length_push (filter_map give (take n all)) into in
      let len = length_push met kept in
      let vs_len = length_push vs visit in
      let before = given_within give all n in
      let now = given_within give all (n + 1) in
      let counted = going.count in
      let longer : length vs ≤ length (vs ++ visit ∷ []) = omega arith in
      let inner_stands : IsFrame modules top (length (vs ++ visit ∷ [])) inner = record {
        visit = omega arith;
        path = subst (IsPath modules top) (sym place) is_path;
        here = standing_on;
        within = within;
      } in
      let is_visit : IsVisit modules top (length vs) visit = record { here = standing_on; around = λ _. (stands.1.visit, place) } in
      let is_met : IsMet modules top (next_met modules top frame) kept = record {
        visit = omega (arith, stands.1.visit);
        path = refl;
        instance = refl;
        lower = (omega arith, place, yes);
      } in
      let others = All-weaker (IsFrame modules top (length vs)) (IsFrame modules top (length (vs ++ visit ∷ [])))
      (more_visited (length vs) (length (vs ++ visit ∷ [])) longer) in
      let Stands = IsFrame modules top (length (vs ++ visit ∷ [])) in
      record {
        standing = All-push Stands (frames ++ after frame ∷ []) inner
            (All-push Stands frames (after frame) (others frames stands.0)
            (more_visited (length vs) (length (vs ++ visit ∷ [])) longer (after frame) (behind (length vs) frame stands.1))) inner_stands;
        count = let e : length (vs ++ visit ∷ []) ≡ suc (length (filter_map give (take (n + 1) all))) = omega arith in
            e ∙ sym (ap (visited_by modules top) len);
        within = omega (arith, len, next.within);
        rest = ap (λ n. drop n all) len ∙ next.left
            ∙ ap (λ xs. (xs ++ rest_of modules top (after frame)) ++ held modules top frames) below
            ∙ append_assoc (rest_of modules top inner) (rest_of modules top (after frame)) (held modules top frames)
            ∙ ap (λ xs. rest_of modules top inner ++ xs) (sym (held-push frames (after frame)))
            ∙ sym (held-push (frames ++ after frame ∷ []) inner);
        each_visit = λ v old at. ⊎_elim (going.each_visit v old)
            (λ new. subst (λ k. IsVisit modules top v k) new.1 (subst (λ j. IsVisit modules top j visit) (sym new.0) is_visit))
            (slice_get_pushed vs visit old v at);
        each_met = met_now met kept _ _ next is_met going.each_met;
      }

  -- nothing is left
  pub ends : (vs : List Visit) (met : List MetInstance) → IsGoing modules top vs met []
      → AreTablesOfWalk modules top (record { visits = vs; met = met })
  ends vs met going =
      let all = whole_walk modules top in
      let n = length met in
      let past : length all ≤ n = ⊎_elim
      (λ lt. let e = drop_more all n no_met lt in let rest = going.rest in absurd cc) (λ le. le) (cases_lt n (length all)) in
      let whole = take_all n all past in
      record {
        visits_count = going.count ∙ ap (λ xs. suc (length (filter_map (entered modules top) xs))) whole;
        met_count = omega (arith, going.within);
        each_visit = going.each_visit;
        each_met = going.each_met;
      }

  -- as the code leaves them: an instance of a cell, and one of a module
  pub turned_cell : (vs : List Visit) (met met' : List MetInstance) (frames popped frames' : List Frame) (frame : Frame) (instance : ℕ)
      → IsGoing modules top vs met frames → frames ≡ popped ++ frame ∷ [] → frame.next < instance_count modules frame.module
      → length modules ≤ lower_of modules frame.module frame.next → instance ≡ frame.next
      → met' ≡ met ++ record { visit = frame.visit; instance = instance; lower = None } ∷ [] → frames' ≡ popped ++ after frame ∷ []
      → IsGoing modules top vs met' frames'
  turned_cell vs met met' frames popped frames' frame instance going pop lt none is longer framed =
      let before = subst (IsGoing modules top vs met) pop going in
      let turned = meets_cell vs met popped frame before lt none in
      let same : met' ≡ met ++ record { visit = frame.visit; instance = frame.next; lower = None } ∷ [] =
      longer ∙ ap (λ k. met ++ record { visit = frame.visit; instance = k; lower = None } ∷ []) is in
      subst (λ m. IsGoing modules top vs m frames') (sym same) (subst (IsGoing modules top vs _) (sym framed) turned)

  pub turned_module : (vs vs' : List Visit) (met met' : List MetInstance) (frames popped pushed frames' : List Frame) (frame : Frame)
      → (instance lower v : ℕ) → ¬ IsTooDeep modules top
      → IsGoing modules top vs met frames → frames ≡ popped ++ frame ∷ [] → frame.next < instance_count modules frame.module
      → lower ≡ lower_of modules frame.module frame.next → lower < length modules → instance ≡ frame.next → v ≡ length vs
      → met' ≡ met ++ record { visit = frame.visit; instance = instance; lower = Some v } ∷ [] → pushed ≡ popped ++ after frame ∷ []
      → vs' ≡ vs ++ record { parent = frame.visit; instance = instance; «module» = lower } ∷ []
      → frames' ≡ pushed ++ record { visit = length vs; «module» = lower; next = 0 } ∷ []
      → IsGoing modules top vs' met' frames'
  turned_module vs vs' met met' frames popped pushed frames' frame instance lower v shallow going pop lt is_lower within is is_v
      longer first visited framed =
      let before = subst (IsGoing modules top vs met) pop going in
      let turned = meets_module vs met popped frame lower shallow before lt is_lower within in
      let inner : Frame = record { visit = length vs; «module» = lower; next = 0 } in
      let visits_now = vs ++ record { parent = frame.visit; instance = frame.next; «module» = lower } ∷ [] in
      let met_then = met ++ record { visit = frame.visit; instance = frame.next; lower = Some (length vs) } ∷ [] in
      let same : met' ≡ met_then =
      longer ∙ ap (λ k. met ++ record { visit = frame.visit; instance = k; lower = Some v } ∷ []) is
      ∙ ap (λ k. met ++ record { visit = frame.visit; instance = frame.next; lower = Some k } ∷ []) is_v in
      let same_visits : vs' ≡ visits_now =
      visited ∙ ap (λ k. vs ++ record { parent = frame.visit; instance = k; «module» = lower } ∷ []) is in
      let same_frames : frames' ≡ (popped ++ after frame ∷ []) ++ inner ∷ [] = framed ∙ ap (λ fs. fs ++ inner ∷ []) first in
      subst (λ w. IsGoing modules top w met' frames') (sym same_visits)
      (subst (λ m. IsGoing modules top visits_now m frames') (sym same)
      (subst (IsGoing modules top visits_now met_then) (sym same_frames) turned))

  pub begun : (vs : List Visit) (met : List MetInstance) (frames : List Frame) → top < length modules
      → vs ≡ record { parent = 0; instance = 0; «module» = top } ∷ [] → met ≡ [] → frames ≡ record { visit = 0; «module» = top; next = 0 } ∷ []
      → IsGoing modules top vs met frames
  begun vs met frames within v m f =
      let top_visit : Visit = record { parent = 0; instance = 0; «module» = top } in
      subst (λ w. IsGoing modules top w met frames) (sym v)
      (subst (λ w. IsGoing modules top (top_visit ∷ []) w frames) (sym m)
      (subst (IsGoing modules top (top_visit ∷ []) []) (sym f) (begins within)))

  -- an instance is left of the whole walk
  pub turn_within : (vs : List Visit) (met : List MetInstance) (frames popped : List Frame) (frame : Frame)
      → IsGoing modules top vs met frames → frames ≡ popped ++ frame ∷ [] → frame.next < instance_count modules frame.module
      → length met < length (whole_walk modules top)
  turn_within vs met frames popped frame going pop lt =
      (turn vs met popped frame (subst (IsGoing modules top vs met) pop going) lt).within
