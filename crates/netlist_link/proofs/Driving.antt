-- The drivers of nets, one net more.
use Rattle.std.proofs.Common.{◌≡◌, ℕ, ◌+◌, ◌<◌, ◌≤◌, inl, inr, false, List, [], ◌∷◌, ◌++◌, length, take, set, replicate, get_or, Option, Some, None, is_some, refl, sym, ap, ap₂, ◌∙◌, subst, arith, append-nil, true≢false}
use Rattle.std.specs.Prelude.{option_to_list}
use Rattle.std.proofs.lemmas.Bool.{cases_lt}
use Rattle.std.proofs.lemmas.Bool.Decides.{eqb_tells}
use Rattle.std.proofs.lemmas.List.{get_or_append_left, get_or-replicate, get_or-set_same, get_or-set_other, length-replicate, length-set, length_push}
use Rattle.std.proofs.Math.Seq.{get_or-append_seam}
use Rattle.netlist_link.specs.Grouping.{kept_on, count_on, AreOnNets, no_end}
use Rattle.netlist_link.specs.KeptEnds.{AreDrivers, IsDriverEnd, IsDriversEnd, several_drive, no_memory_for, several_drive_it, no_memory_for_it}
use Rattle.netlist_link.specs.declared.ends.LinkEnd.{LinkEnd}
use Rattle.netlist_link.specs.declared.grouping.EndOn.{EndOn}
use Rattle.netlist_link.specs.declared.grouping.KeptEnd.{KeptEnd}
use Rattle.netlist_link.proofs.Counting.{kept_on-push, kept_same, kept_other, end_at, take_more}

pub drivers_step : (driving : List EndOn) (drivers now : List (Option KeptEnd)) (n : ℕ) (driver : Option KeptEnd) → AreDrivers n driving drivers
    → option_to_list driver ≡ kept_on n driving → now ≡ drivers ++ driver ∷ [] → AreDrivers (n + 1) driving now
drivers_step driving drivers now n driver so_far alone is = record {
  count = ap length is ∙ length_push drivers driver ∙ ap (λ (k : ℕ). k + 1) so_far.count;
  each = λ m below. ap (λ (l : List (Option KeptEnd)). option_to_list (get_or l m None)) is ∙ elim (cases_lt m n) [
    | inl less ↦ (let count = so_far.count in
        ap option_to_list (get_or_append_left drivers (driver ∷ []) None m (omega arith)) ∙ so_far.each m less)
    | inr past ↦ (let count = so_far.count in
        let same : length drivers ≡ m = omega arith in
        let other : n ≡ m = omega arith in
        subst (λ (k : ℕ). option_to_list (get_or (drivers ++ driver ∷ []) k None) ≡ kept_on m driving) same
        (ap option_to_list (get_or-append_seam drivers driver [] None) ∙ alone ∙ ap (λ (k : ℕ). kept_on k driving) other))
  ];
}

few_of : (o : Option KeptEnd) → length (option_to_list o) ≤ 1
few_of None = omega arith
few_of (Some x) = omega arith

-- the nets so far have one driver at most
pub one_each : (driving : List EndOn) (drivers : List (Option KeptEnd)) (n : ℕ) → AreDrivers n driving drivers → (m : ℕ) → m < n → count_on m driving ≤ 1
one_each driving drivers n so_far m below = subst (λ (k : ℕ). k ≤ 1) (ap length (so_far.each m below)) (few_of (get_or drivers m None))

pub refused_there : (texts : List (List ℕ)) (driving : List EndOn) (n : ℕ) (ends : List KeptEnd) (end : LinkEnd) → IsDriverEnd texts n (length ends) end
    → ends ≡ kept_on n driving → ((m : ℕ) → m < n → count_on m driving ≤ 1) → IsDriversEnd texts driving end
refused_there texts driving n ends end no_memory_for_it is first = no_memory_for
refused_there texts driving n ends end (several_drive_it text here many) is first =
    several_drive n text here (subst (λ (l : List KeptEnd). 2 ≤ length l) is many) first

-- before the first end no net has a driver
pub none_drive : (nets : ℕ) (driving : List EndOn) → AreDrivers nets (take 0 driving) (replicate nets None)
none_drive nets driving = record {
  count = length-replicate nets None;
  each = λ n below. ap option_to_list (get_or-replicate nets n None None below);
}

no_driver : (o : Option KeptEnd) → is_some o ≡ false → option_to_list o ≡ []
no_driver None is = refl
no_driver (Some x) is = absurd (true≢false is)

-- one end more, on a net that has no driver so far
drives_more : (nets : ℕ) (ends : List EndOn) (drivers : List (Option KeptEnd)) (x : EndOn) → x.net < nets → AreDrivers nets ends drivers
    → is_some (get_or drivers x.net None) ≡ false → AreDrivers nets (ends ++ x ∷ []) (set drivers x.net (Some x.at))
drives_more nets ends drivers x on so_far free = record {
  count = length-set drivers x.net (Some x.at) ∙ so_far.count;
  each = λ n below. elim (eqb_tells x.net n) [
    | inl (_, same) ↦
        let within : x.net < length drivers = (let count = so_far.count in omega arith) in
        let before : kept_on x.net ends ≡ [] = sym (so_far.each x.net on) ∙ no_driver (get_or drivers x.net None) free in
        subst (λ (k : ℕ). option_to_list (get_or (set drivers x.net (Some x.at)) k None) ≡ kept_on k (ends ++ x ∷ [])) same
        (ap option_to_list (get_or-set_same drivers x.net (Some x.at) None within)
        ∙ sym (kept_on-push x.net ends x ∙ ap₂ (λ (a b : List KeptEnd). a ++ b) before (kept_same x.net x refl)))
    | inr (_, differ) ↦
        ap option_to_list (get_or-set_other drivers x.net n (Some x.at) None (λ e. differ (sym e))) ∙ so_far.each n below
        ∙ sym (kept_on-push n ends x ∙ ap (λ (l : List KeptEnd). kept_on n ends ++ l) (kept_other n x differ) ∙ append-nil (kept_on n ends))
  ];
}

-- the same at the place of an end
pub drives_step : (nets : ℕ) (driving : List EndOn) (drivers : List (Option KeptEnd)) (i : ℕ) → AreOnNets nets driving → i < length driving
    → AreDrivers nets (take i driving) drivers → is_some (get_or drivers (end_at driving i).net None) ≡ false
    → AreDrivers nets (take (i + 1) driving) (set drivers (end_at driving i).net (Some (end_at driving i).at))
drives_step nets driving drivers i on below so_far free =
    subst (λ (ends : List EndOn). AreDrivers nets ends (set drivers (end_at driving i).net (Some (end_at driving i).at))) (sym (take_more driving i below))
    (drives_more nets (take i driving) drivers (end_at driving i) (on i no_end below) so_far free)
