-- A design is refused at one limit at most, and then it has no cells.
use Rattle.std.proofs.Common.{◌≡◌, ℕ, zero, suc, ◌<◌, ◌≤◌, ⊎_elim, List, length, refl, sym, ap, ◌∙◌, subst, arith}
use Rattle.std.proofs.lemmas.Bool.{cases_lt, cases_eq}
use Rattle.verilog_netlist.specs.NetModules.{NetModule, module_at}
use Rattle.hierarchy.specs.Uses.{IsTop, ContainsItself, IsTooDeep, IsWalkable, IsUseEnd, AreCellsUsed, cells_used, instances_visited, bits_visited, connections_visited, most_instances, most_name_bits, most_connections, no_top, recursive, too_deep, instances, names, pins, no_memory}
use Rattle.hierarchy.specs.UseLaws.{NamesDiffer, IsSameEnd}
use Rattle.hierarchy.specs.declared.uses.Count.{Count}
use Rattle.hierarchy.specs.declared.uses.Count.TheVariants.{Depth, Instances, Names, Pins}
use Rattle.hierarchy.specs.declared.uses.UseEnd.{UseEnd}
use Rattle.hierarchy.specs.declared.uses.UseEnd.TheVariants.{NoTop, Recursive, TooMany, OutOfMemory}

-- what is asked of a design, in turn
Check : List NetModule → ℕ → ℕ → Type 0
Check modules top zero = (m : ℕ) → ContainsItself modules top m → ⊥
Check modules top (suc zero) = IsTooDeep modules top → ⊥
Check modules top (suc (suc zero)) = instances_visited modules top ≤ most_instances
Check modules top (suc (suc (suc zero))) = bits_visited modules top ≤ most_name_bits
Check modules top (suc (suc (suc (suc zero)))) = connections_visited modules top ≤ most_connections
Check modules top (suc (suc (suc (suc (suc n))))) = Unit {0}

check_before : (modules : List NetModule) (top n : ℕ) → (0 < n → Check modules top 0) → (1 < n → Check modules top 1) → (2 < n → Check modules top 2)
    → (3 < n → Check modules top 3) → (4 < n → Check modules top 4) → (i : ℕ) → i < n → Check modules top i
unfolding Check
check_before modules top n a b c d e zero lt = a lt
check_before modules top n a b c d e (suc zero) lt = b lt
check_before modules top n a b c d e (suc (suc zero)) lt = c lt
check_before modules top n a b c d e (suc (suc (suc zero))) lt = d lt
check_before modules top n a b c d e (suc (suc (suc (suc zero)))) lt = e lt
check_before modules top n a b c d e (suc (suc (suc (suc (suc k))))) lt = tt

-- a design stops at this question, or passes all five
record Stops (modules : List NetModule) (name : List ℕ) (n : ℕ) : Type 0 where
  top : ℕ
  is_top : IsTop modules name top
  few : n ≤ 5
  before : (i : ℕ) → i < n → Check modules top i
  fails : n < 5 → Check modules top n → ⊥

stage_of : Count → ℕ
stage_of Depth = 1
stage_of Instances = 2
stage_of Names = 3
stage_of Pins = 4

count_of : ℕ → Count
count_of zero = Depth
count_of (suc zero) = Depth
count_of (suc (suc zero)) = Instances
count_of (suc (suc (suc zero))) = Names
count_of (suc (suc (suc (suc n)))) = Pins

count_back : (count : Count) → count_of (stage_of count) ≡ count
unfolding stage_of count_of
count_back Depth = refl
count_back Instances = refl
count_back Names = refl
count_back Pins = refl

stage_some : (count : Count) → (0 < stage_of count) × (stage_of count < 5)
unfolding stage_of
stage_some Depth = (omega arith, omega arith)
stage_some Instances = (omega arith, omega arith)
stage_some Names = (omega arith, omega arith)
stage_some Pins = (omega arith, omega arith)

module _ (modules : List NetModule) (name : List ℕ) (differ : NamesDiffer modules) where
  one_top : (one other : ℕ) → IsTop modules name one → IsTop modules name other → one ≡ other
  one_top one other a b = ⊎_elim (λ same. same)
      (λ unlike. ⊎_elim (λ lt. absurd (differ one other lt b.within (a.named ∙ sym b.named)))
      (λ le. absurd (differ other one (omega arith) a.within (b.named ∙ sym a.named))) (cases_lt one other))
      (cases_eq one other)

  not_before : (n k : ℕ) → Stops modules name n → Stops modules name k → n < k → ⊥
  not_before n k a b lt =
      a.fails (omega (arith, b.few)) (subst (λ t. Check modules t n) (one_top b.top a.top b.is_top a.is_top) (b.before n lt))

  one_stop : (n k : ℕ) → Stops modules name n → Stops modules name k → n ≡ k
  one_stop n k a b = ⊎_elim (λ lt. absurd (not_before n k a b lt))
      (λ le. ⊎_elim (λ lt. absurd (not_before k n b a lt)) (λ other. omega arith) (cases_lt k n)) (cases_lt n k)

  abbrev Outcome : UseEnd → Type 0
  Outcome NoTop = (m : ℕ) → m < length modules → (module_at modules m).name ≡ name → ⊥
  Outcome (Recursive m) = Stops modules name 0
  Outcome (TooMany count) = Stops modules name (stage_of count)
  Outcome OutOfMemory = Unit {0}

  outcome : (end : UseEnd) → IsUseEnd modules name end → Outcome end
  unfolding Check stage_of
  outcome _ (no_top h) = h
  outcome _ (recursive top m is round) = record {
    top = top;
    is_top = is;
    few = omega arith;
    before = λ i lt. absurd (omega arith);
    fails = λ _ finite. finite m round;
  }
  outcome _ (too_deep top is finite deep) = record {
    top = top;
    is_top = is;
    few = omega arith;
    before = check_before modules top 1 (λ _. finite) (λ lt. absurd (omega arith)) (λ lt. absurd (omega arith)) (λ lt. absurd (omega arith))
        (λ lt. absurd (omega arith));
    fails = λ _ shallow. shallow deep;
  }
  outcome _ (instances top is finite shallow lt) = record {
    top = top;
    is_top = is;
    few = omega arith;
    before = check_before modules top 2 (λ _. finite) (λ _. shallow) (λ l. absurd (omega arith)) (λ l. absurd (omega arith))
        (λ l. absurd (omega arith));
    fails = λ _ le. absurd (omega arith);
  }
  outcome _ (names top is finite shallow i lt) = record {
    top = top;
    is_top = is;
    few = omega arith;
    before = check_before modules top 3 (λ _. finite) (λ _. shallow) (λ _. i) (λ l. absurd (omega arith)) (λ l. absurd (omega arith));
    fails = λ _ le. absurd (omega arith);
  }
  outcome _ (pins top is finite shallow i b lt) = record {
    top = top;
    is_top = is;
    few = omega arith;
    before = check_before modules top 4 (λ _. finite) (λ _. shallow) (λ _. i) (λ _. b) (λ l. absurd (omega arith));
    fails = λ _ le. absurd (omega arith);
  }
  outcome _ no_memory = tt

  walks : (top : ℕ) → IsTop modules name top → IsWalkable modules top → Stops modules name 5
  unfolding Check
  walks top is h = record {
    top = top;
    is_top = is;
    few = omega arith;
    before = check_before modules top 5 (λ _. h.finite) (λ _. h.shallow) (λ _. h.instances) (λ _. h.bits) (λ _. h.connections);
    fails = λ lt _. absurd (omega arith);
  }

  pub one_list : (some other : List (List ℕ)) → AreCellsUsed modules name some → AreCellsUsed modules name other → some ≡ other
  one_list some other a b = a.are ∙ ap (cells_used modules) (one_top a.top b.top a.is_top b.is_top) ∙ sym b.are

  no_end : (end : UseEnd) → Outcome end → Stops modules name 5 → end ≡ OutOfMemory
  no_end NoTop h b = absurd (h b.top b.is_top.within b.is_top.named)
  no_end (Recursive m) h b = let e = one_stop 0 5 h b in absurd (omega arith)
  no_end (TooMany count) h b = let e = one_stop (stage_of count) 5 h b in absurd (omega (arith, (stage_some count).1))
  no_end OutOfMemory h b = refl

  pub list_or_end : (cells : List (List ℕ)) (end : UseEnd) → AreCellsUsed modules name cells → IsUseEnd modules name end → end ≡ OutOfMemory
  list_or_end cells end a h = no_end end (outcome end h) (walks a.top a.is_top a.walkable)

  same_end : (some other : UseEnd) → Outcome some → Outcome other → IsSameEnd some other
  same_end NoTop NoTop a b = tt
  same_end NoTop (Recursive m) a b = a b.top b.is_top.within b.is_top.named
  same_end NoTop (TooMany count) a b = a b.top b.is_top.within b.is_top.named
  same_end NoTop OutOfMemory a b = tt
  same_end (Recursive m) NoTop a b = b a.top a.is_top.within a.is_top.named
  same_end (Recursive m) (Recursive k) a b = tt
  same_end (Recursive m) (TooMany count) a b = let e = one_stop 0 (stage_of count) a b in absurd (omega (arith, (stage_some count).0))
  same_end (Recursive m) OutOfMemory a b = tt
  same_end (TooMany count) NoTop a b = b a.top a.is_top.within a.is_top.named
  same_end (TooMany count) (Recursive m) a b = let e = one_stop 0 (stage_of count) b a in absurd (omega (arith, (stage_some count).0))
  same_end (TooMany count) (TooMany which) a b =
      sym (count_back count) ∙ ap count_of (one_stop (stage_of count) (stage_of which) a b) ∙ count_back which
  same_end (TooMany count) OutOfMemory a b = tt
  same_end OutOfMemory other a b = tt

  pub one_end : (some other : UseEnd) → IsUseEnd modules name some → IsUseEnd modules name other → IsSameEnd some other
  one_end some other a b = same_end some other (outcome some a) (outcome other b)
