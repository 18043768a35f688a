-- Behind a wire there is one slew.
use Rattle.std.proofs.Common.{◌≡◌, ℕ, ◌+◌, ◌*◌, ◌^◌, ◌<◌, ap, refl, subst, ℤ, pos, negsuc, ◌<ℤ◌, ◌≤ℤ◌, unsigned_abs, arith}
use Rattle.std.proofs.lemmas.Int.{ints}
use Rattle.std.proofs.Math.Nat.{lt_of_not-le}
use Rattle.delay_units.specs.Rounding.{IsRounding, OneRounding}
use Rattle.wire_slews.specs.Roots.{IsRoot}
use Rattle.wire_slews.specs.WireSlews.{IsWireSlew, same, rss, OneWireSlew, most_slew}
use Rattle.corner_set.specs.declared.choices.WireSlew.TheVariants.{Same, Rss}
use Rattle.wire_slews.proofs.RootLemmas.{one_root, some_root, square_grows}

-- a rounding of a number that is not below 0 is not either
pub own_slew : (n : ℕ) (v : ℤ) → IsRounding (pos n) (pos (10 ^ 12)) v → (own : ℕ) × (v ≡ pos own)
own_slew n (pos own) rounding = (own, refl)
own_slew n (negsuc below) rounding = absurd (omega (arith, ints, rounding.most))

-- of one wire's own slew one slew comes
pub only_behind : (slew elmore own behind : ℕ) → ((v : ℕ) → IsRounding (pos (2197 * elmore)) (pos (10 ^ 12)) (pos v) → v ≡ own)
    → IsRoot (slew * slew + own * own) behind → (other : ℤ) → IsWireSlew Rss (pos slew) elmore other → other ≡ pos behind
only_behind slew elmore own behind only root other (rss slew' elmore' own' behind' rounds root') =
    ap pos (one_root (slew * slew + own * own) behind' behind (subst (λ q. IsRoot (slew * slew + q * q) behind') (only own' rounds) root') root)

only_same : (slew elmore : ℕ) (other : ℤ) → IsWireSlew Same (pos slew) elmore other → other ≡ pos slew
only_same slew elmore other (same slew' elmore') = refl

pub one_wire_slew_lem : OneRounding → OneWireSlew
one_wire_slew_lem law Same slew elmore = (pos slew, same (pos slew) elmore, λ other is. only_same slew elmore other is)
one_wire_slew_lem law Rss slew elmore =
    let found = law (pos (2197 * elmore)) (pos (10 ^ 12)) (omega (arith, ints)) in
    let own = own_slew (2197 * elmore) found.0 found.1 in
    let root = some_root (slew * slew + own.0 * own.0) in (
      pos root.0,
      rss slew elmore own.0 root.0 (subst (λ v. IsRounding (pos (2197 * elmore)) (pos (10 ^ 12)) v) own.1 found.1) root.1,
      only_behind slew elmore own.0 root.0 (λ v rounds. omega (arith, ints, found.2 (pos v) rounds, own.1)) root.1,
    )

-- the slew of a wire with a large Elmore sum is past a microsecond
pub large_elmore : (slew behind : ℤ) (elmore : ℕ) → 10 ^ 21 < elmore → IsWireSlew Rss slew elmore behind → pos most_slew <ℤ behind
large_elmore slew behind elmore large (rss slew' elmore' own root rounds is_root) =
    let grows : own < root + 1 = lt_of_not-le (λ above. absurd (omega (arith, square_grows (root + 1) own above, is_root.most))) in
    omega (arith, ints, large, rounds.most, grows)

-- the same of a slew that is not below 0
pub made_behind : (slew : ℤ) (elmore own behind : ℕ) → pos 0 ≤ℤ slew → IsRounding (pos (2197 * elmore)) (pos (10 ^ 12)) (pos own)
    → IsRoot (unsigned_abs slew * unsigned_abs slew + own * own) behind → IsWireSlew Rss slew elmore (pos behind)
made_behind (pos slew) elmore own behind some rounds root = rss slew elmore own behind rounds root
made_behind (negsuc slew) elmore own behind some rounds root = absurd (omega (arith, ints, some))

pub past_behind : (slew : ℤ) (elmore own behind : ℕ) → pos 0 ≤ℤ slew → ((v : ℕ) → IsRounding (pos (2197 * elmore)) (pos (10 ^ 12)) (pos v) → v ≡ own)
    → IsRoot (unsigned_abs slew * unsigned_abs slew + own * own) behind → most_slew < behind
    → (other : ℤ) → IsWireSlew Rss slew elmore other → pos most_slew <ℤ other
past_behind (pos slew) elmore own behind some only root past other is =
    omega (arith, ints, past, only_behind slew elmore own behind only root other is)
past_behind (negsuc slew) elmore own behind some only root past other is = absurd (omega (arith, ints, some))
