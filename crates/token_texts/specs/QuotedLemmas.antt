-- How far a text in quotes goes, byte by byte, and that what stands at a quote has a byte, and none past the end.
use Rattle.std.proofs.Common.{◌≡◌, ℕ, suc, ◌+◌, ◌<◌, ◌≤◌, Bool, true, false, cond, not, ◌&&◌, ◌==◌, List, [], ◌∷◌, length, drop, get_or, Option, Some, None, option_map, refl, ap, ap₂, ◌∙◌, arith}
use Rattle.std.proofs.lemmas.Bool.{eq-eqb}
use Rattle.std.proofs.lemmas.List.{drop_more, drop_all}
use Rattle.edge_io.specs.Bytes.{quote}
use Rattle.token_texts.specs.Quoted.{takes, quote_end, quoted_to, quoted_cut}
use Rattle.token_texts.specs.Cuts.{IsWithin}
use Rattle.token_texts.specs.ByteLemmas.{not_byte}
use Rattle.token_texts.specs.declared.quoted.Escape.{Escape}

step_within : (bytes : List ℕ) (place : ℕ) (t : Bool) (later : Option ℕ) → ((p : ℕ) → later ≡ Some p → p < length bytes)
    → cond t (Some 0) (option_map (λ n. n + 1) later) ≡ Some place → place < suc (length bytes)
step_within bytes place true later there h = let z : 0 ≡ place = cc in omega arith
step_within bytes place false None there h = absurd (cc)
step_within bytes place false (Some p) there h = let more = there p refl in let z : p + 1 ≡ place = cc in omega arith

pub quote_within : (escape : Escape) (taken : Bool) (bytes : List ℕ) (place : ℕ) → quote_end escape taken bytes ≡ Some place
    → place < length bytes
unfolding quote_end
quote_within escape taken [] place e = absurd (cc)
quote_within escape taken (b ∷ bytes) place e =
    step_within bytes place (b == quote && not taken) (quote_end escape (takes escape b taken) bytes)
    (quote_within escape (takes escape b taken) bytes) e

module _ {K : Type 0} (quoted_kind open_kind : K) where
  quoted_to_within : (rest : List ℕ) (end : Option ℕ) → ((place : ℕ) → end ≡ Some place → place < length rest)
      → IsWithin (length rest + 1) (quoted_to quoted_kind open_kind rest end)
  quoted_to_within rest None below = (omega arith, omega arith)
  quoted_to_within rest (Some place) below = let lt = below place refl in (omega arith, omega arith)

  pub quoted_within : (escape : Escape) (rest : List ℕ) → IsWithin (length rest + 1) (quoted_cut escape quoted_kind open_kind rest)
  quoted_within escape rest = quoted_to_within rest (quote_end escape false rest) (quote_within escape false rest)

-- further on by so many
abbrev pub moved : ℕ → Option ℕ → Option ℕ
moved n found = option_map (λ place. place + n) found

moved_none : (found : Option ℕ) → found ≡ moved 0 found
moved_none None = refl
moved_none (Some place) = let e : place ≡ place + 0 = omega arith in ap (λ n. Some n) e

moved_twice : (n : ℕ) (found : Option ℕ) → moved n (moved 1 found) ≡ moved (n + 1) found
moved_twice n None = refl
moved_twice n (Some place) = let e : place + 1 + n ≡ place + (n + 1) = omega arith in ap (λ m. Some m) e

-- the end of the text in the whole is that in the rest
pub record EndSoFar (escape : Escape) (whole : List ℕ) (taken : Bool) (place : ℕ) : Type 0 where
  pub within : place ≤ length whole
  pub so_far : quote_end escape false whole ≡ moved place (quote_end escape taken (drop place whole))

pub end_begins : (escape : Escape) (whole : List ℕ) → EndSoFar escape whole false 0
end_begins escape whole = record { within = omega arith; so_far = moved_none (quote_end escape false whole) }

abbrev pub ends_here : ℕ → Bool → Bool
ends_here byte taken = byte == quote && not taken

pub ends_both : (b : ℕ) (taken : Bool) → b ≡ quote → taken ≡ false → ends_here b taken ≡ true
ends_both b taken p q = ap₂ (λ x y. x && not y) (eq-eqb b quote p) q

neither_way : (x : Bool) → (x && false) ≡ false
neither_way true = refl
neither_way false = refl

pub ends_taken : (b : ℕ) (taken : Bool) → taken ≡ true → ends_here b taken ≡ false
ends_taken b taken q = ap (λ y. (b == quote) && not y) q ∙ neither_way (b == quote)

pub ends_other : (b : ℕ) (taken : Bool) → (b ≡ quote → ⊥) → ends_here b taken ≡ false
ends_other b taken p = ap (λ x. x && not taken) (not_byte b quote p)

end_step : (escape : Escape) (taken : Bool) (b : ℕ) (rest : List ℕ)
    → quote_end escape taken (b ∷ rest) ≡ cond (ends_here b taken) (Some 0) (moved 1 (quote_end escape (takes escape b taken) rest))
unfolding quote_end
end_step escape taken b rest = refl

pub end_goes_on : (escape : Escape) (whole : List ℕ) (taken : Bool) (place : ℕ) → EndSoFar escape whole taken place → place < length whole
    → ends_here (get_or whole place 0) taken ≡ false
    → EndSoFar escape whole (takes escape (get_or whole place 0) taken) (place + 1)
end_goes_on escape whole taken place h lt on =
    let b : ℕ = get_or whole place 0 in
    let rest : List ℕ = drop (place + 1) whole in
    record {
      within = omega arith;
      so_far = h.so_far ∙ ap (λ l. moved place (quote_end escape taken l)) (drop_more whole place 0 lt)
          ∙ ap (moved place) (end_step escape taken b rest ∙ ap
          (λ t. cond t (Some 0) (moved 1 (quote_end escape (takes escape b taken) rest))) on)
          ∙ moved_twice place (quote_end escape (takes escape b taken) rest);
    }

pub end_found : (escape : Escape) (whole : List ℕ) (taken : Bool) (place : ℕ) → EndSoFar escape whole taken place → place < length whole
    → ends_here (get_or whole place 0) taken ≡ true → quote_end escape false whole ≡ Some place
end_found escape whole taken place h lt here =
    let b : ℕ = get_or whole place 0 in
    let rest : List ℕ = drop (place + 1) whole in
    let e : 0 + place ≡ place = omega arith in
    h.so_far ∙ ap (λ l. moved place (quote_end escape taken l)) (drop_more whole place 0 lt)
    ∙ ap (moved place) (end_step escape taken b rest ∙ ap
    (λ t. cond t (Some 0) (moved 1 (quote_end escape (takes escape b taken) rest))) here)
    ∙ ap (λ n. Some n) e

pub end_missing : (escape : Escape) (whole : List ℕ) (taken : Bool) (place : ℕ) → EndSoFar escape whole taken place → length whole ≤ place
    → quote_end escape false whole ≡ None
unfolding quote_end
end_missing escape whole taken place h le = h.so_far ∙ ap (λ l. moved place (quote_end escape taken l)) (drop_all place whole le)
