-- The faults of a connection.
use Rattle.std.proofs.Common.{◌≡◌, ◌≢◌, ℕ, ◌==◌, true, false, List, [], ◌∷◌, Option, Some, None, sym, ap, ◌∙◌, inl, inr}
use Rattle.std.proofs.lemmas.Bool.Decides.{eqb_tells}
use Rattle.netlist_link.specs.LinkEnds.{joint_faults}
use Rattle.netlist_link.specs.Designs.{joint_in, IsFirstOf, first_is}
use Rattle.netlist_link.specs.declared.checking.KeptJoint.{KeptJoint}
use Rattle.netlist_link.specs.declared.ends.LinkEnd.TheVariants as refused

module _ (instance port i p : List ℕ) (i_is : i ≡ instance) (p_is : p ≡ port) (bits : ℕ) where
  pub unknown_first : (joint : Option KeptJoint) → joint ≡ None → IsFirstOf (joint_faults instance port (joint_in joint) bits) (refused.UnknownPort i p)
  unknown_first joint none =
      first_is (refused.UnknownPort i p) [] (ap (λ (j : Option KeptJoint). joint_faults instance port (joint_in j) bits) none
      ∙ λ k. refused.UnknownPort (sym i_is k) (sym p_is k) ∷ [])

  pub width_first : (joint : Option KeptJoint) (kept : KeptJoint) → joint ≡ Some kept → bits ≢ 0 → bits ≢ kept.width
      → IsFirstOf (joint_faults instance port (joint_in joint) bits) (refused.Width i p kept.width bits)
  width_first joint kept is some other =
      first_is (refused.Width i p kept.width bits) [] (ap (λ (j : Option KeptJoint). joint_faults instance port (joint_in j) bits) is ∙ (rw (differs bits 0 some, differs bits kept.width other)
      (λ k. refused.Width (sym i_is k) (sym p_is k) kept.width bits ∷ [])))
    where
      differs : (a b : ℕ) → a ≢ b → (a == b) ≡ false
      differs a b no_one = elim (eqb_tells a b) [
        | inl (_, same) ↦ absurd (no_one same)
        | inr (is, _) ↦ is
      ]

  pub inout_first : (joint : Option KeptJoint) (kept : KeptJoint) → joint ≡ Some kept → bits ≢ 0 → bits ≡ kept.width → kept.is_taken ≡ false
      → IsFirstOf (joint_faults instance port (joint_in joint) bits) (refused.InoutPin i p)
  inout_first joint kept is some same never =
      first_is (refused.InoutPin i p) [] (ap (λ (j : Option KeptJoint). joint_faults instance port (joint_in j) bits) is ∙ (rw (differs bits 0 some, equals bits kept.width same, never)
      (λ k. refused.InoutPin (sym i_is k) (sym p_is k) ∷ [])))
    where
      differs : (a b : ℕ) → a ≢ b → (a == b) ≡ false
      differs a b no_one = elim (eqb_tells a b) [
        | inl (_, same) ↦ absurd (no_one same)
        | inr (is, _) ↦ is
      ]

      equals : (a b : ℕ) → a ≡ b → (a == b) ≡ true
      equals a b same = elim (eqb_tells a b) [
        | inl (is, _) ↦ is
        | inr (_, differ) ↦ absurd (differ same)
      ]
