-- The phases of the loads and Elmore sums have one answer.
use Rattle.std.proofs.Common.{◌≡◌, ℕ, inl, inr, List, refl, sym, ap, subst}
use Rattle.rc_tree.specs.declared.ends.TreeEnd.{TreeEnd}
use Rattle.net_parasitics.specs.Inputs.{Inputs}
use Rattle.net_parasitics.specs.OneAnswer.{IsSameTreeEnd}
use Rattle.net_parasitics.specs.declared.ends.ParasiticsEnd.TheVariants.{MissingNet as NoSection, Tree}
use Rattle.net_parasitics.proofs.OneAnswer.{one_delays, no_end, one_end}
use Rattle.refusals.specs.SameAnswers.{SameRefusal, some_resistor}
use Rattle.refusals.specs.declared.refusal.Refusal.{Refusal}
use Rattle.refusals.specs.declared.refusal.Refusal.TheVariants.{MissingNet, StrangePin, Unreached}
use Rattle.delay_core.specs.DelayPhase.{net_text, IsTreeRefusal, strange_pin, too_large, unreached, mesh, are_delays, missing_net, no_tree}
use Rattle.delay_core.specs.OneTiming.{OneDelays}

-- trees of one net that end alike are refused alike
same_tree : (net : List ℕ) (one other : TreeEnd) (some more : Refusal) → IsTreeRefusal net one some → IsTreeRefusal net other more → IsSameTreeEnd one other → SameRefusal some more
same_tree net _ _ _ _ (strange_pin pin) (strange_pin other) same = inl (ap (λ p. StrangePin net p) same)
same_tree net _ _ _ _ too_large too_large same = inl refl
same_tree net _ _ _ _ (unreached node) (unreached other) same = inl (ap (λ n. Unreached net n) same)
same_tree net _ _ _ _ (mesh place) (mesh other) same = inr (some_resistor net place other)
same_tree net _ _ _ _ (strange_pin pin) too_large same = absurd same
same_tree net _ _ _ _ (strange_pin pin) (unreached other) same = absurd same
same_tree net _ _ _ _ (strange_pin pin) (mesh other) same = absurd same
same_tree net _ _ _ _ too_large (strange_pin other) same = absurd same
same_tree net _ _ _ _ too_large (unreached other) same = absurd same
same_tree net _ _ _ _ too_large (mesh other) same = absurd same
same_tree net _ _ _ _ (unreached node) (strange_pin other) same = absurd same
same_tree net _ _ _ _ (unreached node) too_large same = absurd same
same_tree net _ _ _ _ (unreached node) (mesh other) same = absurd same
same_tree net _ _ _ _ (mesh place) (strange_pin other) same = absurd same
same_tree net _ _ _ _ (mesh place) too_large same = absurd same
same_tree net _ _ _ _ (mesh place) (unreached other) same = absurd same

-- the same of one net under two numbers
same_net : (inputs : Inputs) (net number : ℕ) (one other : TreeEnd) (some more : Refusal) → IsTreeRefusal (net_text inputs.netlist net) one some → IsTreeRefusal (net_text inputs.netlist number) other more → net ≡ number → IsSameTreeEnd one other
    → SameRefusal some more
same_net inputs net number one other some more r s is same =
    same_tree (net_text inputs.netlist net) one other some more r (subst (λ n. IsTreeRefusal (net_text inputs.netlist n) other more) (sym is) s) same

pub one_delays_answer : OneDelays
one_delays_answer inputs missing _ _ apart some (are_delays a r) (are_delays b s) = one_delays inputs missing a b apart r s
one_delays_answer inputs missing _ _ apart some (are_delays a r) (missing_net net s) = absurd (let same = no_end inputs missing a (NoSection net) apart some r s in cc)
one_delays_answer inputs missing _ _ apart some (are_delays a r) (no_tree net end refusal s t) = absurd (let same = no_end inputs missing a (Tree net end) apart some r s in cc)
one_delays_answer inputs missing _ _ apart some (missing_net net s) (are_delays a r) = absurd (let same = no_end inputs missing a (NoSection net) apart some r s in cc)
one_delays_answer inputs missing _ _ apart some (no_tree net end refusal s t) (are_delays a r) = absurd (let same = no_end inputs missing a (Tree net end) apart some r s in cc)
one_delays_answer inputs missing _ _ apart some (missing_net net r) (missing_net number s) =
    inl (ap (λ n. MissingNet (net_text inputs.netlist n)) (one_end inputs missing (NoSection net) (NoSection number) apart some r s))
one_delays_answer inputs missing _ _ apart some (missing_net net r) (no_tree number end refusal s t) = absurd (one_end inputs missing (NoSection net) (Tree number end) apart some r s)
one_delays_answer inputs missing _ _ apart some (no_tree number end refusal s t) (missing_net net r) = absurd (one_end inputs missing (Tree number end) (NoSection net) apart some s r)
one_delays_answer inputs missing _ _ apart some (no_tree net one refusal r p) (no_tree number other more s q) =
    let same = one_end inputs missing (Tree net one) (Tree number other) apart some r s in
    same_net inputs net number one other refusal more p q same.0 same.1
