use Rattle.std.proofs.Common.{◌≡◌, ℕ, ◌+◌, List, Option, Some, refl, sym, subst}
use Rattle.spef_text.specs.Units.{IsNoUnit}
use Rattle.spef_text.specs.SpefFiles.{SpefText}
use Rattle.spef_text.specs.Heads.{text_of, IsBadUnit}
use Rattle.spef_text.specs.declared.units.Quantity.{Quantity}
use Rattle.spef_text.proofs.head.unit_at.Goals as goal

bad_from : (quantity : Quantity) (file : SpefText) (item : Option ℕ) (number : ℕ) (literal word : List ℕ) → item ≡ Some number → literal ≡ text_of file number → word ≡ text_of file (number + 1)
    → IsNoUnit quantity literal word → IsBadUnit quantity file item number
bad_from quantity file item number literal word i l w none =
    subst (λ (x : Option ℕ). IsBadUnit quantity file x number) (sym i)
    (subst (λ (x : List ℕ). IsNoUnit quantity (text_of file number) x) w (subst (λ (x : List ℕ). IsNoUnit quantity x word) l none), refl)

pub returns-in-None-clause-bad : goal.returns-in-None-clause-bad
returns-in-None-clause-bad c = bad_from c.args.quantity c.args.file.now c.args.item c.in-Some.number c.text_of.result.now c.text_of-2.result.now c.in-Some.is c.text_of.ensures c.text_of-2.ensures c.in-None.ensures.none
