use Rattle.std.proofs.Common.{◌≡◌, ℕ, Option, ap, ◌∙◌, inr, subst}
use Rattle.delay_units.specs.declared.numbers.Unit.{Unit}
use Rattle.spef_text.specs.SpefFiles.{SpefText}
use Rattle.spef_text.specs.Heads.{IsUnitAt, IsBadUnit}
use Rattle.spef_text.specs.declared.units.Quantity.{Quantity}
use Rattle.spef_text.specs.declared.units.Quantity.TheVariants.{Capacitance, Resistance}
use Rattle.spef_text.proofs.HeadLemmas.{of_repeat, only_want}
use Rattle.spef_text.proofs.head.read_head.Goals as goal

of_item : (quantity : Quantity) (file : SpefText) {item : Option ℕ} (other : Option ℕ) (unit : Unit) → item ≡ other → IsUnitAt quantity file item unit → IsUnitAt quantity file other unit
of_item quantity file other unit e is = subst (λ (x : Option ℕ). IsUnitAt quantity file x unit) e is

bad_item : (quantity : Quantity) (file : SpefText) {item : Option ℕ} (other : Option ℕ) (token : ℕ) → item ≡ other → IsBadUnit quantity file item token → IsBadUnit quantity file other token
bad_item quantity file other token e is = subst (λ (x : Option ℕ). IsBadUnit quantity file x token) e is

pub returns-in-Err-unit_at-clause-refused : goal.returns-in-Err-unit_at-clause-refused
returns-in-Err-unit_at-clause-refused c =
    let file : SpefText = c.args.file.now in
    inr (
      (c.in-Ok.unit, of_item Capacitance file file.reading.head.cap_unit c.in-Ok.unit (ap (λ f. f.head.cap_unit) c.file-inside.view_is ∙ ap (λ f. f.reading.head.cap_unit) c.file.view_is) c.in-Ok.ensures.ok),
      bad_item Resistance file file.reading.head.res_unit c.in-Err-unit_at.token (ap (λ f. f.head.res_unit) c.file-inside.view_is ∙ ap (λ f. f.reading.head.res_unit) c.file.view_is) c.in-Err-unit_at.ensures.bad,
    )

pub returns-in-Err-read_places-clause-refused : goal.returns-in-Err-read_places-clause-refused
returns-in-Err-read_places-clause-refused c =
    let file : SpefText = c.args.file.now in
    of_repeat file c.in-Err-read_places.end
    (c.in-Ok.unit, of_item Capacitance file file.reading.head.cap_unit c.in-Ok.unit (ap (λ f. f.head.cap_unit) c.file-inside.view_is ∙ ap (λ f. f.reading.head.cap_unit) c.file.view_is) c.in-Ok.ensures.ok)
    (c.in-Ok-unit_at.unit, of_item Resistance file file.reading.head.res_unit c.in-Ok-unit_at.unit (ap (λ f. f.head.res_unit) c.file-inside.view_is ∙ ap (λ f. f.reading.head.res_unit) c.file.view_is) c.in-Ok-unit_at.ensures.ok)
    c.in-Err-read_places.ensures.repeated

pub returns-in-Err-read_places-clause-only : goal.returns-in-Err-read_places-clause-only
returns-in-Err-read_places-clause-only c head of_file = only_want c.args.file.now c.in-Err-read_places.end head c.in-Err-read_places.ensures.repeated of_file
