use Rattle.std.proofs.Common.{ℕ, Vec, Global, sym}
use Rattle.name_table.proofs.Keys.{not_among, found_at}
use Rattle.name_table.proofs.names.place_of.Goals as goal

-- src/names.rt
pub returns-in_err-place-clause-absent : goal.returns-in_err-place-clause-absent
returns-in_err-place-clause-absent c =
    rw c.from_residual.ensures (not_among {K = Vec ℕ Global} (λ key. key.items) c.args.text.now c.args.texts.now.keys (sym c.in_err-place.ensures.key))

pub returns-clause-found : goal.returns-clause-found
returns-clause-found c =
    found_at {K = Vec ℕ Global} (λ key. key.items) c.args.text.now c.args.texts.now.keys c.in_ok-place.field-0-1.now c.in_ok-place.place (sym c.in_ok-place.ensures.key) c.in_ok-place.ensures.stored
