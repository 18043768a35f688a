use Rattle.std.proofs.Common.{ℕ, Global, sym}
use Rattle.std.specs.declared.borrow.CowSlice.{CowSlice}
use Rattle.std.specs.Cow.{cow_slice_items}
use Rattle.name_table.proofs.Keys.{not_among, found_at}
use Rattle.spef_nets.proofs.net_names.place_of.Goals as goal

-- src/net_names.rt
pub returns-in_err-place-clause-absent : goal.returns-in_err-place-clause-absent
returns-in_err-place-clause-absent c =
    rw c.from_residual.ensures (not_among {K = CowSlice ℕ Global} (λ name. cow_slice_items name) c.args.name.now c.args.names.now.keys (sym c.in_err-place.ensures.key))

pub returns-clause-found : goal.returns-clause-found
returns-clause-found c =
    found_at {K = CowSlice ℕ Global} (λ name. cow_slice_items name) c.args.name.now c.args.names.now.keys c.in_ok-place.field-0-1.now c.in_ok-place.place (sym c.in_ok-place.ensures.key) c.in_ok-place.ensures.stored
