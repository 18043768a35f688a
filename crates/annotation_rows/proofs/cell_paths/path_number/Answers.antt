use Rattle.std.proofs.Common.{sym, ap, ◌∙◌}
use Rattle.std.specs.Option.{unwrap_or, option_copied}
use Rattle.annotation_rows.proofs.cell_paths.path_number.Goals as goal

-- src/cell_paths.rt
pub returns-in-Ok : goal.returns-in-Ok
returns-in-Ok c = record {
  is = sym (ap (λ found. unwrap_or found c.args.arc) (sym c.get.ensures.value ∙ ap option_copied c.in_default.is));
  all = c.in-Ok.ensures.updates.0;
}
