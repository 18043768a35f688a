-- Why a file cannot end where it ends, and that a broken token stands nowhere.
use Rattle.std.proofs.Common.{◌≡◌, ℕ, List, None, Err, refl, sym}
use Rattle.sdf_reader.specs.Steps.{next_of}
use Rattle.sdf_reader.specs.Modes.{finish_in}
use Rattle.sdf_reader.specs.declared.modes.Mode.{Mode}
use Rattle.sdf_reader.specs.declared.modes.Mode.TheVariants as mode
use Rattle.sdf_reader.specs.Classes as class
use Rattle.sdf_reader.specs.declared.ends.SdfCause.{SdfCause}
use Rattle.sdf_reader.specs.declared.ends.SdfCause.TheVariants as cause
use Rattle.sdf_reader.specs.declared.rows.SdfRow.{SdfRow}
use Rattle.sdf_reader.proofs.Clashes.{never_refused, same_err}

-- what does not begin a token, and what does not end, stands nowhere
pub broken_nowhere : (m : Mode) (bytes : List ℕ) → next_of m class.Broken bytes ≡ None
broken_nowhere mode.Start bytes = refl
broken_nowhere _ bytes = refl

-- at the end of the file there is one cause
pub end_cause : (m : Mode) (rows : List SdfRow) (c : SdfCause) → finish_in m rows ≡ Err c → c ≡ cause.EndInside
end_cause mode.End rows c e = never_refused e
end_cause _ rows c e = sym (same_err e)
