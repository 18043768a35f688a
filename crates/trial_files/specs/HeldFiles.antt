-- What a shelf of the files of a trial holds.
use Rattle.std.specs.Prelude.{if◌then◌else◌, codes, Some, None}
use Rattle.std.specs.Str.{bytes_eq}
use Rattle.edge_io.specs.Holding.{Held}
use Rattle.trial_files.specs.declared.files.TrialFiles.{TrialFiles}

-- these files alone are held, by the names `netlist`, `library` and `spef`
abbrev pub trial_held : TrialFiles → Held
trial_held files name =
    if bytes_eq name (codes "netlist") then Some files.netlist
    else if bytes_eq name (codes "library") then Some files.library
    else if bytes_eq name (codes "spef") then Some files.spef
    else None
