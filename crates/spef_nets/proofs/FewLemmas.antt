-- A few spellings that are searched through.
use Rattle.std.proofs.Common.{◌≡◌, ℕ, ◌<◌, true, List, length, get_or, ap, ◌∙◌}
use Rattle.std.specs.Prelude.{Some, slice_get}
use Rattle.std.specs.Str.{bytes_eq}
use Rattle.std.proofs.lemmas.Slice.Eq.{bytes_eq-Decides}
use Rattle.std.proofs.lemmas.Option.{slice_get-get_or}
use Rattle.spef_text.specs.SpefFiles.{SpefText}
use Rattle.spef_text.specs.Heads.{text_of}
use Rattle.spef_nets.specs.Refs.{words_at}
use Rattle.spef_nets.proofs.Lists.{map_at}

pub found_among : (file : SpefText) (tokens : List ℕ) (place d : ℕ) (word : List ℕ) → place < length tokens → bytes_eq (text_of file (get_or tokens place d)) word ≡ true
    → slice_get (words_at file tokens) place ≡ Some word
found_among file tokens place d word within same =
    map_at (text_of file) tokens place (get_or tokens place d) (slice_get-get_or tokens place d within) ∙ ap Some ((bytes_eq-Decides (text_of file (get_or tokens place d)) word).0 same)
