-- The entry at the place, by its digits.
use Rattle.std.proofs.Common.{◌≡◌, Some, sym, ap, ◌∙◌, true≢false}
use Rattle.std.proofs.lemmas.Slice.Eq.{bytes_eq-Decides}
use Rattle.spef_text.specs.Classes.{index_digits}
use Rattle.spef_text.specs.Heads.{digits_of}
use Rattle.spef_text.specs.declared.entries.MapEntry.{MapEntry}
use Rattle.spef_text.proofs.MapLemmas.{contains_at, stands_there}
use Rattle.spef_text.proofs.references.name_there.Goals as goal

pub returns-then-same_index-clause-mapped : goal.returns-then-same_index-clause-mapped
returns-then-same_index-clause-mapped c =
    let found = c.in_ok-entry.ensures.lookup.3 in
    let map = c.map.ensures ∙ ap (λ f. f.reading.head.map) c.file.view_is in
    record {
      entry = c.in_ok-entry.entry.now;
      stands = contains_at _ c.args.place _ (stands_there c.map.result.now c.args.file.now.reading.head.map c.args.place c.in_ok-entry.entry.now map found.0 found.1);
      index = ap index_digits (sym c.text_of.ensures)
          ∙ (bytes_eq-Decides (index_digits c.text_of.result.now) (index_digits c.args.index.now)).0 (sym c.same_index.ensures ∙ c.if-same_index.true);
      named = sym c.text_of-then-same_index.ensures;
    }

pub returns-else-same_index-clause-unlike : goal.returns-else-same_index-clause-unlike
returns-else-same_index-clause-unlike c entry at same =
    let found = c.in_ok-entry.ensures.lookup.3 in
    let map = c.map.ensures ∙ ap (λ f. f.reading.head.map) c.file.view_is in
    let here = stands_there c.map.result.now c.args.file.now.reading.head.map c.args.place c.in_ok-entry.entry.now map found.0 found.1 in
    let one : c.in_ok-entry.entry.now ≡ entry = let e : Some c.in_ok-entry.entry.now ≡ Some entry = sym here ∙ at in cc in
    let alike = ap index_digits c.text_of.ensures ∙ ap (λ (e : MapEntry). digits_of c.args.file.now e) one ∙ same in
    true≢false (sym ((bytes_eq-Decides (index_digits c.text_of.result.now) (index_digits c.args.index.now)).1 alike) ∙ sym c.same_index.ensures ∙ c.if-same_index.false)
