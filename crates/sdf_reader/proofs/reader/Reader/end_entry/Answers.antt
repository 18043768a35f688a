-- The times of the row are those of its entry.
use Rattle.sdf_reader.proofs.SizeLemmas.{row_in_within}
use Rattle.sdf_reader.proofs.reader.Reader.end_entry.Goals as goal

pub push-requires-clause-within : goal.push-requires-clause-within
push-requires-clause-within c = rw c.in_ok-row-in-Some.ensures (row_in_within c.args.shape _ _ _ _ _ _ c.requires.rise c.requires.fall)
