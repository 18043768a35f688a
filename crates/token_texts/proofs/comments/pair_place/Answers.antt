-- The place that was found is that of the pair.
use Rattle.token_texts.specs.Searching.{pair_found}
use Rattle.token_texts.proofs.comments.pair_place.Goals as goal

pub returns-clause-value : goal.returns-clause-value
returns-clause-value c = pair_found c.args.one c.args.two c.args.bytes.now c.find.result c.find.ensures
