use Rattle.std.proofs.Common.{◌≡◌, refl, length, map, set, ◌∙◌}
use Rattle.std.specs.Prelude.{Some}
use Rattle.spef_nets.specs.RefsOf.{refs_of}
use Rattle.spef_nets.specs.Refs.{held, fresh, numbered_mark, words_at}
use Rattle.spef_nets.specs.Nodes.{node_at}
use Rattle.spef_nets.proofs.NodeNameLemmas.{token_named}
use Rattle.spef_nets.proofs.RefLemmas.{marked_at}
use Rattle.spef_nets.proofs.referred.Referred.number.Goals as goal

pub returns-in-Some : goal.returns-in-Some
returns-in-Some c =
    held c.index.result.now c.index-mark.result.now
    (marked_at (refs_of c.args.self.now) c.args.spelling c.index.result.now c.index-mark.result.now c.requires.within c.requires.placed c.index.ensures c.index-mark.ensures)
    c.in-Some.is refl

pub returns-in_ok-push-in-None : goal.returns-in_ok-push-in-None
returns-in_ok-push-in-None c =
    let count : c.in_ok-number-in-None.number ≡ length c.args.self.now.nodes.nodes = c.in_ok-number-in-None.ensures ∙ c.len.ensures in
    let (node, named) = c.requires.named in
    let pushed = c.in_ok-push-in-None.ensures node (token_named c.args.self.now.nodes.file c.args.self.now.words c.args.spelling c.token.result node named c.token.ensures) in
    fresh c.index.result.now c.index-mark.result.now (Some node)
    (marked_at (refs_of c.args.self.now) c.args.spelling c.index.result.now c.index-mark.result.now c.requires.within c.requires.placed c.index.ensures c.index-mark.ensures)
    c.in-None.is named count
    (λ i. record {
      file = (pushed i).file;
      words = words_at (pushed i).file c.args.self.now.words;
      places = c.args.self.now.places.items;
      names = map (node_at (pushed i).file) c.args.self.now.words;
      keys = c.args.self.now.table;
      marks = set c.args.self.now.marks.items c.index.result.now (numbered_mark c.index-mark.result.now (count i));
      nodes = (pushed i).nodes;
    })
