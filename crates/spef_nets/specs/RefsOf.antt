-- What the fields of `Referred` are.
use Rattle.std.specs.Prelude.{map}
use Rattle.spef_nets.specs.Nodes.{node_at}
use Rattle.spef_nets.specs.Refs.{Refs, words_at}
use Rattle.spef_nets.specs.declared.referred.Referred.{Referred}

abbrev pub refs_of : Referred → Refs
refs_of r = record {
  file = r.nodes.file;
  words = words_at r.nodes.file r.words;
  places = r.places.items;
  names = map (node_at r.nodes.file) r.words;
  keys = r.table;
  marks = r.marks.items;
  nodes = r.nodes.nodes;
}
