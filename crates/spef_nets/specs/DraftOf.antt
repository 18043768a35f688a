-- What the fields of `Draft` are.
use Rattle.spef_nets.specs.Drafts.{Drafted}
use Rattle.spef_nets.specs.RefsOf.{refs_of}
use Rattle.spef_nets.specs.declared.draft.Draft.{Draft}

abbrev pub drafted : Draft → Drafted
drafted draft = record {
  refs = refs_of draft.refs;
  net = record {
    net = draft.net;
    nodes = draft.refs.nodes.nodes;
    conns = draft.conns.items;
    loads = draft.loads.items;
    caps = draft.caps.items;
    farads = draft.farads.items;
    joints = draft.joints.items;
    ohms = draft.ohms.items;
    written = 0;
  };
}
