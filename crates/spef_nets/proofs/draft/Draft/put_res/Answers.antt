use Rattle.spef_nets.specs.RefsOf.{refs_of}
use Rattle.spef_nets.proofs.draft.Draft.put_res.Goals as goal

-- src/draft.rt
pub returns : goal.returns
returns g c = record {
  a = c.in_ok-a.a;
  b = c.in_ok-b.b;
  middle = refs_of c.number.new.self;
  first_numbered = c.in_ok-a.ensures;
  second_numbered = c.in_ok-b.ensures;
  ohms = c.in_ok-push_ohms.ensures;
  is = λ i. record {
    net = c.args.self.now.net;
    nodes = c.number-2.new.self.nodes.nodes;
    conns = c.args.self.now.conns.items;
    loads = c.args.self.now.loads.items;
    caps = c.args.self.now.caps.items;
    farads = c.args.self.now.farads.items;
    joints = c.in_ok-push.ensures.ok i;
    ohms = c.push_ohms.new.values.items;
    written = 0;
  };
}
