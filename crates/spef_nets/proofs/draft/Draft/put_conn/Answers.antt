use Rattle.spef_nets.proofs.draft.Draft.put_conn.Goals as goal

-- src/draft.rt
pub returns : goal.returns
returns g c = record {
  number = c.in_ok-node.node;
  numbered = c.in_ok-node.ensures;
  loads = c.in_ok-push_farads.ensures;
  is = λ i. record {
    net = c.args.self.now.net;
    nodes = c.number.new.self.nodes.nodes;
    conns = c.in_ok-push.ensures.ok i;
    loads = c.push_farads.new.values.items;
    caps = c.args.self.now.caps.items;
    farads = c.args.self.now.farads.items;
    joints = c.args.self.now.joints.items;
    ohms = c.args.self.now.ohms.items;
    written = 0;
  };
}
