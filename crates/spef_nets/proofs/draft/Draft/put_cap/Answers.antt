use Rattle.spef_nets.proofs.draft.Draft.put_cap.Goals as goal

-- src/draft.rt
pub returns : goal.returns
returns g c = record {
  number = c.in_ok-node.node;
  numbered = c.in_ok-node.ensures;
  farads = c.in_ok-push_farads.ensures;
  is = λ i. record {
    net = c.args.self.now.net;
    nodes = c.number.new.self.nodes.nodes;
    conns = c.args.self.now.conns.items;
    loads = c.args.self.now.loads.items;
    caps = c.in_ok-push.ensures.ok i;
    farads = c.push_farads.new.values.items;
    joints = c.args.self.now.joints.items;
    ohms = c.args.self.now.ohms.items;
    written = 0;
  };
}
