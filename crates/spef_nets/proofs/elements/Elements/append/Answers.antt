use Rattle.spef_nets.proofs.elements.Elements.append.Goals as goal

-- src/elements.rt
pub returns : goal.returns
returns c = λ i. record {
  conns = c.in_ok-put_all.ensures i;
  loads = c.in_ok-put_all-2.ensures i;
  caps = c.in_ok-put_all-3.ensures i;
  farads = c.in_ok-put_all-4.ensures i;
  joints = c.in_ok-put_all-5.ensures i;
  ohms = c.in_ok-put_all-6.ensures i;
}
