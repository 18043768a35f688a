use Rattle.std.proofs.Common.{◌≡◌, ◌<◌, length, All}
use Rattle.slew_tests.proofs.tests.graphs.answer_of.Given as goal

abbrev pub invariant-loop-link : goal.invariant-loop-link
invariant-loop-link l = record {
  same : length l.targets.items ≡ length l.sources.items;
  sources : All (λ node. node < l.nodes) l.sources.items;
  targets : All (λ node. node < l.nodes) l.targets.items;
}
