use Rattle.std.proofs.Common.{◌≡◌, ap, subst, ◌∙◌}
use Rattle.spef_text.specs.SpefFiles.{SpefText}
use Rattle.spef_nets.specs.Nodes.{nodes_at}
use Rattle.spef_nets.specs.NodeNames.{NameNodes}
use Rattle.spef_nets.specs.Rows.{with_rows}
use Rattle.spef_nets.specs.RowsOf.{rows_of}
use Rattle.spef_nets.proofs.draft.Draft.put_into.Goals as goal

-- src/draft.rt
pub returns-clause-adds : goal.returns-clause-adds
returns-clause-adds c = record {
  tokens = c.nodes.result.now;
  named = subst (λ (file : SpefText). NameNodes file c.nodes.result.now) c.in_ok-leave_nodes.ensures.file c.nodes.ensures.each;
  are = subst (λ (file : SpefText). nodes_at file c.nodes.result.now ≡ c.args.self.now.refs.nodes.nodes) c.in_ok-leave_nodes.ensures.file
      (c.nodes.ensures.nodes ∙ c.in_ok-leave_nodes.ensures.nodes);
  nodes = c.in_ok-append.ensures.nodes;
  rows = c.in_ok-append.ensures.rows ∙ ap (with_rows (rows_of c.args.tables.now.elements)) c.elements.ensures;
  ends = c.in_ok-append.ensures.ends;
}
