-- What has been pushed belongs to the section that has begun.
use Rattle.spef_text.proofs.SectionLemmas.{pushes_conn, conn_order}
use Rattle.spef_text.proofs.sections.Sections.push_conn.Goals as goal

pub invariant_of-self-2 : goal.invariant_of-self-2
invariant_of-self-2 c = rw c.in-Ok.ensures.items (conn_order _ 0 _ _ _ c.self.invariant c.args.conn)

pub returns : goal.returns
returns c = rw (← c.self.view_is, c.in-Ok.ensures.items) (pushes_conn _ _ _ _ _ c.self.invariant c.args.conn)
