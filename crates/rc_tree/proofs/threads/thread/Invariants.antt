use Rattle.rc_tree.proofs.Threading.{Threading}
use Rattle.rc_tree.proofs.threads.thread.Given as goal

abbrev pub invariant-loop-place : goal.invariant-loop-place
invariant-loop-place l = Threading l.near l.nodes l.threads.heads.items l.threads.nexts.items l.place
