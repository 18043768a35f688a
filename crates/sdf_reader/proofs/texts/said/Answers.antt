-- Without a backslash each byte stands for itself.
use Rattle.std.proofs.Common.{ℕ, ◌≡◌, List, IfOk, subst, eq-eqb, arith}
use Rattle.sdf_reader.proofs.Saying.{plain_text}
use Rattle.sdf_reader.proofs.texts.said.Goals as goal

pub returns-in-None : goal.returns-in-None
returns-in-None c =
    subst (λ (l : List ℕ). IfOk c.from_bytes.result (λ text. text ≡ l)) (plain_text c.args.raw.now (λ i lt e. c.in-None.ensures i (omega arith) lt (eq-eqb _ 92 e))) c.from_bytes.ensures
