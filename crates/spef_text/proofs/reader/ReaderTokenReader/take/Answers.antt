-- A token is taken, or refused, behind those before it.
use Rattle.std.proofs.Common.{ℕ, [], ◌∷◌, ◌++◌, ◌∙◌, ap}
use Rattle.spef_text.proofs.SoFar.{taken, refused}
use Rattle.spef_text.proofs.reader.ReaderTokenReader.take.Goals as goal

pub returns-then-branch-clause-state : goal.returns-then-branch-clause-state
returns-then-branch-clause-state c = λ before is_next leads.
    taken before c.args.number c.args.start c.args._kind c.args.bytes.now c.args.self.now is_next leads c.take_token.new.self
    (rw c.if-branch.true at c.in_ok-take_token.ensures.state)
    (ap (λ starts. starts.items) c.take_token.ensures.starts ∙ c.in_ok-push.ensures.ok)
    (ap (λ lens. lens.items) c.take_token.ensures.lens ∙ c.in_ok-push-2.ensures.ok ∙ ap (λ (n : ℕ). c.args.self.now.lens.items ++ n ∷ []) c.short_len.ensures)

pub returns-else-branch-clause-state : goal.returns-else-branch-clause-state
returns-else-branch-clause-state c = λ before is_next leads.
    refused before c.args.number c.args.start c.args._kind c.args.bytes.now c.args.self.now is_next leads c.refusal.result
    (rw c.if-branch.false at c.in_ok-take_token.ensures.state) c.refusal.ensures
