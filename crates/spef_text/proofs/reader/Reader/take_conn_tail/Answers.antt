-- A keyword that ends a connection is not loose, and its step is to join.
use Rattle.std.proofs.Common.{◌≡◌, false, IfOk, ap, sym, ◌∙◌, subst}
use Rattle.spef_text.specs.Classes.{is_loose, word_of, is_tight, holds_of}
use Rattle.spef_text.specs.Modes.{tail_step}
use Rattle.spef_text.specs.ReaderStates.{state_of, Steps}
use Rattle.spef_text.specs.declared.modes.Step.{Step}
use Rattle.spef_text.specs.declared.modes.Step.TheVariants.{Join}
use Rattle.spef_text.proofs.Overlaps.{tight_no_loose}
use Rattle.spef_text.proofs.reader.Reader.take_conn_tail.Goals as goal

pub returns-in-Some-clause-state : goal.returns-in-Some-clause-state
returns-in-Some-clause-state c =
    let text = c.args.text.now in
    let tight = ap (λ w. holds_of is_tight w) (sym c.word_of-word.ensures) ∙ c.in-Some.ensures.tight in
    let joins : tail_step c.args.conn false (word_of text) ≡ Join c.in-Some.mode c.args.conn = ap (tail_step c.args.conn false) (sym c.word_of-word.ensures) ∙ c.in-Some.ensures.joined c.args.conn in
    let same : tail_step c.args.conn (is_loose text) (word_of text) ≡ Join c.in-Some.mode c.args.conn = ap (λ b. tail_step c.args.conn b (word_of text)) (tight_no_loose text tight) ∙ joins in
    subst (λ (step : Step). IfOk c.join.result (Steps (state_of c.args.self.now) (state_of c.join.new.self) step)) (sym same) c.join.ensures.state
