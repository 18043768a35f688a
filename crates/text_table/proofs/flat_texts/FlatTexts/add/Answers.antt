-- The bytes of the text stand behind those before, and its place behind theirs.
use Rattle.std.proofs.Common.{◌≡◌, ℕ, List, [], ◌∷◌, ◌++◌, length, ap, ap₂, ◌∙◌, arith}
use Rattle.std.proofs.lemmas.Result.{err_from_is_err_and}
use Rattle.text_table.specs.FlatTexts.{texts_of}
use Rattle.text_table.proofs.TextPieces.{texts_stay, texts_push, within_push}
use Rattle.text_table.proofs.flat_texts.FlatTexts.add.Goals as goal

pub returns-in_err-push-clause-err : goal.returns-in_err-push-clause-err
returns-in_err-push-clause-err c =
    let p = err_from_is_err_and c.from_residual-in_err-push.result c.from_residual-in_err-push.ensures.1 in
    rw (p.1)
    (ap₂ texts_of c.in_ok-extend_from_slice.ensures.items c.in_err-push.ensures.err
    ∙ texts_stay c.self.inside.bytes.items c.args.text.now c.self.inside.pieces.items c.self.invariant ∙ c.self.view_is)

pub invariant_of-self-2 : goal.invariant_of-self-2
invariant_of-self-2 c =
    let start : c.in_ok-start.start ≡ length c.self.inside.bytes.items = (let is = c.in_ok-start.ensures in let len = c.len-2.ensures in omega arith) in
    let len : c.in_ok-len.len ≡ length c.args.text.now = c.in_ok-len.ensures in
    rw (c.in_ok-extend_from_slice.ensures.items, c.in_ok-push.ensures.ok)
    (within_push c.self.inside.bytes.items c.args.text.now c.self.inside.pieces.items c.self.invariant
    (record { start = c.in_ok-start.start; len = c.in_ok-len.len }) start len)

pub returns-clause-ok : goal.returns-clause-ok
returns-clause-ok c =
    let start : c.in_ok-start.start ≡ length c.self.inside.bytes.items = (let is = c.in_ok-start.ensures in let len = c.len-2.ensures in omega arith) in
    let len : c.in_ok-len.len ≡ length c.args.text.now = c.in_ok-len.ensures in
    ap₂ texts_of c.in_ok-extend_from_slice.ensures.items c.in_ok-push.ensures.ok
    ∙ texts_push c.self.inside.bytes.items c.args.text.now c.self.inside.pieces.items c.self.invariant
    (record { start = c.in_ok-start.start; len = c.in_ok-len.len }) start len
    ∙ ap (λ (l : List (List ℕ)). l ++ c.args.text.now ∷ []) c.self.view_is
