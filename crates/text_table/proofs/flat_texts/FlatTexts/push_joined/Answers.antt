-- The bytes of the text stand behind those before, and its place behind theirs.
use Rattle.std.proofs.Common.{◌≡◌, ◌∷◌, ◌++◌, length, ap, ◌∙◌, arith}
use Rattle.std.proofs.lemmas.Result.{err_from_is_err_and}
use Rattle.text_table.specs.FlatTexts.{texts_of}
use Rattle.text_table.proofs.TextPieces.{texts_kept, texts_put}
use Rattle.text_table.proofs.flat_texts.FlatTexts.push_joined.Goals as goal

pub returns-in_err-extend-clause-err : goal.returns-in_err-extend-clause-err
returns-in_err-extend-clause-err c =
    let p = err_from_is_err_and c.from_residual-in_err-extend.result c.from_residual-in_err-extend.ensures.1 in
    rw (p.1) (texts_kept c.self.inside.bytes.items c.self.inside.pieces.items c.extend.ensures.kept c.self.invariant c.self.view_is)

pub returns-in_err-len-clause-err : goal.returns-in_err-len-clause-err
returns-in_err-len-clause-err c =
    let p = err_from_is_err_and c.from_residual-in_err-len.result c.from_residual-in_err-len.ensures.1 in
    rw (p.1) (texts_kept c.self.inside.bytes.items c.self.inside.pieces.items c.extend.ensures.kept c.self.invariant c.self.view_is)

pub returns-in_err-push-clause-err : goal.returns-in_err-push-clause-err
returns-in_err-push-clause-err c =
    let p = err_from_is_err_and c.from_residual-in_err-push.result c.from_residual-in_err-push.ensures.1 in
    rw (p.1)
    (ap (texts_of c.extend.new.bytes.items) c.in_err-push.ensures.err
    ∙ texts_kept c.self.inside.bytes.items c.self.inside.pieces.items c.extend.ensures.kept c.self.invariant c.self.view_is)

pub returns-clause-ok : goal.returns-clause-ok
returns-clause-ok c =
    let start : c.in_ok-start.start ≡ length c.self.inside.bytes.items = (let is = c.in_ok-start.ensures in let len = c.len.ensures in omega arith) in
    let end : c.in_ok-len.field-0 ≡ length c.extend.new.bytes.items = (let is = c.in_ok-len.ensures in let len = c.len-2.ensures in omega arith) in
    texts_put c.self.inside.bytes.items (c.args.path.now ++ c.args.name.now ++ c.args.suffix.now) c.self.inside.pieces.items
    c.in_ok-start.start c.in_ok-len.field-0 c.in_ok-extend.ensures.ok c.in_ok-push.ensures.ok start end c.self.invariant c.self.view_is
