-- The text of a token is the one at its place, with its length.
use Rattle.std.proofs.Common.{◌+◌, ◌%◌, ◌<◌, ap, sym, ◌∙◌, arith}
use Rattle.spef_text.proofs.Starting.{length_there, place_of_number, text_there, no_text_there}
use Rattle.spef_text.proofs.file.SpefFile.text_of.Goals as goal

pub token_at-requires-clause-len : goal.token_at-requires-clause-len
token_at-requires-clause-len c =
    length_there c.self.inside.bytes.now c.self.inside.starts.items c.self.inside.lens.items
    ((c.args.number + 18446744073709551615) % 18446744073709551616) c.index.result.now c.index-then-place-len.result.now
    c.self.invariant.2 (omega (arith, c.len.ensures, c.if-place-len.true)) c.index.ensures c.index-then-place-len.ensures

pub returns-then-place-len : goal.returns-then-place-len
returns-then-place-len c =
    let some : 0 < c.args.number = omega (arith, c.if-place-len.true, c.len.type_inv) in
    c.token_at.ensures
    ∙ text_there c.args.self.now c.self.inside.bytes.now c.self.inside.starts.items c.args.number
    ((c.args.number + 18446744073709551615) % 18446744073709551616) c.index.result.now (sym (ap (λ f. f.texts) c.self.view_is))
    some (place_of_number c.args.number some c.ranges.number.fits) (omega (arith, c.len.ensures, c.if-place-len.true)) c.index.ensures

pub returns-else-place-len : goal.returns-else-place-len
returns-else-place-len c =
    sym (no_text_there c.args.self.now c.self.inside.bytes.now c.self.inside.starts.items c.args.number
    ((c.args.number + 18446744073709551615) % 18446744073709551616) (sym (ap (λ f. f.texts) c.self.view_is))
    (λ some. place_of_number c.args.number some c.ranges.number.fits) (omega (arith, c.len.ensures, c.if-place-len.false)))
