-- What stands at the front, by the first byte.
use Rattle.std.proofs.Common.{ℕ, sym, ap, ◌∙◌}
use Rattle.token_texts.specs.ByteLemmas.{not_byte}
use Rattle.verilog_netlist.specs.Tokens.{word_cut, number_cut, cut_at}
use Rattle.token_texts.specs.declared.cuts.Cut.TheVariants.{Skip, Take}
use Rattle.verilog_netlist.proofs.Cutting.{cut_blank, cut_name, cut_digit, cut_backslash, cut_directive, cut_slash, cut_paren, cut_mark, within_of}
use Rattle.verilog_netlist.proofs.scan.cut_at.Goals as goal

pub returns-then-is_blank-clause-value : goal.returns-then-is_blank-clause-value
returns-then-is_blank-clause-value c = sym (cut_blank c.args.first c.args.rest.now (sym c.is_blank.ensures ∙ c.if-is_blank.true))

pub returns-then-begins_name-clause-value : goal.returns-then-begins_name-clause-value
returns-then-begins_name-clause-value c =
    c.word_cut.ensures ∙ ap word_cut c.requires.parts ∙ sym (cut_name c.args.first c.args.rest.now (sym c.is_blank.ensures ∙ c.if-is_blank.false) (sym c.begins_name.ensures ∙ c.if-begins_name.true))

pub returns-then-begins_name-clause-within : goal.returns-then-begins_name-clause-within
returns-then-begins_name-clause-within c = within_of c.args.first c.args.rest.now _ _ c.requires.parts (returns-then-begins_name-clause-value c)

pub returns-then-is_digit-clause-value : goal.returns-then-is_digit-clause-value
returns-then-is_digit-clause-value c =
    c.number_cut.ensures ∙ ap number_cut c.requires.parts
    ∙ sym (cut_digit c.args.first c.args.rest.now (sym c.is_blank.ensures ∙ c.if-is_blank.false) (sym c.begins_name.ensures ∙ c.if-begins_name.false) (sym c.is_digit.ensures ∙ c.if-is_digit.true))

pub returns-then-is_digit-clause-within : goal.returns-then-is_digit-clause-within
returns-then-is_digit-clause-within c = within_of c.args.first c.args.rest.now _ _ c.requires.parts (returns-then-is_digit-clause-value c)

pub returns-then-first-eq92-clause-value : goal.returns-then-first-eq92-clause-value
returns-then-first-eq92-clause-value c = c.escaped_cut.ensures ∙ sym (cut_backslash c.args.rest.now) ∙ ap (λ (b : ℕ). cut_at b c.args.rest.now) (sym c.if-first-eq92.true)

pub returns-then-first-eq92-clause-within : goal.returns-then-first-eq92-clause-within
returns-then-first-eq92-clause-within c = within_of c.args.first c.args.rest.now _ _ c.requires.parts (returns-then-first-eq92-clause-value c)

pub returns-then-first-eq96-clause-value : goal.returns-then-first-eq96-clause-value
returns-then-first-eq96-clause-value c = ap (λ (n : ℕ). Skip n) c.line_length.ensures.value ∙ sym (cut_directive c.args.rest.now) ∙ ap (λ (b : ℕ). cut_at b c.args.rest.now) (sym c.if-first-eq96.true)

pub returns-then-first-eq47-clause-value : goal.returns-then-first-eq47-clause-value
returns-then-first-eq47-clause-value c = c.slash_cut.ensures ∙ sym (cut_slash c.args.rest.now) ∙ ap (λ (b : ℕ). cut_at b c.args.rest.now) (sym c.if-first-eq47.true)

pub returns-then-first-eq47-clause-within : goal.returns-then-first-eq47-clause-within
returns-then-first-eq47-clause-within c = within_of c.args.first c.args.rest.now _ _ c.requires.parts (returns-then-first-eq47-clause-value c)

pub returns-then-first-eq40-clause-value : goal.returns-then-first-eq40-clause-value
returns-then-first-eq40-clause-value c = c.paren_cut.ensures ∙ sym (cut_paren c.args.rest.now) ∙ ap (λ (b : ℕ). cut_at b c.args.rest.now) (sym c.if-first-eq40.true)

pub returns-then-first-eq40-clause-within : goal.returns-then-first-eq40-clause-within
returns-then-first-eq40-clause-within c = within_of c.args.first c.args.rest.now _ _ c.requires.parts (returns-then-first-eq40-clause-value c)

pub returns-else-first-eq47-clause-value : goal.returns-else-first-eq47-clause-value
returns-else-first-eq47-clause-value c =
    sym (cut_mark c.args.first c.args.rest.now (sym c.is_blank.ensures ∙ c.if-is_blank.false) (sym c.begins_name.ensures ∙ c.if-begins_name.false) (sym c.is_digit.ensures ∙ c.if-is_digit.false)
    (not_byte _ 92 c.if-first-eq92.false) (not_byte _ 96 c.if-first-eq96.false) (not_byte _ 47 c.if-first-eq47.false) (not_byte _ 40 c.if-first-eq40.false)
    ∙ ap (λ k. Take 1 k) c.in_default.ensures.none)
