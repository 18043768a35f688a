-- One attribute more.
use Rattle.std.proofs.Common.{◌+◌, ℕ, List, [], get_or, sym, ap, ◌∙◌, subst, arith}
use Rattle.std.proofs.lemmas.Option.{get_or_from_slice_get}
use Rattle.liberty_groups.specs.declared.rows.AttributeRow.{AttributeRow}
use Rattle.liberty_groups.proofs.Lasting.{no_row, LastSoFar, goes_on, found_here, other_name, none_named, last, absent, within}
use Rattle.liberty_groups.proofs.tree.last_of.Goals as goal
use Rattle.liberty_groups.proofs.tree.last_of.Goals.{then-rows-place, else-rows-place}

pub returns-in_err-name-clause-absent : goal.returns-in_err-name-clause-absent
returns-in_err-name-clause-absent c = λ texts. rw c.from_residual.ensures (none_named c.args.names.now c.args.key.now c.args.rows.now c.in_err-name.ensures.absent c.requires.names texts)

pub loop-place-preserved : goal.loop-place-preserved
loop-place-preserved c =
    let names : List (List ℕ) = c.args.names.now in
    let key : List ℕ = c.args.key.now in
    let rows : List AttributeRow = c.args.rows.now in
    let place : ℕ = c.loop-place.place in
    let row : AttributeRow = get_or rows place no_row in
    let some = c.loop-place-test.true in
    let named = c.in_ok-name.ensures.found in
    record {
      within = omega arith;
      last = elim c.if-rows-place.branch [
        | then-rows-place w ↦ subst (LastSoFar names key rows (place + 1)) (sym w.found-is) (found_here names key rows place
            (ap (λ (n : ℕ). get_or names n []) w.if-rows-place.true ∙ get_or_from_slice_get names _ key [] named))
        | else-rows-place w ↦ subst (LastSoFar names key rows (place + 1)) (sym w.found-is)
            (goes_on names key rows place c.loop-place.found some c.loop-place.invariant.last
            (other_name names key _ row.name.0 c.in_ok-name.ensures.distinct named (c.requires.names place no_row some) w.if-rows-place.false))
      ];
    }

pub returns-clause-last : goal.returns-clause-last
returns-clause-last c =
    last c.args.names.now c.args.key.now c.args.rows.now c.loop-place.place c.loop-place.found (let t = c.loop-place-test.false in let w = c.loop-place.invariant.within in omega arith) c.loop-place.invariant.last

pub returns-clause-within : goal.returns-clause-within
returns-clause-within c = within c.args.names.now c.args.key.now c.args.rows.now c.loop-place.place c.loop-place.found c.loop-place.invariant.within c.loop-place.invariant.last

pub returns-clause-absent : goal.returns-clause-absent
returns-clause-absent c = absent c.args.names.now c.args.key.now c.args.rows.now c.loop-place.place c.loop-place.found (let t = c.loop-place-test.false in omega arith) c.loop-place.invariant.last
