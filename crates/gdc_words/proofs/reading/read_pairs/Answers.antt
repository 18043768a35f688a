-- Each exit is a case of the pairs that are left, and so of all.
use Rattle.std.proofs.Common.{◌≡◌, ℕ, List, [], Ok, Err, sym, arith, subst}
use Rattle.gdc_words.specs.declared.faults.UsageFault.{UsageFault}
use Rattle.gdc_words.specs.declared.faults.UsageKind.TheVariants.{MissingValue}
use Rattle.gdc_words.specs.declared.faults.WordsEnd.TheVariants.{Usage}
use Rattle.gdc_words.specs.CommandLine.{PairsFrom, no_more, bad_key, no_value, new_key, key_of, fault_at}
use Rattle.gdc_words.specs.WordsEnds.{FaultOf}
use Rattle.gdc_words.proofs.WordPairs.{handed_on, no_word, one_word, two_words, length-after_two, pair_more, value_end}
use Rattle.gdc_words.proofs.reading.read_pairs.Goals as goal

pub returns-in_err-key-clause-err : goal.returns-in_err-key-clause-err
returns-in_err-key-clause-err c =
    let faulty : new_key c.args.command c.loop-rest.given.items c.loop-rest.place (key_of c.word-item.result) ≡ Err c.in_err-key.field-0.0 = cc (c.in_err-key.ensures) in
    handed_on c.from_residual.result (Usage c.in_err-key.field-0.0) (FaultOf (PairsFrom c.args.command [] 2 c.args.words.now)) c.from_residual.ensures.1
    (c.loop-rest.invariant.later _
    (subst (λ (words : List (List ℕ)). PairsFrom c.args.command c.loop-rest.given.items c.loop-rest.place words (Err c.in_err-key.field-0.0))
    (sym (two_words c.loop-rest.rest.now c.word-item.result c.value-item.result c.in-len2-up.len_at_least c.word-item.is c.value-item.is)) (bad_key faulty)))

pub returns-in_err-pair-clause-err : goal.returns-in_err-pair-clause-err
returns-in_err-pair-clause-err c =
    let names : new_key c.args.command c.loop-rest.given.items c.loop-rest.place (key_of c.word-item.result) ≡ Ok c.in_ok-key.key = cc (c.in_ok-key.ensures) in
    handed_on c.from_residual-in_err-pair.result c.in_err-pair.field-0.0 (FaultOf (PairsFrom c.args.command [] 2 c.args.words.now)) c.from_residual-in_err-pair.ensures.1
    (value_end c.args.command c.loop-rest.given.items c.loop-rest.place c.loop-rest.rest.now c.word-item.result c.value-item.result c.in_ok-key.key c.in_err-pair.field-0.0 (PairsFrom c.args.command [] 2 c.args.words.now)
    c.in-len2-up.len_at_least c.word-item.is c.value-item.is names (rw c.bytes-in-len2-up.ensures at c.in_err-pair.ensures.err) c.loop-rest.invariant.later)

pub loop-rest-preserved : goal.loop-rest-preserved
loop-rest-preserved c =
    let names : new_key c.args.command c.loop-rest.given.items c.loop-rest.place (key_of c.word-item.result) ≡ Ok c.in_ok-key.key = cc (c.in_ok-key.ensures) in
    let good = rw c.bytes-in-len2-up.ensures at c.in_ok-pair.ensures.ok in
    let count = length-after_two c.loop-rest.rest.now c.in-len2-up.len_at_least in
    record {
      later = λ answer pairs. c.loop-rest.invariant.later answer
          (pair_more c.args.command c.loop-rest.given.items c.loop-rest.place c.loop-rest.rest.now c.word-item.result c.value-item.result c.in_ok-key.key c.in_ok-pair.pair answer
          c.in-len2-up.len_at_least c.word-item.is c.value-item.is names good.0 good.1 (rw c.in_ok-push.ensures.items at pairs));
      places = omega (arith, c.loop-rest.invariant.places, count);
    }

pub returns-in-empty-clause-ok : goal.returns-in-empty-clause-ok
returns-in-empty-clause-ok c =
    c.loop-rest.invariant.later _
    (subst (λ (words : List (List ℕ)). PairsFrom c.args.command c.loop-rest.given.items c.loop-rest.place words (Ok c.loop-rest.given.items)) (sym (no_word c.loop-rest.rest.now c.in-empty.len_below)) no_more)

pub returns-in_err-_key-in-len1-up-clause-err : goal.returns-in_err-_key-in-len1-up-clause-err
returns-in_err-_key-in-len1-up-clause-err c =
    let fault = c.in_err-_key-in-len1-up.field-0.0 in
    let faulty : new_key c.args.command c.loop-rest.given.items c.loop-rest.place (key_of c.word-item-2.result) ≡ Err fault = cc (c.in_err-_key-in-len1-up.ensures) in
    handed_on c.from_residual-in_err-_key-in-len1-up.result (Usage fault) (FaultOf (PairsFrom c.args.command [] 2 c.args.words.now)) c.from_residual-in_err-_key-in-len1-up.ensures.1
    (c.loop-rest.invariant.later _
    (subst (λ (words : List (List ℕ)). PairsFrom c.args.command c.loop-rest.given.items c.loop-rest.place words (Err fault))
    (sym (one_word c.loop-rest.rest.now c.word-item-2.result c.in-len1-up.len_at_least c.in_default.len_below c.word-item-2.is)) (bad_key faulty)))

pub returns-in_ok-_key-in-len1-up-clause-err : goal.returns-in_ok-_key-in-len1-up-clause-err
returns-in_ok-_key-in-len1-up-clause-err c =
    let names : new_key c.args.command c.loop-rest.given.items c.loop-rest.place (key_of c.word-item-2.result) ≡ Ok c.in_ok-_key-in-len1-up._key = cc (c.in_ok-_key-in-len1-up.ensures) in
    subst (λ (fault : UsageFault). PairsFrom c.args.command [] 2 c.args.words.now (Err fault)) (sym c.fault_at.ensures)
    (c.loop-rest.invariant.later _
    (subst (λ (words : List (List ℕ)). PairsFrom c.args.command c.loop-rest.given.items c.loop-rest.place words (Err (fault_at MissingValue c.loop-rest.place)))
    (sym (one_word c.loop-rest.rest.now c.word-item-2.result c.in-len1-up.len_at_least c.in_default.len_below c.word-item-2.is)) (no_value names)))
