-- The pairs that are read ask for what the words ask for, if they stand together and no needed key is missing.
use Rattle.std.proofs.Common.{◌≡◌, Some, None, sym, ◌∙◌}
use Rattle.gdc_words.specs.CommandLine.{AsksFor, mixed_keys, no_key, with_keys, mixed_key, first_missing}
use Rattle.gdc_words.specs.declared.faults.UsageKind.TheVariants.{Mixed, MissingKey}
use Rattle.gdc_words.specs.WordsEnds.{FaultOf}
use Rattle.gdc_words.proofs.Pairs.{asked_whole}
use Rattle.gdc_words.proofs.WordPairs.{handed_on, pair_end, key_fault}
use Rattle.gdc_words.proofs.reading.read_request.Goals as goal

pub returns-in_err-given-clause-err : goal.returns-in_err-given-clause-err
returns-in_err-given-clause-err c =
    handed_on c.from_residual.result c.in_err-given.field-0.0 (FaultOf (AsksFor c.args.command c.args.words.now)) c.from_residual.ensures.1
    (pair_end c.args.command c.args.words.now c.in_err-given.field-0.0 c.in_err-given.ensures.err)

pub returns-in-Some-clause-err : goal.returns-in-Some-clause-err
returns-in-Some-clause-err c =
    let mixed : mixed_key c.in_ok-given.given.items ≡ Some c.in-Some.key = cc (c.mixed_key.ensures, c.deref.ensures.value) in
    key_fault c.args.command c.args.words.now Mixed c.in-Some.key c.key_end.result c.key_end.ensures (mixed_keys c.in_ok-given.ensures.ok mixed)

pub invariant_of-result : goal.invariant_of-result
invariant_of-result c =
    let unmixed : mixed_key c.in_ok-given.given.items ≡ None = cc (c.mixed_key.ensures, c.deref.ensures.value) in
    asked_whole c.args.command c.args.words.now c.in_ok-given.given.items c.in_ok-given.ensures.ok unmixed (cc (c.first_missing.ensures, c.deref-in-None.ensures.value))

pub returns-in-None-first_missing-clause-ok : goal.returns-in-None-first_missing-clause-ok
returns-in-None-first_missing-clause-ok c =
    let unmixed : mixed_key c.in_ok-given.given.items ≡ None = cc (c.mixed_key.ensures, c.deref.ensures.value) in
    with_keys c.in_ok-given.ensures.ok unmixed (cc (c.first_missing.ensures, c.deref-in-None.ensures.value))

pub returns-in-Some-first_missing-clause-err : goal.returns-in-Some-first_missing-clause-err
returns-in-Some-first_missing-clause-err c =
    let unmixed : mixed_key c.in_ok-given.given.items ≡ None = cc (c.mixed_key.ensures, c.deref.ensures.value) in
    let missing : first_missing c.args.command c.in_ok-given.given.items ≡ Some c.in-Some-first_missing.key = cc (c.first_missing.ensures, c.deref-in-None.ensures.value) in
    key_fault c.args.command c.args.words.now MissingKey c.in-Some-first_missing.key c.key_end-in-Some-first_missing.result c.key_end-in-Some-first_missing.ensures
    (no_key c.in_ok-given.ensures.ok unmixed missing)
