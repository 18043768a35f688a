-- The first word is the command, and the others ask for the rest.
use Rattle.std.proofs.Common.{◌≡◌, ◌-◌, ℕ, List, [], ◌∷◌, length, take, drop, None, Some, Ok, IfOk, IfErr, sym, subst}
use Rattle.gdc_words.specs.CommandLine.{Asks, no_command, unknown_command, command_of}
use Rattle.gdc_words.specs.WordsEnds.{FaultOf}
use Rattle.gdc_words.proofs.Pairs.{answers_only, known_ok, known_err}
use Rattle.gdc_words.proofs.WordPairs.{no_word, first_word}
use Rattle.gdc_words.proofs.reading.read_words.Goals as goal

pub returns-in-empty-clause-err : goal.returns-in-empty-clause-err
returns-in-empty-clause-err c =
    let none : c.args.words.now ≡ [] = no_word c.args.words.now (rw c.as_slice.ensures at c.in-empty.len_below) in
    rw (none, c.fault_at.ensures) no_command

pub returns-in-None-clause-err : goal.returns-in-None-clause-err
returns-in-None-clause-err c =
    let words = c.as_slice.result.now in
    let is : words ≡ c.word-item.result ∷ take (length words - 1) (drop 1 words) = first_word words c.word-item.result c.in-len1-up.len_at_least c.word-item.is in
    let unknown : command_of c.word-item.result ≡ None = sym (rw c.bytes.ensures at c.in-None.ensures) in
    rw (← c.as_slice.ensures, c.fault_at-in-None.ensures) (subst (λ (l : List (List ℕ)). Asks l _) (sym is) (unknown_command unknown))

pub returns-in-Some-clause-ok : goal.returns-in-Some-clause-ok
returns-in-Some-clause-ok c =
    let words = c.as_slice.result.now in
    let is : words ≡ c.word-item.result ∷ take (length words - 1) (drop 1 words) = first_word words c.word-item.result c.in-len1-up.len_at_least c.word-item.is in
    let known : command_of c.word-item.result ≡ Some c.in-Some.command = sym (rw c.bytes.ensures at c.in-Some.ensures) in
    rw (← c.as_slice.ensures)
    (subst (λ (l : List (List ℕ)). IfOk c.read_request.result (λ asked. Asks l (Ok asked))) (sym is) (known_ok _ _ c.in-Some.command c.read_request.result known c.read_request.ensures.ok))

pub returns-in-Some-clause-err : goal.returns-in-Some-clause-err
returns-in-Some-clause-err c =
    let words = c.as_slice.result.now in
    let is : words ≡ c.word-item.result ∷ take (length words - 1) (drop 1 words) = first_word words c.word-item.result c.in-len1-up.len_at_least c.word-item.is in
    let known : command_of c.word-item.result ≡ Some c.in-Some.command = sym (rw c.bytes.ensures at c.in-Some.ensures) in
    rw (← c.as_slice.ensures)
    (subst (λ (l : List (List ℕ)). IfErr c.read_request.result (FaultOf (Asks l))) (sym is) (known_err _ _ c.in-Some.command c.read_request.result known c.read_request.ensures.err))

pub returns-in-Some-clause-only : goal.returns-in-Some-clause-only
returns-in-Some-clause-only c = answers_only c.args.words.now c.read_request.result (returns-in-Some-clause-ok c) (returns-in-Some-clause-err c)
