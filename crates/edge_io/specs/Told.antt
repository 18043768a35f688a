-- What something outside tells of the bytes in it: `None` where it does not tell.
use Rattle.std.specs.Prelude.{◌≡◌, ℕ, ◌+◌, ◌≤◌, List, [], ◌++◌, length, take, Option, Some, None, min}
use Rattle.std.proofs.Common.{refl, ap, sym, ◌∙◌, arith}
use Rattle.std.proofs.lemmas.List.{append_assoc, append-nil, take-append-le, take_min}
use Rattle.std.proofs.Math.Seq.{take-append-add, take-length}

-- what is told after these bytes were put at the end
abbrev pub appended : Option (List ℕ) → List ℕ → Option (List ℕ)
appended None text = None
appended (Some before) text = Some (before ++ text)

-- a front of the text, maybe all of it or nothing, was put at the end
abbrev pub AppendsFrontOf : List ℕ → Option (List ℕ) → Option (List ℕ) → Type 0
AppendsFrontOf text before after = (count : ℕ) × (after ≡ appended before (take count text))

-- one text after another
pub appended-appended : (before : Option (List ℕ)) (first second : List ℕ)
    → appended (appended before first) second ≡ appended before (first ++ second)
appended-appended None first second = refl
appended-appended (Some before) first second = ap Some (append_assoc before first second)

-- nothing
pub appended-nothing : (before : Option (List ℕ)) → appended before [] ≡ before
appended-nothing None = refl
appended-nothing (Some before) = ap Some (append-nil before)

-- a front of a text is a front of a longer one that begins with it
pub front_of_first : (first second : List ℕ) (before after : Option (List ℕ)) → AppendsFrontOf first before after
    → AppendsFrontOf (first ++ second) before after
front_of_first first second before after f =
    let count = min f.0 (length first) in
    let le : count ≤ length first = omega arith in
    (count, f.1 ∙ ap (appended before) (sym (take-append-le count first second le ∙ take_min f.0 first)))

-- after a whole text, a front of the next is a front of both
pub front_after : (first second : List ℕ) (before middle after : Option (List ℕ)) → middle ≡ appended before first
    → AppendsFrontOf second middle after → AppendsFrontOf (first ++ second) before after
front_after first second before middle after whole f = (
  length first + f.0,
  f.1 ∙ ap (λ m. appended m (take f.0 second)) whole ∙ appended-appended before first (take f.0 second) ∙ ap
      (appended before) (sym (take-append-add first second f.0)),
)

-- all of a text is a front of it
pub front_of_all : (text : List ℕ) (before after : Option (List ℕ)) → after ≡ appended before text → AppendsFrontOf text before after
front_of_all text before after whole = (length text, whole ∙ ap (appended before) (sym (take-length text)))
