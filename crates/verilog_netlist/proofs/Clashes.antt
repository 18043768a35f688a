-- What is refused leads nowhere, and what is answered is one thing. Proved here once, in a small context: `cc` reads all that is in scope.
use Rattle.std.proofs.Common.{◌≡◌, Result, Ok, Err}

-- a step that was refused leads to no state
pub never : {A B C : Type 0} {cause : C} {after : B} → ◌≡◌ {A = Result B C} (Err cause) (Ok after) → A
never e = absurd (cc)

-- what is answered is one thing
pub same_ok : {B C : Type 0} {one other : B} → ◌≡◌ {A = Result B C} (Ok one) (Ok other) → one ≡ other
same_ok e = cc
