-- What is handed on of an answer, a value or an error.
use Rattle.std.proofs.Common.{◌≡◌, Ok, Err, Result, Option, Some, None, sym, subst}
use Rattle.std.specs.Prelude.{IfOk, IfErr, IfSome, IfNone, IsErrAnd}

pub handed_on : {T E : Type 0} (r : Result T E) (end : E) (P : E → Type 0) → IsErrAnd r (λ e. e ≡ end) → P end → IfErr r P
handed_on (Ok x) end P is holds = tt
handed_on (Err e) end P is holds = subst P (sym is) holds

-- the answer is an error that is handed on
pub answered : {T E : Type 0} (r : Result T E) (end : E) (R : Result T E → Type 0) → IsErrAnd r (λ e. e ≡ end) → R (Err end) → R r
answered (Ok x) end R is holds = absurd is
answered (Err e) end R is holds = subst (λ x. R (Err x)) (sym is) holds

-- a value that is handed on
pub kept_ok : {T E : Type 0} (r : Result T E) (P : T → Type 0) (x : T) → IfOk r (λ y. y ≡ x) → P x → IfOk r P
kept_ok (Ok y) P x same holds = subst P (sym same) holds
kept_ok (Err e) P x same holds = tt

-- what follows of each value, and of each error
pub ok_weaker : {T E : Type 0} (r : Result T E) (P Q : T → Type 0) → ((x : T) → P x → Q x) → IfOk r P → IfOk r Q
ok_weaker (Ok x) P Q follows holds = follows x holds
ok_weaker (Err e) P Q follows holds = tt

pub err_weaker : {T E : Type 0} (r : Result T E) (P Q : E → Type 0) → ((e : E) → P e → Q e) → IfErr r P → IfErr r Q
err_weaker (Ok x) P Q follows holds = tt
err_weaker (Err e) P Q follows holds = follows e holds

-- the same where there may be no value
pub some_weaker : {T : Type 0} (o : Option T) (P Q : T → Type 0) → ((x : T) → P x → Q x) → IfSome o P → IfSome o Q
some_weaker (Some x) P Q follows holds = follows x holds
some_weaker None P Q follows holds = tt

pub none_weaker : {T : Type 0} (o : Option T) (P Q : Type 0) → (P → Q) → IfNone o P → IfNone o Q
none_weaker (Some x) P Q follows holds = tt
none_weaker None P Q follows holds = follows holds
