-- Names stay as they are when others are put behind them.
use Rattle.std.proofs.Common.{◌≡◌, ℕ, ◌+◌, ◌<◌, ◌≤◌, List, [], ◌∷◌, ◌++◌, length, sym, ap, ap₂, ◌∙◌, arith}
use Rattle.std.proofs.lemmas.List.{length-append, append-nil, append_assoc, get_or_append_left}
use Rattle.std.proofs.Math.Seq.{get_or-append_seam}
use Rattle.sdf_writer.specs.Names.{name_at, ExtendsNames, KeepsName}

pub longer : {X : Type 0} (old more : List X) {new : List X} → new ≡ old ++ more → length old ≤ length new
longer old more e =
    let size = ap length e ∙ length-append old more in
    omega (arith, size)

pub names_grow : {names names' : List (List ℕ)} → ExtendsNames names names' → length names ≤ length names'
names_grow {names} grown = longer names grown.more grown.is

pub same_names : (names names' : List (List ℕ)) → names' ≡ names → ExtendsNames names names'
same_names names names' e = record { more = []; is = e ∙ sym (append-nil names) }

pub name_pushed : (names names' : List (List ℕ)) (name : List ℕ) → names' ≡ names ++ name ∷ [] → ExtendsNames names names'
name_pushed names names' name e = record { more = name ∷ []; is = e }

pub names_then : {first second third : List (List ℕ)} → ExtendsNames first second → ExtendsNames second third → ExtendsNames first third
names_then {first} a b = record {
  more = a.more ++ b.more;
  is = b.is ∙ ap (λ t. t ++ b.more) a.is ∙ append_assoc first a.more b.more;
}

pub name_stays : {names names' : List (List ℕ)} (number : ℕ) → ExtendsNames names names' → number < length names → name_at names' number ≡ name_at names number
name_stays {names} number grown below = ap (λ (l : List (List ℕ)). name_at l number) grown.is ∙ get_or_append_left names grown.more [] number below

pub name_later : {names names' : List (List ℕ)} {name : List ℕ} {number : ℕ} → ExtendsNames names names' → KeepsName names name number → KeepsName names' name number
name_later {names} {number = number} grown keeps = record {
  below = omega (arith, names_grow grown, keeps.below);
  is = name_stays number grown keeps.below ∙ keeps.is;
}

pub name_added : (names names' : List (List ℕ)) (name : List ℕ) (number : ℕ) → names' ≡ names ++ name ∷ [] → number ≡ length names → KeepsName names' name number
name_added names names' name number e f =
    let size : length names' ≡ length names + 1 = ap length e ∙ length-append names (name ∷ []) in
    record {
      below = omega (arith, f, size);
      is = ap₂ name_at e f ∙ get_or-append_seam names name [] [];
    }
