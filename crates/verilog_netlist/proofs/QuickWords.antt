-- What does not pass the quick test is a name.
use Rattle.std.proofs.Common.{sym, ◌≡◌, ℕ, Bool, true, false, cond, ◌&&◌, List, [], ◌∷◌, refl, ap, ◌∙◌, true≢false}
use Rattle.std.specs.Prelude.{codes}
use Rattle.std.specs.Str.{bytes_eq}
use Rattle.std.proofs.lemmas.Slice.Eq.{bytes_eq-Decides}
use Rattle.verilog_netlist.specs.Words.{reserved_words, look_up, word_kind}
use Rattle.verilog_netlist.specs.WordFilter.{may_be_reserved}
use Rattle.verilog_netlist.specs.declared.kinds.Kind.{Kind}
use Rattle.verilog_netlist.specs.declared.kinds.Kind.TheVariants.{Name, Wire}

abbrev all_pass : List (List ℕ × Kind) → Bool
all_pass [] = true
all_pass (row ∷ rows) = may_be_reserved row.0 && all_pass rows

first_passes : (p q : Bool) → (p && q) ≡ true → p ≡ true
first_passes true q h = refl
first_passes false q h = absurd (true≢false (sym h))

rest_pass : (p q : Bool) → (p && q) ≡ true → q ≡ true
rest_pass true q h = h
rest_pass false q h = absurd (true≢false (sym h))

no_row : (rows : List (List ℕ × Kind)) (word : List ℕ) → all_pass rows ≡ true → may_be_reserved word ≡ false → look_up rows word ≡ Name
no_row [] word all not = refl
no_row (row ∷ rows) word all not = by (bytes_eq row.0 word) refl (no_row rows word (rest_pass (may_be_reserved row.0) (all_pass rows) all) not)
  where
    by : (is : Bool) → bytes_eq row.0 word ≡ is → look_up rows word ≡ Name → look_up (row ∷ rows) word ≡ Name
    by true e rest = absurd (
        let same : row.0 ≡ word = (bytes_eq-Decides row.0 word).0 e in
        true≢false (sym (first_passes (may_be_reserved row.0) (all_pass rows) all) ∙ ap may_be_reserved same ∙ not))
    by false e rest = ap (λ t. cond t row.1 (look_up rows word)) e ∙ rest

pub others_are_names : (word : List ℕ) → may_be_reserved word ≡ false → word_kind word ≡ Name
unfolding word_kind
others_are_names word not = no_row reserved_words word refl not

pub looked_up : (word : List ℕ) → look_up reserved_words word ≡ word_kind word
unfolding word_kind
looked_up word = refl

-- the word that most netlists have most often
wire_is_reserved : word_kind (codes "wire") ≡ Wire
unfolding word_kind
wire_is_reserved = refl

pub wire_word : (word : List ℕ) → bytes_eq word (codes "wire") ≡ true → Wire ≡ word_kind word
wire_word word same = sym (ap word_kind ((bytes_eq-Decides word (codes "wire")).0 same) ∙ wire_is_reserved)
