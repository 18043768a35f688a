-- A literal, or three members behind one another.
use Rattle.std.proofs.Common.{◌≡◌, ℕ, subst}
use Rattle.delay_units.specs.declared.quantities.Femto.{Femto}
use Rattle.sdf_reader.specs.Numbers.{IsTime, single_value, AreMembers}
use Rattle.sdf_reader.specs.declared.rows.Value.{Value}
use Rattle.sdf_reader.proofs.ValueLemmas.{single_made, triple_made, none_single, none_behind, none_triple, if_some, if_none}
use Rattle.sdf_reader.proofs.numbers.value_of.Goals as goal

pub returns-in-None-clause-some : goal.returns-in-None-clause-some
returns-in-None-clause-some c =
    if_some c.single_of.result
    (λ value made. single_made c.args.scale c.args.word.now value (subst (λ (n : ℕ). (time : Femto) × IsTime n c.args.word.now time × (value ≡ single_value time)) c.power-power.ensures.value made))
    c.single_of.ensures.some

pub returns-in-None-clause-none : goal.returns-in-None-clause-none
returns-in-None-clause-none c =
    if_none c.single_of.result
    (λ none value. none_single c.args.scale c.args.word.now value c.in-None.ensures.none (subst (λ (n : ℕ). (time : Femto) → IsTime n c.args.word.now time → ⊥) c.power-power.ensures.value none))
    c.single_of.ensures.none

pub returns-in-None-split_colon-clause-none : goal.returns-in-None-split_colon-clause-none
returns-in-None-split_colon-clause-none c = λ value.
    none_behind c.args.scale c.args.word.now c.in-Some.min.now c.in-Some.others.now value c.in-Some.ensures.some.0 c.in-Some.ensures.some.1 c.in-None-split_colon.ensures.none

pub returns-in-Some-split_colon-clause-some : goal.returns-in-Some-split_colon-clause-some
returns-in-Some-split_colon-clause-some c =
    if_some c.triple_of.result
    (λ value are. triple_made c.args.scale c.args.word.now c.in-Some.min.now c.in-Some.others.now c.in-Some-split_colon.typ.now c.in-Some-split_colon.max.now value
    c.in-Some.ensures.some.0 c.in-Some-split_colon.ensures.some.0
    (subst (λ (n : ℕ). AreMembers n c.in-Some.min.now c.in-Some-split_colon.typ.now c.in-Some-split_colon.max.now value) c.power-power.ensures.value are))
    c.triple_of.ensures.some

pub returns-in-Some-split_colon-clause-none : goal.returns-in-Some-split_colon-clause-none
returns-in-Some-split_colon-clause-none c =
    if_none c.triple_of.result
    (λ none value. none_triple c.args.scale c.args.word.now c.in-Some.min.now c.in-Some.others.now c.in-Some-split_colon.typ.now c.in-Some-split_colon.max.now value
    c.in-Some.ensures.some.0 c.in-Some.ensures.some.1 c.in-Some-split_colon.ensures.some.0 c.in-Some-split_colon.ensures.some.1
    (subst (λ (n : ℕ). (v : Value) → AreMembers n c.in-Some.min.now c.in-Some-split_colon.typ.now c.in-Some-split_colon.max.now v → ⊥) c.power-power.ensures.value none))
    c.triple_of.ensures.none
