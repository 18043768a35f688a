-- One part more, and the end.
use Rattle.std.proofs.Common.{◌+◌, length, sym, ◌∙◌, subst}
use Rattle.token_texts.specs.CutLemmas.{first_and_rest, no_bytes}
use Rattle.token_texts.specs.Cuts.{HasGapFirst, HasGapBehind, IsWithin}
use Rattle.token_texts.specs.Readings.{Follows, Finishes}
use Rattle.token_texts.proofs.Loop.{led_skips, led_past, led_takes, led_refuses, led_lacks, led_makes, where_taken}
use Rattle.token_texts.proofs.reading.read_tokens.Goals as goal

pub loop-rest-preserved-in-Skip : goal.loop-rest-preserved-in-Skip
loop-rest-preserved-in-Skip g c =
    let split = first_and_rest c.loop-rest.rest.now c.in-len1-up.len_at_least in
    let within = subst (IsWithin (length c.loop-rest.rest.now)) c.in-Skip.is c.front-front.ensures.within in
    record {
      led = led_skips g.R.TokenReader.cut_at g.R.TokenReader.Leads c.loop-rest.rest.now _ _ c.in-Skip.count c.pass.new.self c.loop-rest.invariant.led split (sym c.front-front.ensures.value ∙ c.in-Skip.is) within.1 c.split_at.ensures.front c.split_at.ensures.back c.pass.ensures.state;
      sound = c.pass.ensures.sound c.loop-rest.number c.loop-rest.invariant.sound;
    }

pub returns-in-Ok-Some-clause-fault : goal.returns-in-Ok-Some-clause-fault
returns-in-Ok-Some-clause-fault g c =
    let split = first_and_rest c.loop-rest.rest.now c.in-len1-up.len_at_least in
    led_refuses g.R.TokenReader.cut_at g.R.TokenReader.Leads g.R.TokenReader.Stops g.met.R.TokenReader.within c.loop-rest.rest.now _ _ c.in-Take.count c.in-Take.kind c.in-Ok-Some.cause c.loop-rest.invariant.led split (sym c.front-front.ensures.value ∙ c.in-Take.is) c.split_at-in-Take.ensures.front
    (λ before next leads.
    subst (λ o. Follows g.R.TokenReader.Leads g.R.TokenReader.Stops before c.loop-rest.number c.in-Take.kind c.split_at-in-Take.result.0.now c.take.new.self o) c.in-Ok-Some.field-0-is (c.in-Ok-Some.ensures.state before next leads))

pub loop-rest-preserved : goal.loop-rest-preserved
loop-rest-preserved g c =
    let split = first_and_rest c.loop-rest.rest.now c.in-len1-up.len_at_least in
    let within = subst (IsWithin (length c.loop-rest.rest.now)) c.in-Take.is c.front-front.ensures.within in
    record {
      led = led_takes g.R.TokenReader.cut_at g.R.TokenReader.Leads c.loop-rest.rest.now _ _ c.in-Take.count c.in-Take.kind c.take.new.self c.loop-rest.invariant.led split (sym c.front-front.ensures.value ∙ c.in-Take.is) within.0 within.1 c.split_at-in-Take.ensures.front c.split_at-in-Take.ensures.back
          (λ before next leads.
          subst (λ o. Follows g.R.TokenReader.Leads g.R.TokenReader.Stops before c.loop-rest.number c.in-Take.kind c.split_at-in-Take.result.0.now c.take.new.self o) c.in-Ok-None.field-0-is (c.in-Ok-None.ensures.state before next leads));
      sound = where_taken (g.R.TokenReader.IsSound (c.loop-rest.number + 1) c.take.new.self) c.in-Ok-None.field-0 c.in-Ok-None.field-0-is c.in-Ok-None.ensures.sound;
    }

pub loop-rest-preserved-then-front : goal.loop-rest-preserved-then-front
loop-rest-preserved-then-front g c =
    let split = first_and_rest c.loop-rest.rest.now c.in-len1-up.len_at_least in
    let within = subst (IsWithin (length c.loop-rest.rest.now)) c.in-Take.is c.front-front.ensures.within in
    let here = subst (HasGapFirst g.R.TokenReader.cut_at) (sym c.split_at-in-Take.ensures.back)
    (subst (HasGapBehind g.R.TokenReader.cut_at c.loop-rest.rest.now) c.in-Take.is (c.front-front.ensures.gap c.if-front.true)) in
    let taken = led_takes g.R.TokenReader.cut_at g.R.TokenReader.Leads c.loop-rest.rest.now _ _ c.in-Take.count c.in-Take.kind c.take.new.self c.loop-rest.invariant.led split (sym c.front-front.ensures.value ∙ c.in-Take.is) within.0 within.1 c.split_at-in-Take.ensures.front c.split_at-in-Take.ensures.back
    (λ before next leads.
    subst (λ o. Follows g.R.TokenReader.Leads g.R.TokenReader.Stops before c.loop-rest.number c.in-Take.kind c.split_at-in-Take.result.0.now c.take.new.self o) c.in-Ok-None.field-0-is (c.in-Ok-None.ensures.state before next leads)) in
    record {
      led = led_past g.R.TokenReader.cut_at g.R.TokenReader.Leads c.split_at-in-Take.result.1.now c.pass-then-front.new.self taken here c.split_at-then-front.ensures.front c.split_at-then-front.ensures.back c.pass-then-front.ensures.state;
      sound = c.pass-then-front.ensures.sound (c.loop-rest.number + 1) (where_taken (g.R.TokenReader.IsSound (c.loop-rest.number + 1) c.take.new.self) c.in-Ok-None.field-0 c.in-Ok-None.field-0-is c.in-Ok-None.ensures.sound);
    }

pub returns-in-Ok-Ok-clause-ok : goal.returns-in-Ok-Ok-clause-ok
returns-in-Ok-Ok-clause-ok g c =
    led_makes g.R.TokenReader.cut_at g.R.TokenReader.Leads g.R.TokenReader.Makes c.loop-rest.rest.now c.in-Ok-Ok.value c.loop-rest.invariant.led (no_bytes c.loop-rest.rest.now c.in_default.len_below)
    (λ before leads. subst (λ answer. Finishes g.R.TokenReader.Makes g.R.TokenReader.Stops before answer) c.in-Ok-Ok.field-0-is (c.in-Ok-Ok.ensures.state before leads))

pub returns-in-Ok-Err-clause-fault : goal.returns-in-Ok-Err-clause-fault
returns-in-Ok-Err-clause-fault g c =
    led_lacks g.R.TokenReader.cut_at g.R.TokenReader.Leads g.R.TokenReader.Stops c.loop-rest.rest.now c.in-Ok-Err.cause c.loop-rest.invariant.led (no_bytes c.loop-rest.rest.now c.in_default.len_below)
    (λ before leads. subst (λ answer. Finishes g.R.TokenReader.Makes g.R.TokenReader.Stops before answer) c.in-Ok-Err.field-0-is (c.in-Ok-Err.ensures.state before leads))
