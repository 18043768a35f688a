-- How pushes follow one another, up to the last flush.
use Rattle.std.proofs.Common.{◌≡◌, ℕ, ◌+◌, ◌<◌, List, [], ◌++◌, length, take, drop, get_or, flat_map, Option, Result, Ok, Err, ap, sym, ◌∙◌, arith}
use Rattle.std.proofs.lemmas.List.{append_assoc, append-nil}
use Rattle.edge_io.specs.Told.{appended, appended-appended, appended-nothing, front_of_first, front_after}
use Rattle.edge_io.specs.Writing.{Writes, writes_then, flat_map_more, flat_map_front}
use Rattle.edge_io.specs.declared.failures.Failed.{Failed}
use Rattle.edge_io.specs.Gathering.{Pushes}

-- a text that was written whole leaves nothing that waits
pub pushes_written : {text : List ℕ} {before after : Option (List ℕ)} {faults faults' : ℕ} {done done' : Unit {0}}
    → Writes text before after faults faults' (Ok done) → Pushes text [] before after faults faults' (Ok done')
pushes_written {text} w = record {
  ok = record { front = text; joined = sym (append-nil text); written = w.ok };
  cut = tt;
  later = w.later;
  cause = tt;
}

-- a writing that was cut
pub pushes_cut : {text waiting : List ℕ} {before after : Option (List ℕ)} {faults faults' : ℕ} {failed failed' : Failed}
    → Writes text before after faults faults' (Err failed) → Pushes text waiting before after faults faults' (Err failed')
pushes_cut w = record { ok = tt; cut = w.cut; later = w.later; cause = w.cause }

-- a push that was cut cuts the longer text that begins with its own
pub pushes_stop : (start first second : List ℕ) {waiting waiting' : List ℕ} {before after : Option (List ℕ)} {faults faults' : ℕ}
    {failed failed' : Failed} → Pushes (start ++ first) waiting before after faults faults' (Err failed)
    → Pushes (start ++ (first ++ second)) waiting' before after faults faults' (Err failed')
pushes_stop start first second w = record {
  ok = tt;
  cut = rw (← append_assoc start first second) (front_of_first (start ++ first) second _ _ w.cut);
  later = w.later;
  cause = w.cause;
}

-- one push after another
pub pushes_then : (start first second : List ℕ) {waiting waiting' : List ℕ} {before middle after : Option (List ℕ)}
    {faults faults₁ faults₂ : ℕ} {done : Unit {0}} {result : Result (Unit {0}) Failed}
    → Pushes (start ++ first) waiting before middle faults faults₁ (Ok done)
    → Pushes (waiting ++ second) waiting' middle after faults₁ faults₂ result
    → Pushes (start ++ (first ++ second)) waiting' before after faults faults₂ result
pushes_then start first second {waiting} {waiting'} {before} {result = Ok _} w v = record {
  ok = record {
    front = w.ok.front ++ v.ok.front;
    joined =
        sym (append_assoc start first second)
        ∙ ap (λ t. t ++ second) w.ok.joined
        ∙ append_assoc w.ok.front waiting second
        ∙ ap (λ t. w.ok.front ++ t) v.ok.joined
        ∙ sym (append_assoc w.ok.front v.ok.front waiting');
    written = v.ok.written ∙ ap (λ m. appended m v.ok.front) w.ok.written ∙ appended-appended before w.ok.front v.ok.front;
  };
  cut = tt;
  later = omega (arith, w.later, v.later);
  cause = tt;
}
pushes_then start first second {waiting} {before} {middle} {after} {result = Err _} w v = record {
  ok = tt;
  cut =
      let e : start ++ (first ++ second) ≡ w.ok.front
      ++ (waiting ++ second) = sym (append_assoc start first second) ∙ ap
      (λ t. t ++ second) w.ok.joined ∙ append_assoc w.ok.front waiting second in
      rw e (front_after w.ok.front (waiting ++ second) before middle after w.ok.written v.cut);
  later = omega (arith, w.later, v.later);
  cause = omega (arith, w.later, v.cause);
}

-- nothing was pushed
pub pushes_nothing : (start : List ℕ) (before : Option (List ℕ)) (faults : ℕ)
    → Pushes (start ++ []) start before before faults faults (Ok tt)
pushes_nothing start before faults = record {
  ok = record { front = []; joined = append-nil start; written = sym (appended-nothing before) };
  cut = tt;
  later = omega arith;
  cause = tt;
}

-- the last flush writes what waits
pub pushes_flushed : {text waiting : List ℕ} {before middle after : Option (List ℕ)} {faults faults₁ faults₂ : ℕ} {done : Unit {0}}
    {result : Result (Unit {0}) Failed} → Pushes text waiting before middle faults faults₁ (Ok done)
    → Writes waiting middle after faults₁ faults₂ result → Writes text before after faults faults₂ result
pushes_flushed {text} {waiting} {before} {middle} {faults = faults} {faults₁ = faults₁} w v =
    let first : Writes w.ok.front before middle faults faults₁ (Ok tt) =
    record { ok = w.ok.written; cut = tt; later = w.later; cause = tt } in
    rw (w.ok.joined) (writes_then w.ok.front waiting first v)

-- a push that was cut, as a writing
pub pushes_failed : {text waiting : List ℕ} {before after : Option (List ℕ)} {faults faults' : ℕ} {failed failed' : Failed}
    → Pushes text waiting before after faults faults' (Err failed) → Writes text before after faults faults' (Err failed')
pushes_failed w = record { ok = tt; cut = w.cut; later = w.later; cause = w.cause }

-- a loop over items: those before `i` are pushed, and then the one at `i`
pub items_then : {X : Type 0} (text_of : X → List ℕ) (start : List ℕ) (items : List X) (i : ℕ) (d : X) {waiting waiting' : List ℕ}
    {before middle after : Option (List ℕ)} {faults faults₁ faults₂ : ℕ} {done done' : Unit {0}} → i < length items
    → Pushes (start ++ flat_map text_of (take i items)) waiting before middle faults faults₁ (Ok done)
    → Pushes (waiting ++ text_of (get_or items i d)) waiting' middle after faults₁ faults₂ (Ok done')
    → Pushes (start ++ flat_map text_of (take (i + 1) items)) waiting' before after faults faults₂ (Ok tt)
items_then text_of start items i d below w v =
    rw (flat_map_more text_of items i d below)
    (pushes_then start (flat_map text_of (take i items)) (text_of (get_or items i d)) {result = Ok tt} w v)

-- a loop over items: those before `i` are pushed, and the one at `i` is cut
pub items_cut : {X : Type 0} (text_of : X → List ℕ) (start : List ℕ) (items : List X) (i : ℕ) (d : X) {waiting waiting' waiting'' : List ℕ}
    {before middle after : Option (List ℕ)} {faults faults₁ faults₂ : ℕ} {done : Unit {0}} {failed failed' : Failed} → i < length items
    → Pushes (start ++ flat_map text_of (take i items)) waiting before middle faults faults₁ (Ok done)
    → Pushes (waiting ++ text_of (get_or items i d)) waiting' middle after faults₁ faults₂ (Err failed)
    → Pushes (start ++ flat_map text_of items) waiting'' before after faults faults₂ (Err failed')
items_cut text_of start items i d below w v =
    rw (flat_map_front text_of items (i + 1), flat_map_more text_of items i d below)
    (pushes_stop start (flat_map text_of (take i items) ++ text_of (get_or items i d)) (flat_map text_of (drop (i + 1) items))
    (pushes_then start (flat_map text_of (take i items)) (text_of (get_or items i d)) {result = Err _} w v))
