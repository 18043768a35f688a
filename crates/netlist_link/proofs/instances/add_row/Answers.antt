use Rattle.std.proofs.Common.{◌≡◌, ℕ, ◌+◌, ◌-◌, ◌<◌, List, [], ◌∷◌, ◌++◌, length, take, drop, replicate, get_or, Option, Some, None, sym, ap, ◌∙◌, subst, arith, length-append}
use Rattle.std.specs.Prelude.{slice_get, slice_index, vec_len}
use Rattle.std.proofs.lemmas.List.{get_or_read, take_all, take-append-le}
use Rattle.std.proofs.Math.Seq.{drop-append_seam}
use Rattle.std.proofs.lemmas.Option.{slice_get-get_or}
use Rattle.netlist_link.specs.FlatPins.{pins_of}
use Rattle.netlist_link.specs.Designs.{walk_of}
use Rattle.netlist_link.specs.declared.cell_pins.CellPins.{CellPins}
use Rattle.netlist_link.proofs.InstanceSteps.{pin_place_below, directions_count}
use Rattle.netlist_link.proofs.instances.add_row.Goals as goal

pub bounds-design-cell : goal.bounds-design-cell
bounds-design-cell c =
    let d = c.args.design.now in
    let i = c.args.i in
    let places = c.args.joints.now.places in
    let has = c.requires.design in
    let holds = c.requires.joints has.cells has.is has.distinct in
    let within : i < length (walk_of d) = (let count = c.requires.sound.walk.met_count in let below = c.requires.within in omega arith) in
    let read = get_or_read places.items i c.index-cell.result.now (let long = holds.places_len in omega arith) c.index-cell.ensures 0 in
    let below = pin_place_below d has.cells has.is i (slice_index places.items i) c.requires.within c.requires.cell (holds.places_are i within c.requires.cell) in
    omega arith

-- the places behind those that were there
fresh : (old all : List (Option ℕ)) (first many more : ℕ) → first ≡ length old → all ≡ take (first + many) old ++ replicate more None → more ≡ many
    → drop first all ≡ replicate many None
fresh old all first many more here is same =
    ap (drop first) is ∙ ap (λ (l : List (Option ℕ)). drop first (l ++ replicate more None)) (take_all (first + many) old (omega arith))
    ∙ subst (λ (n : ℕ). drop n (old ++ replicate more None) ≡ replicate many None) (sym here)
    (drop-append_seam old (replicate more None) ∙ ap (λ (n : ℕ). replicate n None) same)

-- the places that were there
kept : (old all : List (Option ℕ)) (first many more : ℕ) → first ≡ length old → all ≡ take (first + many) old ++ replicate more None → take first all ≡ old
kept old all first many more here is =
    ap (take first) is ∙ ap (λ (l : List (Option ℕ)). take first (l ++ replicate more None)) (take_all (first + many) old (omega arith))
    ∙ take-append-le first old (replicate more None) (omega arith) ∙ take_all first old (omega arith)

-- what stands there once the new places are set
whole : (old front own rest : List (Option ℕ)) (n : ℕ) → front ≡ old → n ≡ length (old ++ own) → take n (front ++ own ++ rest) ≡ old ++ own
whole old front own rest n is count =
    ap (λ (l : List (Option ℕ)). take n (l ++ own ++ rest)) is
    ∙ take-append-le n (old ++ own) rest (omega arith) ∙ take_all n (old ++ own) (omega arith)

pub set_pin_nets-requires-clause-none : goal.set_pin_nets-requires-clause-none
set_pin_nets-requires-clause-none c = λ cells is distinct.
    let d = c.args.design.now in
    let i = c.args.i in
    let places = c.args.joints.now.places in
    let place = slice_index places.items i in
    let holds = c.requires.joints cells is distinct in
    let within : i < length (walk_of d) = (let count = c.requires.sound.walk.met_count in let below = c.requires.within in omega arith) in
    let read = get_or_read places.items i c.index-cell.result.now (let long = holds.places_len in omega arith) c.index-cell.ensures 0 in
    let place_is = holds.places_are i within c.requires.cell in
    let below = pin_place_below d cells is i place c.requires.within c.requires.cell place_is in
    let pins = c.index-design-cell.result in
    let at : slice_get d.pins.now place ≡ Some pins = slice_get-get_or d.pins.now place pins below
    ∙ ap Some (ap (λ (k : ℕ). get_or d.pins.now k pins) (sym read) ∙ sym c.index-design-cell.is) in
    let long = directions_count d cells is i place c.requires.within c.requires.cell place_is pins at in
    let len = c.len-many.ensures ∙ ap (λ (p : CellPins). vec_len p.directions) (sym c.index-design-cell.is) in
    let ok = pins.directions.ok in
    let old = c.args.instances.now.pin_nets in
    let first = c.len-first.result in
    let count = c.len-many.result in
    let more = first + count - vec_len old in
    let here : first ≡ length old.items = (let is = c.len-first.ensures in let ok = old.ok in omega arith) in
    let all = c.as_mut_slice.ensures.value ∙ c.in_ok-resize.ensures.items in
    let same : more ≡ count = (let ok = old.ok in omega arith) in
    let pins_count : count ≡ length (pins_of cells place) = omega arith in
    c.split_at_mut-nets.ensures.back ∙ fresh old.items c.as_mut_slice.result.now first count more here all same
    ∙ ap (λ (n : ℕ). replicate n None) pins_count

pub returns-clause-row : goal.returns-clause-row
returns-clause-row c =
    let d = c.args.design.now in
    let i = c.args.i in
    let places = c.args.joints.now.places in
    let place = slice_index places.items i in
    let has = c.requires.design in
    let holds = c.requires.joints has.cells has.is has.distinct in
    let within : i < length (walk_of d) = (let count = c.requires.sound.walk.met_count in let below = c.requires.within in omega arith) in
    let read = get_or_read places.items i c.index-cell.result.now (let long = holds.places_len in omega arith) c.index-cell.ensures 0 in
    let place_is = holds.places_are i within c.requires.cell in
    let below = pin_place_below d has.cells has.is i place c.requires.within c.requires.cell place_is in
    let pins = c.index-design-cell.result in
    let at : slice_get d.pins.now place ≡ Some pins = slice_get-get_or d.pins.now place pins below
    ∙ ap Some (ap (λ (k : ℕ). get_or d.pins.now k pins) (sym read) ∙ sym c.index-design-cell.is) in
    let long = directions_count d has.cells has.is i place c.requires.within c.requires.cell place_is pins at in
    let own = c.set_pin_nets.new.nets in
    let rows = c.args.instances.now.rows.items in
    let old = c.args.instances.now.pin_nets in
    let first = c.len-first.result in
    let count = c.len-many.result in
    let more = first + count - vec_len old in
    let here : first ≡ length old.items = (let is = c.len-first.ensures in let ok = old.ok in omega arith) in
    let all = c.as_mut_slice.ensures.value ∙ c.in_ok-resize.ensures.items in
    let front = c.split_at_mut-nets.result.0.now in
    let own_long : length own ≡ length (pins_of has.cells place) = (c.set_pin_nets.ensures has.cells has.is has.distinct).count in
    let many : count ≡ length own =
    (let len = c.len-many.ensures ∙ ap (λ (p : CellPins). vec_len p.directions) (sym c.index-design-cell.is) in let ok = pins.directions.ok in omega arith) in
    let long_all = length-append old.items own in
    let resized : c.resize.new.self.len ≡ length (old.items ++ own) = (let len = c.in_ok-resize.ensures.len in omega arith) in
    let first_pin : c.in_ok-to_u32.field-0 ≡ length old.items = c.in_ok-to_u32.ensures ∙ here in
    let pin_count : c.in_ok-to_u32-2.field-0 ≡ length own = c.in_ok-to_u32-2.ensures ∙ many in
    record {
      own = own;
      nets_are = whole old.items front own (drop (length (front ++ own)) c.resize.new.self.items) c.resize.new.self.len
          (c.split_at_mut-nets.ensures.front ∙ kept old.items c.as_mut_slice.result.now first count more here all) resized;
      rows_are = c.in_ok-push.ensures.ok ∙ λ k. rows ++ record { cell = read k; first_pin = first_pin k; pin_count = pin_count k } ∷ [];
      are = c.set_pin_nets.ensures;
    }
