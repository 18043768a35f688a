-- One piece after another.
use Rattle.std.proofs.Common.{Ok, Err, [], ◌∷◌, ◌++◌, map, codes}
use Rattle.std.proofs.lemmas.Result.{err_from_is_err_and}
use Rattle.std.specs.List.{join_with_byte}
use Rattle.delay_units.specs.Printing.{femto_text}
use Rattle.edge_io.specs.Pushing.{pushes_stop, pushes_then}
use Rattle.sdf_writer.proofs.Lines.{wire_text_parts}
use Rattle.sdf_writer.proofs.entries.write_wire.Goals as goal

pub returns-in_err-push : goal.returns-in_err-push
returns-in_err-push g c =
    let p = err_from_is_err_and c.from_residual.result c.from_residual.ensures.1 in
    rw (p.1) (rw (wire_text_parts c.args.from.now c.args.to.now c.args.delay.now) (record { pushes = pushes_stop c.args.buffer.now (codes "(INTERCONNECT ") (c.args.from.now ++ (32 ∷ [] ++ (c.args.to.now ++ (codes " (" ++ (join_with_byte 58 (map femto_text c.args.delay.now) ++ (41 ∷ 41 ∷ 10 ∷ [])))))) c.in_err-push.ensures.pushes }))

pub returns-in_err-push-2 : goal.returns-in_err-push-2
returns-in_err-push-2 g c =
    let p = err_from_is_err_and c.from_residual-in_err-push-2.result c.from_residual-in_err-push-2.ensures.1 in
    rw (p.1) (rw (wire_text_parts c.args.from.now c.args.to.now c.args.delay.now) (record { pushes = pushes_then c.args.buffer.now (codes "(INTERCONNECT ") (c.args.from.now ++ (32 ∷ [] ++ (c.args.to.now ++ (codes " (" ++ (join_with_byte 58 (map femto_text c.args.delay.now) ++ (41 ∷ 41 ∷ 10 ∷ [])))))) {result = Err _} c.in_ok-push.ensures.pushes (pushes_stop c.push.new.self (c.args.from.now) (32 ∷ [] ++ (c.args.to.now ++ (codes " (" ++ (join_with_byte 58 (map femto_text c.args.delay.now) ++ (41 ∷ 41 ∷ 10 ∷ []))))) c.in_err-push-2.ensures.pushes) }))

pub returns-in_err-push-3 : goal.returns-in_err-push-3
returns-in_err-push-3 g c =
    let p = err_from_is_err_and c.from_residual-in_err-push-3.result c.from_residual-in_err-push-3.ensures.1 in
    rw (p.1) (rw (wire_text_parts c.args.from.now c.args.to.now c.args.delay.now) (record { pushes = pushes_then c.args.buffer.now (codes "(INTERCONNECT ") (c.args.from.now ++ (32 ∷ [] ++ (c.args.to.now ++ (codes " (" ++ (join_with_byte 58 (map femto_text c.args.delay.now) ++ (41 ∷ 41 ∷ 10 ∷ [])))))) {result = Err _} c.in_ok-push.ensures.pushes (pushes_then c.push.new.self (c.args.from.now) (32 ∷ [] ++ (c.args.to.now ++ (codes " (" ++ (join_with_byte 58 (map femto_text c.args.delay.now) ++ (41 ∷ 41 ∷ 10 ∷ []))))) {result = Err _} c.in_ok-push-2.ensures.pushes (pushes_stop c.push-2.new.self (32 ∷ []) (c.args.to.now ++ (codes " (" ++ (join_with_byte 58 (map femto_text c.args.delay.now) ++ (41 ∷ 41 ∷ 10 ∷ [])))) c.in_err-push-3.ensures.pushes)) }))

pub returns-in_err-push-4 : goal.returns-in_err-push-4
returns-in_err-push-4 g c =
    let p = err_from_is_err_and c.from_residual-in_err-push-4.result c.from_residual-in_err-push-4.ensures.1 in
    rw (p.1) (rw (wire_text_parts c.args.from.now c.args.to.now c.args.delay.now) (record { pushes = pushes_then c.args.buffer.now (codes "(INTERCONNECT ") (c.args.from.now ++ (32 ∷ [] ++ (c.args.to.now ++ (codes " (" ++ (join_with_byte 58 (map femto_text c.args.delay.now) ++ (41 ∷ 41 ∷ 10 ∷ [])))))) {result = Err _} c.in_ok-push.ensures.pushes (pushes_then c.push.new.self (c.args.from.now) (32 ∷ [] ++ (c.args.to.now ++ (codes " (" ++ (join_with_byte 58 (map femto_text c.args.delay.now) ++ (41 ∷ 41 ∷ 10 ∷ []))))) {result = Err _} c.in_ok-push-2.ensures.pushes (pushes_then c.push-2.new.self (32 ∷ []) (c.args.to.now ++ (codes " (" ++ (join_with_byte 58 (map femto_text c.args.delay.now) ++ (41 ∷ 41 ∷ 10 ∷ [])))) {result = Err _} c.in_ok-push-3.ensures.pushes (pushes_stop c.push-3.new.self (c.args.to.now) (codes " (" ++ (join_with_byte 58 (map femto_text c.args.delay.now) ++ (41 ∷ 41 ∷ 10 ∷ []))) c.in_err-push-4.ensures.pushes))) }))

pub returns-in_err-push-5 : goal.returns-in_err-push-5
returns-in_err-push-5 g c =
    let p = err_from_is_err_and c.from_residual-in_err-push-5.result c.from_residual-in_err-push-5.ensures.1 in
    rw (p.1) (rw (wire_text_parts c.args.from.now c.args.to.now c.args.delay.now) (record { pushes = pushes_then c.args.buffer.now (codes "(INTERCONNECT ") (c.args.from.now ++ (32 ∷ [] ++ (c.args.to.now ++ (codes " (" ++ (join_with_byte 58 (map femto_text c.args.delay.now) ++ (41 ∷ 41 ∷ 10 ∷ [])))))) {result = Err _} c.in_ok-push.ensures.pushes (pushes_then c.push.new.self (c.args.from.now) (32 ∷ [] ++ (c.args.to.now ++ (codes " (" ++ (join_with_byte 58 (map femto_text c.args.delay.now) ++ (41 ∷ 41 ∷ 10 ∷ []))))) {result = Err _} c.in_ok-push-2.ensures.pushes (pushes_then c.push-2.new.self (32 ∷ []) (c.args.to.now ++ (codes " (" ++ (join_with_byte 58 (map femto_text c.args.delay.now) ++ (41 ∷ 41 ∷ 10 ∷ [])))) {result = Err _} c.in_ok-push-3.ensures.pushes (pushes_then c.push-3.new.self (c.args.to.now) (codes " (" ++ (join_with_byte 58 (map femto_text c.args.delay.now) ++ (41 ∷ 41 ∷ 10 ∷ []))) {result = Err _} c.in_ok-push-4.ensures.pushes (pushes_stop c.push-4.new.self (codes " (") (join_with_byte 58 (map femto_text c.args.delay.now) ++ (41 ∷ 41 ∷ 10 ∷ [])) c.in_err-push-5.ensures.pushes)))) }))

pub returns-in_err-write_numbers : goal.returns-in_err-write_numbers
returns-in_err-write_numbers g c =
    let p = err_from_is_err_and c.from_residual-in_err-write_numbers.result c.from_residual-in_err-write_numbers.ensures.1 in
    rw (p.1) (rw (wire_text_parts c.args.from.now c.args.to.now c.args.delay.now) (record { pushes = pushes_then c.args.buffer.now (codes "(INTERCONNECT ") (c.args.from.now ++ (32 ∷ [] ++ (c.args.to.now ++ (codes " (" ++ (join_with_byte 58 (map femto_text c.args.delay.now) ++ (41 ∷ 41 ∷ 10 ∷ [])))))) {result = Err _} c.in_ok-push.ensures.pushes (pushes_then c.push.new.self (c.args.from.now) (32 ∷ [] ++ (c.args.to.now ++ (codes " (" ++ (join_with_byte 58 (map femto_text c.args.delay.now) ++ (41 ∷ 41 ∷ 10 ∷ []))))) {result = Err _} c.in_ok-push-2.ensures.pushes (pushes_then c.push-2.new.self (32 ∷ []) (c.args.to.now ++ (codes " (" ++ (join_with_byte 58 (map femto_text c.args.delay.now) ++ (41 ∷ 41 ∷ 10 ∷ [])))) {result = Err _} c.in_ok-push-3.ensures.pushes (pushes_then c.push-3.new.self (c.args.to.now) (codes " (" ++ (join_with_byte 58 (map femto_text c.args.delay.now) ++ (41 ∷ 41 ∷ 10 ∷ []))) {result = Err _} c.in_ok-push-4.ensures.pushes (pushes_then c.push-4.new.self (codes " (") (join_with_byte 58 (map femto_text c.args.delay.now) ++ (41 ∷ 41 ∷ 10 ∷ [])) {result = Err _} c.in_ok-push-5.ensures.pushes (pushes_stop c.push-5.new.self (join_with_byte 58 (map femto_text c.args.delay.now)) (41 ∷ 41 ∷ 10 ∷ []) c.in_err-write_numbers.ensures.pushes))))) }))

pub returns-in_err-push-6 : goal.returns-in_err-push-6
returns-in_err-push-6 g c =
    let p = err_from_is_err_and c.from_residual-in_err-push-6.result c.from_residual-in_err-push-6.ensures.1 in
    rw (p.1) (rw (wire_text_parts c.args.from.now c.args.to.now c.args.delay.now) (record { pushes = pushes_then c.args.buffer.now (codes "(INTERCONNECT ") (c.args.from.now ++ (32 ∷ [] ++ (c.args.to.now ++ (codes " (" ++ (join_with_byte 58 (map femto_text c.args.delay.now) ++ (41 ∷ 41 ∷ 10 ∷ [])))))) {result = Err _} c.in_ok-push.ensures.pushes (pushes_then c.push.new.self (c.args.from.now) (32 ∷ [] ++ (c.args.to.now ++ (codes " (" ++ (join_with_byte 58 (map femto_text c.args.delay.now) ++ (41 ∷ 41 ∷ 10 ∷ []))))) {result = Err _} c.in_ok-push-2.ensures.pushes (pushes_then c.push-2.new.self (32 ∷ []) (c.args.to.now ++ (codes " (" ++ (join_with_byte 58 (map femto_text c.args.delay.now) ++ (41 ∷ 41 ∷ 10 ∷ [])))) {result = Err _} c.in_ok-push-3.ensures.pushes (pushes_then c.push-3.new.self (c.args.to.now) (codes " (" ++ (join_with_byte 58 (map femto_text c.args.delay.now) ++ (41 ∷ 41 ∷ 10 ∷ []))) {result = Err _} c.in_ok-push-4.ensures.pushes (pushes_then c.push-4.new.self (codes " (") (join_with_byte 58 (map femto_text c.args.delay.now) ++ (41 ∷ 41 ∷ 10 ∷ [])) {result = Err _} c.in_ok-push-5.ensures.pushes (pushes_then c.push-5.new.self (join_with_byte 58 (map femto_text c.args.delay.now)) (41 ∷ 41 ∷ 10 ∷ []) {result = Err _} c.in_ok-write_numbers.ensures.pushes (c.in_err-push-6.ensures.pushes)))))) }))

pub returns : goal.returns
returns g c =
    rw (wire_text_parts c.args.from.now c.args.to.now c.args.delay.now) (record { pushes = pushes_then c.args.buffer.now (codes "(INTERCONNECT ") (c.args.from.now ++ (32 ∷ [] ++ (c.args.to.now ++ (codes " (" ++ (join_with_byte 58 (map femto_text c.args.delay.now) ++ (41 ∷ 41 ∷ 10 ∷ [])))))) {result = Ok tt} c.in_ok-push.ensures.pushes (pushes_then c.push.new.self (c.args.from.now) (32 ∷ [] ++ (c.args.to.now ++ (codes " (" ++ (join_with_byte 58 (map femto_text c.args.delay.now) ++ (41 ∷ 41 ∷ 10 ∷ []))))) {result = Ok tt} c.in_ok-push-2.ensures.pushes (pushes_then c.push-2.new.self (32 ∷ []) (c.args.to.now ++ (codes " (" ++ (join_with_byte 58 (map femto_text c.args.delay.now) ++ (41 ∷ 41 ∷ 10 ∷ [])))) {result = Ok tt} c.in_ok-push-3.ensures.pushes (pushes_then c.push-3.new.self (c.args.to.now) (codes " (" ++ (join_with_byte 58 (map femto_text c.args.delay.now) ++ (41 ∷ 41 ∷ 10 ∷ []))) {result = Ok tt} c.in_ok-push-4.ensures.pushes (pushes_then c.push-4.new.self (codes " (") (join_with_byte 58 (map femto_text c.args.delay.now) ++ (41 ∷ 41 ∷ 10 ∷ [])) {result = Ok tt} c.in_ok-push-5.ensures.pushes (pushes_then c.push-5.new.self (join_with_byte 58 (map femto_text c.args.delay.now)) (41 ∷ 41 ∷ 10 ∷ []) {result = Ok tt} c.in_ok-write_numbers.ensures.pushes (c.in_ok-push-6.ensures.pushes)))))) })
