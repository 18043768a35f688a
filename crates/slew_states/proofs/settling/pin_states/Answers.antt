use Rattle.std.proofs.Common.{◌<◌, length, get_or, None, sym, ap, subst, arith}
use Rattle.std.proofs.lemmas.List.{get_or_read}
use Rattle.graph_order.specs.Fans.{IsLatest, links_to}
use Rattle.slew_states.specs.Arcs.{arc_at, targets_of}
use Rattle.slew_states.proofs.Depths.{is_net_some}
use Rattle.slew_states.proofs.Graphs.{length-targets}
use Rattle.slew_states.proofs.Joins.{joining_start, joining_more, joining_target}
use Rattle.slew_states.proofs.settling.pin_states.Goals as goal

-- src/settling.rt
pub loop-cursor-init : goal.loop-cursor-init
loop-cursor-init g c =
    let nets = length c.args.states.now in
    let net_in = c.requires.net in
    let size = c.requires.into.last_len in
    joining_start (g.T.Timing.looks c.args.timing.now) (g.T.Timing.wires c.args.timing.now) c.args.states.now (length c.args.states.now) c.args.arcs.now c.args.net c.index-cursor.result.now c.args.steps.now c.requires.net
    (subst (IsLatest (targets_of (length c.args.states.now) c.args.arcs.now) (length (targets_of (length c.args.states.now) c.args.arcs.now)) c.args.net)
    (sym (get_or_read c.args.into.now.last.items c.args.net c.index-cursor.result.now (omega (arith, size, net_in)) c.index-cursor.ensures None))
    (c.requires.into.last_at c.args.net (omega (arith, net_in))))

pub join_arc-joined-requires-clause-net : goal.join_arc-joined-requires-clause-net
join_arc-joined-requires-clause-net g c = λ net at. (c.requires.nets c.in-Some.arc net (let is = ap links_to c.in-Some.is in let low = c.loop-cursor.invariant.within in omega (arith, is, low))).0 at

pub join_arc-joined-requires-clause-wire : goal.join_arc-joined-requires-clause-wire
join_arc-joined-requires-clause-wire g c = λ net at. (c.requires.can c.in-Some.arc net (let is = ap links_to c.in-Some.is in let low = c.loop-cursor.invariant.within in omega (arith, is, low))).0 at

pub join_arc-joined-requires-clause-look : goal.join_arc-joined-requires-clause-look
join_arc-joined-requires-clause-look g c = λ edge has. (c.requires.can c.in-Some.arc c.args.net (let is = ap links_to c.in-Some.is in let low = c.loop-cursor.invariant.within in omega (arith, is, low))).1 edge
    (is_net_some (arc_at c.args.arcs.now c.in-Some.arc).target c.args.net (c.loop-cursor.invariant.here c.in-Some.arc (ap links_to c.in-Some.is))) has

pub loop-cursor-preserved : goal.loop-cursor-preserved
loop-cursor-preserved g c =
    let at = ap links_to c.in-Some.is in
    let held = c.loop-cursor.invariant in
    let low = held.within in
    let arc_in : c.in-Some.arc < length c.args.arcs.now = omega (arith, at, low) in
    let links = length-targets (length c.args.states.now) c.args.arcs.now in
    let size = c.requires.into.previous_len in
    joining_more (g.T.Timing.looks c.args.timing.now) (g.T.Timing.wires c.args.timing.now) c.args.states.now (length c.args.states.now) c.args.arcs.now c.args.net c.in-Some.arc c.loop-cursor.cursor c.index-cursor-in-Some.result.now c.loop-cursor.joined c.join_arc-joined.result
    c.args.steps.now c.loop-cursor.steps c.join_arc-joined.new.steps c.requires.net at held c.join_arc-joined.ensures.value c.join_arc-joined.ensures.small c.join_arc-joined.ensures.steps
    (subst (IsLatest (targets_of (length c.args.states.now) c.args.arcs.now) c.in-Some.arc c.args.net)
    (sym (get_or_read c.args.into.now.previous.items c.in-Some.arc c.index-cursor-in-Some.result.now (omega (arith, size, links, arc_in)) c.index-cursor-in-Some.ensures None))
    (subst (λ x. IsLatest (targets_of (length c.args.states.now) c.args.arcs.now) c.in-Some.arc x (get_or c.args.into.now.previous.items c.in-Some.arc None)) (joining_target (length c.args.states.now) c.args.arcs.now c.in-Some.arc c.args.net arc_in (held.here c.in-Some.arc at))
    (c.requires.into.previous_at c.in-Some.arc (omega (arith, links, arc_in)))))

pub loop-cursor-smaller : goal.loop-cursor-smaller
loop-cursor-smaller g c =
    let at = ap links_to c.in-Some.is in
    let low = c.loop-cursor.invariant.within in
    let links = length-targets (length c.args.states.now) c.args.arcs.now in
    let size = c.requires.into.previous_len in
    let read = ap links_to (get_or_read c.args.into.now.previous.items c.in-Some.arc c.index-cursor-in-Some.result.now (omega (arith, size, links, at, low)) c.index-cursor-in-Some.ensures None) in
    let latest = c.requires.into.previous_at c.in-Some.arc (omega (arith, links, at, low)) in
    let within = latest.within in
    omega (arith, at, read, within)
