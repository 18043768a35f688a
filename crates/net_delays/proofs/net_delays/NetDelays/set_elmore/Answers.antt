use Rattle.std.proofs.Common.{ℕ, ◌+◌, ap, ◌∙◌, get_or}
use Rattle.corner_set.specs.Places.{place}
use Rattle.net_delays.specs.NetTimes.{start_in}
use Rattle.net_delays.proofs.Starts.{one_sink, same_read}
use Rattle.net_delays.proofs.net_delays.NetDelays.set_elmore.Goals as goal

pub returns-clause-others : goal.returns-clause-others
returns-clause-others g c = λ other of at has apart.
    let count = g.C.CornerSet.COUNT in
    let number = g.C.CornerSet.number_of at in
    let row = start_in c.args.self.now.starts other + of in
    let one = one_sink count c.args.self.now c.args.net c.args.sink other of c.row_of-row.ensures.whole c.requires.sink has in
    ap (λ t. get_or {A = ℕ} c.set.new.self.values (place count (start_in t.starts other + of) number) 0) c.self.view_is
    ∙ same_read {X = ℕ} c.set.new.self.values c.self.inside.elmores.values (place count row number) 0
    (c.set.ensures.others row at (λ both. let same = one (both.0 ∙ c.row_of-row.ensures.row) in apart (same.0, same.1, both.1)))
    ∙ ap (λ t. get_or {A = ℕ} t.elmores (place count row number) 0) c.self.view_is
