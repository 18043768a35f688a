use Rattle.std.proofs.Common.{ℕ, List, ap, ◌∙◌}
use Rattle.std.specs.Borrow.{Bor}
use Rattle.name_table.proofs.Keys.{distinct_texts, texts_of_new, stored_at}
use Rattle.netlist_link.specs.Clashes.{texts_in}
use Rattle.netlist_link.proofs.Clashing.{borrowed, insert_key-held}
use Rattle.netlist_link.proofs.name_clashes.place_among.Goals as goal

pub returns-in-Ok-clause-named : goal.returns-in-Ok-clause-named
returns-in-Ok-clause-named c =
    let stored = c.in-Ok.ensures.stored in
    stored_at {K = Bor (List ℕ)} borrowed c.insert_full.new.self.keys c.args.text stored.0 c.in-Ok.place stored.1 stored.2

pub returns-in-Ok-clause-held : goal.returns-in-Ok-clause-held
returns-in-Ok-clause-held c = λ held. ap texts_in (c.in-Ok.ensures.keys ∙ insert_key-held c.args.seen.now.keys c.args.text held)

pub returns-in-Ok-clause-added : goal.returns-in-Ok-clause-added
returns-in-Ok-clause-added c = λ absent. texts_of_new {K = Bor (List ℕ)} borrowed c.args.seen.now.keys c.args.text absent c.insert_full.new.self.keys c.in-Ok.ensures.keys

pub returns-in-Ok-clause-distinct : goal.returns-in-Ok-clause-distinct
returns-in-Ok-clause-distinct c = distinct_texts {K = Bor (List ℕ)} borrowed c.insert_full.new.self.keys c.insert_full.ensures.unique

pub returns-in-Err-clause-distinct : goal.returns-in-Err-clause-distinct
returns-in-Err-clause-distinct c = distinct_texts {K = Bor (List ℕ)} borrowed c.insert_full.new.self.keys c.insert_full.ensures.unique
