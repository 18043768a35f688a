use Rattle.std.proofs.Common.{ℕ, Vec, Global}
use Rattle.name_table.proofs.Keys.{distinct_texts, texts_of_new, length_of_new, stored_at}
use Rattle.name_table.proofs.names.add.Goals as goal

-- src/names.rt
pub returns-clause-distinct : goal.returns-clause-distinct
returns-clause-distinct c = distinct_texts {K = Vec ℕ Global} (λ key. key.items) c.insert_full.new.self.keys c.insert_full.ensures.unique

pub returns-in_default-clause-distinct : goal.returns-in_default-clause-distinct
returns-in_default-clause-distinct c = distinct_texts {K = Vec ℕ Global} (λ key. key.items) c.insert_full.new.self.keys c.insert_full.ensures.unique

pub returns-clause-named : goal.returns-clause-named
returns-clause-named c =
    let stored = c.in-Ok.ensures.stored in
    stored_at {K = Vec ℕ Global} (λ key. key.items) c.insert_full.new.self.keys c.args.text stored.0 c.in-Ok.place stored.1 stored.2

pub returns-clause-added : goal.returns-clause-added
returns-clause-added c =
    texts_of_new {K = Vec ℕ Global} (λ key. key.items) c.args.texts.now.keys c.args.text c.requires.absent c.insert_full.new.self.keys c.in-Ok.ensures.keys

pub returns-clause-len : goal.returns-clause-len
returns-clause-len c =
    length_of_new {K = Vec ℕ Global} (λ key. key.items) c.args.texts.now.keys c.args.text c.requires.absent c.insert_full.new.self.keys c.in-Ok.ensures.keys
