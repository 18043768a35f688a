use Rattle.std.proofs.Common.{ℕ, Global}
use Rattle.std.specs.declared.borrow.CowSlice.{CowSlice}
use Rattle.std.specs.Cow.{cow_slice_items}
use Rattle.name_table.proofs.Keys.{distinct_texts}
use Rattle.spef_nets.proofs.NetNameLemmas.{absent, put_last, held}
use Rattle.spef_nets.proofs.net_names.add.Goals as goal

-- src/net_names.rt
pub returns-clause-new : goal.returns-clause-new
returns-clause-new c = absent {K = CowSlice ℕ Global} (λ name. cow_slice_items name) c.args.names.now.keys c.args.name c.in-Ok.new c.in-Ok.ensures.added

pub returns-clause-added : goal.returns-clause-added
returns-clause-added c = put_last {K = CowSlice ℕ Global} (λ name. cow_slice_items name) c.args.names.now.keys c.args.name c.in-Ok.new c.in-Ok.ensures.added c.insert_full.new.self.keys c.in-Ok.ensures.keys

pub returns-clause-held : goal.returns-clause-held
returns-clause-held c = held {K = CowSlice ℕ Global} (λ name. cow_slice_items name) c.args.names.now.keys c.args.name c.in-Ok.new c.in-Ok.ensures.added

pub returns-clause-distinct : goal.returns-clause-distinct
returns-clause-distinct c = distinct_texts {K = CowSlice ℕ Global} (λ name. cow_slice_items name) c.insert_full.new.self.keys c.insert_full.ensures.unique

pub returns-in_default-clause-distinct : goal.returns-in_default-clause-distinct
returns-in_default-clause-distinct c = distinct_texts {K = CowSlice ℕ Global} (λ name. cow_slice_items name) c.insert_full.new.self.keys c.insert_full.ensures.unique
