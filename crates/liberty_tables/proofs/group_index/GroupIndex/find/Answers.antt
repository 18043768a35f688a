use Rattle.std.proofs.Common.{sym, ap, ◌∙◌}
use Rattle.std.specs.Option.{option_map}
use Rattle.liberty_groups.specs.Tables.{group_at, IsGroup}
use Rattle.liberty_groups.specs.declared.rows.GroupId.{GroupId}
use Rattle.liberty_tables.proofs.Fronts.{all_at}
use Rattle.liberty_tables.proofs.IndexLemmas.{found_first, absent_first}
use Rattle.liberty_tables.proofs.group_index.GroupIndex.find.Goals as goal

pub returns-in_err-place-clause-first : goal.returns-in_err-place-clause-first
returns-in_err-place-clause-first c = λ tree name outer are.
    ap (option_map (λ (group : GroupId). group_at tree group.0)) c.from_residual.ensures
    ∙ sym (absent_first tree name outer c.args.self.now.args c.args.self.now.groups.items c.args.arg.now are c.in_err-place.ensures.absent)

pub returns-clause-first : goal.returns-clause-first
returns-clause-first c = λ tree name outer are.
    sym (found_first tree name outer c.args.self.now.args c.args.self.now.groups.items c.in_ok-place.place c.args.arg.now c.group.result are c.in_ok-place.ensures.found c.group.ensures)

pub returns-clause-within : goal.returns-clause-within
returns-clause-within c = λ tree name groups are.
    all_at (λ (group : GroupId). IsGroup tree group.0) c.args.self.now.groups.items c.in_ok-place.place c.group.result c.group.ensures are.within
