use Rattle.std.proofs.Common.{◌≡◌, ℕ, ◌+◌, Bool, ◌++◌, ◌∷◌, [], List, length, sym, ap, ◌∙◌, append_assoc, arith}
use Rattle.cell_models.specs.NamedSets.{NamedCells}
use Rattle.cell_models.specs.declared.cell.Direction.{Direction}
use Rattle.hierarchy.specs.Walks.{joined_from}
use Rattle.netlist_link.specs.FlatNetlist.{EndOn, pin_ends, instance_ends}
use Rattle.netlist_link.specs.FlatPins.{pins_of}
use Rattle.netlist_link.specs.InstanceTables.{kept_instance}
use Rattle.netlist_link.specs.KeptEnds.{flat_ends}
use Rattle.netlist_link.specs.declared.instances.Instances.{Instances}
use Rattle.netlist_link.proofs.EndLists.{instance_ends-more}
use Rattle.netlist_link.proofs.net_ends.add_instance_ends.Goals as goal

-- the ends of one instance more
one_more : (cells : List NamedCells) (test : Direction → Bool) (kept : Instances) (i : ℕ) (old so_far : List EndOn)
    → so_far ≡ old ++ instance_ends cells test 0 (joined_from (λ k. kept_instance kept k ∷ []) 0 i)
    → so_far ++ pin_ends test i 0 (pins_of cells (kept_instance kept i).cell) (kept_instance kept i).nets
    ≡ old ++ instance_ends cells test 0 (joined_from (λ k. kept_instance kept k ∷ []) 0 (i + 1))
one_more cells test kept i old so_far is =
    let one = pin_ends test i 0 (pins_of cells (kept_instance kept i).cell) (kept_instance kept i).nets in
    ap (λ (l : List EndOn). l ++ one) is
    ∙ append_assoc old (instance_ends cells test 0 (joined_from (λ k. kept_instance kept k ∷ []) 0 i)) one
    ∙ ap (λ (l : List EndOn). old ++ l) (sym (instance_ends-more cells test kept i))

pub loop-i-preserved : goal.loop-i-preserved
loop-i-preserved c =
    let kept = c.args.instances.now in
    let i = c.loop-i.i in
    record {
      driving = λ cells test are selects.
          c.in_ok-add_pin_ends.ensures.driving cells test are selects
          ∙ one_more cells test kept i (flat_ends c.args.driving.now.items) (flat_ends c.loop-i.driving.items) (c.loop-i.invariant.driving cells test are selects);
      driven = λ cells test are selects.
          c.in_ok-add_pin_ends.ensures.driven cells test are selects
          ∙ one_more cells test kept i (flat_ends c.args.driven.now.items) (flat_ends c.loop-i.driven.items) (c.loop-i.invariant.driven cells test are selects);
    }

pub returns-clause-driving : goal.returns-clause-driving
returns-clause-driving c = λ cells test are selects.
    let kept = c.args.instances.now in
    let old = flat_ends c.args.driving.now.items in
    let done : c.loop-i.i ≡ length kept.rows.items =
    (let end = c.len-i-end.ensures in let test = c.loop-i-test.false in let fits = c.loop-i.auto.i-end in omega arith) in
    c.loop-i.invariant.driving cells test are selects
    ∙ ap (λ (n : ℕ). old ++ instance_ends cells test 0 (joined_from (λ k. kept_instance kept k ∷ []) 0 n)) done

pub returns-clause-driven : goal.returns-clause-driven
returns-clause-driven c = λ cells test are selects.
    let kept = c.args.instances.now in
    let old = flat_ends c.args.driven.now.items in
    let done : c.loop-i.i ≡ length kept.rows.items =
    (let end = c.len-i-end.ensures in let test = c.loop-i-test.false in let fits = c.loop-i.auto.i-end in omega arith) in
    c.loop-i.invariant.driven cells test are selects
    ∙ ap (λ (n : ℕ). old ++ instance_ends cells test 0 (joined_from (λ k. kept_instance kept k ∷ []) 0 n)) done
