use Rattle.std.proofs.Common.{◌≡◌, sym, ◌∙◌}
use Rattle.std.specs.Str.{bytes_eq}
use Rattle.name_table.specs.NodeKeys.{same_tail}
use Rattle.name_table.proofs.KeyTests.{heads_tell, tails_differ}
use Rattle.name_table.proofs.node_keys.are_same.Goals as goal

-- src/node_keys.rt
pub returns-then-same_tails : goal.returns-then-same_tails
returns-then-same_tails c =
    let tails : c.same_tails.result ≡ same_tail c.args.one.now.tail c.args.other.now.tail = c.same_tails.ensures ∙ (λ i. same_tail (c.tail.ensures i) (c.tail-2.ensures i)) in
    c.are_equal.ensures ∙ (λ i. bytes_eq (c.head.ensures i) (c.head-then-same_tails.ensures i)) ∙ heads_tell c.args.one.now c.args.other.now (sym tails ∙ c.if-same_tails.true)

pub returns-else-same_tails : goal.returns-else-same_tails
returns-else-same_tails c =
    let tails : c.same_tails.result ≡ same_tail c.args.one.now.tail c.args.other.now.tail = c.same_tails.ensures ∙ (λ i. same_tail (c.tail.ensures i) (c.tail-2.ensures i)) in
    c.if-same_tails.false ∙ tails_differ c.args.one.now c.args.other.now (sym tails ∙ c.if-same_tails.false)
