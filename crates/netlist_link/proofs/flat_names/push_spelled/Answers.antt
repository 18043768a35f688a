use Rattle.std.proofs.Common.{ℕ, List, [], ◌∷◌, ◌++◌, sym, ap, ◌∙◌}
use Rattle.netlist_link.proofs.flat_names.push_spelled.Goals as goal

pub returns-then-is_plain_name : goal.returns-then-is_plain_name
returns-then-is_plain_name c = c.in_ok-push.ensures.ok
    ∙ ap (λ (name : List ℕ). c.args.spellings.now ++ (c.args.path.now ++ name) ∷ []) (sym (c.is_plain_name.ensures c.if-is_plain_name.true))

pub returns : goal.returns
returns c = c.in_ok-push-2.ensures.ok
    ∙ ap (λ (name : List ℕ). c.args.spellings.now ++ (c.args.path.now ++ name) ∷ []) (c.bytes.ensures ∙ c.in_ok-spelled.ensures.spelled)
