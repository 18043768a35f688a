use Rattle.std.proofs.Common.{◌≡◌, true, sym, subst, ◌∙◌}
use Rattle.std.specs.Prelude.{slice_index}
use Rattle.spef_text.specs.Heads.{HeadedFile, text_of}
use Rattle.spef_text.specs.References.{NamesAsWritten}
use Rattle.std.proofs.lemmas.Result.{IfOk-weaker}
use Rattle.std.specs.Option.{option_copied}
use Rattle.name_table.specs.WrittenNames.{in_sdf}
use Rattle.spef_nets.specs.Nodes.{nodes_at}
use Rattle.spef_nets.specs.NodeNames.{IsSdfAt}
use Rattle.spef_nets.proofs.NodeNameLemmas.{resolved_there}
use Rattle.spef_nets.proofs.node_names.NodeNames.sdf.Goals as goal

-- src/node_names.rt
pub returns-in-Some : goal.returns-in-Some
returns-in-Some c =
    let file = c.args.self.now.file.now in
    let tokens = c.args.self.now.tokens.now in
    let as_written = subst (λ (h : HeadedFile). NamesAsWritten h.file true (text_of h.file (slice_index tokens c.args.node)) c.in-Some.name) c.new.ensures c.in-Some.ensures.name in
    let there = resolved_there file c.args.self.now.head.now tokens c.args.node as_written.node c.requires.spelled c.requires.within as_written.names in
    IfOk-weaker c.sdf.result (λ sdf. sdf ≡ in_sdf c.in-Some.name.head.now (option_copied c.in-Some.name.tail)) (IsSdfAt (nodes_at file tokens) c.args.node)
    (λ sdf is. (as_written.node, there, sym (is ∙ as_written.written.sdf))) c.sdf.ensures
