use Rattle.std.proofs.Common.{◌≡◌, ◌<◌, List, length, true, sym, subst, arith, ◌∙◌}
use Rattle.std.proofs.lemmas.Result.{IfOk-weaker}
use Rattle.std.specs.Prelude.{slice_index, slice_get, Some}
use Rattle.name_table.specs.NodeKeys.{key_of}
use Rattle.name_table.specs.declared.spef_names.NodeName.{NodeName}
use Rattle.spef_text.specs.SpefFiles.{SpefText}
use Rattle.spef_text.specs.Heads.{text_of}
use Rattle.spef_text.specs.References.{NamesAsWritten}
use Rattle.spef_nets.specs.NodeNames.{IsKeyOf}
use Rattle.spef_nets.proofs.NodeNameLemmas.{resolved_there, token_within}
use Rattle.spef_nets.proofs.net_keys.NetKeys.key.Goals as goal
use Rattle.spef_nets.proofs.net_keys.NetKeys.key.Goals.{in-Some, in-None+in_ok-name-in-None}

-- src/net_keys.rt
pub bounds-tokens-i : goal.bounds-tokens-i
bounds-tokens-i c =
    token_within c.self.inside.names.file.now c.self.inside.names.tokens.now c.args.i c.self.invariant.0.each
    (subst (λ (nodes : List NodeName). c.args.i < length nodes) (sym c.self.view_is) c.requires)

pub offset_bounds-tokens-i : goal.offset_bounds-tokens-i
offset_bounds-tokens-i c =
    let within = token_within c.self.inside.names.file.now c.self.inside.names.tokens.now c.args.i c.self.invariant.0.each
    (subst (λ (nodes : List NodeName). c.args.i < length nodes) (sym c.self.view_is) c.requires) in
    let room = c.self.told.1 in
    omega (arith, within, room)

pub name-requires-in-None-clause-within : goal.name-requires-in-None-clause-within
name-requires-in-None-clause-within c =
    token_within c.self.inside.names.file.now c.self.inside.names.tokens.now c.args.i c.self.invariant.0.each
    (subst (λ (nodes : List NodeName). c.args.i < length nodes) (sym c.self.view_is) c.requires)

pub returns-clause-key : goal.returns-clause-key
returns-clause-key c =
    let file = c.self.inside.names.file.now in
    let tokens = c.self.inside.names.tokens.now in
    let within = token_within file tokens c.args.i c.self.invariant.0.each (subst (λ (nodes : List NodeName). c.args.i < length nodes) (sym c.self.view_is) c.requires) in
    elim c.match-name.branch [
      | in-Some w ↦
          let as_written = subst (λ (f : SpefText). NamesAsWritten f true (text_of f (slice_index tokens c.args.i)) w.in-Some.name) c.self.invariant.1 w.in-Some.ensures.name in
          rw w.result-is (
            as_written.node,
            subst (λ (nodes : List NodeName). slice_get nodes c.args.i ≡ Some as_written.node) c.self.view_is
                (resolved_there file c.self.inside.names.head.now tokens c.args.i as_written.node c.self.invariant.0 within as_written.names),
            w.of_written.ensures ∙ (λ i. record { head = as_written.written.head i; tail = as_written.written.tail i }),
          )
      | in-None+in_ok-name-in-None w ↦
          rw w.result-is (IfOk-weaker w.of.result (λ key. key ≡ key_of w.in_ok-name-in-None.field-0) (IsKeyOf c.args.self.now c.args.i)
          (λ key is. (w.in_ok-name-in-None.field-0, subst (λ (nodes : List NodeName). slice_get nodes c.args.i ≡ Some w.in_ok-name-in-None.field-0) c.self.view_is w.in_ok-name-in-None.ensures, is)) w.of.ensures)
    ]
