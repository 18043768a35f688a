use Rattle.std.proofs.Common.{◌≡◌, sym, ap, ◌∙◌, subst, List, ℕ}
use Rattle.std.specs.Prelude.{Some}
use Rattle.spef_text.specs.SpefFiles.{SpefText}
use Rattle.spef_text.specs.Heads.{text_of}
use Rattle.spef_nets.specs.Nodes.{node_at}
use Rattle.spef_nets.specs.NodeKeys.{IsKeyAt}
use Rattle.spef_nets.specs.Refs.{Refs, IsFound}
use Rattle.spef_nets.specs.RefsOf.{refs_of}
use Rattle.spef_nets.specs.Drafts.{stood, unknown}
use Rattle.spef_nets.proofs.Referring.{refers_found}
use Rattle.spef_nets.proofs.source.Source.spelling_at.Goals as goal

-- src/source.rt
pub returns-in-Some : goal.returns-in-Some
returns-in-Some c = stood (c.in-Some.ensures.found ∙ ap Some c.text_of-word.ensures) c.find.ensures.same

-- the file of the references
file_is : (c : goal.After-put-arg-1) → (refs_of c.key_at.new.refs).file ≡ c.args.self.now.file.now
file_is c = ap (λ (r : Refs). r.file) (c.in_ok-key-in-None.ensures.same ∙ c.find.ensures.same) ∙ c.requires.refs.2.of_file

key_is : (c : goal.After-put-arg-1) → IsKeyAt c.args.self.now.file.now c.args.token (Some c.in-Some-2.key)
key_is c = subst (IsKeyAt c.args.self.now.file.now c.args.token) c.in-Some-2.is c.in_ok-key-in-None.ensures.key

pub put-requires-clause-word : goal.put-requires-clause-word
put-requires-clause-word c = c.text_of-word.ensures ∙ ap (λ (file : SpefText). text_of file c.args.token) (sym (file_is c))

pub put-requires-clause-key : goal.put-requires-clause-key
put-requires-clause-key c = subst (λ (file : SpefText). IsKeyAt file c.args.token (Some c.in-Some-2.key)) (sym (file_is c)) (key_is c)

pub returns-in_ok-put-in-Some-2 : goal.returns-in_ok-put-in-Some-2
returns-in_ok-put-in-Some-2 c =
    let (node, named, key_is) = subst (IsKeyAt c.args.self.now.file.now c.args.token) c.in-Some-2.is c.in_ok-key-in-None.ensures.key in
    let same = c.in_ok-key-in-None.ensures.same ∙ c.find.ensures.same in
    let file_is = ap (λ (r : Refs). r.file) same ∙ c.requires.refs.2.of_file in
    refers_found c.args.self.now.file.now c.args.net.now c.args.token (refs_of c.args.refs.now) (refs_of c.put.new.self) node c.in_ok-put-in-Some-2.field-0 named
    (subst (λ (old : Refs). IsFound c.args.net.now old (refs_of c.put.new.self) (text_of c.args.self.now.file.now c.args.token) node c.in_ok-put-in-Some-2.field-0) same
    (subst (λ (word : List ℕ). IsFound c.args.net.now (refs_of c.key_at.new.refs) (refs_of c.put.new.self) word node c.in_ok-put-in-Some-2.field-0) c.text_of-word.ensures
    (c.in_ok-put-in-Some-2.ensures node (ap (λ (file : SpefText). node_at file c.args.token) file_is ∙ named))))

pub returns-in-None-2 : goal.returns-in-None-2
returns-in-None-2 c = unknown (subst (IsKeyAt c.args.self.now.file.now c.args.token) c.in-None-2.is c.in_ok-key-in-None.ensures.key) (c.in_ok-key-in-None.ensures.same ∙ c.find.ensures.same)
