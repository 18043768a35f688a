use Rattle.spef_nets.specs.RefsOf.{refs_of}
use Rattle.std.proofs.Common.{◌≡◌, ◌<◌, ap, sym, subst, ◌∙◌, rules, List, ℕ, [], ◌∷◌, ◌++◌, length, map, false}
use Rattle.std.specs.Prelude.{Option, Some, None}
use Rattle.std.proofs.lemmas.List.{map_push, length-map}
use Rattle.name_table.specs.declared.spef_names.NodeName.{NodeName}
use Rattle.spef_text.specs.SpefFiles.{SpefText}
use Rattle.spef_text.specs.Heads.{text_of}
use Rattle.name_table.specs.NodeKeys.{Key, key_of}
use Rattle.spef_nets.specs.Nodes.{node_at}
use Rattle.spef_nets.specs.NodeKeys.{IsKeyAt}
use Rattle.spef_nets.specs.Refs.{Refs, IsInterned, newest, words_at}
use Rattle.spef_nets.specs.declared.marks.Mark.{Mark}
use Rattle.std.specs.Str.{bytes_eq}
use Rattle.spef_nets.proofs.RefLemmas.{puts, stays}
use Rattle.spef_nets.proofs.referred.Referred.put.Goals as goal

-- the key is that of the node that the token names
key_is : (file : SpefText) (token : ℕ) (key : Key) (node : NodeName) → IsKeyAt file token (Some key) → node_at file token ≡ Some node → key ≡ key_of node
key_is file token key node (its, named, is) names = is ∙ ap key_of (some_is its node (sym named ∙ names))
  where
    some_is : (a b : NodeName) → Some a ≡ Some b → a ≡ b
    some_is a b e = cc

-- src/referred.rt
pub returns-in-Some : goal.returns-in-Some
returns-in-Some c node names =
    let key : c.args.key ≡ key_of node = key_is c.args.self.now.nodes.file c.args.token c.args.key node c.requires.key names in
    stays c.args.net.now (refs_of c.args.self.now) c.args.word.now node c.in_ok-place.place c.intern.new.self (refs_of c.spelled.new.self) c.in-Some.spelling c.requires.marked
    (subst (λ (k : Key). IsInterned c.args.self.now.table c.intern.new.self k c.in_ok-place.place) key c.in_ok-place.ensures)
    c.in-Some.ensures.within c.in-Some.ensures.found c.in-Some.ensures.same

pub returns : goal.returns
returns c node names =
    let seen = c.spelled.ensures.same in
    let file = c.spelled.new.self.nodes.file in
    let tokens = c.spelled.new.self.words in
    let token = c.in_ok-to_u32-3.field-0 in
    let file_is : file ≡ c.args.self.now.nodes.file = ap (λ (r : Refs). r.file) seen in
    let marks_are : c.spelled.new.self.marks.items ≡ c.args.self.now.marks.items = ap (λ (r : Refs). r.marks) seen in
    let key : c.args.key ≡ key_of node = key_is c.args.self.now.nodes.file c.args.token c.args.key node c.requires.key names in
    let same : c.are_equal-belongs.result ≡ bytes_eq c.args.net.now c.args.key.head = search rules in
    let count : c.len-spelling.result ≡ length (refs_of c.args.self.now).words = c.len-spelling.ensures ∙ sym (length-map tokens (text_of file)) ∙ ap (λ (r : Refs). length r.words) seen in
    let added : c.add.new.self ≡ tokens ++ token ∷ [] = c.in_ok-add.ensures.added in
    let text : text_of file token ≡ c.args.word.now = ap (text_of file) c.in_ok-to_u32-3.ensures ∙ ap (λ (f : SpefText). text_of f c.args.token) file_is ∙ sym c.requires.word in
    let name : node_at file token ≡ Some node = ap (node_at file) c.in_ok-to_u32-3.ensures ∙ ap (λ (f : SpefText). node_at f c.args.token) file_is ∙ names in
    newest count
    (puts c.args.net.now (refs_of c.args.self.now) c.args.word.now node c.in_ok-place.place c.intern.new.self c.mark_new.new.marks.items
    (refs_of (record { words = c.add.new.self; places = c.push.new.items; table = c.spelled.new.self.table; marks = c.mark_new.new.marks; latest = c.mark_latest.new.latest; nodes = c.spelled.new.self.nodes }))
    c.requires.marked (subst (λ (k : Key). IsInterned c.args.self.now.table c.intern.new.self k c.in_ok-place.place) key c.in_ok-place.ensures)
    (λ e. c.in_ok-mark_new.ensures.added (e ∙ sym (ap length marks_are)) ∙ ap (λ (l : List Mark). l ++ record { listed = false; belongs = c.are_equal-belongs.result; number = None } ∷ []) marks_are ∙ ap (λ b. c.args.self.now.marks.items ++ record { listed = false; belongs = b; number = None } ∷ []) (same ∙ ap (λ (k : Key). bytes_eq c.args.net.now k.head) key))
    (λ e. c.in_ok-mark_new.ensures.held (subst (λ (l : List Mark). c.in_ok-place.place < length l) (sym marks_are) e) ∙ marks_are)
    (λ i. record {
      file = file_is i;
      words = (ap (words_at file) added ∙ map_push (text_of file) tokens token ∙ ap (λ (word : List ℕ). words_at file tokens ++ word ∷ []) text
          ∙ ap (λ (r : Refs). r.words ++ c.args.word.now ∷ []) seen) i;
      places = (c.in_ok-push.ensures.ok ∙ ap (λ n. c.spelled.new.self.places.items ++ n ∷ []) c.in_ok-to_u32-2.ensures ∙ ap (λ (r : Refs). r.places ++ c.in_ok-place.place ∷ []) seen) i;
      names = (ap (map (node_at file)) added ∙ map_push (node_at file) tokens token ∙ ap (λ (n : Option NodeName). map (node_at file) tokens ++ n ∷ []) name
          ∙ ap (λ (r : Refs). r.names ++ Some node ∷ []) seen) i;
      keys = (ap (λ (r : Refs). r.keys) seen) i;
      marks = c.mark_new.new.marks.items;
      nodes = (ap (λ (r : Refs). r.nodes) seen) i;
    }))
