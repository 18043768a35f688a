-- The names of the nodes of a SPEF file, spelled in SDF, are settled where they begin no comment.
use Rattle.std.proofs.Common.{◌≡◌, ℕ, ◌+◌, ◌<◌, Bool, true, false, cond, List, [], ◌∷◌, length, drop, Option, Some, None, refl, sym, subst, arith}
use Rattle.std.specs.Prelude.{All}
use Rattle.std.specs.Option.{option_map}
use Rattle.std.specs.Str.{bytes_eq}
use Rattle.std.proofs.lemmas.List.Elements.{All-head, All-tail}
use Rattle.corner_set.specs.declared.pick.Pick.{Pick}
use Rattle.name_table.specs.Characters.{characters}
use Rattle.name_table.specs.SpefNames.{node_name}
use Rattle.name_table.specs.declared.spef_names.NodeName.{NodeName}
use Rattle.sdf_read_back.specs.Names.{begins_comment, IsSettled, HalvesSettle, NamedSettles}
use Rattle.spef_text.specs.Entries.{no_section, section_at}
use Rattle.spef_text.specs.SpefFiles.{SpefText, IsFormed}
use Rattle.spef_text.specs.Heads.{HeadText, text_of, digits_of}
use Rattle.spef_text.specs.References.{marks_of, is_starred, index_end, digits_in, mapped_node}
use Rattle.spef_text.specs.declared.entries.MapEntry.{MapEntry}
use Rattle.spef_text.proofs.NodeTexts.{HasCharacter, HasTextAt, HasNodeTexts, map_texts, node_texts}
use Rattle.spef_nets.specs.Nodes.{name_in, indexed_node, named, node_at}
use Rattle.spef_nets.specs.NetElements.{NetElements, AreWhole}
use Rattle.spef_nets.specs.Sections.{AreNets}
use Rattle.spef_nets.proofs.EveryNode.{every_node}
use Rattle.wire_phases.specs.SpefPhases.{sole_corner}
use Rattle.refusals.proofs.Places.{some_is, got_below, index_is}

abbrev pub Settles : NodeName → Type 0
Settles node = begins_comment node.sdf ≡ false → IsSettled node.sdf

module _ (of_halves : HalvesSettle) (of_word : NamedSettles) (file : SpefText) (formed : IsFormed file) where
  mapped_settles : (name word : List ℕ) (end : Option ℕ) → HasCharacter name → Settles (mapped_node (marks_of file) true name word end)
  mapped_settles name word None has none = of_word (marks_of file) false name has.some has.other none
  mapped_settles name word (Some place) has none = of_halves (marks_of file) (characters name) (characters (drop (place + 1) word)) none

  -- a name of the map has a character
  name_good : (entries : List MapEntry) (digits name : List ℕ) → All (λ entry. HasTextAt file entry.name) entries → name_in file entries digits ≡ Some name → HasCharacter name
  name_good [] digits name all e = absurd (cc)
  name_good (entry ∷ later) digits name all e = by (λ rest. name_good later digits name (All-tail (λ (x : MapEntry). HasTextAt file x.name) entry later all) rest) (bytes_eq (digits_of file entry) digits) e
    where
      by : (name_in file later digits ≡ Some name → HasCharacter name) → (here : Bool) → cond here (Some (text_of file entry.name)) (name_in file later digits) ≡ Some name → HasCharacter name
      by behind true is = subst HasCharacter (some_is (text_of file entry.name) name is) (All-head (λ (x : MapEntry). HasTextAt file x.name) entry later all)
      by behind false is = behind is

  indexed_settles : (word : List ℕ) (node : NodeName) (found : Option (List ℕ)) → name_in file file.reading.head.map (digits_in file.reading.head.marks.delimiter word) ≡ found
      → option_map (λ name. mapped_node (marks_of file) true name word (index_end file.reading.head.marks.delimiter word)) found ≡ Some node → Settles node
  indexed_settles word node None found e = absurd (cc)
  indexed_settles word node (Some name) found e =
      let end = index_end file.reading.head.marks.delimiter word in
      subst Settles (some_is (mapped_node (marks_of file) true name word end) node e)
      (mapped_settles name word end (name_good file.reading.head.map (digits_in file.reading.head.marks.delimiter word) name (map_texts file formed) found))

  word_settles : (word : List ℕ) (node : NodeName) → HasCharacter word → named file true word ≡ Some node → Settles node
  unfolding named
  word_settles word node has e = by (is_starred word) e
    where
      by : (starred : Bool) → cond starred (indexed_node file true word) (Some (node_name (marks_of file) true word)) ≡ Some node → Settles node
      by true is = indexed_settles word node (name_in file file.reading.head.map (digits_in file.reading.head.marks.delimiter word)) refl is
      by false is = subst Settles (some_is (node_name (marks_of file) true word) node is) (λ none. of_word (marks_of file) true word has.some has.other none)

  token_settles : (token : ℕ) (node : NodeName) → HasTextAt file token → node_at file token ≡ Some node → Settles node
  token_settles token node has e = word_settles (text_of file token) node has e

  -- the nodes of a net are settled, and it is whole
  abbrev IsSettledNet : NetElements → Type 0
  IsSettledNet net = All Settles net.nodes × AreWhole 1 net

  pub nets_settle : (pick : Pick) (head : HeadText) (nets : List NetElements) → AreNets (sole_corner pick) file head nets → All (AreWhole 1) nets → All IsSettledNet nets
  nets_settle pick head nets are whole = λ k d below.
      let got = got_below nets k below in
      let its = are.each k got.0 got.1 in
      let inside : k < length file.reading.sections = (let same = are.count in omega (arith, same, below)) in
      let texts : HasNodeTexts file (section_at file.reading.sections k) = node_texts file formed k no_section inside in
      let nodes : All Settles got.0.nodes = subst (All Settles) (sym its.nodes) (every_node file Settles token_settles (section_at file.reading.sections k) texts) in
      (subst (λ (net : NetElements). All Settles net.nodes) (sym (index_is nets k got.0 d got.1)) nodes, whole k d below)
