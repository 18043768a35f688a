-- The tokens that name nodes, and the names of the name map, have texts with a character: none is empty, and none is a backslash alone.
use Rattle.std.proofs.Common.{◌≡◌, ◌≢◌, ℕ, suc, ◌+◌, ◌-◌, ◌==◌, Bool, true, false, cond, true≢false, List, [], ◌∷◌, Option, refl, sym, ap, ◌∙◌, subst, arith}
use Rattle.std.specs.Prelude.{All, option_to_list, slice_index_or}
use Rattle.std.specs.List.{AllByRecursion}
use Rattle.std.proofs.lemmas.Bool.Decides.{Decides-eqb}
use Rattle.std.proofs.lemmas.List.Elements.{All-nil, All-push, All-from_recursion}
use Rattle.edge_io.specs.Bytes.{backslash}
use Rattle.token_fronts.specs.Tokens.{numbered}
use Rattle.spef_text.specs.Tokens.{cut_at, is_broken}
use Rattle.spef_text.specs.Classes.{is_name, is_map_name, is_ref}
use Rattle.spef_text.specs.Entries.{Section, Head, Reading, with_item}
use Rattle.spef_text.specs.Grammar.{Tok, IsRef, IsMapName, Many, none, more, Others, no_other, and_other, IsMap, no_entry, and_entry, IsItem, divider, delimiter, bus_marks, bus_pair, no_design, design, cap_unit, res_unit, Items, no_item, and_item, and_free, and_map, IsTail, no_tail, and_loose, and_load, IsConn, port, internal, AreLoose, no_loose, and_loose_one, Conns, no_conn, and_conn, and_node, IsCap, to_ground, coupling, IsRes, resistor, IsConfidence, no_confidence, confidence, IsPart, no_part, part, IsSection, section, IsSpef, spef}
use Rattle.spef_text.specs.SpefFiles.{SpefText, IsFormed}
use Rattle.spef_text.specs.Heads.{text_of}
use Rattle.spef_text.specs.declared.entries.Conn.{Conn}
use Rattle.spef_text.specs.declared.entries.Cap.{Cap}
use Rattle.spef_text.specs.declared.entries.Res.{Res}
use Rattle.spef_text.specs.declared.entries.MapEntry.{MapEntry}
use Rattle.spef_text.specs.declared.entries.HeadItem.{HeadItem}
use Rattle.spef_text.specs.declared.words.Word.{Word}

pub record HasCharacter (text : List ℕ) : Type 0 where
  pub some : text ≢ []
  pub other : text ≢ backslash ∷ []

-- ---- texts of a class

no_name : is_map_name [] ≡ false
unfolding is_map_name is_name
no_name = refl

lone_name : is_map_name (backslash ∷ []) ≡ false
unfolding is_map_name is_name is_broken cut_at
lone_name = refl

name_text : (text : List ℕ) → is_map_name text ≡ true → HasCharacter text
name_text text is = record {
  some = λ e. true≢false (sym is ∙ ap is_map_name e ∙ no_name);
  other = λ e. true≢false (sym is ∙ ap is_map_name e ∙ lone_name);
}

no_ref : (mark : ℕ) → is_ref mark [] ≡ false
unfolding is_ref
no_ref mark = refl

lone_ref : (mark : ℕ) → is_ref mark (backslash ∷ []) ≡ false
unfolding is_ref is_name is_broken cut_at
lone_ref mark = refl

ref_text : (mark : ℕ) (text : List ℕ) → is_ref mark text ≡ true → HasCharacter text
ref_text mark text is = record {
  some = λ e. true≢false (sym is ∙ ap (is_ref mark) e ∙ no_ref mark);
  other = λ e. true≢false (sym is ∙ ap (is_ref mark) e ∙ lone_ref mark);
}

-- ---- the tokens that name nodes

abbrev pub HasTextAt : SpefText → ℕ → Type 0
HasTextAt file token = HasCharacter (text_of file token)

abbrev pub cap_nodes : Cap → List ℕ
cap_nodes cap = cap.first ∷ option_to_list cap.second

abbrev pub res_nodes : Res → List ℕ
res_nodes res = res.first ∷ res.second ∷ []

pub record HasNodeTexts (file : SpefText) (said : Section) : Type 0 where
  pub conns : All (λ conn. HasTextAt file conn.node) said.conns
  pub caps : All (λ cap. All (HasTextAt file) (cap_nodes cap)) said.caps
  pub ress : All (λ res. All (HasTextAt file) (res_nodes res)) said.ress

module _ (file : SpefText) where
  -- the file has the token's text at the token's number
  abbrev IsOwn : Tok → Type 0
  IsOwn token = text_of file token.number ≡ token.text

  abbrev AreOwn : List Tok → Type 0
  AreOwn tokens = AllByRecursion IsOwn tokens

  text_stands : (n : ℕ) (text : List ℕ) → slice_index_or file.texts (n + 0) [] ≡ text → text_of file (n + 1) ≡ text
  text_stands n text at = by (n + 1 == 0) refl
    where
      by : (nothing : Bool) → (n + 1 == 0) ≡ nothing → cond nothing [] (slice_index_or file.texts (n + 1 - 1) []) ≡ text
      by true is = let none_is : n + 1 ≡ 0 = (Decides-eqb (n + 1) 0).0 is in absurd (omega (arith, none_is))
      by false is = let same : n + 1 - 1 ≡ n + 0 = omega arith in ap (λ i. slice_index_or file.texts i []) same ∙ at

  numbered_own : (n : ℕ) (texts : List (List ℕ)) → ((k : ℕ) → slice_index_or file.texts (n + k) [] ≡ slice_index_or texts k []) → AreOwn (numbered (n + 1) texts)
  numbered_own n [] stand = tt
  numbered_own n (text ∷ texts) stand = (text_stands n text (stand 0), numbered_own (n + 1) texts (λ k. ap (λ i. slice_index_or file.texts i []) (shifted k) ∙ stand (suc k)))
    where
      shifted : (k : ℕ) → n + 1 + k ≡ n + suc k
      shifted k = omega arith

  all_own : AreOwn (numbered 1 file.texts)
  all_own = numbered_own 0 file.texts (λ k. ap (λ i. slice_index_or file.texts i []) (same k))
    where
      same : (k : ℕ) → 0 + k ≡ k
      same k = omega arith

  ref_good : (mark : ℕ) (token : Tok) → IsOwn token → IsRef mark token → HasTextAt file token.number
  ref_good mark token own is = subst HasCharacter (sym own) (ref_text mark token.text is)

  name_good : (token : Tok) → IsOwn token → IsMapName token → HasTextAt file token.number
  name_good token own is = subst HasCharacter (sym own) (name_text token.text is)

  others_own : (from rest : List Tok) → Others from rest → AreOwn from → AreOwn rest
  others_own from rest no_other o = o
  others_own from rest (and_other {token = token} others is) o = (others_own from (token ∷ rest) others o).1

  -- ---- the head

  abbrev IsNamed : MapEntry → Type 0
  IsNamed entry = HasTextAt file entry.name

  item_own : (from rest : List Tok) (item : HeadItem) (head : Head) → IsItem from item rest → All IsNamed head.map → AreOwn from → All IsNamed (with_item head item).map × AreOwn rest
  item_own from rest item head (divider a b) m o = (m, o.1.1)
  item_own from rest item head (delimiter a b) m o = (m, o.1.1)
  item_own from rest item head (bus_marks a b c) m o = (m, o.1.1.1)
  item_own from rest item head (bus_pair a b) m o = (m, o.1.1)
  item_own from rest item head (no_design a) m o = (m, o.1)
  item_own from rest item head (design {from = inner} a b others) m o = (m, others_own inner rest others o.1.1)
  item_own from rest item head (cap_unit a b c) m o = (m, o.1.1.1)
  item_own from rest item head (res_unit a b c) m o = (m, o.1.1.1)

  map_own : (from rest : List Tok) (before after : Head) → IsMap from before after rest → All IsNamed before.map → AreOwn from → All IsNamed after.map × AreOwn rest
  map_own from rest before after no_entry m o = (m, o)
  map_own from rest before after (and_entry {after = middle} {index = index} {name = name} entries a b) m o =
      let s = map_own from (index ∷ name ∷ rest) before middle entries m o in
      (All-push IsNamed middle.map (record { index = index.number; name = name.number }) s.0 (name_good name s.1.1.0 b), s.1.1.1)

  items_own : (from rest : List Tok) (head : Head) → Items from head rest → AreOwn from → All IsNamed head.map × AreOwn rest
  items_own from rest head no_item o = (All-nil IsNamed, o)
  items_own from rest head (and_item {middle = middle} {head = before} {item = item} items is) o =
      let s = items_own from middle before items o in
      item_own middle rest item before is s.0 s.1
  items_own from rest head (and_free {middle = middle} {keyword = keyword} items a others) o =
      let s = items_own from (keyword ∷ middle) head items o in
      (s.0, others_own middle rest others s.1.1)
  items_own from rest head (and_map {middle = middle} {before = before} {keyword = keyword} items a is) o =
      let s = items_own from (keyword ∷ middle) before items o in
      map_own middle rest before head is s.0 s.1.1

  -- ---- the sections

  tail_own : (from rest : List Tok) (load : Option ℕ) → IsTail from load rest → AreOwn from → AreOwn rest
  tail_own from rest load no_tail o = o
  tail_own from rest load (and_loose {token = token} tail is) o = (tail_own from (token ∷ rest) load tail o).1
  tail_own from rest load (and_load {load = before} {keyword = keyword} {value = value} tail is number) o = (tail_own from (keyword ∷ value ∷ rest) before tail o).1.1

  abbrev IsConnNamed : Conn → Type 0
  IsConnNamed conn = HasTextAt file conn.node

  conn_own : (mark : ℕ) (from rest : List Tok) (conn : Conn) → IsConn mark from conn rest → AreOwn from → IsConnNamed conn × AreOwn rest
  conn_own mark from rest conn (port {node = node} {from = inner} {load = load} a b c tail) o = (ref_good mark node o.1.0 b, tail_own inner rest load tail o.1.1.1)
  conn_own mark from rest conn (internal {node = node} {from = inner} {load = load} a b c tail) o = (ref_good mark node o.1.0 b, tail_own inner rest load tail o.1.1.1)

  loose_own : (from rest : List Tok) → AreLoose from rest → AreOwn from → AreOwn rest
  loose_own from rest no_loose o = o
  loose_own from rest (and_loose_one {token = token} loose is) o = (loose_own from (token ∷ rest) loose o).1

  conns_own : (mark : ℕ) (from rest : List Tok) (conns : List Conn) → Conns mark from conns rest → AreOwn from → All IsConnNamed conns × AreOwn rest
  conns_own mark from rest conns no_conn o = (All-nil IsConnNamed, o)
  conns_own mark from rest conns (and_conn {middle = middle} {conns = before} {conn = conn} entries is) o =
      let s = conns_own mark from middle before entries o in
      let t = conn_own mark middle rest conn is s.1 in
      (All-push IsConnNamed before conn s.0 t.0, t.1)
  conns_own mark from rest conns (and_node {middle = middle} {keyword = keyword} entries is loose) o =
      let s = conns_own mark from (keyword ∷ middle) conns entries o in
      (s.0, loose_own middle rest loose s.1.1)

  abbrev IsCapNamed : Cap → Type 0
  IsCapNamed cap = All (HasTextAt file) (cap_nodes cap)

  cap_own : (mark : ℕ) (from rest : List Tok) (cap : Cap) → IsCap mark from cap rest → AreOwn from → IsCapNamed cap × AreOwn rest
  cap_own mark from rest cap (to_ground {first = first} a b c) o =
      (All-from_recursion (HasTextAt file) (first.number ∷ []) (ref_good mark first o.1.0 b, tt), o.1.1.1)
  cap_own mark from rest cap (coupling {first = first} {second = second} a b c d) o =
      (All-from_recursion (HasTextAt file) (first.number ∷ second.number ∷ []) (ref_good mark first o.1.0 b, (ref_good mark second o.1.1.0 c, tt)), o.1.1.1.1)

  abbrev IsResNamed : Res → Type 0
  IsResNamed res = All (HasTextAt file) (res_nodes res)

  res_own : (mark : ℕ) (from rest : List Tok) (res : Res) → IsRes mark from res rest → AreOwn from → IsResNamed res × AreOwn rest
  res_own mark from rest res (resistor {first = first} {second = second} a b c d) o =
      (All-from_recursion (HasTextAt file) (first.number ∷ second.number ∷ []) (ref_good mark first o.1.0 b, (ref_good mark second o.1.1.0 c, tt)), o.1.1.1.1)

  -- one entry after another
  many_own : {E : Type 0} (Part : List Tok → E → List Tok → Type 0) (Named : E → Type 0)
      → ((from rest : List Tok) (entry : E) → Part from entry rest → AreOwn from → Named entry × AreOwn rest)
      → (from rest : List Tok) (entries : List E) → Many Part from entries rest → AreOwn from → All Named entries × AreOwn rest
  many_own Part Named each from rest entries none o = (All-nil Named, o)
  many_own Part Named each from rest entries (more {middle = middle} {entries = before} {entry = entry} many is) o =
      let s = many_own Part Named each from middle before many o in
      let t = each middle rest entry is s.1 in
      (All-push Named before entry s.0 t.0, t.1)

  part_own : {E : Type 0} (keyword : Word) (Entries : List Tok → List E → List Tok → Type 0) (Named : E → Type 0)
      → ((from rest : List Tok) (entries : List E) → Entries from entries rest → AreOwn from → All Named entries × AreOwn rest)
      → (from rest : List Tok) (entries : List E) → IsPart keyword Entries from entries rest → AreOwn from → All Named entries × AreOwn rest
  part_own keyword Entries Named each from rest entries no_part o = (All-nil Named, o)
  part_own keyword Entries Named each from rest entries (part {from = inner} is said) o = each inner rest entries said o.1

  confidence_own : (from rest : List Tok) → IsConfidence from rest → AreOwn from → AreOwn rest
  confidence_own from rest no_confidence o = o
  confidence_own from rest (confidence a b) o = o.1.1

  section_own : (mark : ℕ) (from rest : List Tok) (said : Section) → IsSection mark from said rest → AreOwn from → HasNodeTexts file said × AreOwn rest
  section_own mark from rest said (section {end = end} {from = inner} {at_conns = at_conns} {at_caps = at_caps} {at_ress = at_ress} {conns = conns} {caps = caps} {ress = ress} a b c confident of_conns of_caps of_ress d) o =
      let r = part_own _ _ IsConnNamed (conns_own mark) at_conns at_caps conns of_conns (confidence_own inner at_conns confident o.1.1.1) in
      let s = part_own _ _ IsCapNamed (many_own _ IsCapNamed (cap_own mark)) at_caps at_ress caps of_caps r.1 in
      let t = part_own _ _ IsResNamed (many_own _ IsResNamed (res_own mark)) at_ress (end ∷ rest) ress of_ress s.1 in
      (record { conns = r.0; caps = s.0; ress = t.0 }, t.1.1)

  file_own : (tokens : List Tok) (reading : Reading) → IsSpef tokens reading → AreOwn tokens → All IsNamed reading.head.map × All (HasNodeTexts file) reading.sections
  file_own tokens reading (spef {from = from} {at_items = at_items} {at_sections = at_sections} {head = head} {sections = sections} is others items of_sections) o =
      let s = items_own at_items at_sections head items (others_own from at_items others o.1) in
      let t = many_own _ (HasNodeTexts file) (section_own head.marks.delimiter) at_sections [] sections of_sections s.1 in
      (s.0, t.0)

-- the names of the map of a file that has been read
pub map_texts : (file : SpefText) → IsFormed file → All (λ entry. HasTextAt file entry.name) file.reading.head.map
map_texts file is = (file_own file (numbered 1 file.texts) file.reading is (all_own file)).0

-- and the tokens that name nodes of its sections
pub node_texts : (file : SpefText) → IsFormed file → All (HasNodeTexts file) file.reading.sections
node_texts file is = (file_own file (numbered 1 file.texts) file.reading is (all_own file)).1
