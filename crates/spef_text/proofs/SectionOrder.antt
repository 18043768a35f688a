-- The tokens of the sections stand in the order of the file.
use Rattle.std.proofs.Common.{◌≡◌, ℕ, zero, suc, ◌+◌, ◌<◌, ◌≤◌, List, [], ◌∷◌, ◌++◌, length, slice_index, Option, length-append, sym, arith, subst}
use Rattle.std.specs.Prelude.{option_to_list}
use Rattle.std.specs.List.{flat_map}
use Rattle.std.specs.List.Sorted.{IsStrictlyIncreasing}
use Rattle.std.proofs.lemmas.List.{flat_map_more}
use Rattle.token_fronts.specs.Tokens.{numbered}
use Rattle.spef_text.specs.Entries.{Section, Reading}
use Rattle.spef_text.specs.Grammar.{Tok, Many, none, more, IsTail, no_tail, and_loose, and_load, IsConn, port, internal, AreLoose, no_loose, and_loose_one, Conns, no_conn, and_conn, and_node, IsCap, to_ground, coupling, IsRes, resistor, IsConfidence, no_confidence, confidence, IsPart, no_part, part, IsSection, section, IsSpef, spef}
use Rattle.spef_text.specs.SpefFiles.{SpefText, IsFormed}
use Rattle.spef_text.specs.TokenOrder.{conn_tokens, cap_tokens, res_tokens, section_tokens, AreInFileOrder}
use Rattle.spef_text.specs.declared.entries.Conn.{Conn}
use Rattle.spef_text.specs.declared.entries.Cap.{Cap}
use Rattle.spef_text.specs.declared.entries.Res.{Res}
use Rattle.spef_text.specs.declared.words.Word.{Word}
use Rattle.spef_text.proofs.MapOrder.{Rises, behind, all_rise, others_rise, items_stand}

-- the numbers rise, the first is past n, and none is past m
abbrev pub Between : ℕ → List ℕ → ℕ → Type 0
Between n [] m = n ≤ m
Between n (number ∷ numbers) m = (n < number) × Between number numbers m

pub ends_above : (n m : ℕ) (numbers : List ℕ) → Between n numbers m → n ≤ m
ends_above n m [] b = b
ends_above n m (number ∷ numbers) b =
    let less = b.0 in
    let rest = ends_above number m numbers b.1 in
    omega (arith, less, rest)

pub from_below : (n k m : ℕ) (numbers : List ℕ) → n ≤ k → Between k numbers m → Between n numbers m
from_below n k m [] h b = omega (arith, h, b)
from_below n k m (number ∷ numbers) h b = let less = b.0 in let lower : n < number = omega (arith, h, less) in (lower, b.1)

joined : (n m k : ℕ) (numbers others : List ℕ) → Between n numbers m → Between m others k → Between n (numbers ++ others) k
joined n m k [] others a b = from_below n m k others a b
joined n m k (number ∷ numbers) others a b = (a.0, joined number m k numbers others a.1 b)

-- up to a last number
module _ (most : ℕ) where
  -- numbers past n were said, and the rest of the tokens are later
  record Said (n : ℕ) (numbers : List ℕ) (rest : List Tok) : Type 0 where
    last : ℕ
    between : Between n numbers last
    later : Rises most last rest

  nothing_said : (n : ℕ) (rest : List Tok) → Rises most n rest → Said n [] rest
  nothing_said n rest r = record { last = n; between = omega arith; later = r }

  one_said : (n : ℕ) (token : Tok) (rest : List Tok) → Rises most n (token ∷ rest) → Said n (token.number ∷ []) rest
  one_said n token rest r = record { last = token.number; between = (r.0, omega arith); later = r.1 }

  more_said : (n : ℕ) (numbers others : List ℕ) (middle rest : List Tok) → Said n numbers middle → ((m : ℕ) → Rises most m middle → Said m others rest) → Said n (numbers ++ others) rest
  more_said n numbers others middle rest s goes =
      let t = goes s.last s.later in
      record { last = t.last; between = joined n s.last t.last numbers others s.between t.between; later = t.later }

  passed : (n : ℕ) (numbers : List ℕ) (middle rest : List Tok) → Said n numbers middle → ((m : ℕ) → Rises most m middle → Rises most m rest) → Said n numbers rest
  passed n numbers middle rest s goes = record { last = s.last; between = s.between; later = goes s.last s.later }

  -- ---- one part after another

  tail_said : (n : ℕ) (from rest : List Tok) (load : Option ℕ) → IsTail from load rest → Rises most n from → Said n (option_to_list load) rest
  tail_said n from rest load no_tail r = nothing_said n from r
  tail_said n from rest load (and_loose {token = token} tail is) r = passed n (option_to_list load) (token ∷ rest) rest (tail_said n from (token ∷ rest) load tail r) (λ m. behind most m token rest)
  tail_said n from rest load (and_load {load = before} {keyword = keyword} {value = value} tail is number) r =
      let s = tail_said n from (keyword ∷ value ∷ rest) before tail r in
      let low = ends_above n s.last (option_to_list before) s.between in
      let next = behind most s.last keyword (value ∷ rest) s.later in
      let less = next.0 in
      let past : n < value.number = omega (arith, low, less) in
      record { last = value.number; between = (past, omega arith); later = next.1 }

  node_said : (n : ℕ) (keyword node direction : Tok) (from rest : List Tok) (load : Option ℕ) → IsTail from load rest → Rises most n (keyword ∷ node ∷ direction ∷ from) → Said n (node.number ∷ option_to_list load) rest
  node_said n keyword node direction from rest load tail r =
      more_said n (node.number ∷ []) (option_to_list load) from rest
      (passed n (node.number ∷ []) (direction ∷ from) from (one_said n node (direction ∷ from) (behind most n keyword (node ∷ direction ∷ from) r)) (λ m. behind most m direction from))
      (λ m. tail_said m from rest load tail)

  conn_said : (mark n : ℕ) (from rest : List Tok) (conn : Conn) → IsConn mark from conn rest → Rises most n from → Said n (conn_tokens conn) rest
  conn_said mark n from rest conn (port {keyword = keyword} {node = node} {direction = direction} {from = inner} {load = load} a b c tail) r = node_said n keyword node direction inner rest load tail r
  conn_said mark n from rest conn (internal {keyword = keyword} {node = node} {direction = direction} {from = inner} {load = load} a b c tail) r = node_said n keyword node direction inner rest load tail r

  loose_rise : (n : ℕ) (from rest : List Tok) → AreLoose from rest → Rises most n from → Rises most n rest
  loose_rise n from rest no_loose r = r
  loose_rise n from rest (and_loose_one {token = token} loose is) r = behind most n token rest (loose_rise n from (token ∷ rest) loose r)

  one_more : {E : Type 0} (numbers : E → List ℕ) (n : ℕ) (entries : List E) (entry : E) (rest : List Tok) → Said n (flat_map numbers entries ++ numbers entry) rest → Said n (flat_map numbers (entries ++ entry ∷ [])) rest
  one_more numbers n entries entry rest s = subst (λ (xs : List ℕ). Said n xs rest) (flat_map_more numbers [] entries entry) s

  conns_said : (mark n : ℕ) (from rest : List Tok) (conns : List Conn) → Conns mark from conns rest → Rises most n from → Said n (flat_map conn_tokens conns) rest
  conns_said mark n from rest conns no_conn r = nothing_said n from r
  conns_said mark n from rest conns (and_conn {middle = middle} {conns = before} {conn = conn} entries is) r =
      one_more conn_tokens n before conn rest
      (more_said n (flat_map conn_tokens before) (conn_tokens conn) middle rest (conns_said mark n from middle before entries r) (λ m. conn_said mark m middle rest conn is))
  conns_said mark n from rest conns (and_node {middle = middle} {keyword = keyword} entries is loose) r =
      passed n (flat_map conn_tokens conns) (keyword ∷ middle) rest (conns_said mark n from (keyword ∷ middle) conns entries r)
      (λ m rises. loose_rise m middle rest loose (behind most m keyword middle rises))

  cap_said : (mark n : ℕ) (from rest : List Tok) (cap : Cap) → IsCap mark from cap rest → Rises most n from → Said n (cap_tokens cap) rest
  cap_said mark n from rest cap (to_ground {id = id} {first = first} {value = value} a b c) r =
      more_said n (first.number ∷ []) (value.number ∷ []) (value ∷ rest) rest (one_said n first (value ∷ rest) (behind most n id (first ∷ value ∷ rest) r)) (λ m. one_said m value rest)
  cap_said mark n from rest cap (coupling {id = id} {first = first} {second = second} {value = value} a b c d) r =
      more_said n (first.number ∷ []) (second.number ∷ value.number ∷ []) (second ∷ value ∷ rest) rest (one_said n first (second ∷ value ∷ rest) (behind most n id (first ∷ second ∷ value ∷ rest) r))
      (λ m rises. more_said m (second.number ∷ []) (value.number ∷ []) (value ∷ rest) rest (one_said m second (value ∷ rest) rises) (λ k. one_said k value rest))

  res_said : (mark n : ℕ) (from rest : List Tok) (res : Res) → IsRes mark from res rest → Rises most n from → Said n (res_tokens res) rest
  res_said mark n from rest res (resistor {id = id} {first = first} {second = second} {value = value} a b c d) r =
      more_said n (first.number ∷ []) (second.number ∷ value.number ∷ []) (second ∷ value ∷ rest) rest (one_said n first (second ∷ value ∷ rest) (behind most n id (first ∷ second ∷ value ∷ rest) r))
      (λ m rises. more_said m (second.number ∷ []) (value.number ∷ []) (value ∷ rest) rest (one_said m second (value ∷ rest) rises) (λ k. one_said k value rest))

  -- the numbers of one entry after another
  many_said : {E : Type 0} (Part : List Tok → E → List Tok → Type 0) (numbers : E → List ℕ)
      → ((n : ℕ) (from rest : List Tok) (entry : E) → Part from entry rest → Rises most n from → Said n (numbers entry) rest)
      → (n : ℕ) (from rest : List Tok) (entries : List E) → Many Part from entries rest → Rises most n from → Said n (flat_map numbers entries) rest
  many_said Part numbers each n from rest entries none r = nothing_said n from r
  many_said Part numbers each n from rest entries (more {middle = middle} {entries = before} {entry = entry} many is) r =
      one_more numbers n before entry rest
      (more_said n (flat_map numbers before) (numbers entry) middle rest (many_said Part numbers each n from middle before many r) (λ m. each m middle rest entry is))

  part_said : {E : Type 0} (keyword : Word) (Entries : List Tok → List E → List Tok → Type 0) (numbers : E → List ℕ)
      → ((n : ℕ) (from rest : List Tok) (entries : List E) → Entries from entries rest → Rises most n from → Said n (flat_map numbers entries) rest)
      → (n : ℕ) (from rest : List Tok) (entries : List E) → IsPart keyword Entries from entries rest → Rises most n from → Said n (flat_map numbers entries) rest
  part_said keyword Entries numbers each n from rest entries no_part r = nothing_said n from r
  part_said keyword Entries numbers each n from rest entries (part {head = head} {from = inner} is said) r = each n inner rest entries said (behind most n head inner r)

  confidence_rises : (n : ℕ) (from rest : List Tok) → IsConfidence from rest → Rises most n from → Rises most n rest
  confidence_rises n from rest no_confidence r = r
  confidence_rises n from rest (confidence {keyword = keyword} {literal = literal} a b) r = behind most n literal rest (behind most n keyword (literal ∷ rest) r)

  section_said : (mark n : ℕ) (from rest : List Tok) (said : Section) → IsSection mark from said rest → Rises most n from → Said n (section_tokens said) rest
  section_said mark n from rest said (section {keyword = keyword} {net = net} {total = total} {end = end} {from = inner} {at_conns = at_conns} {at_caps = at_caps} {at_ress = at_ress} {conns = conns} {caps = caps} {ress = ress} a b c confident of_conns of_caps of_ress d) r =
      more_said n (net.number ∷ []) (flat_map conn_tokens conns ++ flat_map cap_tokens caps ++ flat_map res_tokens ress) at_conns rest
      (passed n (net.number ∷ []) (total ∷ inner) at_conns (one_said n net (total ∷ inner) (behind most n keyword (net ∷ total ∷ inner) r)) (λ m rises. confidence_rises m inner at_conns confident (behind most m total inner rises)))
      (λ m rises. more_said m (flat_map conn_tokens conns ++ flat_map cap_tokens caps) (flat_map res_tokens ress) at_ress rest
      (more_said m (flat_map conn_tokens conns) (flat_map cap_tokens caps) at_caps at_ress
      (part_said _ _ conn_tokens (conns_said mark) m at_conns at_caps conns of_conns rises)
      (λ k. part_said _ _ cap_tokens (many_said _ cap_tokens (cap_said mark)) k at_caps at_ress caps of_caps))
      (λ l rises. passed l (flat_map res_tokens ress) (end ∷ rest) rest (part_said _ _ res_tokens (many_said _ res_tokens (res_said mark)) l at_ress (end ∷ rest) ress of_ress rises) (λ p. behind most p end rest)))

  said_of : (tokens : List Tok) (reading : Reading) → IsSpef tokens reading → Rises most 0 tokens → (last : ℕ) × Between 0 (flat_map section_tokens reading.sections) last × (last ≤ most)
  said_of tokens reading (spef {keyword = keyword} {from = from} {at_items = at_items} {at_sections = at_sections} {head = head} {sections = sections} a others items of_sections) r =
      let stands = items_stand most 0 at_items at_sections head items (others_rise most 0 from at_items others (behind most 0 keyword from r)) in
      let said = many_said _ section_tokens (section_said head.marks.delimiter) stands.last at_sections [] sections of_sections stands.later in
      (said.last, from_below 0 stands.last said.last (flat_map section_tokens sections) (omega arith) said.between, said.later)

-- ---- the file

next_is_more : (n m : ℕ) (numbers : List ℕ) (k : ℕ) → Between n numbers m → k < length numbers → slice_index (n ∷ numbers) k < slice_index (n ∷ numbers) (suc k)
next_is_more n m [] k b h = absurd (omega (arith, h))
next_is_more n m (number ∷ numbers) zero b h = b.0
next_is_more n m (number ∷ numbers) (suc k) b h = let within : k < length numbers = omega (arith, h) in next_is_more number m numbers k b.1 within

increasing : (n m : ℕ) (numbers : List ℕ) → Between n numbers m → IsStrictlyIncreasing (n ∷ numbers)
increasing n m numbers b = λ k h.
    let e : k + 1 ≡ suc k = omega arith in
    let within : k < length numbers = omega (arith, h) in
    subst (λ j. slice_index (n ∷ numbers) k < slice_index (n ∷ numbers) j) (sym e) (next_is_more n m numbers k b within)

-- the tokens of the sections of a file that has been read stand in order
pub sections_in_order : (file : SpefText) → IsFormed file → AreInFileOrder file.reading.sections
sections_in_order file is =
    let (last, between, few) = said_of (length file.texts) (numbered 1 file.texts) file.reading is (all_rise file.texts) in
    increasing 0 last (flat_map section_tokens file.reading.sections) between

as_many : (n m : ℕ) (numbers : List ℕ) → Between n numbers m → n + length numbers ≤ m
as_many n m [] b = omega (arith, b)
as_many n m (number ∷ numbers) b = let less = b.0 in let rest = as_many number m numbers b.1 in omega (arith, less, rest)

one_each : (sections : List Section) → length sections ≤ length (flat_map section_tokens sections)
one_each [] = omega arith
one_each (first ∷ later) = let sum = length-append (section_tokens first) (flat_map section_tokens later) in let rest = one_each later in omega (arith, sum, rest)

-- there are no more sections than tokens
pub few_sections : (file : SpefText) → IsFormed file → length file.reading.sections ≤ length file.texts
few_sections file is =
    let (last, between, few) = said_of (length file.texts) (numbered 1 file.texts) file.reading is (all_rise file.texts) in
    let many = as_many 0 last (flat_map section_tokens file.reading.sections) between in
    let each = one_each file.reading.sections in
    omega (arith, many, each, few)

-- numbers that increase rise from the first
pub rising : (n : ℕ) (numbers : List ℕ) → IsStrictlyIncreasing (n ∷ numbers) → (m : ℕ) × Between n numbers m
rising n [] up = (n, omega arith)
rising n (number ∷ numbers) up =
    let first : n < number = up 0 (omega arith) in
    let rest = rising number numbers (λ k h. next k h) in
    (rest.0, (first, rest.1))
  where
    next : (k : ℕ) → k + 1 < length (number ∷ numbers) → slice_index (number ∷ numbers) k < slice_index (number ∷ numbers) (k + 1)
    next k h =
        let e : k + 1 ≡ suc k = omega arith in
        let f : suc k + 1 ≡ suc (k + 1) = omega arith in
        let within : suc k + 1 < length (n ∷ number ∷ numbers) = omega (arith, h) in
        subst (λ j. slice_index (n ∷ number ∷ numbers) (suc k) < slice_index (n ∷ number ∷ numbers) j) f (up (suc k) within)
