-- A reference is looked up, and its node is listed or joined.
use Rattle.std.proofs.Common.{◌≡◌, ℕ, ◌+◌, ◌<◌, Bool, true, List, [], ◌∷◌, ◌++◌, length, map, take, get_or, refl, sym, ap, ◌∙◌, subst, arith, append_assoc, append-nil, add-one, length-append, ⊎_elim}
use Rattle.std.specs.Prelude.{Option, Some, None, slice_get, option_to_list}
use Rattle.std.specs.List.{flat_map}
use Rattle.std.proofs.lemmas.Grind.{flat_map-append}
use Rattle.std.proofs.lemmas.List.{map-append, length-take-le}
use Rattle.std.proofs.lemmas.Option.{slice_get_within, get_or_from_slice_get}
use Rattle.name_table.specs.declared.spef_names.NodeName.{NodeName}
use Rattle.spef_text.specs.SpefFiles.{SpefText}
use Rattle.spef_text.specs.Heads.{text_of}
use Rattle.name_table.specs.NodeKeys.{Key, key_of, among}
use Rattle.spef_nets.specs.Nodes.{named, node_at, nodes_at}
use Rattle.spef_nets.specs.Refs.{Refs, IsNamed, IsPut, held, added, IsFound, stands, newest, Lists, AreRefs, IsRef, Grows, keys_at, res_keys}
use Rattle.spef_nets.specs.Drafts.{Refers, stood, put, unknown, JoinsBy, JoinsAt, AllJoined, AreJoined}
use Rattle.spef_nets.specs.declared.parts.Joined.{Joined}
use Rattle.spef_text.specs.declared.entries.Res.{Res}
use Rattle.spef_nets.proofs.Lists.{get_left, get_last, get_push, take_push}
use Rattle.spef_nets.proofs.RefLemmas.{put_held, put_added, list_step, join_step, its_mark}

pub record Referred (file : SpefText) (net : List ℕ) (listed joined : List Key) (token : ℕ) (old new : Refs) (word : Option ℕ) : Type 0 where
  pub are : AreRefs file net listed joined new
  pub ref : IsRef file new.words token word
  pub grows : Grows old.words new.words
  pub nodes : new.nodes ≡ old.nodes

pub grows_none : (words : List (List ℕ)) → Grows words words
grows_none words = ([], sym (append-nil words))

pub grows_more : (one two three : List (List ℕ)) → Grows one two → Grows two three → Grows one three
grows_more one two three (a, e) (b, f) = (a ++ b, f ∙ ap (λ l. l ++ b) e ∙ append_assoc one a b)

pub still_ref : (file : SpefText) (old new : List (List ℕ)) (token : ℕ) (word : Option ℕ) → Grows old new → IsRef file old token word → IsRef file new token word
still_ref file old new token None grows is = is
still_ref file old new token (Some number) (more, e) is = ap (λ l. slice_get l number) e ∙ get_left old more number (text_of file token) is

-- a word that was found or put refers to its node
pub refers_found : (file : SpefText) (net : List ℕ) (token : ℕ) (old new : Refs) (node : NodeName) (number : ℕ) → named file true (text_of file token) ≡ Some node → IsFound net old new (text_of file token) node number
    → Refers file net token old new (Some number)
refers_found file net token old new node number names_it (stands at same) = stood at same
refers_found file net token old new node number names_it (newest count is) = put node names_it count is

put_words : (net : List ℕ) (old new : Refs) (word : List ℕ) (node : NodeName) → IsPut net old new word node → new.words ≡ old.words ++ word ∷ []
put_words net old new word node (held place at is) = ap (λ (r : Refs). r.words) is
put_words net old new word node (added absent is) = ap (λ (r : Refs). r.words) is

put_nodes : (net : List ℕ) (old new : Refs) (word : List ℕ) (node : NodeName) → IsPut net old new word node → new.nodes ≡ old.nodes
put_nodes net old new word node (held place at is) = ap (λ (r : Refs). r.nodes) is
put_nodes net old new word node (added absent is) = ap (λ (r : Refs). r.nodes) is

module _ (file : SpefText) (net : List ℕ) (listed joined : List Key) where
  put_are : (old new : Refs) (word : List ℕ) (node : NodeName) → AreRefs file net listed joined old → named file true word ≡ Some node → IsPut net old new word node → AreRefs file net listed joined new
  put_are old new word node are names_it (held place at is) = subst (λ (r : Refs). AreRefs file net listed joined r) (sym is) (put_held file net listed joined old are word node place names_it at)
  put_are old new word node are names_it (added absent is) = subst (λ (r : Refs). AreRefs file net listed joined r) (sym is) (put_added file net listed joined old are word node names_it absent)

  pub refers : (token : ℕ) (old new : Refs) (word : Option ℕ) → AreRefs file net listed joined old → Refers file net token old new word → Referred file net listed joined token old new word
  refers token old new (Some number) are (stood at same) = record {
    are = subst (λ (r : Refs). AreRefs file net listed joined r) (sym same) are;
    ref = ap (λ (r : Refs). slice_get r.words number) same ∙ at;
    grows = ([], ap (λ (r : Refs). r.words) same ∙ sym (append-nil old.words));
    nodes = ap (λ (r : Refs). r.nodes) same;
  }
  refers token old new (Some number) are (put node names_it last is) = record {
    are = put_are old new (text_of file token) node are names_it is;
    ref = ap (λ l. slice_get l number) (put_words net old new (text_of file token) node is) ∙ ap (slice_get (old.words ++ text_of file token ∷ [])) last ∙ get_last old.words (text_of file token);
    grows = (text_of file token ∷ [], put_words net old new (text_of file token) node is);
    nodes = put_nodes net old new (text_of file token) node is;
  }
  refers token old new None are (unknown none same) = record {
    are = subst (λ (r : Refs). AreRefs file net listed joined r) (sym same) are;
    ref = none;
    grows = ([], ap (λ (r : Refs). r.words) same ∙ sym (append-nil old.words));
    nodes = ap (λ (r : Refs). r.nodes) same;
  }

  -- the places that a known word may be asked at
  pub word_within : (refs : Refs) (token number : ℕ) → AreRefs file net listed joined refs → IsRef file refs.words token (Some number) → number < length refs.places
  word_within refs token number are ref = let w = slice_get_within refs.words number (text_of file token) ref in omega (arith, w, are.words_placed)

  pub word_named : (refs : Refs) (token number : ℕ) → AreRefs file net listed joined refs → IsRef file refs.words token (Some number) → IsNamed refs number
  word_named refs token number are ref = let is = are.spelled number (text_of file token) ref in (is.node, is.kept)

  pub node_of : (refs : Refs) (token number : ℕ) → AreRefs file net listed joined refs → IsRef file refs.words token (Some number) → (node : NodeName) × (node_at file token ≡ Some node)
  node_of refs token number are ref = let is = are.spelled number (text_of file token) ref in (is.node, is.names)

  pub lists : (old new : Refs) (token number : ℕ) (was : Bool) (node : NodeName) → AreRefs file net listed joined old → IsRef file old.words token (Some number) → node_at file token ≡ Some node
      → Lists old new number was → AreRefs file net (listed ++ key_of node ∷ []) joined new × (was ≡ among (key_of node) listed) × (new.words ≡ old.words) × (new.nodes ≡ old.nodes)
  lists old new token number was node are ref names_it it = (
    subst (λ (r : Refs). AreRefs file net (listed ++ key_of node ∷ []) joined r) (sym it.is) (list_step file net listed joined old are number (text_of file token) node ref names_it it.place it.mark it.marked),
    it.listed ∙ (its_mark file net listed joined old are number (text_of file token) node ref names_it it.place it.mark it.marked).is_listed,
    ap (λ (r : Refs). r.words) it.is,
    ap (λ (r : Refs). r.nodes) it.is,
  )

  pub joins_at : (token : ℕ) (old new : Refs) (word : Option ℕ) → AreRefs file net listed joined old → JoinsAt file net token old new word → Referred file net listed (joined ++ keys_at file (token ∷ [])) token old new word
  joins_at token old new word are it = by word (refers token old it.middle word are it.refers) it.joins
    where
      no_key : (node : Option NodeName) → node ≡ None → joined ++ map key_of (option_to_list node ++ []) ≡ joined
      no_key None e = append-nil joined
      no_key (Some node) e = absurd (cc)

      one_key : (node : Option NodeName) (its : NodeName) → node ≡ Some its → joined ++ map key_of (option_to_list node ++ []) ≡ joined ++ key_of its ∷ []
      one_key None its e = absurd (cc)
      one_key (Some node) its e = let same : node ≡ its = cc in ap (λ n. joined ++ key_of n ∷ []) same

      by : (word : Option ℕ) → Referred file net listed joined token old it.middle word → JoinsBy it.middle new word → Referred file net listed (joined ++ keys_at file (token ∷ [])) token old new word
      by None its same = record {
        are = subst (λ (r : Refs). AreRefs file net listed (joined ++ keys_at file (token ∷ [])) r) (sym same) (subst (λ (l : List Key). AreRefs file net listed l it.middle) (sym (no_key (node_at file token) its.ref)) its.are);
        ref = its.ref;
        grows = subst (λ (r : Refs). Grows old.words r.words) (sym same) its.grows;
        nodes = ap (λ (r : Refs). r.nodes) same ∙ its.nodes;
      }
      by (Some number) its joins =
          let node = node_of it.middle token number its.are its.ref in
          let stepped = join_step file net listed joined it.middle its.are number (text_of file token) node.0 its.ref node.1 joins.place joins.mark joins.marked in
          record {
            are = subst (λ (l : List Key). AreRefs file net listed l new) (sym (one_key (node_at file token) node.0 node.1)) (subst (λ (r : Refs). AreRefs file net listed (joined ++ key_of node.0 ∷ []) r) (sym joins.is) stepped);
            ref = ap (λ (r : Refs). slice_get r.words number) joins.is ∙ its.ref;
            grows = subst (λ (r : Refs). Grows old.words r.words) (sym joins.is) its.grows;
            nodes = ap (λ (r : Refs). r.nodes) joins.is ∙ its.nodes;
          }

-- the resistors' references so far
pub record AreJoinedUpto (file : SpefText) (net : List ℕ) (old new : Refs) (ress : List Res) (joints : List Joined) (many : ℕ) : Type 0 where
  pub are : AreRefs file net [] (res_keys file (take many ress)) new
  pub known : AllJoined file new.words (take many ress) joints
  pub count : length joints ≡ many
  pub nodes : new.nodes ≡ old.nodes

res_keys_push : (file : SpefText) (ress : List Res) (res : Res) → (res_keys file ress ++ keys_at file (res.first ∷ [])) ++ keys_at file (res.second ∷ []) ≡ res_keys file (ress ++ res ∷ [])
res_keys_push file ress res =
    append_assoc (res_keys file ress) (keys_at file (res.first ∷ [])) (keys_at file (res.second ∷ []))
    ∙ ap (λ l. res_keys file ress ++ l) (sym (map-append key_of (nodes_at file (res.first ∷ [])) (nodes_at file (res.second ∷ []))) ∙ ap (map key_of) (sym (flat_map-append (λ token. option_to_list (node_at file token)) (res.first ∷ []) (res.second ∷ []))))
    ∙ sym (map-append key_of (nodes_at file (flat_map tokens ress)) (nodes_at file (tokens res)))
    ∙ ap (map key_of) (sym (flat_map-append (λ token. option_to_list (node_at file token)) (flat_map tokens ress) (tokens res)) ∙ ap (nodes_at file) (sym (flat_map-append tokens ress (res ∷ []))))
  where
    tokens : Res → List ℕ
    tokens res = res.first ∷ res.second ∷ []

pub joined_more : (file : SpefText) (net : List ℕ) (old one two three : Refs) (ress : List Res) (joints after : List Joined) (i : ℕ) (res : Res) (first second : Option ℕ)
    → slice_get ress i ≡ Some res → AreJoinedUpto file net old one ress joints i
    → JoinsAt file net res.first one two first → JoinsAt file net res.second two three second → after ≡ joints ++ record { first = first; second = second } ∷ []
    → AreJoinedUpto file net old three ress after (i + 1)
joined_more file net old one two three ress joints after i res first second at upto firsts seconds pushed =
    let a = joins_at file net [] (res_keys file (take i ress)) res.first one two first upto.are firsts in
    let b = joins_at file net [] (res_keys file (take i ress) ++ keys_at file (res.first ∷ [])) res.second two three second a.are seconds in
    let taken : take (i + 1) ress ≡ take i ress ++ res ∷ [] = rw add-one (take_push ress i res at) in
    let grown : Grows one.words three.words = grows_more one.words two.words three.words a.grows b.grows in
    let within = slice_get_within ress i res at in
    let count_taken : length (take i ress) ≡ i = length-take-le i ress (omega (arith, within)) in
    record {
      are = subst (λ (l : List Key). AreRefs file net [] l three) (res_keys_push file (take i ress) res ∙ ap (res_keys file) (sym taken)) b.are;
      known = λ k other there. ⊎_elim
          (λ l.
          let its = upto.known k other l in (
            its.0,
            ap (λ l. slice_get l k) pushed ∙ get_left joints (record { first = first; second = second } ∷ []) k its.0 its.1,
            (still_ref file one.words three.words other.first its.0.first grown its.2.0, still_ref file one.words three.words other.second its.0.second grown its.2.1),
          ))
          (λ r.
          let place : k ≡ length joints = r.0 ∙ count_taken ∙ sym upto.count in (
            record { first = first; second = second },
            ap (λ l. slice_get l k) pushed ∙ ap (slice_get (joints ++ record { first = first; second = second } ∷ [])) place ∙ get_last joints (record { first = first; second = second }),
            subst (λ (x : Res). AreJoined file three.words x (record { first = first; second = second })) r.1 (still_ref file two.words three.words res.first first b.grows a.ref, b.ref),
          ))
          (get_push (take i ress) res k other (ap (λ l. slice_get l k) (sym taken) ∙ there));
      count = ap length pushed ∙ length-append joints (record { first = first; second = second } ∷ []) ∙ ap (λ n. n + 1) upto.count;
      nodes = b.nodes ∙ a.nodes ∙ upto.nodes;
    }

pub none_joined : (file : SpefText) (net : List ℕ) (refs : Refs) (ress : List Res) (joints : List Joined) → AreRefs file net [] [] refs → joints ≡ [] → AreJoinedUpto file net refs refs ress joints 0
none_joined file net refs ress joints are none = record {
  are = are;
  known = λ k other there. absurd (cc);
  count = ap length none;
  nodes = refl;
}

-- the references of one resistor
pub joined_at_place : (file : SpefText) (words after : List (List ℕ)) (ress : List Res) (joints : List Joined) (i : ℕ) (res : Res) (d : Joined) → AllJoined file words ress joints → after ≡ words → slice_get ress i ≡ Some res
    → AreJoined file after res (get_or joints i d)
joined_at_place file words after ress joints i res d all same at =
    let its = all i res at in
    subst (λ (l : List (List ℕ)). AreJoined file l res (get_or joints i d)) (sym same) (subst (λ (j : Joined). AreJoined file words res j) (sym (get_or_from_slice_get joints i its.0 d its.1)) its.2)

pub joined_grown : (file : SpefText) (words after : List (List ℕ)) (ress : List Res) (joints seen : List Joined) → Grows words after → seen ≡ joints → AllJoined file words ress joints → AllJoined file after ress seen
joined_grown file words after ress joints seen grows same all = λ i res at.
    let its = all i res at in
    (its.0, ap (λ l. slice_get l i) same ∙ its.1, (still_ref file words after res.first its.0.first grows its.2.0, still_ref file words after res.second its.0.second grows its.2.1))
