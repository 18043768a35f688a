-- Whether a name lacks its pair.
use Rattle.std.proofs.Common.{◌≡◌, ℕ, ◌<◌, Bool, true, false, not, ◌⊎◌, inl, inr, List, length, get_or, slice_get, Option, Some, None, refl, sym, ap, ◌∙◌, subst, arith, true≢false, Decides}
use Rattle.token_texts.specs.Spans.{text_at}
use Rattle.verilog_netlist.specs.Namespaces.{name_of, IsAmong, by_own, in_header}
use Rattle.verilog_netlist.specs.Directions.{paired_names, StandsAmong, IsUnpaired}
use Rattle.verilog_netlist.specs.NameKeys.{code_of, Key, counted, key_of, key_at, holds, IsKeyBefore, HoldsNames, needed_names, is_lacking}
use Rattle.verilog_netlist.specs.declared.entries.Decl.TheVariants as decl
use Rattle.verilog_netlist.specs.declared.entries.Entry.{Entry}
use Rattle.verilog_netlist.specs.declared.entries.Entry.TheVariants.{Module, Header, Declared, Instance, Port, Whole, Bit, Part, Constant}
use Rattle.verilog_netlist.specs.declared.namespaces.Names.{Names}
use Rattle.verilog_netlist.specs.declared.namespaces.Names.TheVariants as names
use Rattle.verilog_netlist.specs.declared.repeats.Scopes.{Scopes}
use Rattle.verilog_netlist.proofs.Repeating.{Counts, scope_is, stands_key, key_stands, within_list}
use Rattle.std.proofs.lemmas.Option.{none-some, same_Some}

Needs : Names → Entry → Type 0
Needs other e = (needed_names e ≡ Some other) ⊎ IsAmong other e

pair_is : (among other to : Names) → paired_names among ≡ Some to → paired_names among ≡ Some other → to ≡ other
pair_is among other to one two = same_Some _ _ (sym one ∙ two)

module _ (other : Names) where
  of_header : (among : Names) (own : Names) → Some own ≡ Some among → paired_names among ≡ Some other → paired_names own ≡ Some other
  of_header among own is pair = ap paired_names (same_Some _ _ is) ∙ pair

  -- an entry with a name that needs a pair needs it, or is its pair itself
  needs : (e : Entry) (among : Names) → IsAmong among e → paired_names among ≡ Some other → Needs other e
  unfolding Needs
  needs (Header name) among (by_own is) pair = inl (of_header among names.Headers is pair)
  needs (Header name) among (in_header is) pair = absurd (none-some _ is)
  needs (Declared (decl.InHeader way) name bounds) among (by_own is) pair = inr (in_header (of_header among names.Directions is pair))
  needs (Declared (decl.InHeader way) name bounds) among (in_header is) pair = inr (by_own (of_header among names.Headers is pair))
  needs (Declared (decl.Port way) name bounds) among (by_own is) pair = inl (of_header among names.Directions is pair)
  needs (Declared (decl.Port way) name bounds) among (in_header is) pair = absurd (none-some _ is)
  needs (Declared decl.Wire name bounds) among (by_own is) pair = absurd (none-some _ (of_header among names.Wires is pair))
  needs (Declared decl.Wire name bounds) among (in_header is) pair = absurd (none-some _ is)
  needs (Module name) among (by_own is) pair = absurd (none-some _ (of_header among names.Modules is pair))
  needs (Module name) among (in_header is) pair = absurd (none-some _ is)
  needs (Instance cell name) among (by_own is) pair = absurd (none-some _ (of_header among names.Instances is pair))
  needs (Instance cell name) among (in_header is) pair = absurd (none-some _ is)
  needs (Port name) among (by_own is) pair = absurd (none-some _ (of_header among names.Ports is pair))
  needs (Port name) among (in_header is) pair = absurd (none-some _ is)
  needs (Whole name) among (by_own is) pair = absurd (none-some _ is)
  needs (Whole name) among (in_header is) pair = absurd (none-some _ is)
  needs (Bit name place) among (by_own is) pair = absurd (none-some _ is)
  needs (Bit name place) among (in_header is) pair = absurd (none-some _ is)
  needs (Part name bounds) among (by_own is) pair = absurd (none-some _ is)
  needs (Part name bounds) among (in_header is) pair = absurd (none-some _ is)
  needs (Constant token) among (by_own is) pair = absurd (none-some _ is)
  needs (Constant token) among (in_header is) pair = absurd (none-some _ is)

-- what needs a pair is one of those that have one
needing : (e : Entry) (other : Names) → needed_names e ≡ Some other → (among : Names) × IsAmong among e × (paired_names among ≡ Some other)
needing (Header name) other is = (names.Headers, by_own refl, is)
needing (Declared (decl.Port way) name bounds) other is = (names.Directions, by_own refl, is)
needing (Declared (decl.InHeader way) name bounds) other is = absurd (none-some _ is)
needing (Declared decl.Wire name bounds) other is = absurd (none-some _ is)
needing _ other is = absurd (none-some _ is)

abbrev IsNotPorts : Names → Type 0
IsNotPorts other = code_of other ≡ code_of names.Ports → ⊥

not_five : (code : ℕ) → code < 5 → code ≡ 5 → ⊥
not_five code low is = absurd (omega arith)

-- a port of an instance is no name's pair
pair_is_not_ports : (among other : Names) → paired_names among ≡ Some other → IsNotPorts other
pair_is_not_ports names.Headers other pair port = not_five 2 (omega arith) (ap code_of (same_Some _ _ pair) ∙ port)
pair_is_not_ports names.Directions other pair port = not_five 1 (omega arith) (ap code_of (same_Some _ _ pair) ∙ port)
pair_is_not_ports _ other pair port = absurd (none-some _ pair)

module _ (bytes : List ℕ) (entries : List Entry) (index : ℕ) (keys : List Key) (scopes : Scopes) (counts : Counts entries index scopes)
    (names : HoldsNames bytes entries (length entries) keys) (e : Entry) (stands : slice_get entries index ≡ Some e) (within : index < length entries) (here : get_or entries index e ≡ e) where
  abbrev now : Scopes
  now = counted scopes e

  abbrev name : List ℕ
  name = text_at bytes (name_of e)

  abbrev key_here : Names → Key
  key_here among = key_at bytes entries index e among

  key_is_here : (among : Names) → key_of among now name ≡ key_here among
  key_is_here among = ap (λ (s : ℕ). record { code = code_of among; scope = s; name = name }) (scope_is entries index scopes counts e within here among)

  -- what is held stands somewhere, and what stands somewhere is held
  there : (other : Names) → IsNotPorts other → holds keys (key_of other now name) ≡ true → StandsAmong bytes entries other index name
  there other differs h = key_stands bytes entries other index name (length entries) (subst (λ (k : Key). IsKeyBefore bytes entries (length entries) k) (key_is_here other) (names.held (key_of other now name) differs h))

  held : (other : Names) → IsNotPorts other → StandsAmong bytes entries other index name → holds keys (key_of other now name) ≡ true
  held other differs s = names.seen (key_of other now name) differs (subst (λ (k : Key). IsKeyBefore bytes entries (length entries) k) (sym (key_is_here other))
      (stands_key bytes entries other index name (length entries) s (within_list entries s.at s.one s.one_stands)))

  itself : (other : Names) → IsAmong other e → StandsAmong bytes entries other index name
  itself other is = record { at = index; one = e; one_stands = stands; one_among = is; one_scope = refl; one_text = refl }

  lacking : (among : Option Names) → is_lacking among now name keys ≡ true → (other : Names) × (among ≡ Some other) × (holds keys (key_of other now name) ≡ false)
  lacking None h = absurd (true≢false (sym h))
  lacking (Some other) h = by (holds keys (key_of other now name)) refl
    where
      by : (b : Bool) → holds keys (key_of other now name) ≡ b → (o : Names) × (Some other ≡ Some o) × (holds keys (key_of o now name) ≡ false)
      by true is = absurd (true≢false (sym h ∙ ap not is))
      by false never = (other, refl, never)

  lacks_so : (among : Option Names) (other : Names) → among ≡ Some other → (holds keys (key_of other now name) ≡ true → ⊥) → is_lacking among now name keys ≡ true
  lacks_so among other is never = ap (λ (a : Option Names). is_lacking a now name keys) is ∙ by (holds keys (key_of other now name)) refl
    where
      by : (b : Bool) → holds keys (key_of other now name) ≡ b → not (holds keys (key_of other now name)) ≡ true
      by true holds_it = absurd (never holds_it)
      by false missing = ap not missing

  unpaired : is_lacking (needed_names e) now name keys ≡ true → IsUnpaired bytes entries index
  unpaired h =
      let l = lacking (needed_names e) h in
      let n = needing e l.0 l.1 in
      record { among = n.0; other = l.0; one = e; one_stands = stands; one_among = n.1; pair = n.2; lacks = λ s. true≢false (sym (held l.0 (pair_is_not_ports n.0 l.0 n.2) s) ∙ l.2) }

  is_lacking_here : IsUnpaired bytes entries index → is_lacking (needed_names e) now name keys ≡ true
  unfolding Needs
  is_lacking_here r =
      let same : r.one ≡ e = same_Some _ _ (sym r.one_stands ∙ stands) in
      let lacks : StandsAmong bytes entries r.other index name → ⊥ = subst (λ (x : Entry). StandsAmong bytes entries r.other index (text_at bytes (name_of x)) → ⊥) same r.lacks in
      by r.other lacks (needs r.other e r.among (subst (λ (x : Entry). IsAmong r.among x) same r.one_among) r.pair)
    where
      by : (other : Names) → (StandsAmong bytes entries other index name → ⊥) → Needs other e → is_lacking (needed_names e) now name keys ≡ true
      by other lacks (inl need) = let n = needing e other need in lacks_so (needed_names e) other need (λ h. lacks (there other (pair_is_not_ports n.0 other n.2) h))
      by other lacks (inr is) = absurd (lacks (itself other is))

  pub decides_unpaired : Decides (is_lacking (needed_names e) now name keys) (IsUnpaired bytes entries index)
  decides_unpaired = (unpaired, is_lacking_here)

-- the same of what is equal to what is asked for
module _ {among among' : Option Names} {scopes scopes' : Scopes} {name name' : List ℕ} (e : among ≡ among') (f : scopes ≡ scopes') (g : name ≡ name') (keys : List Key) where
  pub lacks_as : (answer : Bool) → answer ≡ is_lacking among scopes name keys → answer ≡ is_lacking among' scopes' name' keys
  lacks_as answer is =
      is ∙ ap (λ (a : Option Names). is_lacking a scopes name keys) e ∙ ap (λ (s : Scopes). is_lacking among' s name keys) f ∙ ap (λ (n : List ℕ). is_lacking among' scopes' n keys) g
