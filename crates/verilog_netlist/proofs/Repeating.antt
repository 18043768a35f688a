-- The names so far, and whether the next one is repeated.
use Rattle.std.proofs.Common.{◌≡◌, ℕ, zero, suc, ◌+◌, ◌<◌, ◌≤◌, Bool, true, false, not, ◌&&◌, ◌||◌, ◌==◌, ◌⊎◌, inl, inr, List, [], ◌∷◌, ◌++◌, length, take, get_or, slice_get, Option, Some, None, refl, sym, ap, ap₂, ◌∙◌, subst, arith, true≢false, if◌then◌else◌, Decides}
use Rattle.std.specs.Prelude.{count_by}
use Rattle.std.specs.List.{list_any}
use Rattle.std.specs.Str.{bytes_eq}
use Rattle.std.proofs.lemmas.Bool.{eqb-true, eq-eqb, ne_eqb, cases_eq}
use Rattle.std.proofs.lemmas.List.{map-append, get_or_default}
use Rattle.std.proofs.lemmas.List.Folds.{list_any-append}
use Rattle.std.proofs.lemmas.List.Sums.{count_by_more_yes, count_by_more_no}
use Rattle.std.proofs.lemmas.Option.{none-some, same_Some, slice_get-get_or}
use Rattle.std.proofs.lemmas.Slice.Eq.{bytes_eq-Decides}
use Rattle.indexmap.specs.IndexSet.{insert_key}
use Rattle.token_texts.specs.Spans.{text_at}
use Rattle.verilog_netlist.specs.Namespaces.{name_of, own_names, header_names, IsAmong, by_own, in_header, begins_module, begins_instance, scope_of, IsRepeated}
use Rattle.verilog_netlist.specs.Directions.{StandsAmong}
pub use Rattle.verilog_netlist.specs.PartPlaces.{no_entry}
use Rattle.verilog_netlist.specs.NameKeys.{code_of, Key, key_in, keys_in, same_key, scope_in, counted, key_of, holds, is_ports, keeps, ports_from, with_key, is_held, with_name, is_either_held, with_both, key_at, IsKeyBefore, HoldsNames}
use Rattle.verilog_netlist.specs.declared.entries.Decl.TheVariants as decl
use Rattle.verilog_netlist.specs.declared.entries.Entry.{Entry}
use Rattle.verilog_netlist.specs.declared.entries.Entry.TheVariants.{Declared}
use Rattle.verilog_netlist.specs.declared.namespaces.Names.{Names}
use Rattle.verilog_netlist.specs.declared.namespaces.Names.TheVariants as names
use Rattle.verilog_netlist.specs.declared.repeats.NameKey.{NameKey}
use Rattle.verilog_netlist.specs.declared.repeats.Scopes.{Scopes}
use Rattle.verilog_netlist.proofs.PartsFound.{begun_on}

both_decide : (p q : Bool) (P Q R : Type 0) → Decides p P → Decides q Q → (P → Q → R) → (R → P) → (R → Q) → Decides (p && q) R
both_decide true true P Q R dp dq make one two = ((λ yes. make (dp.0 refl) (dq.0 refl)), (λ r. refl))
both_decide true false P Q R dp dq make one two = ((λ yes. absurd (true≢false (sym yes))), (λ r. dq.1 (two r)))
both_decide false q P Q R dp dq make one two = ((λ yes. absurd (true≢false (sym yes))), (λ r. dp.1 (one r)))

-- the test tells whether two keys are one
pub same_key-Decides : (one other : Key) → Decides (same_key one other) (one ≡ other)
same_key-Decides one other =
    both_decide (one.code == other.code) ((one.scope == other.scope) && bytes_eq one.name other.name) (one.code ≡ other.code) ((one.scope ≡ other.scope) × (one.name ≡ other.name)) (one ≡ other)
    (eqb-true one.code other.code, eq-eqb one.code other.code)
    (both_decide (one.scope == other.scope) (bytes_eq one.name other.name) (one.scope ≡ other.scope) (one.name ≡ other.name) ((one.scope ≡ other.scope) × (one.name ≡ other.name))
    (eqb-true one.scope other.scope, eq-eqb one.scope other.scope) (bytes_eq-Decides one.name other.name) (λ s n. (s, n)) (λ p. p.0) (λ p. p.1))
    (λ c p. ap₂ (λ (a : ℕ) (rest : Key). record { code = a; scope = rest.scope; name = rest.name }) c
    (ap₂ (λ (s : ℕ) (n : List ℕ). record { code = other.code; scope = s; name = n }) p.0 p.1))
    (λ is. ap (λ (k : Key). k.code) is) (λ is. (ap (λ (k : Key). k.scope) is, ap (λ (k : Key). k.name) is))

-- what the table does is what its list does
pub any_key : (key : NameKey) (keys : List NameKey) → list_any (λ other. same_key (key_in key) (key_in other)) keys ≡ holds (keys_in keys) (key_in key)
any_key key [] = refl
any_key key (other ∷ keys) = ap (λ t. same_key (key_in key) (key_in other) || t) (any_key key keys)

pub is_new : (key : NameKey) (keys : List NameKey) (new : Bool) → new ≡ not (list_any (λ other. same_key (key_in key) (key_in other)) keys) → not new ≡ holds (keys_in keys) (key_in key)
is_new key keys new e = by (list_any (λ other. same_key (key_in key) (key_in other)) keys) refl
  where
    by : (held : Bool) → list_any (λ other. same_key (key_in key) (key_in other)) keys ≡ held → not new ≡ holds (keys_in keys) (key_in key)
    by true h = ap not (e ∙ ap not h) ∙ sym h ∙ any_key key keys
    by false h = ap not (e ∙ ap not h) ∙ sym h ∙ any_key key keys

keys_after : (keys : List NameKey) (key : NameKey) (after : List NameKey) → after ≡ insert_key (λ one other. same_key (key_in one) (key_in other)) keys key → keys_in after ≡ insert_key same_key (keys_in keys) (key_in key)
keys_after keys key after is = ap keys_in is ∙ by (list_any (λ other. same_key (key_in key) (key_in other)) keys) refl
  where
    by : (held : Bool) → list_any (λ other. same_key (key_in key) (key_in other)) keys ≡ held
        → keys_in (if list_any (λ other. same_key (key_in key) (key_in other)) keys then keys else keys ++ key ∷ []) ≡ insert_key same_key (keys_in keys) (key_in key)
    by true held = ap (λ b. keys_in (if b then keys else keys ++ key ∷ [])) held ∙ sym (ap (λ b. if b then keys_in keys else keys_in keys ++ key_in key ∷ []) (sym (any_key key keys) ∙ held))
    by false held = ap (λ b. keys_in (if b then keys else keys ++ key ∷ [])) held ∙ map-append key_in keys (key ∷ []) ∙ sym (ap (λ b. if b then keys_in keys else keys_in keys ++ key_in key ∷ []) (sym (any_key key keys) ∙ held))

either : (p q : Bool) → (p || q) ≡ true → (p ≡ true) ⊎ (q ≡ true)
either true q h = inl refl
either false q h = inr h

pub or_left : (p q : Bool) → p ≡ true → (p || q) ≡ true
or_left true q h = refl
or_left false q h = absurd (true≢false (sym h))

or_right : (p q : Bool) → q ≡ true → (p || q) ≡ true
or_right true q h = refl
or_right false q h = h

pub or_true : (p : Bool) → (p || true) ≡ true
or_true true = refl
or_true false = refl

or_false : (p : Bool) → (p || false) ≡ p
or_false true = refl
or_false false = refl

and_false : (p : Bool) → (p && false) ≡ false
and_false true = refl
and_false false = refl

and_or : (p q r : Bool) → (p && (q || r)) ≡ ((p && q) || (p && r))
and_or true q r = refl
and_or false q r = refl

-- an item more, where the test tells which items are one
module _ {X : Type 0} (eq : X → X → Bool) (decides : (x y : X) → Decides (eq x y) (x ≡ y)) (items : List X) (new asked : X) where
  there : list_any (eq new) items ≡ true → (b : Bool) → eq asked new ≡ b → list_any (eq asked) items ≡ (list_any (eq asked) items || b)
  there h true is =
      let held : list_any (eq asked) items ≡ true = ap (λ (x : X). list_any (eq x) items) ((decides asked new).0 is) ∙ h in
      held ∙ sym (or_left (list_any (eq asked) items) true held)
  there h false is = sym (or_false (list_any (eq asked) items))

  pub any_inserted : list_any (eq asked) (insert_key eq items new) ≡ (list_any (eq asked) items || eq asked new)
  any_inserted = by (list_any (eq new) items) refl
    where
      by : (held : Bool) → list_any (eq new) items ≡ held → list_any (eq asked) (if list_any (eq new) items then items else items ++ new ∷ []) ≡ (list_any (eq asked) items || eq asked new)
      by true h = ap (λ (b : Bool). list_any (eq asked) (if b then items else items ++ new ∷ [])) h ∙ there h (eq asked new) refl
      by false h = ap (λ (b : Bool). list_any (eq asked) (if b then items else items ++ new ∷ [])) h ∙ list_any-append (eq asked) items (new ∷ [])
          ∙ ap (λ (b : Bool). list_any (eq asked) items || b) (or_false (eq asked new))

pub inserted : (keys : List NameKey) (key : NameKey) (after : List NameKey) → after ≡ insert_key (λ one other. same_key (key_in one) (key_in other)) keys key
    → (asked : Key) → holds (keys_in after) asked ≡ with_key (holds (keys_in keys)) (key_in key) asked
inserted keys key after is asked = ap (λ (l : List Key). holds l asked) (keys_after keys key after is) ∙ any_inserted same_key same_key-Decides (keys_in keys) (key_in key) asked

-- a key more
one_more : (has : Key → Bool) (new key : Key) → with_key has new key ≡ true → (has key ≡ true) ⊎ (key ≡ new)
one_more has new key h = elim (either (has key) (same_key key new) h) [ inl old ↦ inl old | inr same ↦ inr ((same_key-Decides key new).0 same) ]

stays : (has : Key → Bool) (new key : Key) → has key ≡ true → with_key has new key ≡ true
stays has new key h = or_left (has key) (same_key key new) h

added : (has : Key → Bool) (new : Key) → with_key has new new ≡ true
added has new = or_right (has new) (same_key new new) ((same_key-Decides new new).1 refl)

module _ (scopes : Scopes) (name : List ℕ) where
  held_is : (among : Option Names) (has : Key → Bool) → is_held among scopes name has ≡ true → (of : Names) × (among ≡ Some of) × (has (key_of of scopes name) ≡ true)
  held_is None has h = absurd (true≢false (sym h))
  held_is (Some of) has h = (of, refl, h)

  is_held_so : (among : Option Names) (of : Names) (has : Key → Bool) → among ≡ Some of → has (key_of of scopes name) ≡ true → is_held among scopes name has ≡ true
  is_held_so among of has e h = ap (λ (a : Option Names). is_held a scopes name has) e ∙ h

  name_more : (among : Option Names) (has : Key → Bool) (key : Key) → with_name among scopes name has key ≡ true
      → (has key ≡ true) ⊎ ((of : Names) × (among ≡ Some of) × (key ≡ key_of of scopes name))
  name_more None has key h = inl h
  name_more (Some of) has key h = elim (one_more has (key_of of scopes name) key h) [ inl old ↦ inl old | inr new ↦ inr (of, refl, new) ]

  name_stays : (among : Option Names) (has : Key → Bool) (key : Key) → has key ≡ true → with_name among scopes name has key ≡ true
  name_stays None has key h = h
  name_stays (Some of) has key h = stays has (key_of of scopes name) key h

  name_added : (among : Option Names) (of : Names) (has : Key → Bool) → among ≡ Some of → with_name among scopes name has (key_of of scopes name) ≡ true
  name_added among of has e = ap (λ (a : Option Names). with_name a scopes name has (key_of of scopes name)) e ∙ added has (key_of of scopes name)

name_by_code : ℕ → Option Names
name_by_code n =
    if n == 0 then Some names.Modules
    else (if n == 1 then Some names.Headers
    else (if n == 2 then Some names.Directions
    else (if n == 3 then Some names.Wires
    else (if n == 4 then Some names.Instances
    else Some names.Ports))))

coded : (among : Names) → name_by_code (code_of among) ≡ Some among
unfolding name_by_code
coded names.Modules = refl
coded names.Headers = refl
coded names.Directions = refl
coded names.Wires = refl
coded names.Instances = refl
coded names.Ports = refl

pub one_code : (one other : Names) → code_of one ≡ code_of other → one ≡ other
one_code one other e = same_Some _ _ (sym (coded one) ∙ ap name_by_code e ∙ coded other)

-- a name of a header that a direction declares is among two kinds of names
apart : (e : Entry) (among : Names) → own_names e ≡ Some among → header_names e ≡ Some among → ⊥
apart (Declared (decl.InHeader way) name bounds) among own header = absurd (let same : Some names.Directions ≡ Some names.Headers = own ∙ sym header in cc)
apart (Declared (decl.Port way) name bounds) among own header = absurd (none-some _ header)
apart (Declared decl.Wire name bounds) among own header = absurd (none-some _ header)
apart _ among own header = absurd (none-some _ header)

-- what is kept of ports, and of other names
module _ (number : ℕ) (keys : List Key) (ports : List (List ℕ)) (key : Key) where
  keeps_port : key.code ≡ code_of names.Ports → keeps number keys ports key ≡ ((key.scope == number) && list_any (bytes_eq key.name) ports)
  keeps_port is = ap (λ (b : Bool). if b then (key.scope == number) && list_any (bytes_eq key.name) ports else holds keys key) (eq-eqb key.code (code_of names.Ports) is)

  keeps_other : (key.code ≡ code_of names.Ports → ⊥) → keeps number keys ports key ≡ holds keys key
  keeps_other never = ap (λ (b : Bool). if b then (key.scope == number) && list_any (bytes_eq key.name) ports else holds keys key) (ne_eqb key.code (code_of names.Ports) never)

pub nothing_kept : (number : ℕ) (key : Key) → keeps number [] [] key ≡ false
nothing_kept number key = by (key.code == code_of names.Ports)
  where
    by : (b : Bool) → (if b then (key.scope == number) && false else false) ≡ false
    by true = and_false (key.scope == number)
    by false = refl

module _ (number : ℕ) (keys : List Key) (ports : List (List ℕ)) (name : List ℕ) where
  abbrev port_key : Key
  port_key = record { code = code_of names.Ports; scope = number; name = name }

  -- a port is kept where its name is, and is one more
  pub port_held : keeps number keys ports port_key ≡ list_any (bytes_eq name) ports
  port_held = keeps_port number keys ports port_key refl ∙ ap (λ (b : Bool). b && list_any (bytes_eq name) ports) (eq-eqb number number refl)

  pub port_added : (key : Key) → keeps number keys (insert_key bytes_eq ports name) key ≡ with_key (keeps number keys ports) port_key key
  port_added key = elim (cases_eq key.code (code_of names.Ports)) [
    | inl port ↦
        keeps_port number keys (insert_key bytes_eq ports name) key port
        ∙ ap (λ (b : Bool). (key.scope == number) && b) (any_inserted bytes_eq bytes_eq-Decides ports name key.name)
        ∙ and_or (key.scope == number) (list_any (bytes_eq key.name) ports) (bytes_eq key.name name)
        ∙ ap₂ (λ (a b : Bool). a || b) (sym (keeps_port number keys ports key port))
        (sym (ap (λ (b : Bool). b && ((key.scope == number) && bytes_eq key.name name)) (eq-eqb key.code (code_of names.Ports) port)))
    | inr other ↦
        keeps_other number keys (insert_key bytes_eq ports name) key other ∙ sym (keeps_other number keys ports key other)
        ∙ sym (ap (λ (b : Bool). keeps number keys ports key || (b && ((key.scope == number) && bytes_eq key.name name))) (ne_eqb key.code (code_of names.Ports) other)
        ∙ or_false (keeps number keys ports key))
  ]

-- any other name is kept where its key is in the list, and is one more
module _ (number : ℕ) (keys after : List Key) (ports : List (List ℕ)) (among : Names) (other : is_ports among ≡ false) (scopes : Scopes) (name : List ℕ) where
  no_port : code_of among ≡ code_of names.Ports → ⊥
  no_port is = true≢false (sym (ap is_ports (one_code among names.Ports is)) ∙ other)

  pub other_held : keeps number keys ports (key_of among scopes name) ≡ holds keys (key_of among scopes name)
  other_held = keeps_other number keys ports (key_of among scopes name) no_port

  pub other_added : ((key : Key) → holds after key ≡ with_key (holds keys) (key_of among scopes name) key)
      → (key : Key) → keeps number after ports key ≡ with_key (keeps number keys ports) (key_of among scopes name) key
  other_added adds key = elim (cases_eq key.code (code_of names.Ports)) [
    | inl port ↦
        keeps_port number after ports key port ∙ sym (keeps_port number keys ports key port)
        ∙ sym (ap (λ (b : Bool). keeps number keys ports key || b) (apart_keys port) ∙ or_false (keeps number keys ports key))
    | inr never ↦
        keeps_other number after ports key never ∙ adds key
        ∙ ap (λ (b : Bool). b || same_key key (key_of among scopes name)) (sym (keeps_other number keys ports key never))
  ]
    where
      apart_keys : key.code ≡ code_of names.Ports → same_key key (key_of among scopes name) ≡ false
      apart_keys port = by (same_key key (key_of among scopes name)) refl
        where
          by : (b : Bool) → same_key key (key_of among scopes name) ≡ b → same_key key (key_of among scopes name) ≡ false
          by false h = h
          by true h = absurd (no_port (sym (ap (λ (k : Key). k.code) ((same_key-Decides key (key_of among scopes name)).0 h)) ∙ port))

ports_only : (among : Names) → is_ports among ≡ true → among ≡ names.Ports
ports_only names.Ports h = refl
ports_only _ h = absurd (true≢false (sym h))

-- what is kept, with a name more
module _ (asked : Option Names) (of : Names) (asked_is : asked ≡ Some of) (scopes : Scopes) (name : List ℕ) (keys : List Key) (ports : List (List ℕ)) where
  abbrev kept : Key → Bool
  kept key = keeps scopes.instances keys ports key

  asked_held : (held : Bool) → held ≡ kept (key_of of scopes name) → held ≡ is_held asked scopes name kept
  asked_held held is = is ∙ sym (ap (λ (a : Option Names). is_held a scopes name kept) asked_is)

  asked_with : (after : Key → Bool) → ((key : Key) → after key ≡ with_key kept (key_of of scopes name) key) → (key : Key) → after key ≡ with_name asked scopes name kept key
  asked_with after is key = is key ∙ sym (ap (λ (a : Option Names). with_name a scopes name kept key) asked_is)

  port_is : is_ports of ≡ true → record { code = code_of names.Ports; scope = scopes.instances; name = name } ≡ key_of of scopes name
  port_is port = sym (ap (λ (a : Names). key_of a scopes name) (ports_only of port))

  pub held_port : is_ports of ≡ true → (held : Bool) → held ≡ list_any (bytes_eq name) ports → held ≡ is_held asked scopes name kept
  held_port port held is = asked_held held (is ∙ sym (port_held scopes.instances keys ports name) ∙ ap kept (port_is port))

  pub added_port : is_ports of ≡ true → (new : List (List ℕ)) → new ≡ insert_key bytes_eq ports name
      → (key : Key) → keeps scopes.instances keys new key ≡ with_name asked scopes name kept key
  added_port port new is key =
      asked_with (λ (k : Key). keeps scopes.instances keys new k)
      (λ k. ap (λ (l : List (List ℕ)). keeps scopes.instances keys l k) is ∙ port_added scopes.instances keys ports name k ∙ ap (λ (n : Key). with_key kept n k) (port_is port)) key

  pub held_other : is_ports of ≡ false → (held : Bool) → held ≡ holds keys (key_of of scopes name) → held ≡ is_held asked scopes name kept
  held_other other held is = asked_held held (is ∙ sym (other_held scopes.instances keys keys ports of other scopes name))

  pub added_other : is_ports of ≡ false → (after : List Key) → ((key : Key) → holds after key ≡ with_key (holds keys) (key_of of scopes name) key)
      → (key : Key) → keeps scopes.instances after ports key ≡ with_name asked scopes name kept key
  added_other other after adds key = asked_with (λ (k : Key). keeps scopes.instances after ports k) (other_added scopes.instances keys after ports of other scopes name adds) key

-- so many modules and instances have begun before this place
pub record Counts (entries : List Entry) (index : ℕ) (scopes : Scopes) : Type 0 where
  pub modules : scopes.modules ≡ count_by begins_module (take index entries)
  pub instances : scopes.instances ≡ count_by begins_instance (take index entries)

pub nothing_counted : (entries : List Entry) (scopes : Scopes) → scopes.modules ≡ 0 → scopes.instances ≡ 0 → Counts entries 0 scopes
nothing_counted entries scopes m i = record { modules = m; instances = i }

module _ (entries : List Entry) (index : ℕ) (scopes : Scopes) (h : Counts entries index scopes) (e : Entry) (within : index < length entries) (here : get_or entries index e ≡ e) where
  count : (test : Entry → Bool) (n : ℕ) → n ≡ count_by test (take index entries) → (if test e then n + 1 else n) ≡ count_by test (take (index + 1) entries)
  count test n is = by (test e) refl
    where
      by : (t : Bool) → test e ≡ t → (if test e then n + 1 else n) ≡ count_by test (take (index + 1) entries)
      by true holds_here = ap (λ b. if b then n + 1 else n) holds_here ∙ ap (λ m. m + 1) is ∙ sym (count_by_more_yes test entries index e within (ap test here ∙ holds_here))
      by false never = ap (λ b. if b then n + 1 else n) never ∙ is ∙ sym (count_by_more_no test entries index e within (ap test here ∙ never))

  pub count_on : Counts entries (index + 1) (counted scopes e)
  count_on = record { modules = count begins_module scopes.modules h.modules; instances = count begins_instance scopes.instances h.instances }

  pub scope_is : (among : Names) → scope_in among (counted scopes e) ≡ scope_of among entries index
  scope_is names.Modules = refl
  scope_is names.Ports = count begins_instance scopes.instances h.instances
  scope_is _ = count begins_module scopes.modules h.modules

module _ (bytes : List ℕ) (entries : List Entry) where
  abbrev Seen : ℕ → Key → Type 0
  Seen index key = IsKeyBefore bytes entries index key

  -- a key of a port is one of the instance at hand
  abbrev IsCurrent : Scopes → Key → Type 0
  IsCurrent scopes key = key.code ≡ code_of names.Ports → key.scope ≡ scopes.instances

  -- what tells the keys that are kept tells those of the names before this place, and of ports those of this instance
  pub record HoldsNow (index : ℕ) (has : Key → Bool) (scopes : Scopes) : Type 0 where
    pub held : (key : Key) → has key ≡ true → Seen index key
    pub seen : (key : Key) → Seen index key → IsCurrent scopes key → has key ≡ true

  pub record Collected (index : ℕ) (has : Key → Bool) (scopes : Scopes) : Type 0 where
    pub counts : Counts entries index scopes
    pub names : HoldsNow index has scopes

  pub nothing_seen : (has : Key → Bool) → ((key : Key) → has key ≡ false) → (scopes : Scopes) → scopes.modules ≡ 0 → scopes.instances ≡ 0 → Collected 0 has scopes
  nothing_seen has none scopes m i = record {
    counts = nothing_counted entries scopes m i;
    names = record { held = λ key h. absurd (true≢false (sym h ∙ none key)); seen = λ key s current. let below = s.below in absurd (omega arith) };
  }

  pub holds_alike : (index : ℕ) (one other : Key → Bool) (scopes : Scopes) → ((key : Key) → one key ≡ other key) → HoldsNow index other scopes → HoldsNow index one scopes
  holds_alike index one other scopes same h = record { held = λ key is. h.held key (sym (same key) ∙ is); seen = λ key s current. same key ∙ h.seen key s current }

  -- at the next instance no port is kept, and none of that instance stands before
  module _ (index : ℕ) (keys : List Key) (ports : List (List ℕ)) (scopes : Scopes) (h : Collected index (keeps scopes.instances keys ports) scopes) where
    module _ (number : ℕ) (new : List (List ℕ)) (after : Scopes) (after_is : after.instances ≡ number) where
      same_instance : number ≡ scopes.instances → new ≡ ports → HoldsNow index (keeps number keys new) after
      same_instance n p = holds_alike index (keeps number keys new) (keeps scopes.instances keys ports) after
          (λ key. ap₂ (λ (m : ℕ) (l : List (List ℕ)). keeps m keys l key) n p)
          (record { held = h.names.held; seen = λ key s current. h.names.seen key s (λ port. current port ∙ after_is ∙ n) })

      no_earlier : number ≡ scopes.instances + 1 → (key : Key) → Seen index key → IsCurrent after key → key.code ≡ code_of names.Ports → ⊥
      no_earlier n key s current port =
          let same : s.among ≡ names.Ports = one_code s.among names.Ports (sym (ap (λ (k : Key). k.code) s.key_is) ∙ port) in
          let place : key.scope ≡ count_by begins_instance (take (s.before + 1) entries) = ap (λ (k : Key). k.scope) s.key_is ∙ ap (λ (a : Names). scope_of a entries s.before) same in
          let counted_so = h.counts.instances in
          let now = current port in
          let below = s.below in
          let few : count_by begins_instance (take (s.before + 1) entries) ≤ count_by begins_instance (take index entries) = begun_on begins_instance entries (s.before + 1) index (omega arith) in
          absurd (omega arith)

      next_instance : number ≡ scopes.instances + 1 → new ≡ [] → HoldsNow index (keeps number keys new) after
      next_instance n p = record {
        held = λ key is. elim (cases_eq key.code (code_of names.Ports)) [
          | inl port ↦ absurd (true≢false (sym is ∙ keeps_port number keys new key port ∙ ap (λ (l : List (List ℕ)). (key.scope == number) && list_any (bytes_eq key.name) l) p ∙ and_false (key.scope == number)))
          | inr other ↦ h.names.held key (keeps_other scopes.instances keys ports key other ∙ sym (keeps_other number keys new key other) ∙ is)
        ];
        seen = λ key s current. elim (cases_eq key.code (code_of names.Ports)) [
          | inl port ↦ absurd (no_earlier n key s current port)
          | inr other ↦ keeps_other number keys new key other ∙ sym (keeps_other scopes.instances keys ports key other) ∙ h.names.seen key s (λ port. absurd (other port))
        ];
      }

    pub come_to : (e : Entry) → HoldsNow index (keeps (counted scopes e).instances keys (ports_from e ports)) (counted scopes e)
    come_to e = by (begins_instance e) refl
      where
        by : (b : Bool) → begins_instance e ≡ b → HoldsNow index (keeps (counted scopes e).instances keys (ports_from e ports)) (counted scopes e)
        by true is = next_instance (counted scopes e).instances (ports_from e ports) (counted scopes e) refl
            (ap (λ (b : Bool). if b then scopes.instances + 1 else scopes.instances) is) (ap (λ (b : Bool). if b then [] else ports) is)
        by false is = same_instance (counted scopes e).instances (ports_from e ports) (counted scopes e) refl
            (ap (λ (b : Bool). if b then scopes.instances + 1 else scopes.instances) is) (ap (λ (b : Bool). if b then [] else ports) is)

    -- what is kept in the end
    pub all_names : HoldsNames bytes entries index keys
    all_names = record {
      held = λ key other is. h.names.held key (keeps_other scopes.instances keys ports key other ∙ is);
      seen = λ key other s. sym (keeps_other scopes.instances keys ports key other) ∙ h.names.seen key s (λ port. absurd (other port));
    }

  -- a name that stands among others is kept
  pub stands_key : (among : Names) (place : ℕ) (text : List ℕ) (index : ℕ) (s : StandsAmong bytes entries among place text) → s.at < index
      → IsKeyBefore bytes entries index (record { code = code_of among; scope = scope_of among entries place; name = text })
  stands_key among place text index s below = record {
    among = among;
    before = s.at;
    e = s.one;
    below = below;
    stands = s.one_stands;
    is = s.one_among;
    key_is = ap₂ (λ (p : ℕ) (n : List ℕ). record { code = code_of among; scope = p; name = n }) (sym s.one_scope) (sym s.one_text);
  }

  pub key_stands : (among : Names) (place : ℕ) (text : List ℕ) (index : ℕ)
      → IsKeyBefore bytes entries index (record { code = code_of among; scope = scope_of among entries place; name = text }) → StandsAmong bytes entries among place text
  key_stands among place text index s =
      let same : among ≡ s.among = one_code among s.among (ap (λ (k : Key). k.code) s.key_is) in
      record {
        at = s.before;
        one = s.e;
        one_stands = s.stands;
        one_among = subst (λ (a : Names). IsAmong a s.e) (sym same) s.is;
        one_scope = ap (λ (a : Names). scope_of a entries s.before) same ∙ sym (ap (λ (k : Key). k.scope) s.key_is);
        one_text = sym (ap (λ (k : Key). k.name) s.key_is);
      }

  module _ (index : ℕ) (scopes : Scopes) (counts : Counts entries index scopes) (e : Entry) (stands : slice_get entries index ≡ Some e) (within : index < length entries) (here : get_or entries index e ≡ e) where
    abbrev now : Scopes
    now = counted scopes e

    abbrev name : List ℕ
    name = text_at bytes (name_of e)

    key_is_here : (among : Names) → key_of among now name ≡ key_at bytes entries index e among
    key_is_here among = ap (λ (s : ℕ). record { code = code_of among; scope = s; name = name }) (scope_is entries index scopes counts e within here among)

    is_current : (among : Names) → IsCurrent now (key_of among now name)
    is_current among port = ap (λ (a : Names). scope_in a now) (one_code among names.Ports port)

    later : (key : Key) → Seen index key → Seen (index + 1) key
    later key s = let below = s.below in record { among = s.among; before = s.before; e = s.e; below = omega arith; stands = s.stands; is = s.is; key_is = s.key_is }

    seen_here : (key : Key) (among : Names) → IsAmong among e → key ≡ key_of among now name → Seen (index + 1) key
    seen_here key among is k = record { among = among; before = index; e = e; below = omega arith; stands = stands; is = is; key_is = k ∙ key_is_here among }

    module _ (has : Key → Bool) (h : HoldsNow index has now) where
      repeats : (among : Names) → IsAmong among e → has (key_of among now name) ≡ true → IsRepeated bytes entries index
      repeats among is held =
          let s = h.held (key_of among now name) held in
          let key : key_at bytes entries index e among ≡ key_at bytes entries s.before s.e s.among = sym (key_is_here among) ∙ s.key_is in
          let same : among ≡ s.among = one_code among s.among (ap (λ (k : Key). k.code) key) in
          record {
            among = s.among;
            before = s.before;
            one = s.e;
            again = e;
            below = s.below;
            one_stands = s.stands;
            again_stands = stands;
            one_among = s.is;
            again_among = subst (λ (a : Names). IsAmong a e) same is;
            one_scope = sym (ap (λ (k : Key). k.scope) key) ∙ ap (λ (a : Names). scope_of a entries index) same;
            one_text = sym (ap (λ (k : Key). k.name) key);
          }

      is_repeated : IsRepeated bytes entries index → (among : Names) × IsAmong among e × (has (key_of among now name) ≡ true)
      is_repeated r =
          let same : r.again ≡ e = same_Some _ _ (sym r.again_stands ∙ stands) in
          let text : text_at bytes (name_of r.one) ≡ name = r.one_text ∙ ap (λ (x : Entry). text_at bytes (name_of x)) same in
          let key : key_of r.among now name ≡ key_at bytes entries r.before r.one r.among =
          key_is_here r.among ∙ ap₂ (λ (s : ℕ) (n : List ℕ). record { code = code_of r.among; scope = s; name = n }) (sym r.one_scope) (sym text) in (
            r.among,
            subst (λ (x : Entry). IsAmong r.among x) same r.again_among,
            h.seen (key_of r.among now name) (record {
              among = r.among;
              before = r.before;
              e = r.one;
              below = r.below;
              stands = r.one_stands;
              is = r.one_among;
              key_is = key;
            }) (is_current r.among),
          )

      abbrev with_header : Key → Bool
      with_header key = with_name (header_names e) now name has key

      header_repeats : is_held (header_names e) now name has ≡ true → IsRepeated bytes entries index
      header_repeats held = let p = held_is now name (header_names e) has held in repeats p.0 (in_header p.1) p.2

      own_repeats : is_held (own_names e) now name with_header ≡ true → IsRepeated bytes entries index
      own_repeats held =
          let p = held_is now name (own_names e) with_header held in
          elim (name_more now name (header_names e) has (key_of p.0 now name) p.2) [
            | inl old ↦ repeats p.0 (by_own p.1) old
            | inr new ↦ absurd (apart e p.0 p.1 (new.1 ∙ ap (λ (a : Names). Some a) (one_code new.0 p.0 (sym (ap (λ (k : Key). k.code) new.2)))))
          ]

      held_now : (key : Key) → with_both e now name has key ≡ true → Seen (index + 1) key
      held_now key held = elim (name_more now name (own_names e) with_header key held) [
        | inr new ↦ seen_here key new.0 (by_own new.1) new.2
        | inl old ↦ elim (name_more now name (header_names e) has key old) [
          | inr new ↦ seen_here key new.0 (in_header new.1) new.2
          | inl older ↦ later key (h.held key older)
        ]
      ]

      here_held : (among : Names) → IsAmong among e → with_both e now name has (key_of among now name) ≡ true
      here_held among (by_own own) = name_added now name (own_names e) among with_header own
      here_held among (in_header header) = name_stays now name (own_names e) with_header (key_of among now name) (name_added now name (header_names e) among has header)

      seen_now : (key : Key) → Seen (index + 1) key → IsCurrent now key → with_both e now name has key ≡ true
      seen_now key s current = elim (cases_eq s.before index) [
        | inr other ↦ name_stays now name (own_names e) with_header key (name_stays now name (header_names e) has key
            (h.seen key (record { among = s.among; before = s.before; e = s.e; below = let below = s.below in omega arith; stands = s.stands; is = s.is; key_is = s.key_is }) current))
        | inl at ↦
            let same : s.e ≡ e = same_Some _ _ (sym s.stands ∙ ap (slice_get entries) at ∙ stands) in
            let key_is : key ≡ key_of s.among now name = s.key_is ∙ ap₂ (λ (p : ℕ) (x : Entry). key_at bytes entries p x s.among) at same ∙ sym (key_is_here s.among) in
            subst (λ (k : Key). with_both e now name has k ≡ true) (sym key_is) (here_held s.among (subst (λ (x : Entry). IsAmong s.among x) same s.is))
      ]

      not_here : is_held (header_names e) now name has ≡ false → is_held (own_names e) now name with_header ≡ false → IsRepeated bytes entries index → ⊥
      not_here header own r = let p = is_repeated r in by p.0 p.1 p.2
        where
          by : (among : Names) → IsAmong among e → has (key_of among now name) ≡ true → ⊥
          by among (in_header is) held = true≢false (sym (is_held_so now name (header_names e) among has is held) ∙ header)
          by among (by_own is) held = true≢false (sym (is_held_so now name (own_names e) among with_header is (name_stays now name (header_names e) has (key_of among now name) held)) ∙ own)

      decides : (header own : Bool) → is_held (header_names e) now name has ≡ header → is_held (own_names e) now name with_header ≡ own
          → Decides (header || own) (IsRepeated bytes entries index)
      decides true own h o = ((λ yes. header_repeats h), (λ r. refl))
      decides false true h o = ((λ yes. own_repeats o), (λ r. refl))
      decides false false h o = ((λ yes. absurd (true≢false (sym yes))), (λ r. absurd (not_here h o r)))

      pub decides_repeated : Decides (is_either_held e now name has) (IsRepeated bytes entries index)
      decides_repeated = decides (is_held (header_names e) now name has) (is_held (own_names e) now name with_header) refl refl

      pub goes_on : (after : Key → Bool) → ((key : Key) → after key ≡ with_both e now name has key) → Collected (index + 1) after now
      goes_on after after_is = record {
        counts = count_on entries index scopes counts e within here;
        names = holds_alike (index + 1) after (with_both e now name has) now after_is (record { held = held_now; seen = seen_now });
      }

pub stands_at : (entries : List Entry) (place : ℕ) → place < length entries → slice_get entries place ≡ Some (get_or entries place no_entry)
stands_at entries place below = slice_get-get_or entries place no_entry below

pub itself_at : (entries : List Entry) (place : ℕ) → place < length entries → get_or entries place (get_or entries place no_entry) ≡ get_or entries place no_entry
itself_at entries place below = sym (get_or_default entries place no_entry (get_or entries place no_entry) below)

pub within_list : (list : List Entry) (at : ℕ) (e : Entry) → slice_get list at ≡ Some e → at < length list
within_list [] at e h = absurd (none-some _ h)
within_list (x ∷ list) zero e h = omega arith
within_list (x ∷ list) (suc at) e h = let more = within_list list at e h in omega arith
