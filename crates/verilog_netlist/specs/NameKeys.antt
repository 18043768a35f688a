-- Names as they are kept while those that are repeated, or without their pair, are looked for.
use Rattle.std.specs.Prelude.{◌≡◌, ℕ, ◌+◌, ◌<◌, Bool, true, false, not, ◌&&◌, ◌||◌, ◌==◌, if◌then◌else◌, List, [], map, slice_get, Option, Some, None}
use Rattle.std.specs.List.{list_any}
use Rattle.std.specs.Str.{bytes_eq}
use Rattle.token_texts.specs.Spans.{text_at}
use Rattle.verilog_netlist.specs.Namespaces.{name_of, own_names, header_names, IsAmong, begins_module, begins_instance, scope_of}
use Rattle.verilog_netlist.specs.declared.entries.Decl.TheVariants as decl
use Rattle.verilog_netlist.specs.declared.entries.Entry.{Entry}
use Rattle.verilog_netlist.specs.declared.entries.Entry.TheVariants.{Header, Declared}
use Rattle.verilog_netlist.specs.declared.namespaces.Names.{Names}
use Rattle.verilog_netlist.specs.declared.namespaces.Names.TheVariants as names
use Rattle.verilog_netlist.specs.declared.repeats.NameKey.{NameKey}
use Rattle.verilog_netlist.specs.declared.repeats.Scopes.{Scopes}

abbrev pub code_of : Names → ℕ
code_of names.Modules = 0
code_of names.Headers = 1
code_of names.Directions = 2
code_of names.Wires = 3
code_of names.Instances = 4
code_of names.Ports = 5

pub record Key : Type 0 where
  pub code : ℕ
  pub scope : ℕ
  pub name : List ℕ

abbrev pub key_in : NameKey → Key
key_in key = record { code = key.code; scope = key.scope; name = key.name.bytes.now }

abbrev pub keys_in : List NameKey → List Key
keys_in keys = map key_in keys

abbrev pub same_key : Key → Key → Bool
same_key one other = (one.code == other.code) && ((one.scope == other.scope) && bytes_eq one.name other.name)

abbrev pub scope_in : Names → Scopes → ℕ
scope_in names.Modules scopes = 0
scope_in names.Ports scopes = scopes.instances
scope_in _ scopes = scopes.modules

abbrev pub counted : Scopes → Entry → Scopes
counted scopes entry = record {
  modules = if begins_module entry then scopes.modules + 1 else scopes.modules;
  instances = if begins_instance entry then scopes.instances + 1 else scopes.instances;
}

abbrev pub key_of : Names → Scopes → List ℕ → Key
key_of among scopes name = record { code = code_of among; scope = scope_in among scopes; name = name }

-- whether a key is in a list
abbrev pub holds : List Key → Key → Bool
holds keys key = list_any (same_key key) keys

abbrev pub is_ports : Names → Bool
is_ports names.Ports = true
is_ports _ = false

-- whether a key is kept: in the list, or, of a port, among those of the instance of this number
abbrev pub keeps : ℕ → List Key → List (List ℕ) → Key → Bool
keeps number keys ports key =
    if key.code == code_of names.Ports then (key.scope == number) && list_any (bytes_eq key.name) ports else holds keys key

-- the ports of the instance of this entry, before it is read
abbrev pub ports_from : Entry → List (List ℕ) → List (List ℕ)
ports_from entry ports = if begins_instance entry then [] else ports

-- of what tells the keys that are kept: whether a name is, and what tells them with that name
abbrev pub is_held : Option Names → Scopes → List ℕ → (Key → Bool) → Bool
is_held None scopes name has = false
is_held (Some among) scopes name has = has (key_of among scopes name)

abbrev pub with_key : (Key → Bool) → Key → Key → Bool
with_key has new key = has key || same_key key new

abbrev pub with_name : Option Names → Scopes → List ℕ → (Key → Bool) → Key → Bool
with_name None scopes name has key = has key
with_name (Some among) scopes name has key = with_key has (key_of among scopes name) key

-- of the name of an entry, as one of those of its header and then as one of its own: whether it is held, and what tells the keys with it
abbrev pub is_either_held : Entry → Scopes → List ℕ → (Key → Bool) → Bool
is_either_held entry scopes name has =
    is_held (header_names entry) scopes name has || is_held (own_names entry) scopes name (with_name (header_names entry) scopes name has)

abbrev pub with_both : Entry → Scopes → List ℕ → (Key → Bool) → Key → Bool
with_both entry scopes name has = with_name (own_names entry) scopes name (with_name (header_names entry) scopes name has)

-- the key of an entry at this place, as one of these names
abbrev pub key_at : List ℕ → List Entry → ℕ → Entry → Names → Key
key_at bytes entries place entry among =
    record { code = code_of among; scope = scope_of among entries place; name = text_at bytes (name_of entry) }

-- the key of a name that stands before this place
pub record IsKeyBefore (bytes : List ℕ) (entries : List Entry) (index : ℕ) (key : Key) : Type 0 where
  pub among : Names
  pub before : ℕ
  pub e : Entry
  pub below : before < index
  pub stands : slice_get entries before ≡ Some e
  pub is : IsAmong among e
  pub key_is : key ≡ key_at bytes entries before e among

-- a key of another name than a port's
abbrev pub IsNoPort : Key → Type 0
IsNoPort key = key.code ≡ code_of names.Ports → ⊥

-- the keys are those of the names that stand before this place, but for ports
pub record HoldsNames (bytes : List ℕ) (entries : List Entry) (index : ℕ) (keys : List Key) : Type 0 where
  pub held : (key : Key) → IsNoPort key → holds keys key ≡ true → IsKeyBefore bytes entries index key
  pub seen : (key : Key) → IsNoPort key → IsKeyBefore bytes entries index key → holds keys key ≡ true

-- the names among which an entry's name needs a pair; where a direction stands in a header the pair is the entry itself
abbrev pub needed_names : Entry → Option Names
needed_names (Header name) = Some names.Directions
needed_names (Declared (decl.Port way) name bounds) = Some names.Headers
needed_names _ = None

-- whether it is needed and not held
abbrev pub is_lacking : Option Names → Scopes → List ℕ → List Key → Bool
is_lacking None scopes name keys = false
is_lacking (Some among) scopes name keys = not (holds keys (key_of among scopes name))
