-- The pins of a net that are the connections of its section (IEEE 1481): one drives, and all others are sinks.
use Rattle.std.specs.Prelude.{ℕ, suc, ◌*◌, ◌<◌, nat_lt, if◌then◌else◌, false, List, [], ◌++◌, map, take, drop, length, slice_index_or, None}
use Rattle.name_table.specs.declared.spef_names.NodeName.{NodeName}
use Rattle.spef_nets.specs.NetElements.{NetElements as SectionElements}
use Rattle.spef_nets.specs.declared.parts.Listed.{Listed}
use Rattle.rc_tree.specs.Pins.{Pins}

-- all but the one at a place
abbrev pub without : {A : Type 0} → ℕ → List A → List A
without place items = take place items ++ drop (suc place) items

-- the place among all of the k-th that is not at this place
abbrev pub other_place : ℕ → ℕ → ℕ
other_place place k = if nat_lt k place then k else suc k

abbrev pub no_name : NodeName
no_name = record { head = []; tail = None; sdf = [] }

abbrev pub no_conn : Listed
no_conn = record { node = 0; port = false; direction = 0 }

-- the name of a connection's node
abbrev pub conn_name : SectionElements → Listed → NodeName
conn_name section conn = slice_index_or section.nodes conn.node no_name

-- The connection at this place drives; all others are the sinks, in order, with the loads that are listed with them.
abbrev pub listed_pins : ℕ → SectionElements → ℕ → Pins
listed_pins count section driver = record {
  driver = conn_name section (slice_index_or section.conns driver no_conn);
  sinks = map (conn_name section) (without driver section.conns);
  loads = take (driver * count) section.loads ++ drop (suc driver * count) section.loads;
}

-- the connection at a place is at a node of the section
abbrev pub IsWithin : SectionElements → ℕ → Type 0
IsWithin section place = (slice_index_or section.conns place no_conn).node < length section.nodes
