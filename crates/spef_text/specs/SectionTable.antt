-- Sections kept by where each ends in the lists of the entries of all of them.
use Rattle.std.specs.Prelude.{ℕ, ◌-◌, ◌≤◌, List, [], ◌∷◌, ◌++◌, map, take, drop}
use Rattle.spef_text.specs.Entries.{Section, no_section}
use Rattle.spef_text.specs.Modes.{conn_of, cap_of, res_of, with_net, with_conn, with_cap, with_res}
use Rattle.spef_text.specs.declared.entries.ConnAt.{ConnAt}
use Rattle.spef_text.specs.declared.entries.CapAt.{CapAt}
use Rattle.spef_text.specs.declared.entries.ResAt.{ResAt}
use Rattle.spef_text.specs.declared.sections.End.{End}

-- the sections that have ended, and the one that has begun
pub record SectionTable : Type 0 where
  pub done : List Section
  pub begun : Section

-- where the first section's entries begin
abbrev pub start : End
start = record { net = 0; conns = 0; caps = 0; ress = 0 }

-- the elements from one place up to another
abbrev pub between : {A : Type 0} → ℕ → ℕ → List A → List A
between from to all = take (to - from) (drop from all)

abbrev pub section_between : End → End → List ConnAt → List CapAt → List ResAt → Section
section_between from to conns caps ress = record {
  net = to.net;
  conns = map conn_of (between from.conns to.conns conns);
  caps = map cap_of (between from.caps to.caps caps);
  ress = map res_of (between from.ress to.ress ress);
}

abbrev pub sections_from : End → List End → List ConnAt → List CapAt → List ResAt → List Section
sections_from from [] conns caps ress = []
sections_from from (to ∷ ends) conns caps ress = section_between from to conns caps ress ∷ sections_from to ends conns caps ress

abbrev pub last_end : End → List End → End
last_end from [] = from
last_end from (to ∷ ends) = last_end to ends

abbrev pub begun_from : End → ℕ → List ConnAt → List CapAt → List ResAt → Section
begun_from from net conns caps ress = record {
  net = net;
  conns = map conn_of (drop from.conns conns);
  caps = map cap_of (drop from.caps caps);
  ress = map res_of (drop from.ress ress);
}

abbrev pub table_of : List End → ℕ → List ConnAt → List CapAt → List ResAt → SectionTable
table_of ends net conns caps ress = record
    { done = sections_from start ends conns caps ress; begun = begun_from (last_end start ends) net conns caps ress }

-- no section ends before one in front of it, nor behind all entries
abbrev pub AreInOrder : End → List End → ℕ → ℕ → ℕ → Type 0
AreInOrder from [] conns caps ress = (from.conns ≤ conns) × (from.caps ≤ caps) × (from.ress ≤ ress)
AreInOrder from (to ∷ ends) conns caps ress = (from.conns ≤ to.conns) × (from.caps ≤ to.caps) × (from.ress ≤ to.ress)
    × AreInOrder to ends conns caps ress

abbrev pub no_table : SectionTable
no_table = record { done = []; begun = no_section }

abbrev pub opened : SectionTable → ℕ → SectionTable
opened table net = record { done = table.done; begun = with_net table.begun net }

abbrev pub with_conn_at : SectionTable → ConnAt → SectionTable
with_conn_at table conn = record { done = table.done; begun = with_conn table.begun conn }

abbrev pub with_cap_at : SectionTable → CapAt → SectionTable
with_cap_at table cap = record { done = table.done; begun = with_cap table.begun cap }

abbrev pub with_res_at : SectionTable → ResAt → SectionTable
with_res_at table res = record { done = table.done; begun = with_res table.begun res }

abbrev pub closed : SectionTable → SectionTable
closed table = record { done = table.done ++ table.begun ∷ []; begun = no_section }
