-- The tokens that the sections of a SPEF file (IEEE 1481) are said by, in the order in which a section lists them.
use Rattle.std.specs.Prelude.{ℕ, List, [], ◌∷◌, ◌++◌, option_to_list}
use Rattle.std.specs.List.{flat_map}
use Rattle.std.specs.List.Sorted.{IsStrictlyIncreasing}
use Rattle.spef_text.specs.Entries.{Section}
use Rattle.spef_text.specs.declared.entries.Conn.{Conn}
use Rattle.spef_text.specs.declared.entries.Cap.{Cap}
use Rattle.spef_text.specs.declared.entries.Res.{Res}

abbrev pub conn_tokens : Conn → List ℕ
conn_tokens conn = conn.node ∷ option_to_list conn.load

abbrev pub cap_tokens : Cap → List ℕ
cap_tokens cap = cap.first ∷ (option_to_list cap.second ++ cap.value ∷ [])

abbrev pub res_tokens : Res → List ℕ
res_tokens res = res.first ∷ res.second ∷ res.value ∷ []

-- the net's name, then the connections, the capacitances and the resistances
abbrev pub section_tokens : Section → List ℕ
section_tokens section = section.net
    ∷ (flat_map conn_tokens section.conns ++ flat_map cap_tokens section.caps ++ flat_map res_tokens section.ress)

-- each of these tokens stands behind the one before it, one section behind the other; the first of them is a token, past 0
abbrev pub AreInFileOrder : List Section → Type 0
AreInFileOrder sections = IsStrictlyIncreasing (0 ∷ flat_map section_tokens sections)
