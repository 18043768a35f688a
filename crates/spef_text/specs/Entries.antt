-- What a SPEF file says (IEEE 1481): its head, and its nets in the order of the file. A token stands for itself by its number.
use Rattle.std.specs.Prelude.{ℕ, slice_index_or, List, [], ◌∷◌, ◌++◌, Option, Some, None}
use Rattle.spef_text.specs.declared.entries.Conn.{Conn}
use Rattle.spef_text.specs.declared.entries.Cap.{Cap}
use Rattle.spef_text.specs.declared.entries.Res.{Res}
use Rattle.spef_text.specs.declared.entries.Marks.{Marks}
use Rattle.spef_text.specs.declared.entries.MapEntry.{MapEntry}
use Rattle.spef_text.specs.declared.entries.HeadItem.{HeadItem}
use Rattle.spef_text.specs.declared.entries.HeadItem.TheVariants.{Divider, Delimiter, BusDelimiter, Design, CapUnit, ResUnit, Mapped}

-- the section of one net
pub record Section : Type 0 where
  -- the token that names the net
  pub net : ℕ
  pub conns : List Conn
  pub caps : List Cap
  pub ress : List Res

-- what the items before the first net set
pub record Head : Type 0 where
  pub marks : Marks
  -- the token of the design's name
  pub design : Option ℕ
  -- the tokens of the units' numbers; the word of a unit follows its number
  pub cap_unit : Option ℕ
  pub res_unit : Option ℕ
  -- the entries of the name map
  pub map : List MapEntry

pub record Reading : Type 0 where
  pub head : Head
  pub sections : List Section

-- a section of which nothing is known
abbrev pub no_section : Section
no_section = record { net = 0; conns = []; caps = []; ress = [] }

-- the section at a place
abbrev pub section_at : List Section → ℕ → Section
section_at sections place = slice_index_or sections place no_section

-- the head of a file that sets nothing
abbrev pub plain_head : Head
plain_head = record {
  marks = record { divider = 47; delimiter = 58; left = 91; right = 93 };
  design = None;
  cap_unit = None;
  res_unit = None;
  map = [];
}

abbrev pub with_marks : Head → Marks → Head
with_marks head marks = record { marks = marks; design = head.design; cap_unit = head.cap_unit; res_unit = head.res_unit; map = head.map }

-- the head after an item: what an item sets counts from there on
abbrev pub with_item : Head → HeadItem → Head
with_item head (Divider mark) = with_marks head
    (record { divider = mark; delimiter = head.marks.delimiter; left = head.marks.left; right = head.marks.right })
with_item head (Delimiter mark) = with_marks head
    (record { divider = head.marks.divider; delimiter = mark; left = head.marks.left; right = head.marks.right })
with_item head (BusDelimiter left right) =
    with_marks head (record { divider = head.marks.divider; delimiter = head.marks.delimiter; left = left; right = right })
with_item head (Design name) = record {
  marks = head.marks;
  design = name;
  cap_unit = head.cap_unit;
  res_unit = head.res_unit;
  map = head.map;
}
with_item head (CapUnit number) = record
    { marks = head.marks; design = head.design; cap_unit = Some number; res_unit = head.res_unit; map = head.map }
with_item head (ResUnit number) = record
    { marks = head.marks; design = head.design; cap_unit = head.cap_unit; res_unit = Some number; map = head.map }
with_item head (Mapped entry) = record {
  marks = head.marks;
  design = head.design;
  cap_unit = head.cap_unit;
  res_unit = head.res_unit;
  map = head.map ++ entry ∷ [];
}
