-- How far a file of the grammar has been read, in the grammar's own words: what stands before a place, and the forms that are open there.
use Rattle.std.proofs.Common.{◌≡◌, ℕ, zero, suc, List, [], ◌∷◌, ◌++◌, Option, sym, ap, ◌∙◌, subst, append-nil, append_assoc}
use Rattle.sdf_reader.specs.Tokens.{meaning}
use Rattle.sdf_reader.specs.Rows.{Head, Place}
use Rattle.sdf_reader.specs.Grammar.{Tok, Is, IsKeyword, IsHead, AreHeads, and_head, IsInstance, IsCell, is_cell, Loose, and_piece, and_group, is_group, IsPiece, Many, more, IsEntry, IsDelay, is_absolute, IsSpec, is_delay}
use Rattle.sdf_reader.specs.declared.scan.Kind.TheVariants as kind
use Rattle.sdf_reader.specs.declared.words.Keyword.TheVariants as key
use Rattle.sdf_reader.specs.declared.rows.Value.{Value}
use Rattle.sdf_reader.specs.declared.rows.SdfRow.{SdfRow}
use Rattle.sdf_reader.specs.declared.timescales.Timescale.{Timescale}

-- among the heads
pub data InHeads (head : Head) : List Tok → List Tok → Type 0 where
  in_heads : {begin keyword : Tok} {from here : List Tok}
      → Is kind.LeftParen begin → IsKeyword key.DelayFile keyword → AreHeads from head here
      → InHeads head (begin ∷ keyword ∷ from) here

pub heads_grow : {before after : Head} {from here rest : List Tok} → InHeads before from here → IsHead here before after rest → InHeads after from rest
heads_grow (in_heads b k heads) is = in_heads b k (and_head heads is)

module _ (IsNumber : Timescale → List ℕ → Value → Type 0) (head : Head) where
  -- where a cell may begin
  pub data InCells : List SdfRow → List Tok → List Tok → Type 0 where
    in_cells : {rows : List SdfRow} {from middle here : List Tok}
        → InHeads head from middle → Many (IsCell IsNumber head) middle rows here
        → InCells rows from here

  -- behind the type of a cell
  pub data Typed (cell : List ℕ) : List SdfRow → List Tok → List Tok → Type 0 where
    is_typed : {rows : List SdfRow} {begin keyword begin_type type_keyword text end_type : Tok} {from here : List Tok}
        → InCells rows from (begin ∷ keyword ∷ begin_type ∷ type_keyword ∷ text ∷ end_type ∷ here)
        → Is kind.LeftParen begin → IsKeyword key.Cell keyword
        → Is kind.LeftParen begin_type → IsKeyword key.CellType type_keyword → Is kind.Quoted text → Is kind.RightParen end_type
        → cell ≡ meaning text.text.bytes
        → Typed cell rows from here

  module _ (cell : List ℕ) (instance : Option (List ℕ)) where
    abbrev pub place_here : Place
    place_here = record { cell = cell; instance = instance }

    -- in a cell, behind its instance
    pub data InCell : List SdfRow → List Tok → List Tok → Type 0 where
      in_cell : {first added rows : List SdfRow} {from at middle here : List Tok}
          → Typed cell first from at → IsInstance head.divider at instance middle
          → Many (IsSpec IsNumber head place_here) middle added here → rows ≡ first ++ added
          → InCell rows from here

    -- in a DELAY
    pub data InDelay : List SdfRow → List Tok → List Tok → Type 0 where
      in_delay : {first added rows : List SdfRow} {begin keyword : Tok} {from at here : List Tok}
          → InCell first from (begin ∷ keyword ∷ at) → Is kind.LeftParen begin → IsKeyword key.Delay keyword
          → Many (IsDelay IsNumber head place_here) at added here → rows ≡ first ++ added
          → InDelay rows from here

    -- in an ABSOLUTE
    pub data InAbsolute : List SdfRow → List Tok → List Tok → Type 0 where
      in_absolute : {first added rows : List SdfRow} {begin keyword : Tok} {from at here : List Tok}
          → InDelay first from (begin ∷ keyword ∷ at) → Is kind.LeftParen begin → IsKeyword key.Absolute keyword
          → Many (IsEntry IsNumber head place_here) at added here → rows ≡ first ++ added
          → InAbsolute rows from here

    -- a part more
    pub cell_grows : {rows others : List SdfRow} {from here rest : List Tok} → InCell rows from here → IsSpec IsNumber head place_here here others rest → InCell (rows ++ others) from rest
    cell_grows {others = others} (in_cell {first = first} {added = added} typed placed specs e) part =
        in_cell typed placed (more specs part) (ap (λ r. r ++ others) e ∙ append_assoc first added others)

    pub delay_grows : {rows others : List SdfRow} {from here rest : List Tok} → InDelay rows from here → IsDelay IsNumber head place_here here others rest → InDelay (rows ++ others) from rest
    delay_grows {others = others} (in_delay {first = first} {added = added} inside b k parts e) part =
        in_delay inside b k (more parts part) (ap (λ r. r ++ others) e ∙ append_assoc first added others)

    pub absolute_grows : {rows others : List SdfRow} {from here rest : List Tok} → InAbsolute rows from here → IsEntry IsNumber head place_here here others rest → InAbsolute (rows ++ others) from rest
    absolute_grows {others = others} (in_absolute {first = first} {added = added} inside b k parts e) part =
        in_absolute inside b k (more parts part) (ap (λ r. r ++ others) e ∙ append_assoc first added others)

    -- a part without rows
    pub cell_goes_on : {rows : List SdfRow} {from here rest : List Tok} → InCell rows from here → IsSpec IsNumber head place_here here [] rest → InCell rows from rest
    cell_goes_on {rows} {from} {rest = rest} inside part = subst (λ (r : List SdfRow). InCell r from rest) (append-nil rows) (cell_grows inside part)

    pub delay_goes_on : {rows : List SdfRow} {from here rest : List Tok} → InDelay rows from here → IsDelay IsNumber head place_here here [] rest → InDelay rows from rest
    delay_goes_on {rows} {from} {rest = rest} inside part = subst (λ (r : List SdfRow). InDelay r from rest) (append-nil rows) (delay_grows inside part)

    pub absolute_goes_on : {rows : List SdfRow} {from here rest : List Tok} → InAbsolute rows from here → IsEntry IsNumber head place_here here [] rest → InAbsolute rows from rest
    absolute_goes_on {rows} {from} {rest = rest} inside part = subst (λ (r : List SdfRow). InAbsolute r from rest) (append-nil rows) (absolute_grows inside part)

    -- the `)` of a form
    pub absolute_ends : {rows : List SdfRow} {from rest : List Tok} {close : Tok} → InAbsolute rows from (close ∷ rest) → Is kind.RightParen close → InDelay rows from rest
    absolute_ends {from = from} {rest = rest} (in_absolute inside b k parts e) c = subst (λ (r : List SdfRow). InDelay r from rest) (sym e) (delay_grows inside (is_absolute b k parts c))

    pub delay_ends : {rows : List SdfRow} {from rest : List Tok} {close : Tok} → InDelay rows from (close ∷ rest) → Is kind.RightParen close → InCell rows from rest
    delay_ends {from = from} {rest = rest} (in_delay inside b k parts e) c = subst (λ (r : List SdfRow). InCell r from rest) (sym e) (cell_grows inside (is_delay b k parts c))

    typed_ends : {first added : List SdfRow} {from at middle rest : List Tok} {close : Tok} → Typed cell first from at → IsInstance head.divider at instance middle
        → Many (IsSpec IsNumber head place_here) middle added (close ∷ rest) → Is kind.RightParen close → InCells (first ++ added) from rest
    typed_ends {added = added} {middle = middle} {rest = rest} {close = close} (is_typed (in_cells heads cells) b k bt tk t et named) placed specs c =
        in_cells heads (more cells (is_cell b k bt tk t et placed
        (subst (λ (n : List ℕ). Many (IsSpec IsNumber head (record { cell = n; instance = instance })) middle added (close ∷ rest)) named specs) c))

    pub cell_ends : {rows : List SdfRow} {from rest : List Tok} {close : Tok} → InCell rows from (close ∷ rest) → Is kind.RightParen close → InCells rows from rest
    cell_ends {from = from} {rest = rest} (in_cell typed placed specs e) c = subst (λ (r : List SdfRow). InCells r from rest) (sym e) (typed_ends typed placed specs c)

-- in a form that is passed over, so many forms deep in it
pub data Nest : ℕ → List Tok → List Tok → Type 0 where
  flat : {start here : List Tok} → Loose start here → Nest zero start here
  deeper : {depth : ℕ} {begin : Tok} {start middle here : List Tok}
      → Nest depth start (begin ∷ middle) → Is kind.LeftParen begin → Loose middle here
      → Nest (suc depth) start here

pub nest_piece : {depth : ℕ} {start rest : List Tok} {token : Tok} → Nest depth start (token ∷ rest) → IsPiece token → Nest depth start rest
nest_piece (flat loose) is = flat (and_piece loose is)
nest_piece (deeper nest b loose) is = deeper nest b (and_piece loose is)

pub nest_group : {depth : ℕ} {begin close : Tok} {start middle rest : List Tok} → Nest depth start (begin ∷ middle) → Is kind.LeftParen begin → Loose middle (close ∷ rest) → Is kind.RightParen close → Nest depth start rest
nest_group (flat before) b loose c = flat (and_group before (is_group b loose c))
nest_group (deeper nest b' before) b loose c = deeper nest b' (and_group before (is_group b loose c))
