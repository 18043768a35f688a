-- The read-back law, from the tokens of the text and their forms.
use Rattle.std.proofs.Common.{ℕ, List}
use Rattle.sdf_reader.proofs.SoFar.{one_rows}
use Rattle.sdf_writer.specs.SdfText.{sdf_text}
use Rattle.sdf_read_back.specs.Names.{IsSettled}
use Rattle.sdf_read_back.specs.ReadBack.{IsWireFit, IsPathFit, ReadBack, OnlyReadBack}
use Rattle.sdf_read_back.specs.Rows.{read_back_rows}
use Rattle.sdf_read_back.proofs.Fit.{Each, each_of, IsWire, IsPath, wire_of, path_of}
use Rattle.sdf_read_back.proofs.Forms.{tokens_formed}
use Rattle.sdf_read_back.proofs.Texts.{cells_each, text_parted}
use Rattle.sdf_read_back.proofs.TokenLists.{sdf_tokens}

pub says : (IsName : List ℕ → Type 0) → ((name : List ℕ) → IsName name → IsSettled name) → ReadBack IsName
says IsName settled count corners rows fit =
    let wires : Each IsWire rows.wires = each_of (IsWireFit IsName count) IsWire (wire_of IsName settled count corners) rows.wires fit.wires in
    let paths : Each IsPath rows.paths = each_of (IsPathFit IsName count) IsPath (path_of IsName settled count corners) rows.paths fit.paths in
    record { texts = sdf_tokens rows; parted = text_parted rows wires paths; formed = tokens_formed rows wires (cells_each rows.paths paths) }

pub says_only : (IsName : List ℕ → Type 0) → ((name : List ℕ) → IsName name → IsSettled name) → OnlyReadBack IsName
says_only IsName settled count corners rows fit others other = one_rows (sdf_text rows) others (read_back_rows rows) other (says IsName settled count corners rows fit)
