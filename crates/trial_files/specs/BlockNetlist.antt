-- The netlist of a block of a size, in structural Verilog: so many inverters one after the other, the last one first.
use Rattle.std.specs.Prelude.{ℕ, ◌-◌, ◌==◌, if◌then◌else◌, List, [], ◌++◌, reverse, codes}
use Rattle.std.specs.List.{flat_map, range_with_len}
use Rattle.trial_files.specs.Numbers.{numbered}

abbrev pub block_opening : List ℕ
block_opening = codes "module top (a, z);\ninput a;\noutput z;\n"

module _ (size : ℕ) where
  -- the nets from the input, which is 0, to the output, which is the size; those between them are not declared
  abbrev pub block_net : ℕ → List ℕ
  block_net k = if k == 0 then codes "a" else if k == size then codes "z" else numbered (codes "n") k []

  -- an inverter from the net before to the net of its number
  abbrev pub block_gate : ℕ → List ℕ
  block_gate k = numbered (codes "INV u") k (codes " (.A(") ++ (block_net (k - 1) ++ (codes "), .Z(" ++ (block_net k ++ codes "));\n")))

  unfoldable pub block_netlist : List ℕ
  block_netlist = block_opening ++ (flat_map block_gate (reverse (range_with_len 1 size)) ++ codes "endmodule\n")
