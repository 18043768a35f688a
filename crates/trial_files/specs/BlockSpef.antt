-- The SPEF file of a block of a size: each net has one resistor from its driver to its sink.
use Rattle.std.specs.Prelude.{ℕ, ◌+◌, ◌==◌, if◌then◌else◌, List, ◌++◌, codes}
use Rattle.std.specs.List.{flat_map, range_with_len}
use Rattle.trial_files.specs.Numbers.{numbered}
use Rattle.trial_files.specs.SpefHead.{spef_head}
use Rattle.trial_files.specs.BlockNetlist.{block_net}

-- what drives a net, and its connection: the input, or the inverter of its number
abbrev pub block_driver : ℕ → List ℕ
block_driver k = if k == 0 then codes "a" else numbered (codes "u") k (codes ":Z")

abbrev pub driver_line : ℕ → List ℕ
driver_line k = if k == 0 then codes "*P a I\n" else numbered (codes "*I u") k (codes ":Z O\n")

module _ (size : ℕ) where
  -- the sink of a net, and its connection: the output, or the next inverter
  abbrev pub block_sink : ℕ → List ℕ
  block_sink k = if k == size then codes "z" else numbered (codes "u") (k + 1) (codes ":A")

  abbrev pub sink_line : ℕ → List ℕ
  sink_line k = if k == size then codes "*P z O\n" else numbered (codes "*I u") (k + 1) (codes ":A I\n")

  -- a net up to its capacitance: its name, its capacitance in femtofarads, its driver and its sink
  abbrev pub net_head : ℕ → List ℕ
  net_head k = codes "*D_NET " ++ (block_net size k ++ (codes " 2\n*CONN\n" ++ (driver_line k ++ sink_line k)))

  -- 2 fF at the sink, and 100 ohm to it
  abbrev pub net_parts : ℕ → List ℕ
  net_parts k = codes "*CAP\n1 " ++ (block_sink k
      ++ (codes " 2\n*RES\n1 " ++ (block_driver k ++ (codes " " ++ (block_sink k ++ codes " 100\n*END\n")))))

  abbrev pub block_section : ℕ → List ℕ
  block_section k = net_head k ++ net_parts k

  unfoldable pub block_spef : List ℕ
  block_spef = spef_head ++ flat_map block_section (range_with_len 0 (size + 1))
