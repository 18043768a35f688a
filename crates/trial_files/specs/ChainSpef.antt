-- The SPEF file of a chain of a size: the net between the inverters has so many resistors, one behind the other.
use Rattle.std.specs.Prelude.{ℕ, ◌-◌, ◌==◌, if◌then◌else◌, List, [], ◌++◌, codes}
use Rattle.std.specs.List.{flat_map, range_with_len}
use Rattle.trial_files.specs.Numbers.{numbered}
use Rattle.trial_files.specs.SpefHead.{spef_head}

-- the net at the input, which has no capacitance and no resistor
abbrev pub chain_input : List ℕ
chain_input = codes "*D_NET a 0\n*CONN\n*P a I\n*I u1:A I\n*END\n"

-- the net at the output: 1 fF at its driver
abbrev pub chain_output : List ℕ
chain_output = codes "*D_NET z 1\n*CONN\n*I u2:Z O\n*P z O\n*CAP\n1 u2:Z 1\n*END\n"

module _ (size : ℕ) where
  -- the nodes of the net in the middle, from its driver, which is 0, to its sink, which is the size
  abbrev pub chain_node : ℕ → List ℕ
  chain_node k = if k == 0 then codes "u1:Z" else if k == size then codes "u2:A" else numbered (codes "n:") k []

  -- 1 fF at a node
  abbrev pub chain_cap : ℕ → List ℕ
  chain_cap k = numbered [] k (codes " ") ++ (chain_node k ++ codes " 1\n")

  -- 1 ohm between the node before and this one
  abbrev pub chain_resistor : ℕ → List ℕ
  chain_resistor k = numbered [] k (codes " ") ++ (chain_node (k - 1) ++ (codes " " ++ (chain_node k ++ codes " 1\n")))

  -- 1 fF at each node but the driver
  abbrev pub chain_caps : List ℕ
  chain_caps = codes "*CAP\n" ++ flat_map chain_cap (range_with_len 1 size)

  -- so many resistors from the driver to the sink
  abbrev pub chain_resistors : List ℕ
  chain_resistors = codes "*RES\n" ++ flat_map chain_resistor (range_with_len 1 size)

  -- the net in the middle up to its capacitances: its name, their sum in femtofarads, its driver and its sink
  abbrev pub chain_head : List ℕ
  chain_head = numbered (codes "*D_NET n ") size (codes "\n*CONN\n*I u1:Z O\n*I u2:A I\n")

  -- the net in the middle
  abbrev pub chain_middle : List ℕ
  chain_middle = chain_head ++ (chain_caps ++ (chain_resistors ++ codes "*END\n"))

  unfoldable pub chain_spef : List ℕ
  chain_spef = spef_head ++ (chain_input ++ (chain_middle ++ chain_output))
