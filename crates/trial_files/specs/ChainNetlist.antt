-- The netlist of a chain, in structural Verilog: two inverters one after the other, whatever the size.
use Rattle.std.specs.Prelude.{ℕ, List, ◌++◌, codes}

-- the net between the inverters, `n`, is not declared
unfoldable pub chain_netlist : List ℕ
chain_netlist =
    codes "module top (a, z);\n"
    ++ (codes "input a;\n"
    ++ (codes "output z;\n"
    ++ (codes "INV u1 (.A(a), .Z(n));\n"
    ++ (codes "INV u2 (.A(n), .Z(z));\n"
    ++ codes "endmodule\n"))))
