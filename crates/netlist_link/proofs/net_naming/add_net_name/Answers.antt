use Rattle.std.proofs.Common.{◌≡◌, ℕ, ◌<◌, ◌++◌, ◌∷◌, [], List, get_or, Option, sym, ap, ap₂, ◌∙◌, subst}
use Rattle.std.specs.Prelude.{OnOk}
use Rattle.verilog_netlist.specs.NetModules.{name_at}
use Rattle.verilog_netlist.specs.Ranges.{whole_width}
use Rattle.verilog_netlist.specs.declared.entries.Range.{Range}
use Rattle.hierarchy.specs.declared.walking.Visit.{Visit}
use Rattle.netlist_link.specs.FlatNames.{bit_suffix, net_name, net_text}
use Rattle.netlist_link.specs.PathTables.{top_of, no_visit}
use Rattle.netlist_link.specs.BitTables.{module_of, net_bit_of}
use Rattle.netlist_link.proofs.NetTexts.{module_there, name_there, within_there, path_there}
use Rattle.netlist_link.proofs.net_naming.add_net_name.Goals as goal

pub name-name-requires-clause-within : goal.name-name-requires-clause-within
name-name-requires-clause-within c =
    let net = c.args.net in
    rw c.visits-visits.ensures (within_there c.args.design.now c.requires.walk net.visit net.name net.bit c.requires.bit)

pub name-name-requires-clause-place : goal.name-name-requires-clause-place
name-name-requires-clause-place c =
    let net = c.args.net in
    rw c.visits-visits.ensures (name_there c.args.design.now c.requires.walk net.visit net.name net.bit c.requires.bit)

pub range-range-requires-clause-within : goal.range-range-requires-clause-within
range-range-requires-clause-within c =
    let net = c.args.net in
    rw c.visits-visits.ensures (within_there c.args.design.now c.requires.walk net.visit net.name net.bit c.requires.bit)

pub range-range-requires-clause-place : goal.range-range-requires-clause-place
range-range-requires-clause-place c =
    let net = c.args.net in
    rw c.visits-visits.ensures (name_there c.args.design.now c.requires.walk net.visit net.name net.bit c.requires.bit)

pub push_net_name-requires : goal.push_net_name-requires
push_net_name-requires c =
    let d = c.args.design.now in
    let net = c.args.net in
    let module_is : (get_or c.visits-visits.result.now net.visit no_visit).«module» ≡ module_of d net.visit =
    ap (λ (l : List Visit). (get_or l net.visit no_visit).«module») c.visits-visits.ensures
    ∙ module_there d c.requires.walk net.visit net.name net.bit c.requires.bit in
    let range_is = c.range-range.ensures ∙ ap (λ (m : ℕ). (name_at d.modules.now m net.name).range) module_is in
    subst (λ (r : Option Range). net.bit < whole_width r) (sym range_is) c.requires.bit.bit_below

pub returns : goal.returns
returns c =
    let d = c.args.design.now in
    let modules = d.modules.now in
    let top = top_of d.walk.now in
    let net = c.args.net in
    let module_is : (get_or c.visits-visits.result.now net.visit no_visit).«module» ≡ module_of d net.visit =
    ap (λ (l : List Visit). (get_or l net.visit no_visit).«module») c.visits-visits.ensures
    ∙ module_there d c.requires.walk net.visit net.name net.bit c.requires.bit in
    let name_is = c.name-name.ensures ∙ ap (λ (m : ℕ). (name_at modules m net.name).text) module_is in
    let range_is = c.range-range.ensures ∙ ap (λ (m : ℕ). (name_at modules m net.name).range) module_is in
    let path_is = c.text-path.ensures ∙ path_there d c.requires.walk net.visit net.name net.bit c.requires.bit c.requires.paths in
    let index_is : bit_suffix c.range-range.result net.bit ≡ bit_suffix (net_name modules top (net_bit_of d net)).range net.bit =
    ap (λ (r : Option Range). bit_suffix r net.bit) range_is in
    let text_is : c.text-path.result.now ++ c.name-name.result.now ++ bit_suffix c.range-range.result net.bit ≡ net_text modules top (net_bit_of d net) =
    ap₂ (λ (a b : List ℕ). a ++ b) (ap₂ (λ (a b : List ℕ). a ++ b) path_is name_is) index_is in
    subst (λ (text : List ℕ). OnOk c.push_net_name.result (c.push_net_name.new.names ≡ c.args.names.now ++ text ∷ [])) text_is c.push_net_name.ensures
