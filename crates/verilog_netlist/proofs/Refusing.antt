-- What is refused, and why.
use Rattle.std.proofs.Common.{◌≡◌, ℕ, ◌<◌, List, length, slice_get, Some, Option, subst}
use Rattle.token_texts.specs.Spans.{text_at}
use Rattle.verilog_netlist.specs.Namespaces.{name_of}
use Rattle.verilog_netlist.specs.Netlists.{SaysNetlist}
use Rattle.verilog_netlist.specs.Faults.{HasFault, IsFirstFault, IsFaultless, FindsFault}
use Rattle.verilog_netlist.specs.Netlist.{IsRefused, IsNameFault, IsNamed}
use Rattle.verilog_netlist.specs.declared.entries.Entry.{Entry}
use Rattle.verilog_netlist.specs.declared.faults.FirstFault.{FirstFault}
use Rattle.verilog_netlist.specs.declared.faults.NameFault.{NameFault}
use Rattle.verilog_netlist.specs.declared.faults.NameFault.TheVariants as fault
use Rattle.verilog_netlist.specs.declared.netlist.VerilogEnd.{VerilogEnd}
use Rattle.verilog_netlist.specs.declared.netlist.VerilogEnd.TheVariants as end
use Rattle.verilog_netlist.proofs.Repeating.{within_list}

fault_within : (bytes : List ℕ) (entries : List Entry) (k : NameFault) (place : ℕ) → HasFault bytes entries k place → place < length entries
fault_within bytes entries fault.Repeated place r = within_list entries place r.again r.again_stands
fault_within bytes entries fault.PortDirection place r = within_list entries place r.one r.one_stands
fault_within bytes entries fault.BadRange place r = within_list entries place r.entry r.stands

module _ (bytes : List ℕ) (entries : List Entry) (found : Option FirstFault) (first : FirstFault) (is : found ≡ Some first) (finds : FindsFault bytes entries found) where
  pub is_first : IsFirstFault bytes entries first
  is_first = subst (λ (f : Option FirstFault). FindsFault bytes entries f) is finds

  pub first_within : first.place < length entries
  first_within = fault_within bytes entries first.fault first.place is_first.is

  pub not_faultless : IsFaultless bytes entries → ⊥
  not_faultless none = none first.fault first.place is_first.is

module _ (bytes : List ℕ) (entries : List Entry) (first : FirstFault) (entry : Entry) (says : SaysNetlist bytes entries) (is : IsFirstFault bytes entries first) (stands : slice_get entries first.place ≡ Some entry) where
  name_fault : (of : NameFault) (name : List ℕ) → first.fault ≡ of → name ≡ text_at bytes (name_of entry) → IsNameFault bytes of name
  name_fault of name same text = record {
    entries = entries;
    place = first.place;
    entry = entry;
    says = says;
    first = subst (λ (f : NameFault). IsFirstFault bytes entries (record { fault = f; place = first.place })) same is;
    stands = stands;
    is_name = text;
  }

  pub refuses : (refusal : VerilogEnd) → IsNamed first.fault (text_at bytes (name_of entry)) refusal → IsRefused bytes refusal
  refuses (end.Repeated name) h = name_fault fault.Repeated name h.0 h.1
  refuses (end.PortDirection name) h = name_fault fault.PortDirection name h.0 h.1
  refuses (end.BadRange name) h = name_fault fault.BadRange name h.0 h.1
  refuses end.OutOfMemory h = tt
  refuses (end.Syntax token) h = absurd h
  refuses (end.NotStructural word token) h = absurd h
