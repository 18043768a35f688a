-- The bits of the ports of the top module, one more and all.
use Rattle.std.proofs.Common.{◌≡◌, ℕ, ◌+◌, ◌<◌, true, false, List, [], ◌∷◌, ◌++◌, length, get_or, Option, Some, None, refl, sym, ap, ◌∙◌, subst, arith, append-nil, append_assoc}
use Rattle.std.specs.Prelude.{slice_get, IsTrue, ◌↔◌}
use Rattle.std.specs.Option.{unwrap_or}
use Rattle.std.proofs.lemmas.Option.{slice_get-get_or, slice_get_within, same_Some}
use Rattle.std.proofs.lemmas.List.{get_or_append_left, length_push}
use Rattle.std.proofs.Math.Seq.{get_or-append_seam}
use Rattle.name_table.specs.SdfNames.{part}
use Rattle.cell_models.specs.NamedSets.{NamedCells}
use Rattle.hierarchy.specs.Walks.{joined_from}
use Rattle.hierarchy.proofs.Joining.{joined-more}
use Rattle.verilog_netlist.specs.NetModules.{NetModule, module_at, name_at}
use Rattle.verilog_netlist.specs.Ranges.{whole_width}
use Rattle.verilog_netlist.specs.declared.net_names.Way.TheVariants as way
use Rattle.verilog_netlist.specs.declared.runs.Bit.TheVariants.{Wire}
use Rattle.netlist_link.specs.BitTables.{nets_of, IsBitOf}
use Rattle.netlist_link.specs.FlatBits.{NetBit, flat_bit}
use Rattle.netlist_link.specs.FlatBits as bits
use Rattle.netlist_link.specs.FlatBitTables.{AreFlatBits, HasFlatBit, IsOnNet}
use Rattle.netlist_link.specs.FlatNames.{bit_suffix}
use Rattle.netlist_link.specs.FlatNetlist.{FlatPort, no_port}
use Rattle.netlist_link.specs.Links.{IsPortOf, ArePorts}
use Rattle.netlist_link.specs.PathTables.{top_of}
use Rattle.netlist_link.specs.PortRows.{kept_port, ports_in, IsPortAdded, HoldsPorts, AddsPorts, top_bit}
use Rattle.netlist_link.specs.declared.checking.Design.{Design}
use Rattle.netlist_link.specs.declared.flat_bits.FlatBits.{FlatBits}
use Rattle.netlist_link.specs.declared.ports.Ports.{Ports}
use Rattle.hierarchy.proofs.Numbered.{numbered_at, numbered_count}
use Rattle.netlist_link.proofs.PathSteps.{path_text_none, path_sdf_none}
use Rattle.text_table.proofs.Pushing.{each_push}

pushed_before : {X : Type 0} (old now : List X) (x d : X) (p : ℕ) → now ≡ old ++ x ∷ [] → p < length old → get_or now p d ≡ get_or old p d
pushed_before old now x d p is below = ap (λ l. get_or l p d) is ∙ get_or_append_left old (x ∷ []) d p below

pushed_last : {X : Type 0} (old now : List X) (x d : X) (n : ℕ) → now ≡ old ++ x ∷ [] → length old ≡ n → get_or now n d ≡ x
pushed_last old now x d n is len = ap (λ l. get_or l n d) is ∙ ap (λ (k : ℕ). get_or (old ++ x ∷ []) k d) (sym len) ∙ get_or-append_seam old x [] d

pushed_many : {X : Type 0} (old now : List X) (x : X) → now ≡ old ++ x ∷ [] → length now ≡ length old + 1
pushed_many old now x is = ap length is ∙ length_push old x

-- what a bit of a name of the top is on
pub top_on : (modules : List NetModule) (top name bit : ℕ) → flat_bit modules top [] name bit ≡ bits.OnNet (top_bit name bit)
unfolding flat_bit
top_on modules top name bit = refl

module _ (d : Design) where
  abbrev top : ℕ
  top = top_of d.walk.now

  abbrev modules : List NetModule
  modules = d.modules.now

  pub has_bit : (bits : FlatBits) (m i bit : ℕ) → AreFlatBits d bits → m ≡ top → i < length (module_at modules m).names
      → bit < whole_width (name_at modules m i).range → IsBitOf d 0 i bit
  has_bit bits m i bit are is place below = record {
    visit_below = omega arith;
    name_below = subst (λ (k : ℕ). i < length (module_at modules k).names) is place;
    bit_below = subst (λ (k : ℕ). bit < whole_width (name_at modules k i).range) is below;
  }

  pub has_flat_bit : (bits : FlatBits) (m i bit : ℕ) → AreFlatBits d bits → m ≡ top → i < length (module_at modules m).names
      → bit < whole_width (name_at modules m i).range → HasFlatBit bits 0 m (Wire i bit)
  has_flat_bit bits m i bit are is place below = record {
    design = d;
    are = are;
    visit_below = omega arith;
    module_is = is;
    inside = has_bit bits m i bit are is place below;
  }

  pub net_is : (i bit : ℕ) (net : Option ℕ) → IsOnNet d 0 (Wire i bit) net → slice_get (nets_of d) (unwrap_or net 0) ≡ Some (top_bit i bit)
  unfolding flat_bit
  net_is i bit None on = absurd on
  net_is i bit (Some n) on = on

  pub is_port_of : (cells : List NamedCells) (m i bit : ℕ) (port : FlatPort) → m ≡ top
      → port.text ≡ (name_at modules m i).text ++ bit_suffix (name_at modules m i).range bit
      → port.sdf ≡ part (name_at modules m i).text ++ bit_suffix (name_at modules m i).range bit
      → slice_get (nets_of d) port.net ≡ Some (top_bit i bit) → IsTrue port.is_input ↔ ((name_at modules m i).way ≡ way.In)
      → IsPortOf modules top cells (top_bit i bit) port
  is_port_of cells m i bit port is text sdf net input = record {
    text = text ∙ ap (λ (k : ℕ). (name_at modules k i).text ++ bit_suffix (name_at modules k i).range bit) is
        ∙ ap (λ (path : List ℕ). path ++ (name_at modules top i).text ++ bit_suffix (name_at modules top i).range bit) (sym (path_text_none modules top));
    sdf = sdf ∙ ap (λ (k : ℕ). part (name_at modules k i).text ++ bit_suffix (name_at modules k i).range bit) is
        ∙ ap (λ (path : List ℕ). path ++ part (name_at modules top i).text ++ bit_suffix (name_at modules top i).range bit) (sym (path_sdf_none modules top));
    net = net;
    input = subst (λ (k : ℕ). IsTrue port.is_input ↔ ((name_at modules k i).way ≡ way.In)) is input;
  }

  -- one bit more
  pub bit_added : (old now : Ports) (bit : NetBit) (port : FlatPort) → IsPortAdded old now port
      → ((cells : List NamedCells) → IsPortOf modules top cells bit port) → AddsPorts d (bit ∷ []) old now
  bit_added old now bit port added is cells before holds = record {
    tables = record {
      texts_count = (let is_so = holds.tables.texts_count in let one = texts_many in let other = nets_many in omega arith);
      spellings_count = (let is_so = holds.tables.spellings_count in let one = spellings_many in let other = nets_many in omega arith);
      inputs_count = (let is_so = holds.tables.inputs_count in let one = inputs_many in let other = nets_many in omega arith);
    };
    count = nets_many ∙ ap (λ (n : ℕ). n + 1) holds.count ∙ sym (length_push before bit);
    each = each_push (λ p b. IsPortOf modules top cells b (kept_port now p)) before bit (λ p b here.
        subst (IsPortOf modules top cells b) (stays p (let below = slice_get_within before p b here in let count = holds.count in omega arith))
        (holds.each p b here)) (subst (IsPortOf modules top cells bit) (last (length before) holds.count) (is cells));
  }
    where
      texts_many : length now.texts ≡ length old.texts + 1
      texts_many = pushed_many old.texts now.texts port.text added.texts

      spellings_many : length now.spellings ≡ length old.spellings + 1
      spellings_many = pushed_many old.spellings now.spellings port.sdf added.spellings

      nets_many : length now.nets.items ≡ length old.nets.items + 1
      nets_many = pushed_many old.nets.items now.nets.items port.net added.nets

      inputs_many : length now.are_inputs.items ≡ length old.are_inputs.items + 1
      inputs_many = pushed_many old.are_inputs.items now.are_inputs.items port.is_input added.inputs

      stays : (p : ℕ) → p < length old.nets.items → kept_port old p ≡ kept_port now p
      stays p below =
          let text = sym (pushed_before old.texts now.texts port.text [] p added.texts (let n = holds.tables.texts_count in omega arith)) in
          let sdf = sym (pushed_before old.spellings now.spellings port.sdf [] p added.spellings (let n = holds.tables.spellings_count in omega arith)) in
          let net = sym (pushed_before old.nets.items now.nets.items port.net 0 p added.nets below) in
          let input = sym (pushed_before old.are_inputs.items now.are_inputs.items port.is_input false p added.inputs (let n = holds.tables.inputs_count in omega arith)) in
          λ k. record { text = text k; sdf = sdf k; net = net k; is_input = input k }

      last : (n : ℕ) → length old.nets.items ≡ n → port ≡ kept_port now n
      last n len =
          let text = sym (pushed_last old.texts now.texts port.text [] n added.texts (let m = holds.tables.texts_count in omega arith)) in
          let sdf = sym (pushed_last old.spellings now.spellings port.sdf [] n added.spellings (let m = holds.tables.spellings_count in omega arith)) in
          let net = sym (pushed_last old.nets.items now.nets.items port.net 0 n added.nets len) in
          let input = sym (pushed_last old.are_inputs.items now.are_inputs.items port.is_input false n added.inputs (let m = holds.tables.inputs_count in omega arith)) in
          λ k. record { text = text k; sdf = sdf k; net = net k; is_input = input k }

  pub adds_none : (ports : Ports) → AddsPorts d [] ports ports
  adds_none ports cells before holds = subst (λ (l : List NetBit). HoldsPorts d cells l ports) (sym (append-nil before)) holds

  pub adds_more : (some more : List NetBit) (old so_far now : Ports) → AddsPorts d some old so_far → AddsPorts d more so_far now
      → AddsPorts d (some ++ more) old now
  adds_more some more old so_far now first then_more cells before holds = subst (λ (l : List NetBit). HoldsPorts d cells l now) (append_assoc before some more)
      (then_more cells (before ++ some) (first cells before holds))

  -- a bit of a name more, and a name more
  pub adds_bit : (i bit : ℕ) (old so_far now : Ports) → AddsPorts d (joined_from (λ b. top_bit i b ∷ []) 0 bit) old so_far
      → AddsPorts d (top_bit i bit ∷ []) so_far now → AddsPorts d (joined_from (λ b. top_bit i b ∷ []) 0 (bit + 1)) old now
  adds_bit i bit old so_far now first then_more =
      let same : bit ≡ 0 + bit = omega arith in
      subst (λ (l : List NetBit). AddsPorts d l old now)
      (ap (λ (b : ℕ). joined_from (λ b. top_bit i b ∷ []) 0 bit ++ top_bit i b ∷ []) same ∙ sym (joined-more (λ b. top_bit i b ∷ []) 0 bit))
      (adds_more (joined_from (λ b. top_bit i b ∷ []) 0 bit) (top_bit i bit ∷ []) old so_far now first then_more)

  pub all_bits : (m i n : ℕ) → m ≡ top → bits.is_port_way (name_at modules m i).way ≡ true → n ≡ whole_width (name_at modules m i).range
      → joined_from (λ b. top_bit i b ∷ []) 0 n ≡ bits.ports_of_name modules top i
  all_bits m i n is port many =
      let here : bits.is_port_way (name_at modules top i).way ≡ true = subst (λ (k : ℕ). bits.is_port_way (name_at modules k i).way ≡ true) is port in
      ap (joined_from (λ b. top_bit i b ∷ []) 0) (many ∙ ap (λ (k : ℕ). whole_width (name_at modules k i).range) is) ∙ rw here refl

  pub holds_name : (cells : List NamedCells) (i : ℕ) (so_far now : Ports)
      → HoldsPorts d cells (joined_from (bits.ports_of_name modules top) 0 i) so_far → AddsPorts d (bits.ports_of_name modules top i) so_far now
      → HoldsPorts d cells (joined_from (bits.ports_of_name modules top) 0 (i + 1)) now
  holds_name cells i so_far now holds adds =
      let same : i ≡ 0 + i = omega arith in
      subst (λ (l : List NetBit). HoldsPorts d cells l now)
      (ap (λ (k : ℕ). joined_from (bits.ports_of_name modules top) 0 i ++ bits.ports_of_name modules top k) same
      ∙ sym (joined-more (bits.ports_of_name modules top) 0 i))
      (adds cells (joined_from (bits.ports_of_name modules top) 0 i) holds)

  -- the ports are those bits
  pub are_ports : (cells : List NamedCells) (ports : Ports) → HoldsPorts d cells (bits.top_ports modules top) ports
      → ArePorts modules top cells (ports_in ports)
  are_ports cells ports holds = record {
    count = numbered_count (kept_port ports) 0 (length ports.nets.items) ∙ holds.count;
    each = λ p bit port here there.
        let below = slice_get_within (bits.top_ports modules top) p bit here in
        let count = holds.count in
        let many = numbered_count (kept_port ports) 0 (length ports.nets.items) in
        let is : kept_port ports p ≡ port =
        same_Some (kept_port ports p) port (ap Some (sym (numbered_at (kept_port ports) (length ports.nets.items) p no_port (omega arith)))
        ∙ sym (slice_get-get_or (ports_in ports) p no_port (omega arith)) ∙ there) in
        subst (IsPortOf modules top cells bit) is (holds.each p bit here);
  }
