-- The rows that `wires` gives are rows for one corner, of wires alone, whose names are settled where they begin no comment, and so are read back.
use Rattle.std.proofs.Common.{◌≡◌, ◌≤◌, ◌^◌, ℕ, inl, inr, false, List, [], ◌∷◌, ◌++◌, length, map, Option, Some, Ok, refl, sym, subst, unsigned_abs}
use Rattle.std.specs.Prelude.{All, slice_get}
use Rattle.std.specs.List.{AllZip, AllByRecursion}
use Rattle.std.proofs.lemmas.List.Elements.{All-nil, All-append, All-contains, All-from_recursion, All-pop, All-weaker, recursion_from_All}
use Rattle.std.proofs.lemmas.Slice.Zip.{AllZip-long}
use Rattle.corner_set.specs.declared.pick.Pick.{Pick}
use Rattle.delay_units.specs.declared.Femto.{Femto}
use Rattle.edge_io.specs.Holding.{Held}
use Rattle.edge_io.specs.Told.{appended}
use Rattle.gdc_words.specs.CommandLine.{Request, pick_from}
use Rattle.gdc_words.specs.declared.commands.Command.{Command}
use Rattle.gdc_words.specs.declared.commands.Command.TheVariants.{Wires, Calc, Show, Lookup, Flat, Trial, Help, Version}
use Rattle.name_table.specs.WellSpelled.{IsWellSpelled}
use Rattle.name_table.specs.declared.spef_names.NodeName.{NodeName}
use Rattle.rc_tree.specs.ListedPins.{listed_pins}
use Rattle.rc_tree.specs.NetElements.{NetElements as TreeElements}
use Rattle.rc_tree.specs.Nodes.{Node, node_of}
use Rattle.rc_tree.specs.Pins.{Pins}
use Rattle.rc_tree.specs.SectionNets.{net_elements, on_net}
use Rattle.sdf_read_back.specs.Names.{begins_comment, IsSettled, HalvesSettle, NamedSettles}
use Rattle.sdf_read_back.specs.ReadBack.{ReadBack, OnlyReadBack, IsPathFit, AreFit}
use Rattle.sdf_writer.specs.Bounds.{AreWithin}
use Rattle.sdf_writer.specs.SdfText.{WireRow, PathRow, SdfRows}
use Rattle.spef_nets.specs.NetElements.{NetElements, AreWhole}
use Rattle.spef_text.specs.SpefFiles.{SpefText, IsFormed}
use Rattle.spef_text.specs.Heads.{HeadText}
use Rattle.verdict_phases.specs.Phases.{Go}
use Rattle.wire_phases.specs.AnnotationRows.{Wire, IsWireDelay, IsAnnotationRow}
use Rattle.gdc_run.specs.Outcomes.{OnDone, GivesText, GivesFit, GivesReadable}
use Rattle.gdc_run.specs.ReadBack.{HasNoComment, IsFitFor, IsReadable, IsAlwaysReadable}
use Rattle.wire_phases.specs.SpefPhases.{sole_corner, DesignNets, ParsesSpef, is_spef, NetsSpef, are_nets, ReadsNets, through}
use Rattle.command_rows.specs.CommandRows.{WiresGives, with_rows}
use Rattle.gdc_run.specs.Verdict.{CommandGives}
use Rattle.wire_phases.specs.WireNets.{HasDriver, NetGives, is_tree, NetsGive, no_net, and_net}
use Rattle.gdc_run.specs.declared.outcome.Outcome.{Outcome}
use Rattle.gdc_run.specs.declared.outcome.Outcome.TheVariants.{Done, Refused, Usage, ReadFault, WriteFault, OutOfMemory}
use Rattle.gdc_run.specs.declared.output.Output.{Output}
use Rattle.gdc_run.specs.declared.output.Output.TheVariants as output
use Rattle.wire_phases.proofs.OneRows.{IsNamed, driver_named, sinks_named}
use Rattle.refusals.proofs.Places.{at_contains}
use Rattle.gdc_run.proofs.SettledNames.{Settles, nets_settle}
use Rattle.gdc_run.proofs.SmallDelays.{delay_within}

-- a name that is settled, unless it begins a comment
abbrev MaySettle : List ℕ → Type 0
MaySettle name = begins_comment name ≡ false → IsSettled name

-- a row for one corner, whose delay may be written, and whose names are such
record IsSound (row : WireRow) : Type 0 where
  from : MaySettle row.from
  to : MaySettle row.to
  single : length row.delay ≡ 1
  within : AreWithin row.delay

abbrev IsGoodNet : NetElements → Type 0
IsGoodNet net = All Settles net.nodes × AreWhole 1 net

-- ---- the rows of a net

module _ (net : NetElements) (good : IsGoodNet net) (driver : ℕ) (has : HasDriver net driver) where
  name_settles : (name : NodeName) → (number : ℕ) × (slice_get net.nodes number ≡ Some name) → Settles name
  name_settles name named = All-contains Settles net.nodes name good.0 (at_contains net.nodes named.0 name named.1)

  driver_settles : Settles (listed_pins 1 net driver).driver
  driver_settles = name_settles (listed_pins 1 net driver).driver (driver_named net good.1 driver has)

  sinks_settle : AllByRecursion Settles (listed_pins 1 net driver).sinks
  sinks_settle =
      recursion_from_All Settles (listed_pins 1 net driver).sinks
      (All-weaker (IsNamed net good.1 driver has) Settles name_settles (listed_pins 1 net driver).sinks
      (All-from_recursion (IsNamed net good.1 driver has) (listed_pins 1 net driver).sinks (sinks_named net good.1 driver has)))

delays_within : (at : Node) (net : TreeElements Node) (delays : List Femto) → ((delay : Femto) → IsWireDelay at net delay → unsigned_abs delay.0 ≤ 10 ^ 27) → AllZip (IsWireDelay at) (net ∷ []) delays → AreWithin delays
delays_within at net [] small are = absurd are
delays_within at net (delay ∷ []) small are = (small delay are.0, tt)
delays_within at net (delay ∷ other ∷ delays) small are = absurd are.1

row_sound : (driver sink : NodeName) (at : Node) (net : TreeElements Node) (row : WireRow) → Settles driver → Settles sink → ((delay : Femto) → IsWireDelay at net delay → unsigned_abs delay.0 ≤ 10 ^ 27)
    → IsAnnotationRow (record { driver = driver; sink = sink; at = at; corners = net ∷ [] }) row → IsSound row
row_sound driver sink at net row settled other small is = record {
  from = subst MaySettle (sym is.from) settled;
  to = subst MaySettle (sym is.to) other;
  single = AllZip-long (IsWireDelay at) (net ∷ []) row.delay is.delay;
  within = delays_within at net row.delay small is.delay;
}

rows_sound : (driver : NodeName) (at : NodeName → Node) (net : TreeElements Node) → Settles driver → ((node : Node) (delay : Femto) → IsWireDelay node net delay → unsigned_abs delay.0 ≤ 10 ^ 27)
    → (sinks : List NodeName) (rows : List WireRow) → AllByRecursion Settles sinks
    → AllZip IsAnnotationRow (map (λ sink. let wire : Wire = record { driver = driver; sink = sink; at = at sink; corners = net ∷ [] } in wire) sinks) rows → AllByRecursion IsSound rows
rows_sound driver at net settled small [] [] all are = tt
rows_sound driver at net settled small [] (row ∷ rows) all are = absurd are
rows_sound driver at net settled small (sink ∷ sinks) [] all are = absurd are
rows_sound driver at net settled small (sink ∷ sinks) (row ∷ rows) all are =
    (row_sound driver sink (at sink) net row settled all.0 (small (at sink)) are.0, rows_sound driver at net settled small sinks rows all.1 are.1)

net_sound : (net : NetElements) (rows : List WireRow) → IsGoodNet net → NetGives 1 net (Ok rows) → All IsSound rows
net_sound net rows good (is_tree driver same has fit tree are) =
    let pins : Pins = listed_pins 1 net driver in
    All-from_recursion IsSound rows
    (rows_sound pins.driver (λ sink. on_net net pins (node_of sink)) (net_elements 1 net pins 0) (driver_settles net good driver has) (delay_within net good.1 driver fit) pins.sinks rows (sinks_settle net good driver has) are)

nets_sound : (nets : List NetElements) (rows : List WireRow) → All IsGoodNet nets → NetsGive 1 nets (Ok rows) → All IsSound rows
nets_sound nets rows good no_net = All-nil IsSound
nets_sound nets rows good (and_net {nets = front} {rows = before} {more = more} {net = net} gives one) =
    let parts = All-pop IsGoodNet (front ++ net ∷ []) front (Some net) refl good in
    All-append IsSound before more (nets_sound front before parts.0 gives) (net_sound net more parts.1 one)

-- ---- the rows of a file

-- such rows, if none begins a comment, may be written, and no path stands among them
fit : (rows : SdfRows) → All IsSound rows.wires → All HasNoComment rows.wires → rows.paths ≡ [] → AreFit IsSettled 1 rows
fit rows sound plain none = record {
  wires = λ k d below. record { from = (sound k d below).from (plain k d below).from; to = (sound k d below).to (plain k d below).to; one_row = (sound k d below).single; within = (sound k d below).within };
  paths = subst (λ (paths : List PathRow). All (IsPathFit IsSettled 1) paths) (sym none) (All-nil (IsPathFit IsSettled 1));
}

formed_of : (bytes : List ℕ) (file : SpefText) → ParsesSpef bytes (Ok file) → IsFormed file
formed_of bytes file (is_spef same reads) = reads.formed

module _ (halves : HalvesSettle) (named : NamedSettles) (law : ReadBack IsSettled) (only : OnlyReadBack IsSettled)
    (spelled : ReadBack IsWellSpelled) (only_spelled : OnlyReadBack IsWellSpelled) where
  section_nets : (pick : Pick) (file : SpefText) (head : HeadText) (nets : List NetElements) → IsFormed file → NetsSpef (sole_corner pick) file head (Ok nets) → All IsGoodNet nets
  section_nets pick file head nets formed (are_nets same faultless are whole) = nets_settle halves named file formed pick head nets are whole

  file_nets : (pick : Pick) (bytes : List ℕ) (design : DesignNets) → ReadsNets (sole_corner pick) bytes (Ok design) → All IsGoodNet design.nets
  file_nets pick bytes design (through file head nets parses heads says) = section_nets pick file head nets (formed_of bytes file parses) says

  wires_readable : (held : Option Held) (pick : Pick) (name : List ℕ) (rows : SdfRows) → WiresGives (sole_corner pick) held name (Go rows) → IsReadable Wires (output.Sdf rows)
  wires_readable held pick name rows (with_rows bytes design same reads nets gives) plain =
      let fits = fit rows (nets_sound design.nets rows.wires (file_nets pick bytes design nets) gives.1) plain gives.2 in
      record { says = law 1 (inl refl) rows fits; only = only 1 (inl refl) rows fits }

  calc_readable : (made : Output) → IsFitFor Calc made → IsReadable Calc made
  calc_readable (output.Sdf rows) fits = record { says = spelled 1 (inl refl) rows fits; only = only_spelled 1 (inl refl) rows fits }
  calc_readable (output.SdfOfCorners rows) fits = record { says = spelled 3 (inr refl) rows fits; only = only_spelled 3 (inr refl) rows fits }
  calc_readable (output.Listing rows) fits = tt
  calc_readable (output.Summary rows) fits = tt
  calc_readable (output.Arcs rows) fits = tt
  calc_readable (output.Flat design) fits = tt
  calc_readable output.Help fits = tt
  calc_readable output.Version fits = tt

  command_readable : (held : Option Held) (command : Command) (request : Request) (made : Output) → CommandGives held command request (Go made) → IsFitFor command made
      → IsReadable command made
  command_readable held Wires request made (rows, gives, is) fits = subst (IsReadable Wires) (sym is) (wires_readable held (pick_from request.given) _ rows gives)
  command_readable held Calc request made gives fits = calc_readable made fits
  command_readable held Show request made gives fits = tt
  command_readable held Lookup request made gives fits = tt
  command_readable held Flat request made gives fits = tt
  command_readable held Trial request made gives fits = tt
  command_readable held Help request made gives fits = tt
  command_readable held Version request made gives fits = tt

  pub always_readable_lem : IsAlwaysReadable
  always_readable_lem words held made (request, asked, gives) fits = command_readable held request.command request made gives fits

-- what a run has done is readable
pub done_readable : (words : List (List ℕ)) (held : Option Held) (written written' : Option (List ℕ)) (outcome : Outcome) → IsAlwaysReadable → OnDone outcome (GivesFit words held (λ text. written' ≡ appended written text))
    → OnDone outcome (GivesReadable words held (λ text. written' ≡ appended written text))
done_readable words held written written' Done law (made, gives, fits, holds) = (made, gives, law words held made gives fits, holds)
done_readable words held written written' (Refused refusal) law done = tt
done_readable words held written written' (Usage fault) law done = tt
done_readable words held written written' (ReadFault key) law done = tt
done_readable words held written written' WriteFault law done = tt
done_readable words held written written' OutOfMemory law done = tt

-- and it gives its text
pub done_text : (words : List (List ℕ)) (held : Option Held) (written written' : Option (List ℕ)) (outcome : Outcome) → OnDone outcome (GivesFit words held (λ text. written' ≡ appended written text))
    → OnDone outcome (GivesText words held (λ text. written' ≡ appended written text))
done_text words held written written' Done (made, gives, fits, holds) = (made, gives, holds)
done_text words held written written' (Refused refusal) done = tt
done_text words held written written' (Usage fault) done = tt
done_text words held written written' (ReadFault key) done = tt
done_text words held written written' WriteFault done = tt
done_text words held written written' OutOfMemory done = tt
