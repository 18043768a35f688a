use Rattle.std.proofs.Common.{◌≡◌, ℕ, length, ap, ◌∙◌, subst}
use Rattle.spef_text.specs.Entries.{section_at}
use Rattle.spef_text.specs.SpefFiles.{SpefText}
use Rattle.spef_nets.specs.NetElements.{NetElements}
use Rattle.spef_nets.specs.Drafts.{written_net}
use Rattle.spef_nets.specs.DraftOf.{drafted}
use Rattle.spef_nets.specs.Faults.{IsSectionEnd}
use Rattle.spef_nets.specs.TablesOf.{AddsNet}
use Rattle.spef_nets.specs.declared.ends.SectionEnd.TheVariants.{OutOfMemory}
use Rattle.spef_nets.proofs.Stepping.{handed_on}
use Rattle.spef_nets.proofs.TableLemmas.{net_added, still_hold}
use Rattle.spef_nets.proofs.reading.push_next.Goals as goal

-- src/reading.rt
pub returns-clause-next : goal.returns-clause-next
returns-clause-next g c =
    let file = c.args.source.now.file.now in
    let draft = c.read_behind.new.draft in
    let caps = length (section_at file.reading.sections (length c.args.nets.now)).caps in
    let written : c.cap_count-written.result ≡ caps = c.cap_count-written.ensures ∙ ap (λ (n : ℕ). length (section_at file.reading.sections n).caps) c.len.ensures in
    let net : NetElements = written_net (drafted draft).net caps in
    let adds : AddsNet file c.args.tables.now c.put_into.new.tables net =
    subst (λ (f : SpefText). AddsNet f c.args.tables.now c.put_into.new.tables net) c.in_ok-read_behind.ensures.file
    (subst (λ (n : ℕ). AddsNet (drafted draft).refs.file c.args.tables.now c.put_into.new.tables (written_net (drafted draft).net n)) written c.in_ok-put_into.ensures.adds) in (
      net,
      c.in_ok-read_behind.ensures.ok,
      net_added file c.args.source.now.head.now g.C.CornerSet.COUNT c.args.nets.now c.args.tables.now c.put_into.new.tables c.requires.held net adds c.in_ok-read_behind.ensures.whole c.read_behind.new.nets c.in_ok-read_behind.ensures.put,
    )

pub returns-clause-held : goal.returns-clause-held
returns-clause-held g c =
    let file = c.args.source.now.file.now in
    let draft = c.read_behind.new.draft in
    let caps = length (section_at file.reading.sections (length c.args.nets.now)).caps in
    let written : c.cap_count-written.result ≡ caps = c.cap_count-written.ensures ∙ ap (λ (n : ℕ). length (section_at file.reading.sections n).caps) c.len.ensures in
    let net : NetElements = written_net (drafted draft).net caps in
    let adds : AddsNet file c.args.tables.now c.put_into.new.tables net =
    subst (λ (f : SpefText). AddsNet f c.args.tables.now c.put_into.new.tables net) c.in_ok-read_behind.ensures.file
    (subst (λ (n : ℕ). AddsNet (drafted draft).refs.file c.args.tables.now c.put_into.new.tables (written_net (drafted draft).net n)) written c.in_ok-put_into.ensures.adds) in
    still_hold file c.args.source.now.head.now g.C.CornerSet.COUNT c.args.nets.now c.args.tables.now c.put_into.new.tables c.requires.held net adds c.in_ok-read_behind.ensures.whole c.read_behind.new.nets c.in_ok-read_behind.ensures.put

pub returns-in_err-put_into-clause-refused : goal.returns-in_err-put_into-clause-refused
returns-in_err-put_into-clause-refused g c =
    handed_on c.from_residual-in_err-put_into.result OutOfMemory (IsSectionEnd c.args.source.now.file.now c.args.source.now.head.now) c.from_residual-in_err-put_into.ensures.1 tt

pub returns-clause-file : goal.returns-clause-file
returns-clause-file g c = c.in_ok-put_into.ensures.file ∙ c.in_ok-read_behind.ensures.file
