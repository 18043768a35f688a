-- That the verdict is answered follows from what each answer says.
use Rattle.std.proofs.Common.{◌≡◌, ◌+◌, ℕ, inl, inr, refl, List, Option, Result, Ok, Err, subst}
use Rattle.edge_io.specs.Counts.{Rose}
use Rattle.edge_io.specs.Holding.{Held, TellsMissing}
use Rattle.edge_io.specs.Told.{appended, AppendsFrontOf}
use Rattle.verdict_phases.specs.Phases.{RefusedBy, Unread, Reads, Go, Halt}
use Rattle.corner_set.specs.declared.choices.Beyond.{Beyond}
use Rattle.gdc_words.specs.declared.commands.Command.{Command}
use Rattle.gdc_words.specs.declared.commands.Command.TheVariants.{Wires, Calc, Show, Lookup, Flat, Trial, Help, Version}
use Rattle.gdc_words.specs.declared.commands.Libraries.{Libraries}
use Rattle.gdc_words.specs.declared.commands.Libraries.TheVariants.{One, EachCorner}
use Rattle.gdc_words.specs.declared.commands.Shape.{Shape}
use Rattle.gdc_words.specs.declared.faults.UsageFault.{UsageFault}
use Rattle.gdc_words.proofs.Pairs.{one_request}
use Rattle.spef_nets.specs.Sections.{Corners}
use Rattle.refusals.specs.declared.refusal.FileKey.{FileKey}
use Rattle.refusals.specs.declared.refusal.FileKey.TheVariants.{Netlist, Lib, LibMin, LibTyp, LibMax, Spef, Sdf}
use Rattle.gdc_run.specs.declared.outcome.Outcome.{Outcome}
use Rattle.gdc_run.specs.declared.outcome.Outcome.TheVariants.{Done, Refused, Usage, ReadFault, WriteFault, OutOfMemory}
use Rattle.gdc_words.specs.CommandLine.{Request, Asks, libraries_of}
use Rattle.command_rows.specs.CommandRows.{WiresGives, ShowGives, LookupGives, at_reading, at_sdf_reading, at_library_reading}
use Rattle.gdc_run.specs.Calculation.{corner_count}
use Rattle.gdc_run.specs.Verdict.{Faulty, Answers, Gives, CommandGives}
use Rattle.gdc_run.specs.Trial.{TrialGives}
use Rattle.gdc_run.specs.Outcomes.{OnDone, IfRefused, IfUsage, IfReadFault, OnWriteFault, GivesText, HasReadFault, AskForNoFile, AnswersUsage, file_count, name_of}
use Rattle.gdc_run.proofs.CalcFiles.{unread_output}
use Rattle.gdc_run.proofs.FlatFiles.{unread_flat}
use Rattle.gdc_run.specs.Completeness.{AnswersVerdict, IsComplete}

-- the one file that `wires` reads, and that of `show`
wires_reads : {I : Type 0} (corners : Corners I) (held : Option Held) (name : List ℕ) (key : FileKey) → WiresGives corners held name (Halt (Reads key)) → key ≡ Spef
wires_reads corners held name key (at_reading why reads) = reads

show_reads : (held : Option Held) (name : List ℕ) (key : FileKey) → ShowGives held name (Halt (Reads key)) → key ≡ Sdf
show_reads held name key (at_sdf_reading why reads) = reads

lookup_reads : (held : Option Held) (file name : List ℕ) (slew load : ℕ) (beyond : Beyond) (key : FileKey) → LookupGives 1 0 held file name slew load beyond (Halt (Reads key)) → key ≡ Lib
lookup_reads held file name slew load beyond key (at_library_reading why reads) = reads

abbrev asked : Request → Result Request UsageFault
asked request = Ok request

-- `trial` comes to none
trial_reads_none : (shape : Shape) (size : ℕ) (key : FileKey) → ¬ TrialGives shape size (Halt (Reads key))
trial_reads_none shape size key gives = elim gives [ ]

-- the phases of a command come to the file that the shelf tells is not held
unread_file : (held : Option Held) (command : Command) (request : Request) (key : FileKey) → CommandGives held command request (Halt (Reads key)) → TellsMissing held (name_of request key) → CommandGives held command request (Halt (Unread key))
unread_file held Wires request Spef reached missing = at_reading (Unread Spef) (missing, refl)
unread_file held Wires request Netlist reached missing = cc (wires_reads _ _ _ Netlist reached)
unread_file held Wires request Lib reached missing = cc (wires_reads _ _ _ Lib reached)
unread_file held Wires request LibMin reached missing = cc (wires_reads _ _ _ LibMin reached)
unread_file held Wires request LibTyp reached missing = cc (wires_reads _ _ _ LibTyp reached)
unread_file held Wires request LibMax reached missing = cc (wires_reads _ _ _ LibMax reached)
unread_file held Wires request Sdf reached missing = cc (wires_reads _ _ _ Sdf reached)
unread_file held Calc request key reached missing = unread_output request held (libraries_of request.given) key reached missing
unread_file held Show request Sdf reached missing = at_sdf_reading (Unread Sdf) (missing, refl)
unread_file held Show request Netlist reached missing = cc (show_reads _ _ Netlist reached)
unread_file held Show request Lib reached missing = cc (show_reads _ _ Lib reached)
unread_file held Show request LibMin reached missing = cc (show_reads _ _ LibMin reached)
unread_file held Show request LibTyp reached missing = cc (show_reads _ _ LibTyp reached)
unread_file held Show request LibMax reached missing = cc (show_reads _ _ LibMax reached)
unread_file held Show request Spef reached missing = cc (show_reads _ _ Spef reached)
unread_file held Lookup request Lib reached missing =
    record { slew = reached.slew; load = reached.load; slew_reads = reached.slew_reads; load_reads = reached.load_reads; holds = at_library_reading (Unread Lib) (missing, refl) }
unread_file held Lookup request Netlist reached missing = cc (lookup_reads _ _ _ _ _ _ Netlist reached.holds)
unread_file held Lookup request LibMin reached missing = cc (lookup_reads _ _ _ _ _ _ LibMin reached.holds)
unread_file held Lookup request LibTyp reached missing = cc (lookup_reads _ _ _ _ _ _ LibTyp reached.holds)
unread_file held Lookup request LibMax reached missing = cc (lookup_reads _ _ _ _ _ _ LibMax reached.holds)
unread_file held Lookup request Spef reached missing = cc (lookup_reads _ _ _ _ _ _ Spef reached.holds)
unread_file held Lookup request Sdf reached missing = cc (lookup_reads _ _ _ _ _ _ Sdf reached.holds)
unread_file held Flat request key reached missing = unread_flat request held key reached missing
unread_file held Trial request key reached missing = absurd (trial_reads_none reached.shape reached.size key reached.holds)
unread_file held Help request key reached missing = cc
unread_file held Version request key reached missing = cc

-- a read fault without a count that rose is at a file that is not held
read_fault_wanted : (words : List (List ℕ)) (held : Option Held) (key : FileKey) (faults faults' opens opens' : ℕ) → HasReadFault words held key faults faults' opens opens' → (Rose faults faults' → ⊥) → AnswersVerdict words held (ReadFault key)
read_fault_wanted words held key faults faults' opens opens' fault calm = elim fault.fault.cause [
  | inl rose ↦ absurd (calm rose)
  | inr missing ↦ record {
    verdict = Answers (Halt (Unread key));
    given = (fault.request, fault.asked, unread_file held fault.request.command fault.request key fault.reached missing);
    wanted = refl;
  }
]

pub complete_of : (words : List (List ℕ)) (held : Option Held) (faults faults' opens opens' : ℕ) (written written' : Option (List ℕ)) (out_faults out_faults' : ℕ) (outcome : Outcome)
    → OnDone outcome (GivesText words held (λ text. written' ≡ appended written text))
    → IfRefused outcome (λ refusal. Gives words held (Answers (Halt (RefusedBy refusal))))
    → IfUsage outcome (λ fault. Gives words held (Faulty fault))
    → IfReadFault outcome (λ key. HasReadFault words held key faults faults' opens opens')
    → OnWriteFault outcome (Rose out_faults out_faults' × GivesText words held (λ text. AppendsFrontOf text written written'))
    → IsComplete words held faults faults' out_faults out_faults' outcome
complete_of words held f f' o o' w w' g g' Done done refused usage fault write calm sink_calm =
    inr (record { verdict = Answers (Go done.0); given = done.1; wanted = refl })
complete_of words held f f' o o' w w' g g' (Refused r) done refused usage fault write calm sink_calm =
    inr (record { verdict = Answers (Halt (RefusedBy r)); given = refused; wanted = refl })
complete_of words held f f' o o' w w' g g' (Usage u) done refused usage fault write calm sink_calm =
    inr (record { verdict = Faulty u; given = usage; wanted = refl })
complete_of words held f f' o o' w w' g g' (ReadFault key) done refused usage fault write calm sink_calm =
    inr (read_fault_wanted words held key f f' o o' fault calm)
complete_of words held f f' o o' w w' g g' WriteFault done refused usage fault write calm sink_calm =
    absurd (sink_calm write.0)
complete_of words held f f' o o' w w' g g' OutOfMemory done refused usage fault write calm sink_calm =
    inl refl

-- `calc` reads files
calc_reads : (libraries : Libraries) → ¬ (corner_count libraries + 2 ≡ 0)
calc_reads One none = cc
calc_reads EachCorner none = cc

-- no read fault comes of a command that reads no file
none_reached : (held : Option Held) (command : Command) (request : Request) (key : FileKey) → file_count command (libraries_of request.given) ≡ 0 → ¬ CommandGives held command request (Halt (Reads key))
none_reached held Wires request key none reached = cc
none_reached held Calc request key none reached = absurd (calc_reads (libraries_of request.given) none)
none_reached held Show request key none reached = cc
none_reached held Lookup request key none reached = cc
none_reached held Flat request key none reached = cc
none_reached held Trial request key none reached = trial_reads_none reached.shape reached.size key reached.holds
none_reached held Help request key none reached = cc
none_reached held Version request key none reached = cc

pub no_fault_without_file : (words : List (List ℕ)) (held : Option Held) (faults faults' opens opens' : ℕ) (outcome : Outcome)
    → IfReadFault outcome (λ key. HasReadFault words held key faults faults' opens opens') → IfReadFault outcome (λ _. AskForNoFile words → ⊥)
no_fault_without_file words held f f' o o' Done fault = tt
no_fault_without_file words held f f' o o' (Refused refusal) fault = tt
no_fault_without_file words held f f' o o' (Usage faulty) fault = tt
no_fault_without_file words held f f' o o' (ReadFault key) fault = λ none.
    none_reached held fault.request.command fault.request key (none fault.request fault.asked) fault.reached
no_fault_without_file words held f f' o o' WriteFault fault = tt
no_fault_without_file words held f f' o o' OutOfMemory fault = tt

-- words with a first fault ask for nothing
asks_nothing : (words : List (List ℕ)) (fault : UsageFault) (request : Request) → Asks words (Err fault) → Asks words (Ok request) → ⊥
asks_nothing words fault request faulty asks = let e = one_request words (Err fault) (Ok request) faulty asks in cc

pub usage_of : (words : List (List ℕ)) (held : Option Held) (faults faults' opens opens' : ℕ) (written written' : Option (List ℕ)) (out_faults out_faults' : ℕ) (outcome : Outcome)
    → OnDone outcome (GivesText words held (λ text. written' ≡ appended written text))
    → IfRefused outcome (λ refusal. Gives words held (Answers (Halt (RefusedBy refusal))))
    → IfUsage outcome (λ fault. Gives words held (Faulty fault))
    → IfReadFault outcome (λ key. HasReadFault words held key faults faults' opens opens')
    → OnWriteFault outcome (Rose out_faults out_faults' × GivesText words held (λ text. AppendsFrontOf text written written'))
    → AnswersUsage words outcome
usage_of words held f f' o o' w w' g g' Done done refused usage fault write first faulty = absurd (asks_nothing words first done.1.0 faulty done.1.1)
usage_of words held f f' o o' w w' g g' (Refused r) done refused usage fault write first faulty = absurd (asks_nothing words first refused.0 faulty refused.1)
usage_of words held f f' o o' w w' g g' (Usage u) done refused usage fault write first faulty = let e = one_request words (Err u) (Err first) usage faulty in inl (cc)
usage_of words held f f' o o' w w' g g' (ReadFault key) done refused usage fault write first faulty = absurd (asks_nothing words first fault.request faulty fault.asked)
usage_of words held f f' o o' w w' g g' WriteFault done refused usage fault write first faulty = absurd (asks_nothing words first write.1.1.0 faulty write.1.1.1)
usage_of words held f f' o o' w w' g g' OutOfMemory done refused usage fault write first faulty = inr refl
