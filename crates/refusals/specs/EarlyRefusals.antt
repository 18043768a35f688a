-- The refusals that cost no counted work.
use Rattle.std.specs.Prelude.{Bool, true, false, IsTrue, Result, Ok, Err}
use Rattle.verdict_phases.specs.declared.ends.PhaseEnd.{PhaseEnd}
use Rattle.verdict_phases.specs.declared.ends.PhaseEnd.TheVariants as phase
use Rattle.refusals.specs.declared.refusal.FileKey.{FileKey}
use Rattle.refusals.specs.declared.refusal.LimitKind.{LimitKind}
use Rattle.refusals.specs.declared.refusal.LimitKind.TheVariants as limit
use Rattle.refusals.specs.declared.refusal.Refusal.{Refusal}
use Rattle.refusals.specs.declared.refusal.Refusal.TheVariants as refusal

-- a limit that is asked before a tree is built or a table is looked up
abbrev pub is_early_limit : LimitKind → Bool
is_early_limit (limit.File key) = true
is_early_limit limit.Depth = true
is_early_limit limit.Instances = true
is_early_limit limit.Names = true
is_early_limit limit.Pins = true
is_early_limit (limit.Net net) = false

-- a refusal that comes before a tree is built or a table is looked up: of a netlist, of a file's length, of a grammar, of the head, of a
-- section, of a net without one, or of a cell
abbrev pub is_early : Refusal → Bool
is_early (refusal.NetlistSyntax token) = true
is_early (refusal.NotStructural word token) = true
is_early (refusal.LibrarySyntax corner token line cause) = true
is_early (refusal.SpefSyntax token) = true
is_early (refusal.SpefForm word token) = true
is_early (refusal.RepeatedName name) = true
is_early (refusal.BadRange name) = true
is_early (refusal.PortDirection name) = true
is_early (refusal.NoTop name) = true
is_early (refusal.UnknownCell cell corner) = true
is_early (refusal.UnknownPort instance port) = true
is_early (refusal.Width instance port want got) = true
is_early (refusal.Recursive name) = true
is_early (refusal.NameClash name) = true
is_early (refusal.InoutPin instance pin) = true
is_early (refusal.SeveralDrivers net) = true
is_early (refusal.CellFault cell corner fault) = true
is_early (refusal.CornerShape cell fault) = true
is_early (refusal.SpefNumber kind token) = true
is_early (refusal.NameIndex kind token) = true
is_early (refusal.RepeatedNet net) = true
is_early (refusal.MissingNet net) = true
is_early (refusal.StrangePin net pin) = false
is_early (refusal.Unreached net node) = false
is_early (refusal.Mesh net resistor) = false
is_early (refusal.ForeignCoupling net token) = true
is_early (refusal.Loop nets) = false
is_early (refusal.Outside instance from to edge corner part axis value) = false
is_early (refusal.SlewLimit net instance pin edge corner slew elmore) = false
is_early (refusal.PastTime instance from to edge corner part) = false
is_early (refusal.Limit kind) = is_early_limit kind
is_early (refusal.NoDriver net) = false
is_early (refusal.ManyDrivers net) = false
is_early (refusal.SdfSyntax token) = true

-- a fact of an end that comes before a tree is built or a table is looked up
abbrev pub OnEarly : {A : Type 0} → Result A (PhaseEnd Refusal FileKey) → Type 0 → Type 0
OnEarly (Ok value) fact = Unit {0}
OnEarly (Err (phase.Refused refusal)) fact = IsTrue (is_early refusal) → fact
OnEarly (Err (phase.ReadFault key)) fact = fact
OnEarly (Err phase.OutOfMemory) fact = Unit {0}
