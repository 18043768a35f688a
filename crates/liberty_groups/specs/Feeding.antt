-- What the pieces of a file so far have led to, whatever comes behind them.
use Rattle.std.specs.Prelude.{◌≡◌, ℕ, ◌+◌, ◌<◌, ◌≤◌, List, ◌∷◌, ◌++◌, length, drop}
use Rattle.token_texts.specs.Cuts.{Part, gap, token, AreParts}
use Rattle.token_texts.specs.Readings.{IsNext, StopsParts}
use Rattle.token_texts.specs.declared.cuts.Cut.{Cut}
use Rattle.token_texts.specs.declared.cuts.Cut.TheVariants.{Skip, Take}
use Rattle.liberty_groups.specs.Tokens.{cut_at, line_at}
use Rattle.liberty_groups.specs.Causes.{IsFault}
use Rattle.liberty_groups.specs.Leading.{Leads, Stops, IsSound}
use Rattle.liberty_groups.specs.Places.{scanned, IsOpenWithin}
use Rattle.liberty_groups.specs.declared.scan.Kind.{Kind}
use Rattle.liberty_groups.specs.declared.faults.Cause.{Cause}
use Rattle.liberty_groups.specs.declared.faults.SyntaxFault.{SyntaxFault}
use Rattle.liberty_groups.specs.declared.places.Scanned.{Scanned}
use Rattle.liberty_groups.specs.declared.places.Scanned.TheVariants.{Begun}
use Rattle.liberty_groups.specs.declared.progress.Progress.{Progress}
use Rattle.liberty_groups.specs.declared.feeder.Feeder.{Feeder}

-- what has these bytes, all of the cut
abbrev pub part_of : Cut Kind → List ℕ → Part Kind
part_of (Skip count) bytes = gap bytes
part_of (Take count k) bytes = token (record { kind = k; bytes = bytes })

-- the parts lead to the reader and its next token
pub record LeadsTo (before : List (Part Kind)) (p : Progress) : Type 0 where
  pub next : IsNext before p.number p.start
  pub leads : Leads before p.reader

-- behind the parts before it a token is refused, whatever comes behind it
abbrev pub StopsAt : List (Part Kind) → Cut Kind → List ℕ → ℕ → Cause → Type 0
StopsAt before (Skip count) bytes number cause = ⊥
StopsAt before (Take count k) bytes number cause = (more : List (Part Kind))
    → Stops (before ++ token (record { kind = k; bytes = bytes }) ∷ more) number cause

pub record RefusesAt (before : List (Part Kind)) (p : Progress) (cut : Cut Kind) (bytes : List ℕ) (number start : ℕ)
    (cause : Cause) : Type 0 where
  pub count : number ≡ p.number
  pub place : start ≡ p.start
  pub stops : StopsAt before cut bytes number cause

-- the reader can go on, and counts no more tokens than bytes
pub record CanGoOn (p : Progress) : Type 0 where
  pub sound : IsSound p.number p.reader
  pub bound : p.number ≤ p.start + 1

-- Of a file that begins with these bytes, all parts but those of the rest have been read, whatever comes.
pub record HasRead (bytes rest : List ℕ) (p : Progress) : Type 0 where
  pub before : List (Part Kind)
  pub leads : LeadsTo before p
  pub there : rest ≡ drop p.start bytes
  pub size : p.start + length rest ≡ length bytes
  pub so_far : (more : List ℕ) (parts : List (Part Kind)) → AreParts cut_at (rest ++ more) parts
      → AreParts cut_at (bytes ++ more) (before ++ parts)

-- any file that begins with these bytes is refused there
abbrev pub StopsAny : List ℕ → ℕ → ℕ → Cause → Type 0
StopsAny bytes number start cause = (more : List ℕ) → StopsParts cut_at Stops (bytes ++ more) number start cause

-- any file that begins with these bytes has this fault
abbrev pub IsFaultOfAny : List ℕ → SyntaxFault → Type 0
IsFaultOfAny bytes fault = (more : List ℕ) → IsFault (bytes ++ more) fault

-- the bytes begin with this, whatever comes behind them
pub record Begins (bytes : List ℕ) (cut : Cut Kind) : Type 0 where
  pub first : ℕ
  pub after : List ℕ
  pub parted : bytes ≡ first ∷ after
  pub stays : (more : List ℕ) → cut_at first (after ++ more) ≡ cut

-- the scan of the bytes has shown this
abbrev pub HasShown : List ℕ → Scanned → Type 0
HasShown bytes scan = (first : ℕ) (after : List ℕ) → bytes ≡ first ∷ after → (more : List ℕ)
    → cut_at first (after ++ more) ≡ scanned scan (length bytes) more

-- the same, with the line of the next token
pub record HasReadTo (bytes rest : List ℕ) (p : Progress) (line : ℕ) : Type 0 where
  pub read : HasRead bytes rest p
  pub counted : line ≡ line_at bytes p.start

-- all parts of a file of these bytes have been read
pub record HasReadAll (bytes : List ℕ) (p : Progress) (line : ℕ) : Type 0 where
  pub before : List (Part Kind)
  pub parted : AreParts cut_at bytes before
  pub leads : LeadsTo before p
  pub counted : line ≡ line_at bytes (length bytes)

-- the feeder can go on
pub record IsReady (f : Feeder) : Type 0 where
  pub progress : CanGoOn f.progress
  pub lines : f.line ≤ f.progress.start + 1
  pub within : 0 < length f.waiting.items → IsOpenWithin (length f.waiting.items) (Begun f.place)
  pub shown : HasShown f.waiting.items (Begun f.place)

-- The feeder stands for the bytes: it has read all that is certain of any file that begins with them, and the rest waits.
abbrev pub StandsFor : List ℕ → Feeder → Type 0
StandsFor bytes f = HasReadTo bytes f.waiting.items f.progress f.line
