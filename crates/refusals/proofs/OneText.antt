-- The reading of a file has one answer, where the shelf tells what it holds.
use Rattle.std.proofs.Common.{◌≡◌, ℕ, inl, List, length, Some, None, refl, sym, ap, ◌∙◌, subst, arith}
use Rattle.edge_io.specs.Holding.{Held}
use Rattle.verdict_phases.specs.Phases.{Stop, RefusedBy, Unread, Reads, Step, Go, Halt}
use Rattle.verdict_phases.specs.FileReading.{ReadsFile}
use Rattle.refusals.specs.declared.refusal.FileKey.{FileKey}
use Rattle.refusals.specs.declared.refusal.LimitKind.TheVariants.{File}
use Rattle.refusals.specs.declared.refusal.Refusal.{Refusal}
use Rattle.refusals.specs.declared.refusal.Refusal.TheVariants.{Limit}
use Rattle.refusals.specs.InputFiles.{file_limit}
use Rattle.refusals.specs.InputFiles.{OneFile}
use Rattle.refusals.specs.OneStep.{IsFinal, IsDecided, SameStop}
use Rattle.refusals.proofs.Places.{some_is}

-- a file has one text, or one reason why it is not read
pub one_text : {R K : Type 0} (limit : ℕ) (held : Held) (key : K) (too_long : R) (name : List ℕ) (one other : Step R K (List ℕ)) → ReadsFile limit (Some held) key too_long name one → ReadsFile limit (Some held) key too_long name other
    → IsDecided one → IsDecided other → one ≡ other
one_text limit held key too_long name (Go x) (Go y) r s d e = ap Go (some_is x y (sym r.0 ∙ s.0))
one_text limit held key too_long name (Go x) (Halt (RefusedBy f)) r s d e = let same : x ≡ s.0.0 = some_is x s.0.0 (sym r.0 ∙ s.0.1) in absurd (omega (arith, r.1, s.0.2, ap length same))
one_text limit held key too_long name (Go x) (Halt (Unread k)) r s d e = let same : Some x ≡ None = sym r.0 ∙ s.0 in absurd (cc)
one_text limit held key too_long name (Go x) (Halt (Reads k)) r s d e = absurd e
one_text limit held key too_long name (Halt (RefusedBy f)) (Go y) r s d e = let same : y ≡ r.0.0 = some_is y r.0.0 (sym s.0 ∙ r.0.1) in absurd (omega (arith, s.1, r.0.2, ap length same))
one_text limit held key too_long name (Halt (RefusedBy f)) (Halt (RefusedBy g)) r s d e = ap (λ x. Halt (RefusedBy x)) (r.1 ∙ sym s.1)
one_text limit held key too_long name (Halt (RefusedBy f)) (Halt (Unread k)) r s d e = let same : Some r.0.0 ≡ None = sym r.0.1 ∙ s.0 in absurd (cc)
one_text limit held key too_long name (Halt (RefusedBy f)) (Halt (Reads k)) r s d e = absurd e
one_text limit held key too_long name (Halt (Unread k)) (Go y) r s d e = let same : Some y ≡ None = sym s.0 ∙ r.0 in absurd (cc)
one_text limit held key too_long name (Halt (Unread k)) (Halt (RefusedBy g)) r s d e = let same : Some s.0.0 ≡ None = sym s.0.1 ∙ r.0 in absurd (cc)
one_text limit held key too_long name (Halt (Unread k)) (Halt (Unread j)) r s d e = ap (λ x. Halt (Unread x)) (r.1 ∙ sym s.1)
one_text limit held key too_long name (Halt (Unread k)) (Halt (Reads j)) r s d e = absurd e
one_text limit held key too_long name (Halt (Reads k)) other r s d e = absurd d

pub same_stop : (one other : Stop Refusal FileKey) → one ≡ other → IsFinal one → SameStop one other
same_stop one other same final = subst (SameStop one) same (by one final)
  where
    by : (stop : Stop Refusal FileKey) → IsFinal stop → SameStop stop stop
    by (RefusedBy refusal) final = inl refl
    by (Unread key) final = refl
    by (Reads key) final = absurd final

abbrev pub read : List ℕ → Step Refusal FileKey (List ℕ)
read bytes = Go bytes

abbrev stopped : Stop Refusal FileKey → Step Refusal FileKey (List ℕ)
stopped why = Halt why

-- the file of one key
module _ (held : Held) (key : FileKey) (name : List ℕ) where
  abbrev ReadsIt : Step Refusal FileKey (List ℕ) → Type 0
  ReadsIt step = ReadsFile file_limit (Some held) key (Limit (File key)) name step

  pub stops_equal : (one other : Stop Refusal FileKey) → ReadsIt (Halt one) → ReadsIt (Halt other) → IsFinal one → IsFinal other → one ≡ other
  stops_equal one other r s d e =
      let same : stopped one ≡ stopped other = one_text file_limit held key (Limit (File key)) name (Halt one) (Halt other) r s d e in
      cc

  pub stops_alike : (one other : Stop Refusal FileKey) → ReadsIt (Halt one) → ReadsIt (Halt other) → IsFinal one → IsFinal other → SameStop one other
  stops_alike one other r s d e = same_stop one other (stops_equal one other r s d e) d

  pub reads_or_stops : (bytes : List ℕ) (why : Stop Refusal FileKey) → ReadsIt (Go bytes) → ReadsIt (Halt why) → IsFinal why → ⊥
  reads_or_stops bytes why r s e =
      let same : read bytes ≡ stopped why = one_text file_limit held key (Limit (File key)) name (Go bytes) (Halt why) r s tt e in
      cc

  pub reads_alike : (one other : List ℕ) → ReadsIt (Go one) → ReadsIt (Go other) → one ≡ other
  reads_alike one other r s =
      let same : read one ≡ read other = one_text file_limit held key (Limit (File key)) name (Go one) (Go other) r s tt tt in
      cc

-- the file of a key has one answer
pub one_file : OneFile
one_file held key name (Go x) (Go y) r s d e = reads_alike held key name x y r s
one_file held key name (Go x) (Halt v) r s d e = reads_or_stops held key name x v r s e
one_file held key name (Halt w) (Go y) r s d e = reads_or_stops held key name y w s r d
one_file held key name (Halt w) (Halt v) r s d e = stops_alike held key name w v r s d e
