-- To be believed.
-- The meaning of the texts of a language.
use Rattle.std.specs.Prelude.{◌≡◌, ℕ, List, [], ◌∷◌, ◌++◌}
use Rattle.jk_language.specs.declared.outcome.Outcome.{Outcome}
use Rattle.jk_language.specs.declared.outcome.Outcome.TheVariants.{Unreadable, Unlinked}
use Rattle.jk_language.specs.declared.outcome.Refusal.{Refusal}
use Rattle.jk_language.specs.declared.outcome.Refusal.TheVariants.{Compile, Link}
use Rattle.jk_language.specs.declared.outcome.Refused.{Refused}
use Rattle.jk_language.specs.declared.outcome.Refused.TheVariants.{Fault, Memory}
use Rattle.jk_language.specs.Parts.{Line, Meaning, IsLawful, IsFed}

-- what is said of a language with these sessions and trees
pub record Spoken (S T : Type 0) : Type 1 where
  -- the session before the first cell
  pub opening : S
  -- from session, text, lines and n turns to what the cell has come to
  pub cell : S → List ℕ → List Line → ℕ → Meaning S
  -- this tree is the text's
  pub IsTree : List ℕ → T → Type 0
  -- the cell does not run for this: its text breaks a rule of this number, or is commands that can't be called
  pub IsRefusedFor : S → List ℕ → Refusal → Type 0

-- a refusal of this text
abbrev pub IsRefusal : {S T : Type 0} → Spoken S T → S → List ℕ → Refused → Type 0
IsRefusal spoken session text (Fault fault) = spoken.IsRefusedFor session text (Compile fault)
IsRefusal spoken session text Memory = Unit {0}

abbrev pub refused_outcome : Refusal → Outcome
refused_outcome (Compile fault) = Unreadable
refused_outcome (Link fault) = Unlinked fault

-- what a cell that does not run has come to
abbrev pub standing : {S : Type 0} → S → Outcome → Meaning S
standing session outcome = record { session = session; output = []; lines_used = 0; turns = 0; outcome = outcome }

-- what each language keeps
pub record IsLanguage {S T : Type 0} (spoken : Spoken S T) : Type 0 where
  pub lawful : (session : S) (text : List ℕ) (lines : List Line) → IsLawful (spoken.cell session text lines)
  pub fed : (session : S) (text : List ℕ) (lines : List Line) (line : Line) → IsFed (spoken.cell session text lines) (spoken.cell session text (lines ++ line ∷ []))
  -- a cell that does not run stands where it was
  pub stands : (session : S) (text : List ℕ) (refusal : Refusal) → spoken.IsRefusedFor session text refusal → (lines : List Line) (n : ℕ) → spoken.cell session text lines n ≡ standing session (refused_outcome refusal)
