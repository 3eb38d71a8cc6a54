-- What each cell keeps, from turn to turn and from line to line.
use Rattle.std.specs.Prelude.{◌≡◌, ◌≢◌, ℕ, ◌≤◌, List, [], ◌∷◌, ◌++◌}
use Rattle.ob_inout.specs.Reading.{Line}
use Rattle.ob_mean.specs.declared.outcome.TurnKind.{TurnKind}
use Rattle.ob_session.specs.Session.{Session}
use Rattle.ob_session.specs.Cells.{CellMeaning, CellOutcome, Stopped, NeedsLine, Checked, checked_meaning}

abbrev pub IsStopped : CellOutcome → Type 0
IsStopped o = (kind : TurnKind) × (o ≡ Stopped kind)

-- with the same lines, in n turns
pub record IsLawful (goes : ℕ → CellMeaning) : Type 0 where
  -- no more turns are used than are given
  pub few : (n : ℕ) → (goes n).turns ≤ n
  -- at the turns that were used the cell stands where it stood
  pub settled : (n : ℕ) → goes (goes n).turns ≡ goes n
  -- with more turns it uses no fewer, and its output goes on
  pub onward : (n m : ℕ) → n ≤ m → (goes n).turns ≤ (goes m).turns
  pub output : (n m : ℕ) → n ≤ m → (rest : List ℕ) × ((goes n).output ++ rest ≡ (goes m).output)
  -- without a turn there is no output, and no line is asked for
  pub silent : (goes 0).output ≡ []
  pub unasked : (goes 0).outcome ≢ NeedsLine
  -- it stops only where its turns are used up
  pub stopped : (n : ℕ) → IsStopped (goes n).outcome → (goes n).turns ≡ n
  -- where it did not stop it stays
  pub last : (n m : ℕ) → n ≤ m → (IsStopped (goes n).outcome → ⊥) → goes m ≡ goes n

-- what one more line changes
pub record IsFed (goes fed : ℕ → CellMeaning) : Type 0 where
  -- nothing, where none is asked for
  pub same : (n : ℕ) → (goes n).outcome ≢ NeedsLine → fed n ≡ goes n
  -- no fewer turns are used, and the output goes on
  pub onward : (n : ℕ) → (goes n).turns ≤ (fed n).turns
  pub output : (n : ℕ) → (rest : List ℕ) × ((goes n).output ++ rest ≡ (fed n).output)
  -- a line that was asked for is not asked for again without a turn
  pub freed : (n : ℕ) → (goes n).outcome ≡ NeedsLine → (goes n).turns ≡ n → (fed n).outcome ≢ NeedsLine

-- every cell, in every session, is lawful
abbrev pub EachIsLawful : Type 0
EachIsLawful = (s : Session) (c : Checked) (lines : List Line) → IsLawful (λ n. checked_meaning s c lines n)

abbrev pub EachIsFed : Type 0
EachIsFed = (s : Session) (c : Checked) (lines : List Line) (line : Line) → IsFed (λ n. checked_meaning s c lines n) (λ n. checked_meaning s c (lines ++ line ∷ []) n)
