-- To be believed.
-- The parts that the meaning of a cell is made of.
use Rattle.std.specs.Prelude.{◌≡◌, ◌≢◌, ℕ, ◌≤◌, Bool, List, [], ◌++◌, Option}
use Rattle.jk_language.specs.declared.outcome.Outcome.{Outcome}
use Rattle.jk_language.specs.declared.outcome.Outcome.TheVariants.{Stopped, NeedsLine, Unreadable}

-- a line that was asked for: a text, or none to be had
abbrev pub Line : Type 0
Line = Option (List ℕ)

-- what a cell has come to after a number of turns
pub record Meaning (S : Type 0) : Type 0 where
  -- the session that it leaves
  pub session : S
  pub output : List ℕ
  pub lines_used : ℕ
  -- the turns that it used
  pub turns : ℕ
  pub outcome : Outcome

-- a turn was next, and none was left
abbrev pub IsStopped : Outcome → Type 0
IsStopped o = (grows : Bool) × (o ≡ Stopped grows)

-- what each cell keeps, from turn to turn
pub record IsLawful {S : Type 0} (goes : ℕ → Meaning S) : Type 0 where
  -- no more turns are used than are given
  pub few : (n : ℕ) → (goes n).turns ≤ n
  -- at the turns that were used the cell stands where it stood
  pub settled : (n : ℕ) → goes (goes n).turns ≡ goes n
  -- with more turns it uses no fewer, and its output goes on
  pub onward : (n m : ℕ) → n ≤ m → (goes n).turns ≤ (goes m).turns
  pub output : (n m : ℕ) → n ≤ m → (rest : List ℕ) × ((goes n).output ++ rest ≡ (goes m).output)
  -- without a turn there is no output, and no line is asked for
  pub silent : (goes 0).output ≡ []
  pub unasked : (goes 0).outcome ≢ NeedsLine
  -- it stops only where its turns are used up
  pub stopped : (n : ℕ) (grows : Bool) → (goes n).outcome ≡ Stopped grows → (goes n).turns ≡ n
  -- where it did not stop it stays
  pub last : (n m : ℕ) → n ≤ m → (IsStopped (goes n).outcome → ⊥) → goes m ≡ goes n
  -- what is refused at one number of turns is refused at each, with nothing changed
  pub unread : (n : ℕ) → (goes n).outcome ≡ Unreadable → (m : ℕ) → goes m ≡ goes 0

-- what one more line changes
pub record IsFed {S : Type 0} (goes fed : ℕ → Meaning S) : Type 0 where
  -- nothing, where none is asked for
  pub same : (n : ℕ) → (goes n).outcome ≢ NeedsLine → fed n ≡ goes n
  -- no fewer turns are used, and the output goes on
  pub onward : (n : ℕ) → (goes n).turns ≤ (fed n).turns
  pub output : (n : ℕ) → (rest : List ℕ) × ((goes n).output ++ rest ≡ (fed n).output)
  -- a line that was asked for is not asked for again without a turn
  pub freed : (n : ℕ) → (goes n).outcome ≡ NeedsLine → (goes n).turns ≡ n → (fed n).outcome ≢ NeedsLine
