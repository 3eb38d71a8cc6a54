-- To be believed.
-- What a run of a piece of a program gives: a value and the state after it, or why and in what state it stands.
use Rattle.std.specs.Prelude.{ℕ, zero, suc, ℤ, pos, negsuc, List, ◌++◌}
use Rattle.ob_inout.specs.Reading.{Line, Input}
use Rattle.ob_mean.specs.declared.outcome.Outcome.{Outcome}
use Rattle.ob_mean.specs.declared.outcome.Outcome.TheVariants.{Ended, Stopped}
use Rattle.ob_mean.specs.declared.outcome.TurnKind.{TurnKind}
use Rattle.ob_mean.specs.Values.{Value, Place, set}

-- what a program changes: its variables, the text that was written, byte by byte, and what In has of its lines
pub record World : Type 0 where
  pub store : Value
  pub written : List ℕ
  pub input : Input

-- what a run uses up: turns, and lines that were given
pub record Supply : Type 0 where
  pub turns : ℕ
  pub lines : List Line

-- a piece gave a value, with the supply and the world after it, or it stands
pub data Run (A : Type 0) : Type 0 where
  Goes : A → Supply → World → Run A
  Stands : Outcome → Supply → World → Run A

-- the value of a statement
pub data Done : Type 0 where
  done : Done

-- a piece of a program, from the supply and the world before it
abbrev pub Piece : Type 0 → Type 0
Piece A = Supply → World → Run A

-- one piece, and then another, which has the value of the first
abbrev pub and_then : {A B : Type 0} → Run A → (A → Supply → World → Run B) → Run B
and_then (Goes a n w) next = next a n w
and_then (Stands why n w) next = Stands why n w

-- a supply of so many turns and these lines
abbrev pub supply : ℕ → List Line → Supply
supply turns lines = record { turns = turns; lines = lines }

-- ---- turns: where none is left, the run stands before it

abbrev pub spend : {A : Type 0} → ℕ → List Line → TurnKind → World → (Supply → Run A) → Run A
spend zero lines kind w next = Stands (Stopped kind) (supply 0 lines) w
spend (suc turns) lines kind w next = next (supply turns lines)

abbrev pub turn : {A : Type 0} → TurnKind → Supply → World → (Supply → Run A) → Run A
turn kind n w next = spend n.turns n.lines kind w next

-- ---- changes of the world

abbrev pub with_store : World → Value → World
with_store w s = record { store = s; written = w.written; input = w.input }

-- another value at a place
abbrev pub stored : World → Place → Value → World
stored w p v = with_store w (set w.store p v)

-- more text written
abbrev pub write : World → List ℕ → World
write w text = record { store = w.store; written = w.written ++ text; input = w.input }

abbrev pub with_input : World → Input → World
with_input w i = record { store = w.store; written = w.written; input = i }

-- ---- choices

-- the first at FALSE, and else the second
abbrev pub choose : {A : Type 0} → ℤ → A → A → A
choose (pos zero) x y = x
choose (pos (suc n)) x y = y
choose (negsuc n) x y = y

-- the end of a run
abbrev pub ended : Run Done → Run Done
ended (Goes d n w) = Stands Ended n w
ended (Stands why n w) = Stands why n w
