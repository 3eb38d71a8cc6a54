-- What the scanner answers.
use Rattle.std.specs.Prelude.{◌≡◌, ℕ, List, [], ◌∷◌, Option, Some, None, Result, Ok, Err}
use Rattle.ob_base.specs.declared.fault.Refused.{Refused}
use Rattle.ob_base.specs.declared.fault.Refused.TheVariants as refused
use Rattle.ob_scan.specs.declared.found.Step.{Step}
use Rattle.ob_scan.specs.declared.place.Place.{Place}
use Rattle.ob_scan.specs.declared.token.Token.{Token}
use Rattle.ob_scan.specs.Exactly.{IsScanCode}
use Rattle.ob_scan.specs.Tokens.{Scans, Tokens}

-- this token is the first of every list of this text, and the lists of what follows are the rest of them
pub record IsFirst (place : Place) (text : List ℕ) (step : Step) : Type 0 where
  pub built : (more : List Token) → Scans step.place step.rest.now more → Scans place text (step.token ∷ more)
  pub only : (tokens : List Token) → Scans place text tokens → (more : List Token) × (tokens ≡ step.token ∷ more) × Scans step.place step.rest.now more

-- no token is left
pub record IsLast (place : Place) (text : List ℕ) : Type 0 where
  pub built : Scans place text []
  pub only : (tokens : List Token) → Scans place text tokens → tokens ≡ []

-- a step says how the lists of a text begin
abbrev pub StepExactly : Place → List ℕ → Result (Option Step) Refused → Type 0
StepExactly place text (Ok None) = IsLast place text
StepExactly place text (Ok (Some step)) = IsFirst place text step
StepExactly place text (Err refused.Memory) = Unit {0}
StepExactly place text (Err (refused.Fault fault)) = IsScanCode fault.code × ((tokens : List Token) → Scans place text tokens → ⊥)

-- an answer of these tokens, or lack of memory
abbrev pub AnswersTokens : List Token → Result (List Token) Refused → Type 0
AnswersTokens tokens (Ok list) = list ≡ tokens
AnswersTokens tokens (Err refused.Memory) = Unit {0}
AnswersTokens tokens (Err (refused.Fault fault)) = ⊥

-- a fault has a code of the scanner, and then there is no list
abbrev pub FaultsOnly : List ℕ → Result (List Token) Refused → Type 0
FaultsOnly text (Ok list) = Unit {0}
FaultsOnly text (Err refused.Memory) = Unit {0}
FaultsOnly text (Err (refused.Fault fault)) = IsScanCode fault.code × ((tokens : List Token) → Tokens text tokens → ⊥)
