-- What a function that reads one token answers.
use Rattle.std.specs.Prelude.{◌≡◌, List, ℕ, Result, Ok, Err}
use Rattle.ob_base.specs.declared.fault.Code.{Code}
use Rattle.ob_base.specs.declared.fault.Code.TheVariants as codes
use Rattle.ob_base.specs.declared.fault.Refused.{Refused}
use Rattle.ob_base.specs.declared.fault.Refused.TheVariants as refused
use Rattle.ob_scan.specs.declared.found.Found.{Found}
use Rattle.ob_scan.specs.declared.token.Kind.{Kind}

-- the codes of a scanner
abbrev pub IsScanCode : Code → Type 0
IsScanCode codes.Character = Unit {0}
IsScanCode codes.Comment = Unit {0}
IsScanCode codes.String = Unit {0}
IsScanCode codes.Number = Unit {0}
IsScanCode _ = ⊥

abbrev pub IsFault : Code → Refused → Type 0
IsFault code refused.Memory = ⊥
IsFault code (refused.Fault fault) = fault.code ≡ code

-- the one kind and rest for which p holds; a fault where there are none; and lack of memory says nothing
abbrev pub Exactly : (Kind → List ℕ → Type 0) → Result Found Refused → Type 0
Exactly p (Ok found) = p found.kind found.rest.now × ((kind : Kind) (rest : List ℕ) → p kind rest → (kind ≡ found.kind) × (rest ≡ found.rest.now))
Exactly p (Err refused.Memory) = Unit {0}
Exactly p (Err (refused.Fault fault)) = IsScanCode fault.code × ((kind : Kind) (rest : List ℕ) → p kind rest → ⊥)
