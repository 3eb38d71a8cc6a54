-- Lists of modules of whose operands and names enough is known.
use Rattle.std.proofs.Common.{◌≡◌, ℕ, zero, suc, ◌<◌, List, [], ◌∷◌, ◌++◌, length, get_or, Some, subst, sym, arith}
use Rattle.std.specs.Prelude.{slice_get, All}
use Rattle.std.proofs.lemmas.Option.{slice_get_within, get_or_from_slice_get}
use Rattle.std.proofs.lemmas.List.Elements.{All-append}
use Rattle.ob_code.specs.declared.instr.LinkedModule.{LinkedModule}
use Rattle.ob_code.specs.Machine.{Code}
use Rattle.ob_code.specs.Kinds.{IsMeasured}

abbrev pub AllMeasured : Code → Type 0
AllMeasured code = All (λ (l : LinkedModule). IsMeasured l.code) code

pub measured_at : (code : Code) → AllMeasured code → (home : ℕ) (l : LinkedModule) → slice_get code home ≡ Some l → IsMeasured l.code
measured_at code all home l e = subst (λ (x : LinkedModule). IsMeasured x.code) (get_or_from_slice_get code home l l e) (all home l (slice_get_within code home l e))

alone : (l : LinkedModule) → IsMeasured l.code → (k : ℕ) (d : LinkedModule) → k < 1 → IsMeasured (get_or (l ∷ []) k d).code
alone l is zero d lt = is
alone l is (suc k) d lt = absurd (omega (arith, lt))

-- one more
pub measured_more : (code : Code) (l : LinkedModule) → AllMeasured code → IsMeasured l.code → AllMeasured (code ++ l ∷ [])
measured_more code l all is = All-append (λ (x : LinkedModule). IsMeasured x.code) code (l ∷ []) all (alone l is)

-- none yet
pub none_measured : (code : Code) → code ≡ [] → AllMeasured code
none_measured code e = subst AllMeasured (sym e) (λ k d lt. absurd (omega (arith, lt)))
