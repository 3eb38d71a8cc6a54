-- Answers of the code that hold references, as the values that these point to.
use Rattle.std.specs.Prelude.{Result, Ok, Err}
use Rattle.ob_check_scope.specs.declared.rejected.Rejected.{Rejected}

abbrev pub result_map : {A B : Type 0} → (A → B) → Result A Rejected → Result B Rejected
result_map f (Ok a) = Ok (f a)
result_map f (Err e) = Err e
