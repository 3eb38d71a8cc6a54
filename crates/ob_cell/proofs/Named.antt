-- Modules by their names.
use Rattle.std.proofs.Common.{◌≡◌, ℕ, zero, suc, false, List, [], ◌∷◌, Some, None, slice_get, sym, ◌∙◌, ap}
use Rattle.std.specs.Str.{bytes_eq}
use Rattle.ob_session.specs.Session.{Module, name_of, find_module}
use Rattle.ob_link.proofs.Named.{not_found}

pub other_name : (ms : List Module) (k : ℕ) (m : Module) (name : List ℕ) → find_module ms name ≡ None → slice_get ms k ≡ Some m → bytes_eq (name_of m) name ≡ false
other_name [] k m name none e = absurd (let f : None ≡ Some m = e in cc)
other_name (n ∷ ms) zero m name none e =
    let same : n ≡ m = cc in
    ap (λ (x : Module). bytes_eq (name_of x) name) (sym same) ∙ (not_found n ms name none).0
other_name (n ∷ ms) (suc k) m name none e = other_name ms k m name (not_found n ms name none).1 e
