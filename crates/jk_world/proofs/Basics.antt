-- Small facts that several laws use.
use Rattle.std.proofs.Common.{◌≡◌, ℕ, ◌≤◌, Bool, true, false, cond, List, [], ◌∷◌, ◌++◌, length, refl, arith, None, Some, eqb}
use Rattle.std.proofs.lemmas.List.{append-nil}
use Rattle.std.proofs.lemmas.Bool.{ne_eqb}
use Rattle.jk_log.specs.Log.{Log, Running, arrival_at}

pub no_run : (r : Running) (P : Type 0) → None ≡ Some r → P
no_run r P e = cc

pub cond_same : {A : Type 0} (b : Bool) (x : A) → cond b x x ≡ x
cond_same true x = refl
cond_same false x = refl

pub cond_no : {A : Type 0} (b : Bool) (x y : A) → b ≡ false → cond b x y ≡ y
cond_no b x y e = rw e refl

pub cond_nil : (b : Bool) (xs : List ℕ) → xs ++ cond b [] [] ≡ xs
cond_nil true xs = append-nil xs
cond_nil false xs = append-nil xs

-- nothing arrived at a place that the log has not reached
pub arrival_past : (log : Log) (at : ℕ) → length log ≤ at → arrival_at at log ≡ None
arrival_past [] at h = refl
arrival_past (e ∷ past) at h =
    let apart : eqb (length past) at ≡ false = ne_eqb (length past) at (λ e. omega arith) in
    rw apart (arrival_past past at (omega arith))
