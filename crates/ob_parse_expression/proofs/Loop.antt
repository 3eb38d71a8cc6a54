-- A loop that reads one more item in each turn, beside `many`.
use Rattle.std.proofs.Common.{◌≡◌, ℕ, zero, suc, ◌<◌, List, [], ◌∷◌, ◌++◌, length, Option, Some, None, Ok, Err, refl, sym, ap, subst, ◌∙◌, append_assoc, arith}
use Rattle.std.proofs.lemmas.List.{append-nil}
use Rattle.ob_base.specs.declared.fault.Code.{Code}
use Rattle.ob_base.specs.declared.fault.Refused.{Refused}
use Rattle.ob_base.specs.declared.fault.Refused.TheVariants as refused
use Rattle.ob_scan.specs.declared.token.Token.{Token}
use Rattle.ob_parse_expression.specs.Reading.{Outcome, Reader, Reads, and_then, pure, with_first, many_after, many_from, many}

-- what was read before, and what is still read
abbrev pub with_front : {A : Type 0} → List A → Outcome (List A) → Outcome (List A)
with_front front (Ok p) = Ok (front ++ p.0, p.1)
with_front front (Err e) = Err e

-- reading at tokens, with front in hand, gives what reading at from gave with start in hand
pub record Looped {A : Type 0} (step : Reader (Option A)) (front : List A) (tokens : List Token) (start : List A) (from : List Token) : Type 0 where
  pub turns : ℕ
  pub enough : length tokens < turns
  pub same : with_front front (many_from step turns tokens) ≡ with_front start (many step from)

regroup : {A : Type 0} (front : List A) (x : A) (o : Outcome (List A)) → with_front (front ++ x ∷ []) o ≡ with_front front (with_first x o)
regroup front x (Ok p) = ap (λ xs. Ok (xs, p.1)) (append_assoc front (x ∷ []) p.0)
regroup front x (Err e) = refl

pub looped_init : {A : Type 0} (step : Reader (Option A)) (front : List A) (tokens : List Token) → Looped step front tokens front tokens
unfolding many
looped_init step front tokens = record { turns = suc (length tokens); enough = omega arith; same = refl }

module _ {A : Type 0} (step : Reader (Option A)) (front : List A) (tokens : List Token) (start : List A) (from : List Token) where
  some_turns : (n : ℕ) → length tokens < n → (m : ℕ) × (n ≡ suc m)
  some_turns zero h = absurd (omega arith)
  some_turns (suc m) h = (m, refl)

  pub looped_more : (x : A) (rest : List Token) → Looped step front tokens start from → step tokens ≡ Ok (Some x, rest) → length rest < length tokens → Looped step (front ++ x ∷ []) rest start from
  unfolding many_from
  looped_more x rest l read shorter =
      let t = some_turns l.turns l.enough in
      let one : with_front front (many_from step l.turns tokens) ≡ with_front front (with_first x (many_from step t.0 rest)) = ap (λ k. with_front front (many_from step k tokens)) t.1 ∙ ap (λ o. with_front front (many_after o (many_from step t.0))) read in
      record { turns = t.0; enough = omega (arith, t.1, l.enough); same = regroup front x (many_from step t.0 rest) ∙ sym one ∙ l.same }

  pub looped_done : (rest : List Token) → Looped step front tokens start from → step tokens ≡ Ok (None, rest) → with_front start (many step from) ≡ Ok (front, rest)
  unfolding many_from
  looped_done rest l read =
      let t = some_turns l.turns l.enough in
      let one : with_front front (many_from step l.turns tokens) ≡ Ok (front, rest) = ap (λ k. with_front front (many_from step k tokens)) t.1 ∙ ap (λ o. with_front front (many_after o (many_from step t.0))) read ∙ ap (λ xs. Ok (xs, rest)) (append-nil front) in
      sym l.same ∙ one

  pub looped_fails : (c : Code) → Looped step front tokens start from → step tokens ≡ Err c → with_front start (many step from) ≡ Err c
  unfolding many_from
  looped_fails c l read =
      let t = some_turns l.turns l.enough in
      let one : with_front front (many_from step l.turns tokens) ≡ Err c = ap (λ k. with_front front (many_from step k tokens)) t.1 ∙ ap (λ o. with_front front (many_after o (many_from step t.0))) read in
      sym l.same ∙ one

-- what was read in all, where nothing was in hand at first
pub front_ok : {A : Type 0} (front : List A) (rest : List Token) (o : Outcome (List A)) → with_front [] o ≡ Ok (front, rest) → o ≡ Ok (front, rest)
front_ok front rest (Ok p) e = e
front_ok front rest (Err c) e = e

pub front_err : {A : Type 0} (start : List A) (c : Code) (o : Outcome (List A)) → with_front start o ≡ Err c → o ≡ Err c
front_err start c (Ok p) e = absurd cc
front_err start c (Err d) e = e

-- what was read after the first item
abbrev pub with_item : {A : Type 0} → A → Outcome (List A) → Outcome (List A)
with_item x o = and_then o (λ xs. pure (x ∷ xs))

pub front_one : {A : Type 0} (x : A) (front : List A) (rest : List Token) (o : Outcome (List A)) → with_front (x ∷ []) o ≡ Ok (front, rest) → with_item x o ≡ Ok (front, rest)
front_one x front rest (Ok p) e = e
front_one x front rest (Err c) e = e

-- a refusal in a turn is the refusal of the whole
pub ends : {A : Type 0} (step : Reader (Option A)) (front : List A) (tokens : List Token) (start : List A) (from rest : List Token) (r : Refused) → Looped step front tokens start from → Reads (step tokens) (Err r) rest → Reads (many step from) (Err r) rest
ends step front tokens start from rest refused.Memory l h = tt
ends step front tokens start from rest (refused.Fault f) l h = (front_err start f.code (many step from) (looped_fails step front tokens start from f.code l h.0), h.1)

pub then_ends : {A B : Type 0} (o : Outcome A) (f : A → Reader B) (rest : List Token) (r : Refused) → Reads o (Err r) rest → Reads (and_then o f) (Err r) rest
then_ends o f rest refused.Memory h = tt
then_ends o f rest (refused.Fault e) h = (ap (λ x. and_then x f) h.0, h.1)

-- a refusal in a turn, with more to read after the loop
pub loop_fails : {A B : Type 0} (step : Reader (Option A)) (front : List A) (tokens : List Token) (start : List A) (from rest : List Token) (r : Refused) (f : List A → Reader B) → Looped step front tokens start from → Reads (step tokens) (Err r) rest → Reads (and_then (many step from) f) (Err r) rest
loop_fails step front tokens start from rest r f l h = then_ends (many step from) f rest r (ends step front tokens start from rest r l h)

pub loop_goes : {A : Type 0} (step : Reader (Option A)) (front : List A) (tokens : List Token) (start : List A) (from rest : List Token) (o : Option A) (x : A) (pushed : List A)
    → Looped step front tokens start from → step tokens ≡ Ok (o, rest) → o ≡ Some x → length rest < length tokens → pushed ≡ front ++ x ∷ [] → Looped step pushed rest start from
loop_goes step front tokens start from rest o x pushed l read is shorter e =
    rw e (looped_more step front tokens start from x rest l (read ∙ ap (λ y. Ok (y, rest)) is) shorter)

pub loop_done : {A : Type 0} (step : Reader (Option A)) (front : List A) (tokens : List Token) (start : List A) (from rest : List Token) (o : Option A)
    → Looped step front tokens start from → start ≡ [] → step tokens ≡ Ok (o, rest) → o ≡ None → many step from ≡ Ok (front, rest)
loop_done step front tokens start from rest o l none read is =
    front_ok front rest (many step from) (ap (λ s. with_front s (many step from)) (sym none) ∙ looped_done step front tokens start from rest l (read ∙ ap (λ y. Ok (y, rest)) is))

-- the same after a first item
pub loop_done_one : {A : Type 0} (step : Reader (Option A)) (front : List A) (tokens : List Token) (start : List A) (from rest : List Token) (o : Option A) (x : A)
    → Looped step front tokens start from → start ≡ x ∷ [] → step tokens ≡ Ok (o, rest) → o ≡ None → with_item x (many step from) ≡ Ok (front, rest)
loop_done_one step front tokens start from rest o x l one read is =
    front_one x front rest (many step from) (ap (λ s. with_front s (many step from)) (sym one) ∙ looped_done step front tokens start from rest l (read ∙ ap (λ y. Ok (y, rest)) is))

-- a refusal after a step that read something
pub after_step : {A B : Type 0} (o : Outcome A) (f : A → Reader B) (a : A) (middle rest : List Token) (r : Refused) → o ≡ Ok (a, middle) → Reads (f a middle) (Err r) rest → Reads (and_then o f) (Err r) rest
after_step o f a middle rest r e h = subst (λ x. Reads (and_then x f) (Err r) rest) (sym e) h
