-- Entries that begin with a name, as many as come.
use Rattle.std.proofs.Common.{◌≡◌, ◌<◌, Bool, true, false, cond, List, length, Option, Some, None, refl, ap, subst, ◌∙◌}
use Rattle.ob_scan.specs.declared.token.Token.{Token}
use Rattle.ob_tree.specs.Phrase as phrase
use Rattle.ob_tree.specs.Phrase.{Phrase, each, maybe}
use Rattle.ob_parse_expression.specs.Reading.{Outcome, Reader, and_then, pure, many, at_ident, if_ident}
use Rattle.ob_tree.specs.declared.tree.Ident.{Ident}
use Rattle.ob_parse_expression.proofs.Exact.{Exact, OrAbsent, IsAbsent, Repeats, answer, answers, same_answer, and_then_ok, exact_many, each_follows}
use Rattle.ob_parse_expression.proofs.OneToken.{maybe_shorter}

pub ident_at : (i : Ident) (tokens rest : List Token) → phrase.ident i tokens rest → at_ident tokens ≡ true
ident_at i tokens rest h = ap at_ident h

module _ {A : Type 0} (P : A → Phrase) (R : Reader A) (Inside Outside : List Token → Type 0) (exact : Exact P R (λ x. Inside))
    (names : (x : A) (tokens rest : List Token) → P x tokens rest → at_ident tokens ≡ true)
    (takes : (x : A) (tokens rest : List Token) → P x tokens rest → length rest < length tokens)
    (begins : (x : A) (tokens rest : List Token) → P x tokens rest → Inside tokens)
    (none : (tokens : List Token) → Outside tokens → at_ident tokens ≡ false)
    (inside : (tokens : List Token) → Outside tokens → Inside tokens) where
  abbrev chosen : Bool → List Token → Outcome (Option A)
  chosen b tokens = cond b (and_then (R tokens) (λ x. pure (Some x))) (answer None tokens)

  chosen_sound : (b : Bool) (x : Option A) (tokens rest : List Token) → chosen b tokens ≡ answer x rest → maybe P x tokens rest
  chosen_sound true x tokens rest e =
      let b = and_then_ok (R tokens) (λ y. pure (Some y)) x rest e in
      let d = answers (Some b.0) x b.1 rest b.3 in
      subst (λ y. maybe P y tokens rest) d.0 (exact.sound b.0 tokens rest (b.2 ∙ same_answer b.0 b.0 b.1 rest refl d.1))
  chosen_sound false x tokens rest e =
      let b = answers None x tokens rest e in
      subst (λ y. maybe P y tokens rest) b.0 b.1

  if_sound : (x : Option A) (tokens rest : List Token) → if_ident R tokens ≡ answer x rest → maybe P x tokens rest
  unfolding if_ident
  if_sound x tokens rest e = chosen_sound (at_ident tokens) x tokens rest e

  if_made : (x : A) (tokens rest : List Token) → P x tokens rest → Inside rest → if_ident R tokens ≡ answer (Some x) rest
  unfolding if_ident
  if_made x tokens rest h g = ap (λ b. chosen b tokens) (names x tokens rest h) ∙ ap (λ o. and_then o (λ y. pure (Some y))) (exact.complete x tokens rest h g)

  if_complete : (x : Option A) (tokens rest : List Token) → maybe P x tokens rest → OrAbsent (if_ident R) (λ x. Inside) x rest → if_ident R tokens ≡ answer x rest
  if_complete None tokens rest h g = ap (if_ident R) h ∙ g
  if_complete (Some x) tokens rest h g = if_made x tokens rest h g

  no_ident : (tokens : List Token) → at_ident tokens ≡ false → IsAbsent (if_ident R) tokens
  unfolding if_ident
  no_ident tokens e = ap (λ b. chosen b tokens) e

  entries : Repeats P (if_ident R) Inside Outside
  entries = record {
    exact = record { sound = if_sound; complete = if_complete; shorter = maybe_shorter P exact.shorter };
    begins = begins;
    takes = takes;
    absent = λ tokens g. no_ident tokens (none tokens g);
    inside = inside;
  }

  pub exact_entries : Exact (each P) (many (if_ident R)) (λ xs. Outside)
  exact_entries = exact_many entries

  pub entries_follow : (xs : List A) (tokens rest : List Token) → each P xs tokens rest → Outside rest → Inside tokens
  entries_follow = each_follows entries
