-- Token by token to the list of a text.
use Rattle.std.proofs.Common.{◌≡◌, ◌≢◌, ℕ, zero, suc, eqb, Bool, true, false, List, [], ◌∷◌, ◌++◌, length, Option, Result, Ok, Err, refl, sym, ap, subst, ◌∙◌, append_assoc, arith}
use Rattle.std.proofs.lemmas.List.{append-nil}
use Rattle.ob_scan.specs.declared.class.Class.{Class}
use Rattle.ob_base.specs.declared.fault.Code.{Code}
use Rattle.ob_base.specs.declared.fault.Refused.{Refused}
use Rattle.ob_base.specs.declared.fault.Refused.TheVariants as refused
use Rattle.ob_scan.specs.declared.found.Found.{Found}
use Rattle.ob_scan.specs.declared.found.Step.{Step}
use Rattle.ob_scan.specs.declared.place.Place.{Place}
use Rattle.ob_scan.specs.declared.token.Kind.{Kind}
use Rattle.ob_scan.specs.declared.token.Span.{Span}
use Rattle.ob_scan.specs.declared.token.Token.{Token}
use Rattle.ob_scan.specs.Exactly.{Exactly, IsFault, IsScanCode}
use Rattle.ob_scan.specs.Gap.{Gap, Settled, Stays, begins_blank, opens}
use Rattle.ob_scan.specs.Places.{past, span_from, start_of_text}
use Rattle.ob_scan.specs.Scanning.{IsFirst, IsLast, StepExactly, AnswersTokens, FaultsOnly}
use Rattle.ob_scan.specs.Tokens.{Scans, done, next, Stands, StandsAs, class_at, Tokens}
use Rattle.ob_scan.proofs.Gaps.{one_gap, stays_settled, stays_empty}

pub token_as : (text : List ℕ) (class : Option Class) (x : Result Found Refused) → class_at text ≡ class → Exactly (StandsAs class text) x → Exactly (Stands text) x
token_as text class x e h = subst (λ k. Exactly (StandsAs k text) x) (sym e) h

-- ---- one step

abbrev pub token_of : Place → List ℕ → List ℕ → Kind → List ℕ → Token
token_of p text middle kind rest = record { kind = kind; span = span_from (past p text middle) (past (past p text middle) middle rest) }

nothing_stands : (middle : List ℕ) (kind : Kind) (rest : List ℕ) → [] ≡ middle → Stands middle kind rest → ⊥
nothing_stands middle kind rest e h = subst (λ m. Stands m kind rest) (sym e) h

module _ (p : Place) (text middle : List ℕ) (gap : Gap text middle) (stays : Stays middle) where
  same_middle : (other : List ℕ) → Gap text other → Settled other → other ≡ middle
  same_middle other g settled = one_gap text other middle g gap (stays_settled other settled.no_blank settled.no_comment) stays

  at_end : Gap text [] → [] ≡ middle
  at_end g = one_gap text [] middle g gap (stays_empty [] refl) stays

  pub none_left : (tokens : List Token) → middle ≡ [] → Scans p text tokens → tokens ≡ []
  none_left _ empty (done g) = refl
  none_left _ empty (next {middle = m} {rest = r} {kind = k} g settled stands more) = absurd (nothing_stands m k r (sym (same_middle m g settled ∙ empty)) stands)

  pub none_stand : (tokens : List Token) → ([] ≡ middle → ⊥) → ((kind : Kind) (rest : List ℕ) → Settled middle → Stands middle kind rest → ⊥) → Scans p text tokens → ⊥
  none_stand _ more_left none (done g) = more_left (at_end g)
  none_stand _ more_left none (next {middle = m} {rest = r} {kind = k} g settled stands more) =
      let e = same_middle m g settled in
      none k r (subst Settled e settled) (subst (λ z. Stands z k r) e stands)

  pub first_only : (kind : Kind) (rest : List ℕ) (tokens : List Token) → Stands middle kind rest → ((k : Kind) (r : List ℕ) → Stands middle k r → (k ≡ kind) × (r ≡ rest)) → Scans p text tokens
      → (more : List Token) × (tokens ≡ token_of p text middle kind rest ∷ more) × Scans (past (past p text middle) middle rest) rest more
  first_only kind rest _ stands one (done g) = absurd (nothing_stands middle kind rest (at_end g) stands)
  first_only kind rest _ stands one (next {middle = m} {rest = r} {kind = k} {tokens = more} g settled h tail) =
      let e = same_middle m g settled in
      let same = one k r (subst (λ z. Stands z k r) e h) in (
        more,
        ap (λ z. token_of p text z k r ∷ more) e ∙ ap (λ z. token_of p text middle z r ∷ more) same.0 ∙ ap (λ z. token_of p text middle kind z ∷ more) same.1,
        subst (λ z. Scans (past (past p text middle) middle z) z more) same.1 (subst (λ z. Scans (past (past p text z) z r) r more) e tail),
      )

pub step_last : (p : Place) (text middle : List ℕ) → Gap text middle → Stays middle → length middle ≡ 0 → IsLast p text
step_last p text [] gap stays e = record { built = done gap; only = λ tokens h. none_left p text [] gap stays tokens refl h }
step_last p text (c ∷ cs) gap stays e = absurd (omega arith)

pub step_first : (p : Place) (text middle : List ℕ) (found : Found) (from to : Place) (span : Span) → Gap text middle → Stays middle → begins_blank middle ≡ false → opens middle ≡ false → Exactly (Stands middle) (Ok found)
    → from ≡ past p text middle → to ≡ past from middle found.rest.now → span ≡ span_from from to → IsFirst p text (record { token = record { kind = found.kind; span = span }; place = to; rest = found.rest })
step_first p text middle found from to span gap stays no_blank no_comment h is_from is_to is_span =
    let e : to ≡ past (past p text middle) middle found.rest.now = is_to ∙ ap (λ f. past f middle found.rest.now) is_from in
    let f : span ≡ span_from (past p text middle) (past (past p text middle) middle found.rest.now) = is_span ∙ ap (λ a. span_from a to) is_from ∙ ap (λ b. span_from (past p text middle) b) e in
    let same : (record { kind = found.kind; span = span }) ≡ token_of p text middle found.kind found.rest.now = ap (λ (s : Span). record { kind = found.kind; span = s }) f in
    record {
      built = λ more tail. subst (λ t. Scans p text (t ∷ more)) (sym same) (next gap (record { no_blank = no_blank; no_comment = no_comment }) h.0 (subst (λ q. Scans q found.rest.now more) e tail));
      only = λ tokens g.
          let b = first_only p text middle gap stays found.kind found.rest.now tokens h.0 h.1 g in
          (b.0, b.1 ∙ ap (λ t. t ∷ b.0) (sym same), subst (λ q. Scans q found.rest.now b.0) (sym e) b.2);
    }

pub not_zero : (n : ℕ) → eqb n 0 ≡ false → n ≢ 0
not_zero zero e = absurd cc
not_zero (suc n) e = λ f. cc

true_not_false : (b : Bool) → b ≡ true → b ≡ false → ⊥
true_not_false b e f = let h : true ≡ false = sym e ∙ f in cc

opens_something : (text : List ℕ) → opens text ≡ true → [] ≡ text → ⊥
opens_something text e f = let h : opens [] ≡ true = ap opens f ∙ e in cc

pub step_open : (p : Place) (text middle : List ℕ) (code : Code) (r : Refused) → Gap text middle → Stays middle → opens middle ≡ true → IsFault code r → IsScanCode code → StepExactly p text (Err r)
step_open p text middle code refused.Memory gap stays e is ok = tt
step_open p text middle code (refused.Fault fault) gap stays e is ok =
    (subst IsScanCode (sym is) ok, λ tokens h. none_stand p text middle gap stays tokens (opens_something middle e) (λ k r settled stands. true_not_false (opens middle) e settled.no_comment) h)

something : (text : List ℕ) → length text ≢ 0 → [] ≡ text → ⊥
something text e f = e (ap length (sym f))

pub step_refused : (p : Place) (text middle : List ℕ) (r : Refused) → Gap text middle → Stays middle → length middle ≢ 0 → Exactly (Stands middle) (Err r) → StepExactly p text (Err r)
step_refused p text middle refused.Memory gap stays e h = tt
step_refused p text middle (refused.Fault fault) gap stays e h =
    (h.0, λ tokens g. none_stand p text middle gap stays tokens (something middle e) (λ k r settled stands. h.1 k r stands) g)

-- ---- what was read before, and what is still read

pub record Scanned (from : Place) (whole : List ℕ) (front : List Token) (place : Place) (text : List ℕ) : Type 0 where
  pub built : (more : List Token) → Scans place text more → Scans from whole (front ++ more)
  pub only : (all : List Token) → Scans from whole all → (more : List Token) × (all ≡ front ++ more) × Scans place text more

pub scanned_init : (from : Place) (whole : List ℕ) → Scanned from whole [] from whole
scanned_init from whole = record { built = λ more h. h; only = λ all h. (all, refl, h) }

pub scanned_more : (from : Place) (whole : List ℕ) (front : List Token) (place : Place) (text : List ℕ) (step : Step) → Scanned from whole front place text → IsFirst place text step → Scanned from whole (front ++ step.token ∷ []) step.place step.rest.now
scanned_more from whole front place text step s first = record {
  built = λ more h. subst (λ l. Scans from whole l) (sym (append_assoc front (step.token ∷ []) more)) (s.built (step.token ∷ more) (first.built more h));
  only = λ all h.
      let before = s.only all h in
      let here = first.only before.0 before.2 in
      (here.0, before.1 ∙ ap (λ l. front ++ l) here.1 ∙ sym (append_assoc front (step.token ∷ []) here.0), here.2);
}

pub scanned_found : (whole : List ℕ) (front : List Token) (place : Place) (text : List ℕ) → Scanned start_of_text whole front place text → IsLast place text → Tokens whole front
scanned_found whole front place text s last = subst (λ l. Scans start_of_text whole l) (append-nil front) (s.built [] last.built)

pub scanned_only : (whole : List ℕ) (front : List Token) (place : Place) (text : List ℕ) (tokens : List Token) → Scanned start_of_text whole front place text → IsLast place text → Tokens whole tokens → front ≡ tokens
scanned_only whole front place text tokens s last h =
    let before = s.only tokens h in
    sym (before.1 ∙ ap (λ l. front ++ l) (last.only before.0 before.2) ∙ append-nil front)

pub scanned_faults : (whole : List ℕ) (front : List Token) (place : Place) (text : List ℕ) (r : Refused) → Scanned start_of_text whole front place text → StepExactly place text (Err r) → FaultsOnly whole (Err r)
scanned_faults whole front place text refused.Memory s h = tt
scanned_faults whole front place text (refused.Fault fault) s h = (h.0, λ tokens g. let before = s.only tokens g in h.1 before.0 before.2)

pub faults_answer : (whole : List ℕ) (r : Refused) (tokens : List Token) → FaultsOnly whole (Err r) → Tokens whole tokens → AnswersTokens tokens (Err r)
faults_answer whole refused.Memory tokens h g = tt
faults_answer whole (refused.Fault fault) tokens h g = h.1 tokens g
