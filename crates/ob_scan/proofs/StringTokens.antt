-- A string is read exactly.
use Rattle.std.proofs.Common.{◌≡◌, ℕ, true, false, cond, List, [], ◌∷◌, ◌++◌, drop, Option, Some, None, Ok, Err, refl, sym, ap, subst, ◌∙◌, append_assoc}
use Rattle.std.specs.Borrow.{Bor}
use Rattle.std.proofs.lemmas.Bool.{eqb-true}
use Rattle.std.proofs.lemmas.List.{append-nil}
use Rattle.ob_base.specs.declared.fault.Code.{Code}
use Rattle.ob_base.specs.declared.fault.Refused.{Refused}
use Rattle.ob_scan.specs.declared.token.Kind.TheVariants as kinds
use Rattle.ob_scan.specs.Exactly.{Exactly, IsFault, IsScanCode}
use Rattle.ob_scan.specs.Places.{is_continuation}
use Rattle.ob_scan.specs.Tokens.{Quoted, closed, char, StringOf, next_char, wide_char, begins_quote}
use Rattle.ob_scan.proofs.WordTokens.{refuses}

-- ---- the quote is no character of a string

wide_none : (text : List ℕ) → wide_char 34 text ≡ None
wide_none [] = refl
wide_none (d ∷ text) = elim (is_continuation d) as (λ b. cond {A = Option (ℕ × List ℕ)} b None None ≡ None) [ true ↦ refl | false ↦ refl ]

quote_ends : (text : List ℕ) → next_char (34 ∷ text) ≡ None
quote_ends text = wide_none text

abbrev answer : ℕ → List ℕ → Option (ℕ × List ℕ)
answer c text = Some (c, text)

some_are : (a c : ℕ) (s t : List ℕ) → answer a s ≡ answer c t → (a ≡ c) × (s ≡ t)
some_are a c s t e = let both : ◌≡◌ {A = ℕ × List ℕ} (a, s) (c, t) = cc in (ap (λ (p : ℕ × List ℕ). p.0) both, ap (λ (p : ℕ × List ℕ). p.1) both)

not_both : (x : Option (ℕ × List ℕ)) (c : ℕ) (text : List ℕ) → x ≡ None → x ≡ answer c text → ⊥
not_both None c text e f = absurd cc
not_both (Some p) c text e f = absurd cc

-- ---- what was read before, and what is still read

pub record Part (from front text : List ℕ) : Type 0 where
  pub built : (more rest : List ℕ) → Quoted text more rest → Quoted from (front ++ more) rest
  pub only : (all rest : List ℕ) → Quoted from all rest → (more : List ℕ) × (all ≡ front ++ more) × Quoted text more rest

pub part_init : (from : List ℕ) → Part from [] from
part_init from = record { built = λ more rest q. q; only = λ all rest q. (all, refl, q) }

-- after a character, the string goes on as the string from that character does
pub one_char : (c : ℕ) (text after all rest : List ℕ) → next_char text ≡ Some (c, after) → Quoted text all rest → (more : List ℕ) × (all ≡ c ∷ more) × Quoted after more rest
one_char c _ after _ rest e closed = absurd (not_both (next_char (34 ∷ rest)) c after (quote_ends rest) e)
one_char c text after _ rest e (char {c = d} {after = other} {chars} f q) =
    let same = some_are d c other after (sym f ∙ e) in
    (chars, ap (λ x. x ∷ chars) same.0, subst (λ t. Quoted t chars rest) same.1 q)

pub part_more : (from front text : List ℕ) (c : ℕ) (after : List ℕ) → Part from front text → next_char text ≡ Some (c, after) → Part from (front ++ c ∷ []) after
part_more from front text c after p e = record {
  built = λ more rest q. subst (λ l. Quoted from l rest) (sym (append_assoc front (c ∷ []) more)) (p.built (c ∷ more) rest (char e q));
  only = λ all rest q.
      let before = p.only all rest q in
      let here = one_char c text after before.0 rest e before.2 in
      (here.0, before.1 ∙ ap (λ l. front ++ l) here.1 ∙ sym (append_assoc front (c ∷ []) here.0), here.2);
}

-- ---- the end

pub quoted : (text : List ℕ) → begins_quote text ≡ true → text ≡ 34 ∷ drop 1 text
quoted [] e = absurd cc
quoted (c ∷ text) e = ap (λ x. x ∷ text) (eqb-true c 34 e)

pub ends_here : (text all rest : List ℕ) → Quoted (34 ∷ text) all rest → (all ≡ []) × (rest ≡ text)
ends_here text _ _ closed = (refl, refl)
ends_here text _ rest (char {c} {after} f q) = absurd (not_both (next_char (34 ∷ text)) c after (quote_ends text) f)

pub string_found : (text front at chars : List ℕ) (rest : Bor (List ℕ)) → Part (drop 1 text) front at → begins_quote at ≡ true → rest.now ≡ drop 1 at → chars ≡ front → Exactly (StringOf text) (Ok (record { kind = kinds.Text chars; rest = rest }))
string_found text front at chars rest p quote is same =
    let from : at ≡ 34 ∷ rest.now = quoted at quote ∙ ap (λ t. 34 ∷ t) (sym is) in (
      record { chars = chars; kind_of = refl; quoted = subst (λ l. Quoted (drop 1 text) l rest.now) (append-nil front ∙ sym same) (p.built [] rest.now (subst (λ t. Quoted t [] rest.now) (sym from) closed)) },
      λ k r g.
          let before = p.only g.chars r g.quoted in
          let here = ends_here rest.now before.0 r (subst (λ t. Quoted t before.0 r) from before.2) in
          (g.kind_of ∙ ap kinds.Text (before.1 ∙ ap (λ l. front ++ l) here.0 ∙ append-nil front ∙ sym same), here.1),
    )

pub stuck : (text all rest : List ℕ) → next_char text ≡ None → begins_quote text ≡ false → Quoted text all rest → ⊥
stuck _ _ rest e no_quote closed = absurd cc
stuck text _ rest e no_quote (char {c} {after} f q) = not_both (next_char text) c after e f

pub string_refused : (text front at : List ℕ) (code : Code) (r : Refused) → Part (drop 1 text) front at → next_char at ≡ None → begins_quote at ≡ false → IsFault code r → IsScanCode code → Exactly (StringOf text) (Err r)
string_refused text front at code r p e no_quote fault ok =
    refuses (StringOf text) code r fault ok (λ k t g. let before = p.only g.chars t g.quoted in stuck at before.0 t e no_quote before.2)
