-- Each reader of a name or a label is exact for its production.
use Rattle.std.proofs.Common.{◌≡◌, ◌≤◌, true, List, [], ◌∷◌, length, Option, Some, None, refl, sym, ap, subst, ◌∙◌, arith}
use Rattle.ob_scan.specs.declared.token.Kind.{Kind}
use Rattle.ob_scan.specs.declared.token.Kind.TheVariants as kinds
use Rattle.ob_scan.specs.declared.token.Span.{Span}
use Rattle.ob_scan.specs.declared.token.Symbol.TheVariants as s
use Rattle.ob_scan.specs.declared.token.Token.{Token}
use Rattle.ob_scan.specs.Symbols.{same_symbol}
use Rattle.ob_tree.specs.declared.tree.Ident.{Ident}
use Rattle.ob_tree.specs.declared.tree.IdentDef.{IdentDef}
use Rattle.ob_tree.specs.declared.tree.Qualident.{Qualident}
use Rattle.ob_tree.specs.declared.tree.Label.{Label}
use Rattle.ob_tree.specs.declared.tree.Label.TheVariants as labels
use Rattle.ob_tree.specs.declared.tree.LabelRange.{LabelRange}
use Rattle.ob_tree.specs.Phrase as phrase
use Rattle.ob_tree.specs.Phrase.{Phrase, ◌⨾◌, symbol_at, symbol, maybe, separated}
use Rattle.ob_tree.specs.Name as p
use Rattle.ob_parse_expression.specs.Reading as reading
use Rattle.ob_parse_expression.specs.Reading.{Reader, eat, at_ident, and_then, pure, where_some}
use Rattle.ob_parse_expression.specs.NameReading as r
use Rattle.ob_parse_expression.proofs.Exact.{Exact, Anything, OrAbsent, IsAbsent, answer, answers, same_answer, exact_seq, exact_pure, exact_as, exact_maybe_as, exact_where_some, absent_where, before_pure, and_then_ok}
use Rattle.ob_parse_expression.proofs.OneToken.{exact_eat, exact_ident, Ends, ends_at, ends_by, absent_eat, other_symbol, Starts, starts_by}
use Rattle.ob_tree.proofs.Tokens.{made}
use Rattle.ob_parse_expression.proofs.Entries.{ident_at}
use Rattle.ob_parse_expression.proofs.Separated.{exact_separated}

-- ---- declared names

-- no export mark follows
abbrev pub NoMark : List Token → Type 0
NoMark tokens = IsAbsent (eat s.Times) tokens

pub no_mark : (tokens : List Token) → Ends 3 tokens → NoMark tokens
no_mark tokens e = absent_eat s.Times 3 tokens (omega arith) e

mark_follows : (mark : Option Span) (tokens : List Token) → NoMark tokens → OrAbsent (eat s.Times) Anything mark tokens
mark_follows None tokens e = e
mark_follows (Some span) tokens e = tt

pub exact_ident_def : Exact p.ident_def r.ident_def (λ d. NoMark)
unfolding r.ident_def
exact_ident_def = exact_as
    (exact_seq exact_ident (λ name. exact_seq (exact_eat s.Times) (λ mark. exact_pure (record { name = name; mark = mark })) (λ mark c middle rest h g. mark_follows mark middle (before_pure NoMark (record { name = name; mark = mark }) c middle rest h g))) (λ name c middle rest h g. tt))
    (λ d tokens rest h. subst (λ (x : IdentDef). p.ident_def x tokens rest) (sym h.3.3.0) (h.1, h.2, subst (λ z. maybe (symbol_at s.Times) h.3.0 h.1 z) h.3.3.1 h.3.2))
    (λ d tokens rest h. (d.name, h.0, h.1, (d.mark, rest, h.2, (refl, refl))))

pub ident_def_at : (d : IdentDef) (tokens rest : List Token) → p.ident_def d tokens rest → at_ident tokens ≡ true
ident_def_at d tokens rest h = ident_at d.name tokens h.0 h.1

pub exact_ident_list : Exact p.ident_list (reading.separated s.Comma r.ident_def) (λ xs. Ends 0)
exact_ident_list = exact_separated s.Comma p.ident_def r.ident_def NoMark (Ends 0) exact_ident_def
    (λ span tokens rest h. no_mark tokens (ends_by 3 s.Comma span tokens rest h (omega arith)))
    (λ tokens e. absent_eat s.Comma 0 tokens (omega arith) e)
    (λ tokens e. no_mark tokens (ends_at 0 3 tokens e (omega arith)))

pub ident_list_at : (xs : List IdentDef) (tokens rest : List Token) → p.ident_list xs tokens rest → at_ident tokens ≡ true
ident_list_at [] tokens rest h = absurd h
ident_list_at (d ∷ xs) tokens rest h = ident_def_at d tokens h.0 h.1

pub ident_list_starts : (xs : List IdentDef) (tokens rest : List Token) → p.ident_list xs tokens rest → Starts 2 tokens
ident_list_starts [] tokens rest h = absurd h
ident_list_starts (d ∷ xs) tokens rest h = starts_by 2 (kinds.Ident d.name.name) d.name.span tokens h.1.0 h.1.1 (omega arith)

pub exact_idents : Exact (separated s.Comma phrase.ident) (reading.separated s.Comma reading.ident) (λ xs. Ends 0)
exact_idents = exact_separated s.Comma phrase.ident reading.ident (λ ts. Unit {0}) (Ends 0) exact_ident
    (λ span tokens rest h. tt)
    (λ tokens e. absent_eat s.Comma 0 tokens (omega arith) e)
    (λ tokens e. tt)

pub idents_start : (xs : List Ident) (tokens rest : List Token) → separated s.Comma phrase.ident xs tokens rest → Starts 2 tokens
idents_start [] tokens rest h = absurd h
idents_start (i ∷ xs) tokens rest h = starts_by 2 (kinds.Ident i.name) i.span tokens h.0 h.1 (omega arith)

-- ---- qualified names

abbrev dotted : Ident → Phrase
dotted i = symbol s.Period ⨾ phrase.ident i

exact_member : Exact (maybe dotted) r.member (OrAbsent r.member Anything)
unfolding r.member
exact_member = exact_maybe_as (exact_where_some (exact_eat s.Period) (λ a. exact_ident)) (λ i tokens rest h. (h.1, (h.0, h.2), h.3)) (λ i tokens rest h. (h.1.0, h.0, h.1.1, h.2))

member_follows : (x : Option Ident) (tokens : List Token) → Ends 5 tokens → OrAbsent r.member Anything x tokens
unfolding r.member
member_follows None tokens e = absent_where (eat s.Period) (λ _. reading.ident) tokens (absent_eat s.Period 5 tokens (omega arith) e)
member_follows (Some i) tokens e = tt

pub qualident_starts : (q : Qualident) (tokens rest : List Token) → p.qualident q tokens rest → Starts 2 tokens
qualident_starts q tokens rest h = starts_by 2 (kinds.Ident q.first.name) q.first.span tokens h.0 h.1 (omega arith)

pub exact_qualident : Exact p.qualident r.qualident (λ q. Ends 5)
unfolding r.qualident
exact_qualident = exact_as
    (exact_seq exact_ident (λ first. exact_seq exact_member (λ second. exact_pure (record { first = first; second = second })) (λ second c middle rest h g. member_follows second middle (before_pure (Ends 5) (record { first = first; second = second }) c middle rest h g))) (λ first c middle rest h g. tt))
    (λ q tokens rest h. subst (λ (x : Qualident). p.qualident x tokens rest) (sym h.3.3.0) (h.1, h.2, subst (λ z. maybe dotted h.3.0 h.1 z) h.3.3.1 h.3.2))
    (λ q tokens rest h. (q.first, h.0, h.1, (q.second, rest, h.2, (refl, refl))))

-- ---- labels

label_there : (k : Kind) (span : Span) (l : Label) (ts rest : List Token) → r.label_by k span (made k span ∷ ts) ts ≡ answer l rest → p.label l (made k span ∷ ts) rest
label_there (kinds.Ident n) span l ts rest e =
    let b = and_then_ok (r.qualident (made (kinds.Ident n) span ∷ ts)) (λ q. pure (labels.Name q)) l rest e in
    let d = answers (labels.Name b.0) l b.1 rest b.3 in
    subst (λ x. p.label x (made (kinds.Ident n) span ∷ ts) rest) d.0 (exact_qualident.sound b.0 (made (kinds.Ident n) span ∷ ts) rest (b.2 ∙ same_answer b.0 b.0 b.1 rest refl d.1))
label_there (kinds.Integer n) span l ts rest e =
    let d = answers (labels.Integer n span) l ts rest e in
    subst (λ x. p.label x (made (kinds.Integer n) span ∷ ts) rest) d.0 (ap (λ z. made (kinds.Integer n) span ∷ z) d.1)
label_there (kinds.Text t) span l ts rest e =
    let d = answers (labels.Text t span) l ts rest e in
    subst (λ x. p.label x (made (kinds.Text t) span ∷ ts) rest) d.0 (ap (λ z. made (kinds.Text t) span ∷ z) d.1)
label_there (kinds.Symbol n) span l ts rest e = absurd cc

label_sound : (l : Label) (tokens rest : List Token) → r.label tokens ≡ answer l rest → p.label l tokens rest
unfolding r.label
label_sound l [] rest e = absurd cc
label_sound l (t ∷ ts) rest e = label_there t.kind t.span l ts rest e

label_at : (t : Token) (ts : List Token) → r.label (t ∷ ts) ≡ r.label_by t.kind t.span (t ∷ ts) ts
unfolding r.label
label_at t ts = refl

abbrev named : List Token → reading.Outcome Label
named tokens = and_then (r.qualident tokens) (λ q. pure (labels.Name q))

named_first : (q : Qualident) (tokens rest : List Token) → p.qualident q tokens rest → r.label tokens ≡ named tokens
named_first q tokens rest h = subst (λ ts. r.label ts ≡ named ts) (sym h.1) (label_at (made (kinds.Ident q.first.name) q.first.span) h.0)

label_complete : (l : Label) (tokens rest : List Token) → p.label l tokens rest → Ends 5 rest → r.label tokens ≡ answer l rest
label_complete (labels.Integer n span) tokens rest h g = ap r.label h ∙ label_at (made (kinds.Integer n) span) rest
label_complete (labels.Text t span) tokens rest h g = ap r.label h ∙ label_at (made (kinds.Text t) span) rest
label_complete (labels.Name q) tokens rest h g = named_first q tokens rest h ∙ ap (λ o. and_then o (λ x. pure (labels.Name x))) (exact_qualident.complete q tokens rest h g)

label_shorter : (l : Label) (tokens rest : List Token) → p.label l tokens rest → length rest ≤ length tokens
label_shorter (labels.Integer n span) tokens rest h = omega (arith, ap length h)
label_shorter (labels.Text t span) tokens rest h = omega (arith, ap length h)
label_shorter (labels.Name q) tokens rest h = exact_qualident.shorter q tokens rest h

exact_label : Exact p.label r.label (λ l. Ends 5)
exact_label = record { sound = label_sound; complete = label_complete; shorter = label_shorter }

label_starts : (l : Label) (tokens rest : List Token) → p.label l tokens rest → Starts 2 tokens
label_starts (labels.Integer n span) tokens rest h = starts_by 2 (kinds.Integer n) span tokens rest h (omega arith)
label_starts (labels.Text t span) tokens rest h = starts_by 2 (kinds.Text t) span tokens rest h (omega arith)
label_starts (labels.Name q) tokens rest h = starts_by 2 (kinds.Ident q.first.name) q.first.span tokens h.0 h.1 (omega arith)

-- ---- ranges of labels

abbrev to_last : Label → Phrase
to_last l = symbol s.DotDot ⨾ p.label l

exact_last : Exact (maybe to_last) r.last_label (OrAbsent r.last_label (λ l. Ends 5))
unfolding r.last_label
exact_last = exact_maybe_as (exact_where_some (exact_eat s.DotDot) (λ a. exact_label)) (λ l tokens rest h. (h.1, (h.0, h.2), h.3)) (λ l tokens rest h. (h.1.0, h.0, h.1.1, h.2))

-- what may follow a range of labels
pub record EndsRange (tokens : List Token) : Type 0 where
  pub no_range : IsAbsent (eat s.DotDot) tokens
  pub loose : Ends 5 tokens

last_follows : (x : Option Label) (tokens : List Token) → EndsRange tokens → OrAbsent r.last_label (λ l. Ends 5) x tokens
unfolding r.last_label
last_follows None tokens e = absent_where (eat s.DotDot) (λ _. r.label) tokens e.no_range
last_follows (Some l) tokens e = e.loose

first_follows : (x : Option Label) (tokens rest : List Token) → maybe to_last x tokens rest → EndsRange rest → Ends 5 tokens
first_follows None tokens rest h e = subst (Ends 5) (sym h) e.loose
first_follows (Some l) tokens rest h e = ends_by 5 s.DotDot h.1.0 tokens h.0 h.1.1 (omega arith)

exact_label_range : Exact p.label_range r.label_range (λ x. EndsRange)
unfolding r.label_range
exact_label_range = exact_as
    (exact_seq exact_label (λ first. exact_seq exact_last (λ last. exact_pure (record { first = first; last = last })) (λ last c middle rest h g. last_follows last middle (before_pure EndsRange (record { first = first; last = last }) c middle rest h g)))
    (λ first c middle rest h g. first_follows h.0 middle h.1 h.2 (before_pure EndsRange (record { first = first; last = h.0 }) c h.1 rest h.3 g)))
    (λ x tokens rest h. subst (λ (y : LabelRange). p.label_range y tokens rest) (sym h.3.3.0) (h.1, h.2, subst (λ z. maybe to_last h.3.0 h.1 z) h.3.3.1 h.3.2))
    (λ x tokens rest h. (x.first, h.0, h.1, (x.last, rest, h.2, (refl, refl))))

range_at_comma : (span : Span) (tokens rest : List Token) → symbol_at s.Comma span tokens rest → EndsRange tokens
unfolding same_symbol
range_at_comma span tokens rest h = record {
  no_range = subst (IsAbsent (eat s.DotDot)) (sym h) (other_symbol s.DotDot s.Comma span rest refl);
  loose = ends_by 5 s.Comma span tokens rest h (omega arith);
}

-- what may follow a list of ranges
pub record EndsRanges (tokens : List Token) : Type 0 where
  pub no_range : IsAbsent (eat s.DotDot) tokens
  pub loose : Ends 0 tokens

pub ranges_at_colon : (span : Span) (tokens rest : List Token) → symbol_at s.Colon span tokens rest → EndsRanges tokens
unfolding same_symbol
ranges_at_colon span tokens rest h = record {
  no_range = subst (IsAbsent (eat s.DotDot)) (sym h) (other_symbol s.DotDot s.Colon span rest refl);
  loose = ends_by 0 s.Colon span tokens rest h (omega arith);
}

pub exact_label_ranges : Exact (separated s.Comma p.label_range) (reading.separated s.Comma r.label_range) (λ xs. EndsRanges)
exact_label_ranges = exact_separated s.Comma p.label_range r.label_range EndsRange EndsRanges exact_label_range
    range_at_comma
    (λ tokens e. absent_eat s.Comma 0 tokens (omega arith) e.loose)
    (λ tokens e. record { no_range = e.no_range; loose = ends_at 0 5 tokens e.loose (omega arith) })

pub ranges_start : (xs : List LabelRange) (tokens rest : List Token) → separated s.Comma p.label_range xs tokens rest → Starts 2 tokens
ranges_start [] tokens rest h = absurd h
ranges_start (x ∷ xs) tokens rest h = label_starts x.first tokens h.1.0 h.1.1
