-- Each reader of a part of a statement is exact for its production.
use Rattle.std.proofs.Common.{◌≡◌, ℕ, zero, suc, ◌≤◌, Bool, true, false, cond, List, [], ◌∷◌, length, Option, Some, None, refl, sym, ap, subst, ◌∙◌, arith}
use Rattle.ob_base.specs.declared.fault.Code.TheVariants as codes
use Rattle.ob_scan.specs.declared.token.Kind.{Kind}
use Rattle.ob_scan.specs.declared.token.Kind.TheVariants as kinds
use Rattle.ob_scan.specs.declared.token.Span.{Span}
use Rattle.ob_scan.specs.declared.token.Symbol.{Symbol}
use Rattle.ob_scan.specs.declared.token.Symbol.TheVariants as s
use Rattle.ob_scan.specs.declared.token.Token.{Token}
use Rattle.ob_scan.specs.Symbols.{same_symbol}
use Rattle.ob_tree.specs.declared.tree.Expr.{Expr}
use Rattle.ob_tree.specs.declared.tree.Designator.{Designator, out-Designator}
use Rattle.ob_tree.specs.declared.tree.Statement.{Statement, out-Statement, roll-Statement, out-roll-Statement, roll-out-Statement}
use Rattle.ob_tree.specs.declared.tree.Branch.{Branch, out-Branch, roll-Branch, out-roll-Branch, roll-out-Branch}
use Rattle.ob_tree.specs.declared.tree.Case.{Case, out-Case, roll-Case, out-roll-Case, roll-out-Case}
use Rattle.ob_tree.specs.declared.tree.ForHead.{ForHead}
use Rattle.ob_tree.specs.declared.tree.LabelRange.{LabelRange}
use Rattle.ob_tree.specs.declared.tree.Statement.TheOpen.{Statement-F, Branch-F, Case-F}
use Rattle.ob_tree.specs.Phrase.{Phrase, ◌⨾◌, symbol_at, symbol, each, maybe, separated, optional}
use Rattle.ob_tree.specs.Name.{label_range}
use Rattle.ob_tree.specs.Expression as ex
use Rattle.ob_tree.specs.Statement as p
use Rattle.ob_tree.specs.Statement.{StatementLayer}
use Rattle.ob_parse_expression.specs.Reading as reading
use Rattle.ob_parse_expression.specs.Reading.{Outcome, Reader, ◌>>=◌, and_then, pure, not_there, eat}
use Rattle.ob_parse.specs.StatementReading as r
use Rattle.ob_parse_expression.specs.ExpressionReading as exr
use Rattle.ob_parse.specs.StatementReading.{at_case_end, ends_case}
use Rattle.ob_parse_expression.proofs.Exact.{Exact, exact_where, and_then_ok, Anything, OrAbsent, IsAbsent, Repeats, answer, same_answer, Seq, Made, Either, exact_seq, exact_as, exact_maybe_as, exact_many, each_follows, exact_made, exact_pure, exact_either, exact_where_some, absent_where, before_made, before_pure, exact_refuse}
use Rattle.ob_parse_expression.proofs.OneToken.{exact_expect, exact_eat, exact_ident, Starts, start_of, Ends, ends_by, other_symbol, Closes, closes_at, closes_by, closes_ends, closing, binding_of, absent_closing}
use Rattle.ob_parse_expression.proofs.Separated.{exact_separated}
use Rattle.ob_parse.proofs.Optional.{exact_optional, optional_begins}
use Rattle.ob_parse_expression.proofs.Names.{exact_label_ranges, ranges_at_colon, ranges_start}
use Rattle.ob_parse_expression.proofs.Expressions.{exact_expression, exact_designator_in, designator_stops_in, NoSelector, exact_actuals_in, behind_paren}
use Rattle.ob_tree.specs.Ahead.{at_guard, opened}

abbrev BranchLayer : Type 0
BranchLayer = Branch-F Statement Branch Case

abbrev CaseLayer : Type 0
CaseLayer = Case-F Statement Branch Case

-- ---- what ends a case

record EndsCase (tokens : List Token) : Type 0 where
  pub end : at_case_end tokens ≡ true

record EndsCases (tokens : List Token) : Type 0 where
  pub end : at_case_end tokens ≡ true
  pub no_bar : IsAbsent (eat s.Bar) tokens

cases_at_end : (span : Span) (tokens rest : List Token) → symbol_at s.End span tokens rest → EndsCases tokens
unfolding same_symbol
cases_at_end span tokens rest h = record {
  end = ap at_case_end h;
  no_bar = subst (IsAbsent (eat s.Bar)) (sym h) (other_symbol s.Bar s.End span rest refl);
}

ends_case_closes : (k : Kind) → ends_case k ≡ true → 4 ≤ closing k
ends_case_closes (kinds.Symbol s.Bar) e = omega arith
ends_case_closes (kinds.Symbol s.End) e = omega arith
ends_case_closes _ e = absurd cc

end_closes : (tokens : List Token) → at_case_end tokens ≡ true → Closes 4 tokens
end_closes [] e = absurd cc
end_closes (t ∷ ts) e = record { first = ends_case_closes t.kind e }

start_no_end : (k : Kind) → 2 ≤ start_of k → ends_case k ≡ false
start_no_end (kinds.Symbol s.Bar) h = absurd (omega arith)
start_no_end (kinds.Symbol s.End) h = absurd (omega arith)
start_no_end _ h = refl

start_no_case : (tokens : List Token) → Starts 2 tokens → at_case_end tokens ≡ false
start_no_case [] e = refl
start_no_case (t ∷ ts) e = start_no_end t.kind e.first

-- ---- what stands between FOR and DO

-- what may follow it
record EndsHead (tokens : List Token) : Type 0 where
  pub no_step : IsAbsent (eat s.By) tokens
  pub loose : Ends 1 tokens

head_at_do : (span : Span) (tokens rest : List Token) → symbol_at s.Do span tokens rest → EndsHead tokens
unfolding same_symbol
head_at_do span tokens rest h = record {
  no_step = subst (IsAbsent (eat s.By)) (sym h) (other_symbol s.By s.Do span rest refl);
  loose = ends_by 1 s.Do span tokens rest h (omega arith);
}

abbrev by_phrase : ℕ → Expr → Phrase
by_phrase levels e = symbol s.By ⨾ ex.expr levels e

exact_step : (levels : ℕ) → Exact (maybe (by_phrase levels)) (r.step levels) (OrAbsent (r.step levels) (λ e. Ends 1))
unfolding r.step
exact_step levels = exact_maybe_as (exact_where_some (exact_eat s.By) (λ a. exact_expression levels)) (λ e tokens rest h. (h.1, (h.0, h.2), h.3)) (λ e tokens rest h. (h.1.0, h.0, h.1.1, h.2))

step_follows : (levels : ℕ) (x : Option Expr) (tokens : List Token) → EndsHead tokens → OrAbsent (r.step levels) (λ e. Ends 1) x tokens
unfolding r.step
step_follows levels None tokens e = absent_where (eat s.By) (λ _. exr.expr levels) tokens e.no_step
step_follows levels (Some x) tokens e = e.loose

last_follows : (levels : ℕ) (x : Option Expr) (tokens rest : List Token) → maybe (by_phrase levels) x tokens rest → EndsHead rest → Ends 1 tokens
last_follows levels None tokens rest h e = subst (Ends 1) (sym h) e.loose
last_follows levels (Some x) tokens rest h e = ends_by 1 s.By h.1.0 tokens h.0 h.1.1 (omega arith)

exact_for_head : (levels : ℕ) → Exact (p.for_head levels) (r.for_head levels) (λ h. EndsHead)
unfolding r.for_head
exact_for_head levels = exact_as
    (exact_seq exact_ident (λ variable. exact_seq (exact_expect s.Becomes) (λ a. exact_seq (exact_expression levels) (λ first. exact_seq (exact_expect s.To) (λ b. exact_seq (exact_expression levels) (λ last. exact_seq (exact_step levels) (λ step. exact_pure (record { variable = variable; first = first; last = last; step = step }))
    (λ step c middle rest h g. step_follows levels step middle (before_pure EndsHead (record { variable = variable; first = first; last = last; step = step }) c middle rest h g)))
    (λ last c middle rest h g. last_follows levels h.0 middle h.1 h.2 (before_pure EndsHead (record { variable = variable; first = first; last = last; step = h.0 }) c h.1 rest h.3 g)))
    (λ b c middle rest h g. tt)) (λ first c middle rest h g. ends_by 1 s.To h.0 middle h.1 h.2 (omega arith))) (λ a c middle rest h g. tt)) (λ variable c middle rest h g. tt))
    (λ x tokens rest h.
    let a = h.3.3.3 in
    subst (λ (y : ForHead). p.for_head levels y tokens rest) (sym a.3.3.3.0)
    (h.1, h.2, (h.3.1, (h.3.0, h.3.2), (h.3.3.1, h.3.3.2, (a.1, (a.0, a.2), (a.3.1, a.3.2, subst (λ z. maybe (by_phrase levels) a.3.3.0 a.3.1 z) a.3.3.3.1 a.3.3.2))))))
    (λ x tokens rest h.
    let a = h.2.2.2 in
    (x.variable, h.0, h.1, (h.2.1.0, h.2.0, h.2.1.1, (x.first, h.2.2.0, h.2.2.1, (a.1.0, a.0, a.1.1, (x.last, a.2.0, a.2.1, (x.step, rest, a.2.2, (refl, refl))))))))

becomes_is_other : (span : Span) (rest : List Token) → IsAbsent (eat s.Becomes) (record { kind = kinds.Symbol s.LeftParen; span = span } ∷ rest)
unfolding same_symbol
becomes_is_other span rest = other_symbol s.Becomes s.LeftParen span rest refl

module _ (levels : ℕ) (B : List Statement → Phrase) (R : Reader (List Statement)) (exact_body : Exact B R (λ b. Closes 2)) where
  abbrev layer : StatementLayer → Phrase
  layer = p.statement_layer levels B

  exact_branch : (word : Symbol) → binding_of word ≤ 1 → Exact (p.branch levels B word) (r.branch levels R word) (λ b. Closes 2)
  unfolding r.branch
  exact_branch word loose = exact_as
      (exact_seq (exact_expression levels) (λ guard. exact_seq (exact_expect word) (λ span. exact_seq exact_body (λ b. exact_made out-Branch roll-Branch out-roll-Branch roll-out-Branch (record { guard = guard; body = b })) (λ b c middle rest h g. before_made (Closes 2) out-Branch (record { guard = guard; body = b }) c middle rest h g)) (λ span c middle rest h g. tt)) (λ guard c middle rest h g. ends_by 1 word h.0 middle h.1 h.2 loose))
      (λ b tokens rest h. subst (λ (l : BranchLayer). (ex.expr levels l.guard ⨾ symbol word ⨾ B l.body) tokens rest) (sym h.3.3.3.0) (h.1, h.2, (h.3.1, (h.3.0, h.3.2), subst (λ z. B h.3.3.0 h.3.1 z) h.3.3.3.1 h.3.3.2)))
      (λ b tokens rest h. ((out-Branch b).guard, h.0, h.1, (h.2.1.0, h.2.0, h.2.1.1, ((out-Branch b).body, rest, h.2.2, (refl, refl)))))

  exact_elsif : (word : Symbol) → binding_of word ≤ 1 → Exact (maybe (p.elsif levels B word)) (r.elsif levels R word) (OrAbsent (r.elsif levels R word) (λ b. Closes 2))
  unfolding r.elsif
  exact_elsif word loose = exact_maybe_as (exact_where_some (exact_eat s.Elsif) (λ a. exact_branch word loose)) (λ b tokens rest h. (h.1, (h.0, h.2), h.3)) (λ b tokens rest h. (h.1.0, h.0, h.1.1, h.2))

  absent_elsif : (word : Symbol) (tokens : List Token) → Closes 3 tokens → IsAbsent (r.elsif levels R word) tokens
  unfolding r.elsif
  absent_elsif word tokens e = absent_where (eat s.Elsif) (λ _. r.branch levels R word) tokens (absent_closing s.Elsif 3 tokens (omega arith) e)

  elsifs : (word : Symbol) → binding_of word ≤ 1 → Repeats (p.elsif levels B word) (r.elsif levels R word) (Closes 2) (Closes 3)
  elsifs word loose = record {
    exact = exact_elsif word loose;
    begins = λ b tokens rest h. closes_by 2 s.Elsif h.1.0 tokens h.0 h.1.1 (omega arith);
    takes = λ b tokens rest h. omega (arith, ap length h.1.1, (exact_branch word loose).shorter b h.0 rest h.2);
    absent = absent_elsif word;
    inside = λ tokens e. closes_at 3 2 tokens e (omega arith);
  }

  exact_otherwise : Exact (optional s.Else B) (reading.optional s.Else R) (λ b. Closes 4)
  exact_otherwise = exact_optional s.Else B R (Closes 4)
      (exact_where exact_body (λ b tokens rest h e. closes_at 4 2 rest e (omega arith)))
      (λ tokens e. absent_closing s.Else 4 tokens (omega arith) e)

  others_follow : (o : List Statement) (tokens middle : List Token) → optional s.Else B o tokens middle → Closes 4 middle → Closes 3 tokens
  others_follow = optional_begins s.Else B (Closes 3) (Closes 4) (λ span tokens rest h. closes_by 3 s.Else span tokens rest h (omega arith)) (λ tokens e. closes_at 4 3 tokens e (omega arith))

  abbrev if_read : Statement → Phrase
  if_read = Seq (p.branch levels B s.Then) (λ first. Seq (each (p.elsif levels B s.Then)) (λ others. Seq (optional s.Else B) (λ o. Seq (symbol_at s.End) (λ span. Made out-Statement (Statement-F.If first others o)))))

  exact_if : Exact if_read (r.if_statement levels R) (λ x. Closes 1)
  unfolding r.if_statement
  exact_if = exact_seq (exact_branch s.Then (omega arith)) (λ first. exact_seq (exact_many (elsifs s.Then (omega arith))) (λ others. exact_seq exact_otherwise (λ o. exact_seq (exact_expect s.End) (λ span. exact_made out-Statement roll-Statement out-roll-Statement roll-out-Statement (Statement-F.If first others o)) (λ span c middle rest h g. tt))
      (λ o c middle rest h g. closes_by 4 s.End h.0 middle h.1 h.2 (omega arith)))
      (λ others c middle rest h g. others_follow h.0 middle h.1 h.2 (closes_by 4 s.End h.3.0 h.1 h.3.1 h.3.2 (omega arith))))
      (λ first c middle rest h g. each_follows (elsifs s.Then (omega arith)) h.0 middle h.1 h.2 (others_follow h.3.0 h.1 h.3.1 h.3.2 (closes_by 4 s.End h.3.3.0 h.3.1 h.3.3.1 h.3.3.2 (omega arith))))

  abbrev while_read : Statement → Phrase
  while_read = Seq (p.branch levels B s.Do) (λ first. Seq (each (p.elsif levels B s.Do)) (λ others. Seq (symbol_at s.End) (λ span. Made out-Statement (Statement-F.While first others))))

  exact_while : Exact while_read (r.while_statement levels R) (λ x. Closes 1)
  unfolding r.while_statement
  exact_while = exact_seq (exact_branch s.Do (omega arith)) (λ first. exact_seq (exact_many (elsifs s.Do (omega arith))) (λ others. exact_seq (exact_expect s.End) (λ span. exact_made out-Statement roll-Statement out-roll-Statement roll-out-Statement (Statement-F.While first others)) (λ span c middle rest h g. tt))
      (λ others c middle rest h g. closes_by 3 s.End h.0 middle h.1 h.2 (omega arith)))
      (λ first c middle rest h g. each_follows (elsifs s.Do (omega arith)) h.0 middle h.1 h.2 (closes_by 3 s.End h.3.0 h.1 h.3.1 h.3.2 (omega arith)))

  abbrev repeat_read : Statement → Phrase
  repeat_read = Seq B (λ b. Seq (symbol_at s.Until) (λ span. Seq (ex.expr levels) (λ x. Made out-Statement (Statement-F.Repeat b x))))

  exact_repeat : Exact repeat_read (r.repeat_statement levels R) (λ x. Closes 1)
  unfolding r.repeat_statement
  exact_repeat = exact_seq exact_body (λ b. exact_seq (exact_expect s.Until) (λ span. exact_seq (exact_expression levels) (λ x. exact_made out-Statement roll-Statement out-roll-Statement roll-out-Statement (Statement-F.Repeat b x)) (λ x c middle rest h g. closes_ends 1 middle (before_made (Closes 1) out-Statement (Statement-F.Repeat b x) c middle rest h g))) (λ span c middle rest h g. tt))
      (λ b c middle rest h g. closes_by 2 s.Until h.0 middle h.1 h.2 (omega arith))

  -- ---- FOR

  abbrev for_read : Statement → Phrase
  for_read = Seq (p.for_head levels) (λ head. Seq (symbol_at s.Do) (λ span. Seq B (λ b. Seq (symbol_at s.End) (λ end. Made out-Statement (Statement-F.For head b)))))

  exact_for : Exact for_read (r.for_statement levels R) (λ x. Closes 1)
  unfolding r.for_statement
  exact_for = exact_seq (exact_for_head levels) (λ head. exact_seq (exact_expect s.Do) (λ span. exact_seq exact_body (λ b. exact_seq (exact_expect s.End) (λ end. exact_made out-Statement roll-Statement out-roll-Statement roll-out-Statement (Statement-F.For head b)) (λ end c middle rest h g. tt))
      (λ b c middle rest h g. closes_by 2 s.End h.0 middle h.1 h.2 (omega arith))) (λ span c middle rest h g. tt))
      (λ head c middle rest h g. head_at_do h.0 middle h.1 h.2)

  -- ---- CASE

  abbrev labelled_read : Case → Phrase
  labelled_read = Seq (separated s.Comma label_range) (λ labels. Seq (symbol_at s.Colon) (λ span. Seq B (λ b. Made out-Case (record { labels = labels; body = b }))))

  exact_labelled : Exact labelled_read (r.labelled levels R) (λ c. Closes 2)
  unfolding r.labelled
  exact_labelled = exact_seq exact_label_ranges (λ labels. exact_seq (exact_expect s.Colon) (λ span. exact_seq exact_body (λ b. exact_made out-Case roll-Case out-roll-Case roll-out-Case (record { labels = labels; body = b })) (λ b c middle rest h g. before_made (Closes 2) out-Case (record { labels = labels; body = b }) c middle rest h g)) (λ span c middle rest h g. tt))
      (λ labels c middle rest h g. ranges_at_colon h.0 middle h.1 h.2)

  abbrev parts : List LabelRange → List Statement → Phrase
  parts = p.case_parts levels B

  parts_from : (ls : List LabelRange) (b : List Statement) (tokens rest : List Token) → (separated s.Comma label_range ls ⨾ symbol s.Colon ⨾ B b) tokens rest → parts ls b tokens rest
  parts_from [] b tokens rest h = absurd h.1
  parts_from (l ∷ ls) b tokens rest h = h

  labelled_there : (c : Case) (tokens rest : List Token) → labelled_read c tokens rest → p.case_phrase levels B c tokens rest
  labelled_there c tokens rest h =
      let is = h.3.3.3.0 in
      subst (λ (l : CaseLayer). parts l.labels l.body tokens rest) (sym is)
      (parts_from h.0 h.3.3.0 tokens rest (h.1, h.2, (h.3.1, (h.3.0, h.3.2), subst (λ z. B h.3.3.0 h.3.1 z) h.3.3.3.1 h.3.3.2)))

  abbrev empty : CaseLayer
  empty = record { labels = []; body = [] }

  abbrev chosen_case : Bool → List Token → Outcome Case
  chosen_case b tokens = cond b (answer (roll-Case empty) tokens) (r.labelled levels R tokens)

  chosen_case_sound : (b : Bool) (c : Case) (tokens rest : List Token) → chosen_case b tokens ≡ answer c rest → p.case_phrase levels B c tokens rest
  chosen_case_sound true c tokens rest e =
      let h = (exact_made {F = Anything} out-Case roll-Case out-roll-Case roll-out-Case empty).sound c tokens rest e in
      subst (λ (l : CaseLayer). parts l.labels l.body tokens rest) (sym h.0) h.1
  chosen_case_sound false c tokens rest e = labelled_there c tokens rest (exact_labelled.sound c tokens rest e)

  case_sound : (c : Case) (tokens rest : List Token) → r.case_phrase levels R tokens ≡ answer c rest → p.case_phrase levels B c tokens rest
  unfolding r.case_phrase
  case_sound c tokens rest e = chosen_case_sound (at_case_end tokens) c tokens rest e

  case_chosen : (b : Bool) (tokens : List Token) → at_case_end tokens ≡ b → r.case_phrase levels R tokens ≡ chosen_case b tokens
  unfolding r.case_phrase
  case_chosen b tokens e = ap (λ x. chosen_case x tokens) e

  case_back : (c : Case) (ls : List LabelRange) (b : List Statement) (tokens rest : List Token) → out-Case c ≡ record { labels = ls; body = b } → parts ls b tokens rest → EndsCase rest → r.case_phrase levels R tokens ≡ answer c rest
  case_back c [] [] tokens rest is h g =
      case_chosen true tokens (subst (λ ts. at_case_end ts ≡ true) (sym h) g.end) ∙ same_answer (roll-Case empty) c tokens rest (ap roll-Case (sym is) ∙ roll-out-Case c) h
  case_back c [] (x ∷ b) tokens rest is h g = absurd h
  case_back c (l ∷ ls) b tokens rest is h g =
      case_chosen false tokens (start_no_case tokens (ranges_start (l ∷ ls) tokens h.0 h.1))
      ∙ exact_labelled.complete c tokens rest (l ∷ ls, h.0, h.1, (h.2.1.0, h.2.0, h.2.1.1, (b, rest, h.2.2, (is, refl)))) (closes_at 4 2 rest (end_closes rest g.end) (omega arith))

  case_shorter : (ls : List LabelRange) (b : List Statement) (tokens rest : List Token) → parts ls b tokens rest → length rest ≤ length tokens
  case_shorter [] [] tokens rest h = omega (arith, ap length h)
  case_shorter [] (x ∷ b) tokens rest h = absurd h
  case_shorter (l ∷ ls) b tokens rest h = omega (arith, exact_label_ranges.shorter (l ∷ ls) tokens h.0 h.1, ap length h.2.1.1, exact_body.shorter b h.2.0 rest h.2.2)

  exact_case : Exact (p.case_phrase levels B) (r.case_phrase levels R) (λ c. EndsCase)
  exact_case = record {
    sound = case_sound;
    complete = λ c tokens rest h g. case_back c (out-Case c).labels (out-Case c).body tokens rest refl h g;
    shorter = λ c tokens rest h. case_shorter (out-Case c).labels (out-Case c).body tokens rest h;
  }

  exact_cases : Exact (separated s.Bar (p.case_phrase levels B)) (reading.separated s.Bar (r.case_phrase levels R)) (λ xs. EndsCases)
  exact_cases = exact_separated s.Bar (p.case_phrase levels B) (r.case_phrase levels R) EndsCase EndsCases exact_case
      (λ span tokens rest h. record { end = ap at_case_end h })
      (λ tokens e. e.no_bar)
      (λ tokens e. record { end = e.end })

  abbrev lookup_read : Span → Statement → Phrase
  lookup_read span = Seq (ex.expr levels) (λ x. Seq (symbol_at s.Of) (λ of. Seq (separated s.Bar (p.case_phrase levels B)) (λ cases. Seq (symbol_at s.End) (λ end. Made out-Statement (Statement-F.Case span x cases)))))

  exact_lookup : (span : Span) → Exact (lookup_read span) (r.case_statement levels R span) (λ x. Closes 1)
  unfolding r.case_statement
  exact_lookup span = exact_seq (exact_expression levels) (λ x. exact_seq (exact_expect s.Of) (λ of. exact_seq exact_cases (λ cases. exact_seq (exact_expect s.End) (λ end. exact_made out-Statement roll-Statement out-roll-Statement roll-out-Statement (Statement-F.Case span x cases)) (λ end c middle rest h g. tt))
      (λ cases c middle rest h g. cases_at_end h.0 middle h.1 h.2)) (λ of c middle rest h g. tt))
      (λ x c middle rest h g. ends_by 1 s.Of h.0 middle h.1 h.2 (omega arith))

  -- ---- assignments and calls

  abbrev call_read : Designator → Option Span → Statement → Phrase
  call_read d = Either (Made out-Statement (Statement-F.Call d None)) (λ span. Seq (behind_paren levels) (λ es. Made out-Statement (Statement-F.Call d (Some es))))

  abbrev no_assign : Designator → Statement → Phrase
  no_assign d = Seq (maybe (symbol_at s.LeftParen)) (call_read d)

  abbrev becomes_read : Designator → Option Span → Statement → Phrase
  becomes_read d = Either (no_assign d) (λ span. Seq (ex.expr levels) (λ x. Made out-Statement (Statement-F.Assign d x)))

  abbrev after_read : Designator → Statement → Phrase
  after_read d = Seq (maybe (symbol_at s.Becomes)) (becomes_read d)

  -- what stands behind a designator, where no selector does
  abbrev assign_read : Statement → Phrase
  assign_read x tokens rest = (d : Designator) × (middle : List Token) × p.designator levels d tokens middle × after_read d x middle rest × (at_guard middle ≡ false)

  paren_follows : (d : Designator) (paren : Option Span) (x : Statement) (middle rest : List Token) → call_read d paren x middle rest → Closes 1 rest → OrAbsent (eat s.LeftParen) Anything paren middle
  paren_follows d None x middle rest h g = absent_closing s.LeftParen 1 middle (omega arith) (subst (Closes 1) (sym h.1) g)
  paren_follows d (Some span) x middle rest h g = tt

  no_becomes : (d : Designator) (paren : Option Span) (x : Statement) (tokens middle rest : List Token) → maybe (symbol_at s.LeftParen) paren tokens middle → call_read d paren x middle rest → Closes 1 rest → IsAbsent (eat s.Becomes) tokens
  no_becomes d None x tokens middle rest k h g = absent_closing s.Becomes 1 tokens (omega arith) (subst (Closes 1) (sym (k ∙ h.1)) g)
  no_becomes d (Some span) x tokens middle rest k h g = subst (IsAbsent (eat s.Becomes)) (sym k) (becomes_is_other span middle)

  becomes_follows : (d : Designator) (becomes : Option Span) (x : Statement) (middle rest : List Token) → becomes_read d becomes x middle rest → Closes 1 rest → OrAbsent (eat s.Becomes) Anything becomes middle
  becomes_follows d None x middle rest h g = no_becomes d h.0 x middle h.1 rest h.2 h.3 g
  becomes_follows d (Some span) x middle rest h g = tt

  called_follows : (d : Designator) (paren : Option Span) (x : Statement) (tokens middle rest : List Token) → maybe (symbol_at s.LeftParen) paren tokens middle → call_read d paren x middle rest → Closes 1 rest → Ends 5 tokens
  called_follows d None x tokens middle rest k h g = closes_ends 5 tokens (subst (Closes 1) (sym (k ∙ h.1)) g)
  called_follows d (Some span) x tokens middle rest k h g = ends_by 5 s.LeftParen span tokens middle k (omega arith)

  designator_follows : (d : Designator) (becomes : Option Span) (x : Statement) (tokens middle rest : List Token) → maybe (symbol_at s.Becomes) becomes tokens middle → becomes_read d becomes x middle rest → Closes 1 rest → Ends 5 tokens
  designator_follows d None x tokens middle rest k h g = subst (Ends 5) (sym k) (called_follows d h.0 x middle h.1 rest h.2 h.3 g)
  designator_follows d (Some span) x tokens middle rest k h g = ends_by 5 s.Becomes span tokens middle k (omega arith)

  abbrev after : Designator → Reader Statement
  after d = eat s.Becomes >>= (λ becomes. not_there becomes (eat s.LeftParen >>= (λ paren. not_there paren (pure (roll-Statement (Statement-F.Call d None))) (λ span. exr.actuals levels (exr.inner levels) >>= (λ es. pure (roll-Statement (Statement-F.Call d (Some es))))))) (λ span. exr.expr levels >>= (λ x. pure (roll-Statement (Statement-F.Assign d x)))))

  exact_after : (d : Designator) → Exact (after_read d) (after d) (λ x. Closes 1)
  exact_after d = (exact_seq (exact_eat s.Becomes) (λ becomes. exact_either
      (exact_seq (exact_eat s.LeftParen) (λ paren. exact_either (exact_made out-Statement roll-Statement out-roll-Statement roll-out-Statement (Statement-F.Call d None))
      (λ span. exact_seq (exact_actuals_in levels) (λ es. exact_made out-Statement roll-Statement out-roll-Statement roll-out-Statement (Statement-F.Call d (Some es))) (λ es c middle rest h g. tt)) paren) (paren_follows d))
      (λ span. exact_seq (exact_expression levels) (λ x. exact_made out-Statement roll-Statement out-roll-Statement roll-out-Statement (Statement-F.Assign d x)) (λ x c middle rest h g. closes_ends 1 middle (before_made (Closes 1) out-Statement (Statement-F.Assign d x) c middle rest h g))) becomes) (becomes_follows d))

  assign_sound : (x : Statement) (tokens rest : List Token) → r.assign_or_call levels R tokens ≡ answer x rest → assign_read x tokens rest
  unfolding r.assign_or_call
  assign_sound x tokens rest e =
      let b = and_then_ok (exr.designator levels (exr.inner levels) tokens) after x rest e in
      (b.0, b.1, (exact_designator_in levels).sound b.0 tokens b.1 b.2, (exact_after b.0).sound x b.1 rest b.3, designator_stops_in levels b.0 tokens b.1 b.2)

  assign_complete : (x : Statement) (tokens rest : List Token) → assign_read x tokens rest → Closes 1 rest → r.assign_or_call levels R tokens ≡ answer x rest
  unfolding r.assign_or_call
  assign_complete x tokens rest h g =
      let a = h.3 in
      let none : NoSelector h.1 = (designator_follows h.0 a.0 x h.1 a.1 rest a.2 a.3 g, h.4) in
      ap (λ o. and_then o after) ((exact_designator_in levels).complete h.0 tokens h.1 h.2 none) ∙ (exact_after h.0).complete x h.1 rest a g

  exact_assign : Exact assign_read (r.assign_or_call levels R) (λ x. Closes 1)
  exact_assign = record {
    sound = assign_sound;
    complete = assign_complete;
    shorter = λ x tokens rest h. omega (arith, (exact_designator_in levels).shorter h.0 tokens h.1 h.2, (exact_after h.0).shorter x h.1 rest h.3);
  }

  -- no selector of this kind begins at `:=`, nor where a statement is over
  no_guard_kind : (k : Kind) (ts : List Token) → 1 ≤ closing k → opened k ts ≡ false
  no_guard_kind (kinds.Symbol s.LeftParen) ts h = absurd (omega arith)
  no_guard_kind _ ts h = refl

  closes_no_guard : (tokens : List Token) → Closes 1 tokens → at_guard tokens ≡ false
  closes_no_guard [] e = refl
  closes_no_guard (t ∷ ts) e = no_guard_kind t.kind ts e.first

  call_there : (d : Designator) (paren : Option Span) (x : Statement) (tokens middle after rest : List Token) → p.designator levels d tokens middle → at_guard middle ≡ false → maybe (symbol_at s.LeftParen) paren middle after → call_read d paren x after rest → layer (out-Statement x) tokens rest
  call_there d None x tokens middle after rest h ng k g = subst (λ l. layer l tokens rest) (sym g.0) (subst (λ z. p.designator levels d tokens z) (k ∙ g.1) h)
  call_there d (Some span) x tokens middle after rest h ng k g =
      subst (λ l. layer l tokens rest) (sym g.3.0) (middle, h, (middle, (ng, refl), (after, (span, k), subst (λ z. behind_paren levels g.0 after z) g.3.1 g.2)))

  assign_there : (d : Designator) (becomes : Option Span) (x : Statement) (tokens middle after rest : List Token) → p.designator levels d tokens middle → at_guard middle ≡ false → maybe (symbol_at s.Becomes) becomes middle after → becomes_read d becomes x after rest → layer (out-Statement x) tokens rest
  assign_there d None x tokens middle after rest h ng k g = call_there d g.0 x tokens middle g.1 rest h ng (subst (λ z. maybe (symbol_at s.LeftParen) g.0 z g.1) (sym k) g.2) g.3
  assign_there d (Some span) x tokens middle after rest h ng k g =
      subst (λ l. layer l tokens rest) (sym g.3.0) (middle, h, (after, (span, k), subst (λ z. ex.expr levels g.0 after z) g.3.1 g.2))

  abbrev token : Kind → Span → Token
  token kind span = record { kind = kind; span = span }

  empty_there : (x : Statement) (tokens rest : List Token) → answer (roll-Statement Statement-F.Empty) tokens ≡ answer x rest → layer (out-Statement x) tokens rest
  empty_there x tokens rest e =
      let h = (exact_made {F = Anything} out-Statement roll-Statement out-roll-Statement roll-out-Statement Statement-F.Empty).sound x tokens rest e in
      subst (λ l. layer l tokens rest) (sym h.0) h.1

  statement_there : (k : Kind) (span : Span) (x : Statement) (ts rest : List Token) → r.statement_by levels R k span (token k span ∷ ts) ts ≡ answer x rest → layer (out-Statement x) (token k span ∷ ts) rest
  statement_there (kinds.Ident n) span x ts rest e =
      let h = exact_assign.sound x (token (kinds.Ident n) span ∷ ts) rest e in
      assign_there h.0 h.3.0 x (token (kinds.Ident n) span ∷ ts) h.1 h.3.1 rest h.2 h.4 h.3.2 h.3.3
  statement_there (kinds.Symbol s.If) span x ts rest e =
      let h = exact_if.sound x ts rest e in
      let end : symbol_at s.End h.3.3.3.0 h.3.3.1 rest = subst (λ z. symbol_at s.End h.3.3.3.0 h.3.3.1 z) h.3.3.3.3.1 h.3.3.3.2 in
      subst (λ l. layer l (token (kinds.Symbol s.If) span ∷ ts) rest) (sym h.3.3.3.3.0)
      (ts, (span, refl), (h.1, h.2, (h.3.1, h.3.2, (h.3.3.1, h.3.3.2, (h.3.3.3.0, end)))))
  statement_there (kinds.Symbol s.Case) span x ts rest e =
      let h = (exact_lookup span).sound x ts rest e in
      let a = h.3.3.3 in
      let end : symbol_at s.End a.0 h.3.3.1 rest = subst (λ z. symbol_at s.End a.0 h.3.3.1 z) a.3.1 a.2 in
      subst (λ l. layer l (token (kinds.Symbol s.Case) span ∷ ts) rest) (sym a.3.0)
      (ts, refl, (h.1, h.2, (h.3.1, (h.3.0, h.3.2), (h.3.3.1, h.3.3.2, (a.0, end)))))
  statement_there (kinds.Symbol s.For) span x ts rest e =
      let h = exact_for.sound x ts rest e in
      let a = h.3.3.3 in
      let end : symbol_at s.End a.0 h.3.3.1 rest = subst (λ z. symbol_at s.End a.0 h.3.3.1 z) a.3.1 a.2 in
      subst (λ l. layer l (token (kinds.Symbol s.For) span ∷ ts) rest) (sym a.3.0)
      (ts, (span, refl), (h.1, h.2, (h.3.1, (h.3.0, h.3.2), (h.3.3.1, h.3.3.2, (a.0, end)))))
  statement_there (kinds.Symbol s.While) span x ts rest e =
      let h = exact_while.sound x ts rest e in
      let end : symbol_at s.End h.3.3.0 h.3.1 rest = subst (λ z. symbol_at s.End h.3.3.0 h.3.1 z) h.3.3.3.1 h.3.3.2 in
      subst (λ l. layer l (token (kinds.Symbol s.While) span ∷ ts) rest) (sym h.3.3.3.0)
      (ts, (span, refl), (h.1, h.2, (h.3.1, h.3.2, (h.3.3.0, end))))
  statement_there (kinds.Symbol s.Repeat) span x ts rest e =
      let h = exact_repeat.sound x ts rest e in
      subst (λ l. layer l (token (kinds.Symbol s.Repeat) span ∷ ts) rest) (sym h.3.3.3.0)
      (ts, (span, refl), (h.1, h.2, (h.3.1, (h.3.0, h.3.2), subst (λ z. ex.expr levels h.3.3.0 h.3.1 z) h.3.3.3.1 h.3.3.2)))
  statement_there k span x ts rest e = empty_there x (token k span ∷ ts) rest e

  statement_sound : (x : Statement) (tokens rest : List Token) → r.statement levels R tokens ≡ answer x rest → p.statement levels B x tokens rest
  unfolding r.statement
  statement_sound x [] rest e = empty_there x [] rest e
  statement_sound x (t ∷ ts) rest e = statement_there t.kind t.span x ts rest e

  statement_at : (t : Token) (ts : List Token) → r.statement levels R (t ∷ ts) ≡ r.statement_by levels R t.kind t.span (t ∷ ts) ts
  unfolding r.statement
  statement_at t ts = refl

  named_first : (d : Designator) (tokens middle : List Token) → p.designator levels d tokens middle → r.statement levels R tokens ≡ r.assign_or_call levels R tokens
  named_first d tokens middle h =
      subst (λ ts. r.statement levels R ts ≡ r.assign_or_call levels R ts) (sym h.1) (statement_at (token (kinds.Ident (out-Designator d).name.name) (out-Designator d).name.span) h.0)

  empty_by : (k : Kind) (span : Span) (all ts : List Token) → 1 ≤ closing k → r.statement_by levels R k span all ts ≡ answer (roll-Statement Statement-F.Empty) all
  empty_by (kinds.Ident n) span all ts h = absurd (omega arith)
  empty_by (kinds.Symbol s.If) span all ts h = absurd (omega arith)
  empty_by (kinds.Symbol s.Case) span all ts h = absurd (omega arith)
  empty_by (kinds.Symbol s.While) span all ts h = absurd (omega arith)
  empty_by (kinds.Symbol s.Repeat) span all ts h = absurd (omega arith)
  empty_by (kinds.Symbol s.For) span all ts h = absurd (omega arith)
  empty_by _ span all ts h = refl

  empty_read : (tokens : List Token) → Closes 1 tokens → r.statement levels R tokens ≡ answer (roll-Statement Statement-F.Empty) tokens
  unfolding r.statement
  empty_read [] e = refl
  empty_read (t ∷ ts) e = empty_by t.kind t.span (t ∷ ts) ts e.first

  roll_is : (x : Statement) (l : StatementLayer) → out-Statement x ≡ l → roll-Statement l ≡ x
  roll_is x l is = ap roll-Statement (sym is) ∙ roll-out-Statement x

  statement_back : (x : Statement) (l : StatementLayer) (tokens rest : List Token) → out-Statement x ≡ l → layer l tokens rest → Closes 1 rest → r.statement levels R tokens ≡ answer x rest
  statement_back x Statement-F.Empty tokens rest is h g =
      empty_read tokens (subst (Closes 1) (sym h) g) ∙ same_answer (roll-Statement Statement-F.Empty) x tokens rest (roll_is x Statement-F.Empty is) h
  statement_back x (Statement-F.Assign d y) tokens rest is h g =
      named_first d tokens h.0 h.1 ∙ exact_assign.complete x tokens rest (d, h.0, h.1, (Some h.2.1.0, h.2.0, h.2.1.1, (y, rest, h.2.2, (is, refl))), ap at_guard h.2.1.1) g
  statement_back x (Statement-F.Call d None) tokens rest is h g =
      named_first d tokens rest h ∙ exact_assign.complete x tokens rest (d, rest, h, (None, rest, refl, (None, rest, refl, (is, refl))), closes_no_guard rest g) g
  statement_back x (Statement-F.Call d (Some es)) tokens rest is h g =
      let k : symbol_at s.LeftParen h.2.2.1.0 h.0 h.2.2.0 = subst (λ ts. symbol_at s.LeftParen h.2.2.1.0 ts h.2.2.0) (sym h.2.1.1) h.2.2.1.1 in
      named_first d tokens h.0 h.1 ∙ exact_assign.complete x tokens rest (d, h.0, h.1, (None, h.0, refl, (Some h.2.2.1.0, h.2.2.0, k, (es, rest, h.2.2.2, (is, refl)))), h.2.1.0) g
  statement_back x (Statement-F.If first others o) tokens rest is h g =
      ap (r.statement levels R) h.1.1 ∙ statement_at (token (kinds.Symbol s.If) h.1.0) h.0
      ∙ exact_if.complete x h.0 rest (first, h.2.0, h.2.1, (others, h.2.2.0, h.2.2.1, (o, h.2.2.2.0, h.2.2.2.1, (h.2.2.2.2.0, rest, h.2.2.2.2.1, (is, refl))))) g
  statement_back x (Statement-F.Case span y cases) tokens rest is h g =
      ap (r.statement levels R) h.1 ∙ statement_at (token (kinds.Symbol s.Case) span) h.0
      ∙ (exact_lookup span).complete x h.0 rest (y, h.2.0, h.2.1, (h.2.2.1.0, h.2.2.0, h.2.2.1.1, (cases, h.2.2.2.0, h.2.2.2.1, (h.2.2.2.2.0, rest, h.2.2.2.2.1, (is, refl))))) g
  statement_back x (Statement-F.For head b) tokens rest is h g =
      ap (r.statement levels R) h.1.1 ∙ statement_at (token (kinds.Symbol s.For) h.1.0) h.0
      ∙ exact_for.complete x h.0 rest (head, h.2.0, h.2.1, (h.2.2.1.0, h.2.2.0, h.2.2.1.1, (b, h.2.2.2.0, h.2.2.2.1, (h.2.2.2.2.0, rest, h.2.2.2.2.1, (is, refl))))) g
  statement_back x (Statement-F.While first others) tokens rest is h g =
      ap (r.statement levels R) h.1.1 ∙ statement_at (token (kinds.Symbol s.While) h.1.0) h.0
      ∙ exact_while.complete x h.0 rest (first, h.2.0, h.2.1, (others, h.2.2.0, h.2.2.1, (h.2.2.2.0, rest, h.2.2.2.1, (is, refl)))) g
  statement_back x (Statement-F.Repeat b y) tokens rest is h g =
      ap (r.statement levels R) h.1.1 ∙ statement_at (token (kinds.Symbol s.Repeat) h.1.0) h.0
      ∙ exact_repeat.complete x h.0 rest (b, h.2.0, h.2.1, (h.2.2.1.0, h.2.2.0, h.2.2.1.1, (y, rest, h.2.2.2, (is, refl)))) g

  statement_shorter : (l : StatementLayer) (tokens rest : List Token) → layer l tokens rest → length rest ≤ length tokens
  statement_shorter Statement-F.Empty tokens rest h = omega (arith, ap length h)
  statement_shorter (Statement-F.Assign d y) tokens rest h = omega (arith, (exact_designator_in levels).shorter d tokens h.0 h.1, ap length h.2.1.1, (exact_expression levels).shorter y h.2.0 rest h.2.2)
  statement_shorter (Statement-F.Call d None) tokens rest h = (exact_designator_in levels).shorter d tokens rest h
  statement_shorter (Statement-F.Call d (Some es)) tokens rest h = omega (arith, (exact_designator_in levels).shorter d tokens h.0 h.1, ap length h.2.1.1, ap length h.2.2.1.1, (exact_actuals_in levels).shorter es h.2.2.0 rest h.2.2.2)
  statement_shorter (Statement-F.If first others o) tokens rest h =
      omega (arith, ap length h.1.1, (exact_branch s.Then (omega arith)).shorter first h.0 h.2.0 h.2.1, (exact_many (elsifs s.Then (omega arith))).shorter others h.2.0 h.2.2.0 h.2.2.1, exact_otherwise.shorter o h.2.2.0 h.2.2.2.0 h.2.2.2.1, ap length h.2.2.2.2.1)
  statement_shorter (Statement-F.Case span y cases) tokens rest h =
      omega (arith, ap length h.1, (exact_expression levels).shorter y h.0 h.2.0 h.2.1, ap length h.2.2.1.1, exact_cases.shorter cases h.2.2.0 h.2.2.2.0 h.2.2.2.1, ap length h.2.2.2.2.1)
  statement_shorter (Statement-F.For head b) tokens rest h =
      omega (arith, ap length h.1.1, (exact_for_head levels).shorter head h.0 h.2.0 h.2.1, ap length h.2.2.1.1, exact_body.shorter b h.2.2.0 h.2.2.2.0 h.2.2.2.1, ap length h.2.2.2.2.1)
  statement_shorter (Statement-F.While first others) tokens rest h =
      omega (arith, ap length h.1.1, (exact_branch s.Do (omega arith)).shorter first h.0 h.2.0 h.2.1, (exact_many (elsifs s.Do (omega arith))).shorter others h.2.0 h.2.2.0 h.2.2.1, ap length h.2.2.2.1)
  statement_shorter (Statement-F.Repeat b y) tokens rest h =
      omega (arith, ap length h.1.1, exact_body.shorter b h.0 h.2.0 h.2.1, ap length h.2.2.1.1, (exact_expression levels).shorter y h.2.2.0 rest h.2.2.2)

  pub exact_statement : Exact (p.statement levels B) (r.statement levels R) (λ x. Closes 1)
  exact_statement = record {
    sound = statement_sound;
    complete = λ x tokens rest h g. statement_back x (out-Statement x) tokens rest refl h g;
    shorter = λ x tokens rest h. statement_shorter (out-Statement x) tokens rest h;
  }

-- a sequence, at every depth
pub exact_statements : (levels : ℕ) → Exact (p.statements levels) (r.statements levels) (λ b. Closes 2)
unfolding r.statements
exact_statements zero = exact_refuse codes.Nesting
exact_statements (suc n) = exact_separated s.Semicolon (p.statement n (p.statements n)) (r.statement n (r.statements n)) (Closes 1) (Closes 2)
    (exact_statement n (p.statements n) (r.statements n) (exact_statements n))
    (λ span tokens rest h. closes_by 1 s.Semicolon span tokens rest h (omega arith))
    (λ tokens e. absent_closing s.Semicolon 2 tokens (omega arith) e)
    (λ tokens e. closes_at 2 1 tokens e (omega arith))
