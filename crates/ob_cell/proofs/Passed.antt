-- Names after expressions and statements are words.
use Rattle.std.proofs.Common.{ℕ, zero, suc, Bool, true, false, List, [], ◌∷◌, Some, None, subst}
use Rattle.ob_scan.specs.declared.token.Kind.TheVariants as kinds
use Rattle.ob_scan.specs.declared.token.Symbol.{Symbol}
use Rattle.ob_scan.specs.declared.token.Symbol.TheVariants as s
use Rattle.ob_tree.specs.declared.tree.AddedTerm.{AddedTerm, out-AddedTerm}
use Rattle.ob_tree.specs.declared.tree.Branch.{Branch, out-Branch}
use Rattle.ob_tree.specs.declared.tree.Case.{Case, out-Case}
use Rattle.ob_tree.specs.declared.tree.Designator.{Designator, out-Designator}
use Rattle.ob_tree.specs.declared.tree.Expr.{Expr, out-Expr}
use Rattle.ob_tree.specs.declared.tree.Factor.{Factor, out-Factor}
use Rattle.ob_tree.specs.declared.tree.Factor.TheOpen.{Factor-F, Selector-F, Related-F}
use Rattle.ob_tree.specs.declared.tree.ForHead.{ForHead}
use Rattle.ob_tree.specs.declared.tree.IdentDef.{IdentDef}
use Rattle.ob_tree.specs.declared.tree.Label.{Label}
use Rattle.ob_tree.specs.declared.tree.Label.TheVariants as labels
use Rattle.ob_tree.specs.declared.tree.LabelRange.{LabelRange}
use Rattle.ob_tree.specs.declared.tree.NextFactor.{NextFactor, out-NextFactor}
use Rattle.ob_tree.specs.declared.tree.Qualident.{Qualident}
use Rattle.ob_tree.specs.declared.tree.Related.{Related, out-Related}
use Rattle.ob_tree.specs.declared.tree.Selector.{Selector, out-Selector}
use Rattle.ob_tree.specs.declared.tree.Simple.{Simple, out-Simple}
use Rattle.ob_tree.specs.declared.tree.Statement.{Statement, out-Statement}
use Rattle.ob_tree.specs.declared.tree.Statement.TheOpen.{Statement-F}
use Rattle.ob_tree.specs.declared.tree.Term.{Term, out-Term}
use Rattle.ob_tree.specs.Ahead.{ahead}
use Rattle.ob_tree.specs.Expression as p
use Rattle.ob_tree.specs.Expression.{FactorLayer, SelectorLayer, RelatedLayer, mul_symbol, add_symbol, relation_symbol, sign_phrase, sign_symbol}
use Rattle.ob_tree.specs.Name as n
use Rattle.ob_tree.specs.Phrase.{Phrase, ◌⨾◌, symbol_at, symbol, ident}
use Rattle.ob_tree.specs.Statement as st
use Rattle.ob_tree.specs.Statement.{StatementLayer}
use Rattle.ob_cell.proofs.Tokens.{TokenWords, Keeps, then, one, empty, never, sign, mark, name, deeper, every, perhaps, between, list_of, behind_word}

-- ---- names and labels

pub ident_def : (d : IdentDef) → Keeps (n.ident_def d)
ident_def d = then (name d.name) (perhaps (symbol_at s.Times) (sign s.Times) d.mark)

pub ident_list : (ds : List IdentDef) → Keeps (n.ident_list ds)
ident_list ds = between s.Comma n.ident_def ident_def ds

pub qualident : (q : Qualident) → Keeps (n.qualident q)
qualident q = then (name q.first) (perhaps (λ i. symbol s.Period ⨾ ident i) (λ i. then (mark s.Period) (name i)) q.second)

label : (l : Label) → Keeps (n.label l)
label (labels.Integer k span) = one (kinds.Integer k) span
label (labels.Text t span) = one (kinds.Text t) span
label (labels.Name q) = qualident q

label_range : (r : LabelRange) → Keeps (n.label_range r)
label_range r = then (label r.first) (perhaps (λ l. symbol s.DotDot ⨾ n.label l) (λ l. then (mark s.DotDot) (label l)) r.last)

-- ---- expressions

looked : (b : Bool) → Keeps (ahead b)
looked b = record { keeps = λ tokens rest h w. subst TokenWords h.1 w }

module _ (levels : ℕ) (inner : Expr → Phrase) (inner_factor : Factor → Phrase) (expr_in : (e : Expr) → Keeps (inner e)) (factor_in : (f : Factor) → Keeps (inner_factor f)) where
  pub actuals : (es : List Expr) → Keeps (p.actuals levels inner inner_factor es)
  actuals es = then (looked false) (then (mark s.LeftParen) (then (deeper levels) (then (list_of s.Comma inner expr_in es) (mark s.RightParen))))

  selector_layer : (l : SelectorLayer) → Keeps (p.selector_layer levels inner inner_factor l)
  selector_layer (Selector-F.Field i) = then (mark s.Period) (name i)
  selector_layer (Selector-F.Index es) = then (mark s.LeftBracket) (then (deeper levels) (then (between s.Comma inner expr_in es) (mark s.RightBracket)))
  selector_layer (Selector-F.Guard q) = then (looked true) (then (mark s.LeftParen) (then (qualident q) (mark s.RightParen)))

  selector : (x : Selector) → Keeps (p.selector levels inner inner_factor x)
  selector x = selector_layer (out-Selector x)

  pub designator : (d : Designator) → Keeps (p.designator levels inner inner_factor d)
  designator d = then (name (out-Designator d).name) (every (p.selector levels inner inner_factor) selector (out-Designator d).selectors)

  factor_layer : (l : FactorLayer) → Keeps (p.factor_layer levels inner inner_factor l)
  factor_layer (Factor-F.Integer k span) = one (kinds.Integer k) span
  factor_layer (Factor-F.Text t span) = one (kinds.Text t) span
  factor_layer (Factor-F.Truth true span) = sign s.True span
  factor_layer (Factor-F.Truth false span) = sign s.False span
  factor_layer (Factor-F.Value d) = designator d
  factor_layer (Factor-F.Call d es) = then (designator d) (actuals es)
  factor_layer (Factor-F.Parens span e) = then (sign s.LeftParen span) (then (deeper levels) (then (expr_in e) (mark s.RightParen)))
  factor_layer (Factor-F.Not span f) = then (sign s.Not span) (then (deeper levels) (factor_in f))

  factor : (f : Factor) → Keeps (p.factor_phrase levels inner inner_factor f)
  factor f = factor_layer (out-Factor f)

  next_factor : (x : NextFactor) → Keeps (p.next_factor levels inner inner_factor x)
  next_factor x = then (sign (mul_symbol (out-NextFactor x).operator) (out-NextFactor x).span) (factor (out-NextFactor x).factor)

  term : (t : Term) → Keeps (p.term levels inner inner_factor t)
  term t = then (factor (out-Term t).first) (every (p.next_factor levels inner inner_factor) next_factor (out-Term t).others)

  added_term : (a : AddedTerm) → Keeps (p.added_term levels inner inner_factor a)
  added_term a = then (sign (add_symbol (out-AddedTerm a).operator) (out-AddedTerm a).span) (term (out-AddedTerm a).term)

  simple : (x : Simple) → Keeps (p.simple levels inner inner_factor x)
  simple x = then (perhaps sign_phrase (λ y. sign (sign_symbol y.0) y.1) (out-Simple x).sign) (then (term (out-Simple x).first) (every (p.added_term levels inner inner_factor) added_term (out-Simple x).others))

  related_layer : (l : RelatedLayer) → Keeps (p.related_layer levels inner inner_factor l)
  related_layer (Related-F.By relation span x) = then (sign (relation_symbol relation) span) (simple x)
  related_layer (Related-F.Is span q) = then (sign s.Is span) (qualident q)

  related : (r : Related) → Keeps (p.related levels inner inner_factor r)
  related r = related_layer (out-Related r)

  pub expr_phrase : (e : Expr) → Keeps (p.expr_phrase levels inner inner_factor e)
  expr_phrase e = then (simple (out-Expr e).left) (perhaps (p.related levels inner inner_factor) related (out-Expr e).right)

mutual
  pub inner : (levels : ℕ) (e : Expr) → Keeps (p.inner levels e)
  inner zero e = never
  inner (suc k) e = expr_phrase k (p.inner k) (p.inner_factor k) (inner k) (inner_factor k) e

  pub inner_factor : (levels : ℕ) (f : Factor) → Keeps (p.inner_factor levels f)
  inner_factor zero f = never
  inner_factor (suc k) f = factor k (p.inner k) (p.inner_factor k) (inner k) (inner_factor k) f

pub expr : (levels : ℕ) (e : Expr) → Keeps (p.expr levels e)
expr levels e = expr_phrase levels (p.inner levels) (p.inner_factor levels) (inner levels) (inner_factor levels) e

-- ---- statements

for_head : (levels : ℕ) (h : ForHead) → Keeps (st.for_head levels h)
for_head levels h =
    then (name h.variable) (then (mark s.Becomes) (then (expr levels h.first) (then (mark s.To) (then (expr levels h.last)
    (perhaps (λ e. symbol s.By ⨾ p.expr levels e) (λ e. then (mark s.By) (expr levels e)) h.step)))))

module _ (levels : ℕ) (body : List Statement → Phrase) (body_in : (xs : List Statement) → Keeps (body xs)) where
  branch : (word : Symbol) (b : Branch) → Keeps (st.branch levels body word b)
  branch word b = then (expr levels (out-Branch b).guard) (then (mark word) (body_in (out-Branch b).body))

  elsif : (word : Symbol) (b : Branch) → Keeps (st.elsif levels body word b)
  elsif word b = then (mark s.Elsif) (branch word b)

  case_parts : (ls : List LabelRange) (b : List Statement) → Keeps (st.case_parts levels body ls b)
  case_parts [] [] = empty
  case_parts [] (x ∷ b) = never
  case_parts (l ∷ ls) b = then (between s.Comma n.label_range label_range (l ∷ ls)) (then (mark s.Colon) (body_in b))

  case_phrase : (c : Case) → Keeps (st.case_phrase levels body c)
  case_phrase c = case_parts (out-Case c).labels (out-Case c).body

  designator_in : (d : Designator) → Keeps (st.designator levels d)
  designator_in d = designator levels (p.inner levels) (p.inner_factor levels) (inner levels) (inner_factor levels) d

  actuals_in : (es : List Expr) → Keeps (st.actuals levels es)
  actuals_in es = actuals levels (p.inner levels) (p.inner_factor levels) (inner levels) (inner_factor levels) es

  statement_layer : (l : StatementLayer) → Keeps (st.statement_layer levels body l)
  statement_layer Statement-F.Empty = empty
  statement_layer (Statement-F.Assign d e) = then (designator_in d) (then (mark s.Becomes) (expr levels e))
  statement_layer (Statement-F.Call d None) = designator_in d
  statement_layer (Statement-F.Call d (Some es)) = then (designator_in d) (actuals_in es)
  statement_layer (Statement-F.If first others rest) =
      then (mark s.If) (then (branch s.Then first) (then (every (st.elsif levels body s.Then) (elsif s.Then) others) (then (behind_word s.Else body body_in rest) (mark s.End))))
  statement_layer (Statement-F.Case span e cases) =
      then (sign s.Case span) (then (expr levels e) (then (mark s.Of) (then (between s.Bar (st.case_phrase levels body) case_phrase cases) (mark s.End))))
  statement_layer (Statement-F.While first others) =
      then (mark s.While) (then (branch s.Do first) (then (every (st.elsif levels body s.Do) (elsif s.Do) others) (mark s.End)))
  statement_layer (Statement-F.Repeat b e) = then (mark s.Repeat) (then (body_in b) (then (mark s.Until) (expr levels e)))
  statement_layer (Statement-F.For h b) = then (mark s.For) (then (for_head levels h) (then (mark s.Do) (then (body_in b) (mark s.End))))

  statement : (x : Statement) → Keeps (st.statement levels body x)
  statement x = statement_layer (out-Statement x)

pub statements : (levels : ℕ) (ss : List Statement) → Keeps (st.statements levels ss)
statements zero ss = never
statements (suc k) ss =
    record { keeps = λ tokens rest h w. (between s.Semicolon (st.statement k (st.statements k)) (statement k (st.statements k) (statements k)) ss).keeps tokens rest h w }
