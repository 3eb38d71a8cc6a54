-- Each reader of declarations and procedures is exact for its production.
use Rattle.std.proofs.Common.{◌≡◌, ℕ, zero, suc, List, length, Option, Some, None, Ok, refl, sym, ap, subst, arith}
use Rattle.ob_base.specs.declared.fault.Code.TheVariants as codes
use Rattle.ob_scan.specs.declared.token.Symbol.TheVariants as s
use Rattle.ob_scan.specs.declared.token.Token.{Token}
use Rattle.ob_tree.specs.declared.tree.Declarations.{Declarations, out-Declarations, roll-Declarations, out-roll-Declarations, roll-out-Declarations}
use Rattle.ob_tree.specs.declared.tree.Procedure.{Procedure, out-Procedure, roll-Procedure, out-roll-Procedure, roll-out-Procedure}
use Rattle.ob_tree.specs.declared.tree.Declarations.TheOpen.{Declarations-F, Procedure-F}
use Rattle.ob_tree.specs.Phrase.{Phrase, ◌⨾◌, symbol_at, symbol, each, maybe, optional, opens}
use Rattle.ob_tree.specs.Name.{ident_def}
use Rattle.ob_tree.specs.Statement.{statements}
use Rattle.ob_tree.specs.Declaration as p
use Rattle.ob_parse_expression.specs.Reading.{Reader, eat}
use Rattle.ob_parse.specs.DeclarationReading as r
use Rattle.ob_parse_expression.proofs.Exact.{Exact, Anything, OrAbsent, IsAbsent, Repeats, exact_seq, exact_pure, exact_as, exact_maybe_as, exact_many, each_follows, exact_made, exact_where_some, absent_where, before_made, exact_refuse}
use Rattle.ob_parse_expression.proofs.OneToken.{exact_expect, exact_eat, exact_opens, closes_by}
use Rattle.ob_parse.proofs.Optional.{optional_begins}
use Rattle.ob_parse.proofs.Sections.{Later, later_at, later_by, absent_later}
use Rattle.ob_parse_expression.proofs.Expressions.{pred_of, some_levels}
use Rattle.ob_parse_expression.proofs.Names.{exact_ident_def}
use Rattle.ob_parse.proofs.Declarations.{exact_formals, formals_follow, heading_follows, exact_constants, exact_types, exact_vars, exact_body, exact_returned, returned_follows, body_follows, exact_name}

abbrev DeclarationsLayer : Type 0
DeclarationsLayer = Declarations-F Declarations Procedure

abbrev ProcedureLayer : Type 0
ProcedureLayer = Procedure-F Declarations Procedure

module _ (levels : ℕ) (P : Procedure → Phrase) (R : Reader Procedure) (exact_inner : Exact P R Anything) where
  abbrev part : Procedure → Phrase
  part x = opens levels ⨾ P x ⨾ symbol s.Semicolon

  exact_part : Exact part (r.procedure_part levels R) Anything
  unfolding r.procedure_part
  exact_part = exact_as
      (exact_seq (exact_opens levels) (λ n. exact_seq exact_inner (λ x. exact_seq (exact_expect s.Semicolon) (λ a. exact_pure x) (λ a c middle rest h g. tt)) (λ x c middle rest h g. tt)) (λ n c middle rest h g. tt))
      (λ x tokens rest h.
      let b = h.3.3 in
      (h.1, (some_levels levels h.0 h.2.0, h.2.1), (h.3.1, subst (λ y. P y h.1 h.3.1) (sym b.3.0) h.3.2, (b.0, subst (λ z. symbol_at s.Semicolon b.0 h.3.1 z) b.3.1 b.2))))
      (λ x tokens rest h. let n = pred_of levels h.1.0 in (n.0, h.0, (n.1, h.1.1), (x, h.2.0, h.2.1, (h.2.2.0, rest, h.2.2.1, (refl, refl)))))

  abbrev one : Procedure → Phrase
  one = p.procedure_part levels P

  exact_next : Exact (maybe one) (r.next_procedure levels R) (OrAbsent (r.next_procedure levels R) Anything)
  unfolding r.next_procedure
  exact_next = exact_maybe_as (exact_where_some (exact_eat s.Procedure) (λ a. exact_part)) (λ x tokens rest h. (h.1, (h.0, h.2), h.3)) (λ x tokens rest h. (h.1.0, h.0, h.1.1, h.2))

  absent_next : (tokens : List Token) → Later 6 tokens → IsAbsent (r.next_procedure levels R) tokens
  unfolding r.next_procedure
  absent_next tokens e = absent_where (eat s.Procedure) (λ _. r.procedure_part levels R) tokens (absent_later s.Procedure 6 tokens (omega arith) e)

  -- what stands before a procedure
  abbrev Inside : List Token → Type 0
  Inside = Later 5

  exact_next_inside : Exact (maybe one) (r.next_procedure levels R) (OrAbsent (r.next_procedure levels R) (λ x. Inside))
  exact_next_inside = record { sound = exact_next.sound; complete = next_complete; shorter = exact_next.shorter }
    where
      next_complete : (x : Option Procedure) (tokens rest : List Token) → maybe one x tokens rest → OrAbsent (r.next_procedure levels R) (λ y. Inside) x rest → r.next_procedure levels R tokens ≡ Ok (x, rest)
      next_complete None tokens rest h g = exact_next.complete None tokens rest h g
      next_complete (Some x) tokens rest h g = exact_next.complete (Some x) tokens rest h tt

  procedures : Repeats one (r.next_procedure levels R) Inside (Later 6)
  procedures = record {
    exact = exact_next_inside;
    begins = λ x tokens rest h. later_by 5 s.Procedure h.1.0 tokens h.0 h.1.1 (omega arith);
    takes = λ x tokens rest h. omega (arith, ap length h.1.1, exact_part.shorter x h.0 rest h.2);
    absent = absent_next;
    inside = λ tokens e. later_at 6 5 tokens e (omega arith);
  }

  abbrev block : DeclarationsLayer → Phrase
  block l = optional s.Const (each (p.const_declaration levels)) l.constants ⨾ optional s.Type (each (p.type_declaration levels)) l.types ⨾ optional s.Var (each (p.variables levels)) l.variables ⨾ each one l.procedures

  exact_declarations_of : Exact (p.declarations_phrase levels P) (r.declarations_of levels R) (λ d. Later 6)
  unfolding r.declarations_of
  exact_declarations_of = exact_as
      (exact_seq (exact_constants levels) (λ cs. exact_seq (exact_types levels) (λ ts. exact_seq (exact_vars levels) (λ vs. exact_seq (exact_many procedures) (λ ps. exact_made out-Declarations roll-Declarations out-roll-Declarations roll-out-Declarations (record { constants = cs; types = ts; variables = vs; procedures = ps }))
      (λ ps c middle rest h g. before_made (Later 6) out-Declarations (record { constants = cs; types = ts; variables = vs; procedures = ps }) c middle rest h g))
      (λ vs c middle rest h g. each_follows procedures h.0 middle h.1 h.2 (before_made (Later 6) out-Declarations (record { constants = cs; types = ts; variables = vs; procedures = h.0 }) c h.1 rest h.3 g)))
      (λ ts c middle rest h g. optional_begins s.Var (each (p.variables levels)) (Later 4) (Later 5) (λ span tokens rest k. later_by 4 s.Var span tokens rest k (omega arith)) (λ tokens e. later_at 5 4 tokens e (omega arith)) h.0 middle h.1 h.2
      (each_follows procedures h.3.0 h.1 h.3.1 h.3.2 (before_made (Later 6) out-Declarations (record { constants = cs; types = ts; variables = h.0; procedures = h.3.0 }) c h.3.1 rest h.3.3 g))))
      (λ cs c middle rest h g. optional_begins s.Type (each (p.type_declaration levels)) (Later 3) (Later 4) (λ span tokens rest k. later_by 3 s.Type span tokens rest k (omega arith)) (λ tokens e. later_at 4 3 tokens e (omega arith)) h.0 middle h.1 h.2
      (optional_begins s.Var (each (p.variables levels)) (Later 4) (Later 5) (λ span tokens rest k. later_by 4 s.Var span tokens rest k (omega arith)) (λ tokens e. later_at 5 4 tokens e (omega arith)) h.3.0 h.1 h.3.1 h.3.2
      (each_follows procedures h.3.3.0 h.3.1 h.3.3.1 h.3.3.2 (before_made (Later 6) out-Declarations (record { constants = cs; types = h.0; variables = h.3.0; procedures = h.3.3.0 }) c h.3.3.1 rest h.3.3.3 g)))))
      (λ d tokens rest h.
      let b = h.3.3.3 in
      subst (λ (l : DeclarationsLayer). block l tokens rest) (sym b.3.0) (h.1, h.2, (h.3.1, h.3.2, (h.3.3.1, h.3.3.2, subst (λ z. each one b.0 h.3.3.1 z) b.3.1 b.2))))
      (λ d tokens rest h. ((out-Declarations d).constants, h.0, h.1, ((out-Declarations d).types, h.2.0, h.2.1, ((out-Declarations d).variables, h.2.2.0, h.2.2.1, ((out-Declarations d).procedures, rest, h.2.2.2, (refl, refl))))))

  -- what stands before declarations
  pub before_declarations : (d : Declarations) (tokens rest : List Token) → p.declarations_phrase levels P d tokens rest → Later 6 rest → Later 2 tokens
  before_declarations d tokens rest h g =
      let l = out-Declarations d in
      let procs : Later 5 h.2.2.0 = each_follows procedures l.procedures h.2.2.0 rest h.2.2.2 g in
      let vars : Later 4 h.2.0 = optional_begins s.Var (each (p.variables levels)) (Later 4) (Later 5) (λ span tokens rest k. later_by 4 s.Var span tokens rest k (omega arith)) (λ tokens e. later_at 5 4 tokens e (omega arith)) l.variables h.2.0 h.2.2.0 h.2.2.1 procs in
      let types : Later 3 h.0 = optional_begins s.Type (each (p.type_declaration levels)) (Later 3) (Later 4) (λ span tokens rest k. later_by 3 s.Type span tokens rest k (omega arith)) (λ tokens e. later_at 4 3 tokens e (omega arith)) l.types h.0 h.2.0 h.2.1 vars in
      optional_begins s.Const (each (p.const_declaration levels)) (Later 2) (Later 3) (λ span tokens rest k. later_by 2 s.Const span tokens rest k (omega arith)) (λ tokens e. later_at 3 2 tokens e (omega arith)) l.constants tokens h.0 h.1 types

  pub exact_declarations_in : Exact (p.declarations_phrase levels P) (r.declarations_of levels R) (λ d. Later 6)
  exact_declarations_in = exact_declarations_of

  abbrev whole : ProcedureLayer → Phrase
  whole l = ident_def l.name ⨾ maybe (p.formals levels) l.formals ⨾ symbol s.Semicolon ⨾ p.declarations_phrase levels P l.declarations ⨾ optional s.Begin (statements levels) l.body
      ⨾ maybe (p.returned levels) l.returned ⨾ symbol s.End ⨾ p.name_again l.name.name.name

  pub exact_procedure : Exact (p.procedure_phrase levels P) (r.procedure_of levels R) Anything
  unfolding r.procedure_of
  exact_procedure = exact_as
      (exact_seq exact_ident_def (λ name. exact_seq (exact_formals levels) (λ f. exact_seq (exact_expect s.Semicolon) (λ a. exact_seq exact_declarations_of (λ d. exact_seq (exact_body levels) (λ b. exact_seq (exact_returned levels) (λ v. exact_seq (exact_expect s.End) (λ e. exact_seq (exact_name name.name.name) (λ u. exact_made out-Procedure roll-Procedure out-roll-Procedure roll-out-Procedure (record { name = name; formals = f; declarations = d; body = b; returned = v }))
      (λ u c middle rest h g. tt)) (λ e c middle rest h g. tt))
      (λ v c middle rest h g. returned_follows levels v middle (later_by 8 s.End h.0 middle h.1 h.2 (omega arith))))
      (λ b c middle rest h g. body_follows levels h.0 middle h.1 h.2 (later_by 8 s.End h.3.0 h.1 h.3.1 h.3.2 (omega arith))))
      (λ d c middle rest h g. optional_begins s.Begin (statements levels) (Later 6) (Later 7) (λ span tokens rest k. later_by 6 s.Begin span tokens rest k (omega arith)) (λ tokens k. later_at 7 6 tokens k (omega arith)) h.0 middle h.1 h.2 (body_follows levels h.3.0 h.1 h.3.1 h.3.2 (later_by 8 s.End h.3.3.0 h.3.1 h.3.3.1 h.3.3.2 (omega arith)))))
      (λ a c middle rest h g. tt))
      (λ f c middle rest h g. formals_follow levels f middle (closes_by 1 s.Semicolon h.0 middle h.1 h.2 (omega arith))))
      (λ name c middle rest h g. heading_follows levels h.0 middle h.1 h.2 (closes_by 1 s.Semicolon h.3.0 h.1 h.3.1 h.3.2 (omega arith))))
      (λ x tokens rest h.
      let a = h.3.3.3 in
      let b = a.3.3.3 in
      let again : p.name_again h.0.name.name b.1 rest = subst (λ z. p.name_again h.0.name.name b.1 z) b.3.3.1 b.3.2 in
      subst (λ (l : ProcedureLayer). whole l tokens rest) (sym b.3.3.0)
      (h.1, h.2, (h.3.1, h.3.2, (h.3.3.1, (h.3.3.0, h.3.3.2), (a.1, a.2, (a.3.1, a.3.2, (a.3.3.1, a.3.3.2, (b.1, (b.0, b.2), again))))))))
      (λ x tokens rest h.
      let l = out-Procedure x in
      let a = h.2.2.2 in
      (l.name, h.0, h.1, (l.formals, h.2.0, h.2.1, (h.2.2.1.0, h.2.2.0, h.2.2.1.1, (l.declarations, a.0, a.1, (l.body, a.2.0, a.2.1, (l.returned, a.2.2.0, a.2.2.1, (a.2.2.2.1.0, a.2.2.2.0, a.2.2.2.1.1, (tt, rest, a.2.2.2.2, (refl, refl))))))))))

exact_inner_procedure : (n : ℕ) → Exact (p.inner_procedure n) (r.inner_procedure n) Anything
exact_inner_procedure zero = exact_refuse codes.Nesting
exact_inner_procedure (suc n) = exact_procedure n (p.inner_procedure n) (r.inner_procedure n) (exact_inner_procedure n)

pub exact_declarations : (levels : ℕ) → Exact (p.declarations levels) (r.declarations levels) (λ d. Later 6)
exact_declarations levels = exact_declarations_in levels (p.inner_procedure levels) (r.inner_procedure levels) (exact_inner_procedure levels)

pub declarations_begin : (levels : ℕ) (d : Declarations) (tokens rest : List Token) → p.declarations levels d tokens rest → Later 6 rest → Later 2 tokens
declarations_begin levels d tokens rest h g = before_declarations levels (p.inner_procedure levels) (r.inner_procedure levels) (exact_inner_procedure levels) d tokens rest h g
