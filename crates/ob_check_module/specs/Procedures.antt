-- To be believed.
-- Procedures (Wirth, The Programming Language Oberon, Oberon-07), with those in them. They are numbered as their ends follow each
-- other: a procedure comes after those in it. The number says how many more constructs may nest.
use Rattle.std.specs.Prelude.{ℕ, zero, suc, ◌+◌, sum, List, [], ◌∷◌, ◌++◌, length, map, Option, Some, None, nat_le, if◌then◌else◌}
use Rattle.ob_check_scope.specs.declared.rule.RuleCode.TheVariants as code
use Rattle.ob_tree.specs.declared.tree.Declarations.{out-Declarations}
use Rattle.ob_tree.specs.declared.tree.Procedure.{Procedure, out-Procedure}
use Rattle.ob_tree.specs.declared.tree.Returned.{Returned}
use Rattle.ob_tree.specs.declared.tree.Statement.{Statement}
use Rattle.ob_types.specs.declared.exports.Signature.{Signature}
use Rattle.ob_types.specs.declared.structure.Basic.{Basic}
use Rattle.ob_mean.specs.declared.expression.TypedExpr.{TypedExpr}
use Rattle.ob_mean.specs.declared.module.TypedProcedure.{TypedProcedure}
use Rattle.ob_mean.specs.declared.shape.Shape.{Shape}
use Rattle.ob_mean.specs.declared.statement.TypedStatement.{TypedStatement}
use Rattle.ob_check_scope.specs.declared.block.Declared.{Declared}
use Rattle.ob_check_scope.specs.declared.block.Entry.{Entry}
use Rattle.ob_check_scope.specs.declared.block.Entry.TheVariants as entry
use Rattle.ob_check_scope.specs.declared.block.Standing.TheVariants as standing
use Rattle.ob_check_decl.specs.declared.heading.Entered.{Entered}
use Rattle.ob_check_scope.specs.declared.scope.Scope.{Scope}
use Rattle.ob_check_decl.specs.Declarations.{declarations_rule}
use Rattle.ob_check_decl.specs.Headings.{procedure_rule}
use Rattle.ob_check_scope.specs.Imports.{Modules}
use Rattle.ob_check_scope.specs.Rule.{Rule, Given, Breaks, Then, through}
use Rattle.ob_check_scope.specs.Scope.{left}
use Rattle.ob_check_expr.specs.Expressions.{value_for_at}
use Rattle.ob_check_operand.specs.Operands.{Variables}
use Rattle.ob_check_kinds.specs.Shapes.{shape_of, parameters_of}
use Rattle.ob_check_stmt.specs.Statements.{optional, statements_at}

-- the procedures in a procedure
abbrev pub procedures_in : Procedure → List Procedure
procedures_in p = (out-Declarations (out-Procedure p).declarations).procedures

-- how many procedures a procedure is, with those in it
unfoldable pub counted : ℕ → Procedure → ℕ
counted zero p = 0
counted (suc n) p = sum (map (counted n) (procedures_in p)) + 1

-- how many procedures are in it
abbrev pub nested : ℕ → Procedure → ℕ
nested n p = sum (map (counted n) (procedures_in p))

-- ---- the variables of a procedure, after so many parameters

abbrev pub own_shape : ℕ → Entry → List Shape
own_shape parameters (entry.Variable t (standing.Local i)) = if nat_le parameters i then shape_of t ∷ [] else []
own_shape parameters e = []

abbrev pub own_shapes : ℕ → List Declared → List Shape
own_shapes parameters [] = []
own_shapes parameters (d ∷ ds) = own_shape parameters d.entry ++ own_shapes parameters ds

-- ---- bodies and results

-- statements that need not be there
abbrev pub body_at : Modules → Scope → ℕ → Variables → List Statement → Rule (List TypedStatement × Variables)
body_at ms s n = optional ms s n (statements_at ms s n)

-- a function has RETURN with a value of its type, and no other procedure has it
unfoldable pub result_at : Modules → Scope → ℕ → Option Basic → Variables → Option Returned → Rule (Option TypedExpr × Variables)
result_at ms s n None variables None = Given (None, variables)
result_at ms s n None variables (Some r) = Breaks code.Parameters
result_at ms s n (Some b) variables None = Breaks code.Parameters
result_at ms s n (Some b) variables (Some r) = Then (value_for_at ms s n b variables r.value) (λ p. Given (Some p.0, p.1))

-- ---- procedures

-- the scope, the procedures that ended so far, and the module's variables so far
abbrev pub Checking : Type 0
Checking = Scope × List TypedProcedure × Variables

abbrev pub typed_procedure : Signature → Scope → List TypedStatement → Option TypedExpr → TypedProcedure
typed_procedure f s body returned = record {
  parameters = parameters_of f.formals;
  variables = own_shapes (length f.formals) s.block;
  body = body;
  result = returned;
}

-- its body and its result, in the scope after its declarations
unfoldable pub body_of : Modules → ℕ → Signature → Checking → Procedure → Rule Checking
body_of ms n f c p =
    Then (body_at ms c.0 n c.2 (out-Procedure p).body) (λ b.
    Then (result_at ms c.0 n f.result b.1 (out-Procedure p).returned) (λ r.
    Given (left c.0, c.1 ++ typed_procedure f c.0 b.0 r.0 ∷ [], r.1)))

-- the procedures in it, after its own declarations
unfoldable pub inside_of : Modules → ℕ → (Checking → Procedure → Rule Checking) → Entered → List TypedProcedure → Variables → Procedure → Rule Checking
inside_of ms n inner e done variables p =
    Then (declarations_rule ms n e.scope (out-Procedure p).declarations) (λ s.
    Then (through inner (s, done, variables) (procedures_in p)) (λ d. body_of ms n e.signature d p))

unfoldable pub procedure_of : Modules → ℕ → (Checking → Procedure → Rule Checking) → Checking → Procedure → Rule Checking
procedure_of ms n inner c p =
    Then (procedure_rule ms n (length c.1 + nested n p) c.0 p) (λ e. inside_of ms n inner e c.1 c.2 p)

-- a procedure among so many constructs that may still nest: one that nests deeper has no size
unfoldable pub procedure_at : Modules → ℕ → Checking → Procedure → Rule Checking
procedure_at ms zero c p = Breaks code.Size
procedure_at ms (suc n) c p = procedure_of ms n (procedure_at ms n) c p
