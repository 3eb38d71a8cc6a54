-- The code of a typed tree of Oberon.
use Rattle.std.specs.Prelude.{ℕ, zero, suc, ◌+◌, ◌-◌, ℤ, pos, negsuc, Option, Some, None, List, [], ◌∷◌, ◌++◌, length, slice_get}
use Rattle.ob_mean.specs.declared.expression.Variable.{Variable}
use Rattle.ob_mean.specs.declared.expression.Variable.TheVariants as variable
use Rattle.ob_mean.specs.declared.expression.TypedExpr.{TypedExpr, Row_of-TypedExpr, end_of-TypedExpr, more_of-TypedExpr}
use Rattle.ob_mean.specs.declared.expression.TypedExpr.TheVariants as expr
use Rattle.ob_mean.specs.declared.expression.Argument.TheBlock.{Row_of-Argument, end_of-Argument, more_of-Argument, Row_of-Operation, end_of-Operation, more_of-Operation}
use Rattle.ob_mean.specs.declared.expression.Designator.{Designator, end_of-Designator, more_of-Designator}
use Rattle.ob_mean.specs.declared.expression.Designator.TheVariants as designator
use Rattle.ob_mean.specs.declared.expression.Argument.{Argument}
use Rattle.ob_mean.specs.declared.expression.Argument.TheVariants as argument
use Rattle.ob_mean.specs.declared.operator.Operator.TheVariants.{Plus, Compare}
use Rattle.ob_mean.specs.declared.operator.Relation.{Relation}
use Rattle.ob_mean.specs.declared.operator.Relation.TheVariants.{LessEqual, GreaterEqual}
use Rattle.ob_mean.specs.declared.operator.UnaryOperator.TheVariants.{Not}
use Rattle.ob_mean.specs.declared.outcome.TrapKind.TheVariants as trap
use Rattle.ob_mean.specs.declared.shape.Shape.{Shape}
use Rattle.ob_mean.specs.declared.face.Face.{Face}
use Rattle.ob_mean.specs.declared.module.Parameter.{Parameter}
use Rattle.ob_mean.specs.declared.module.Parameter.TheVariants as parameter
use Rattle.ob_mean.specs.declared.statement.Action.{Action}
use Rattle.ob_mean.specs.declared.statement.Action.TheVariants as action
use Rattle.ob_mean.specs.declared.statement.Reader.{Reader}
use Rattle.ob_mean.specs.declared.statement.Reader.TheVariants as reader
use Rattle.ob_mean.specs.declared.statement.InputCall.{InputCall}
use Rattle.ob_mean.specs.declared.statement.InputCall.TheVariants as incoming
use Rattle.ob_mean.specs.declared.statement.OutputCall.{OutputCall}
use Rattle.ob_mean.specs.declared.statement.OutputCall.TheVariants as outgoing
use Rattle.ob_mean.specs.declared.statement.LabelRange.{LabelRange}
use Rattle.ob_mean.specs.declared.statement.ForHead.{ForHead}
use Rattle.ob_mean.specs.declared.statement.TypedStatement.{TypedStatement, Row_of-TypedStatement, end_of-TypedStatement, more_of-TypedStatement}
use Rattle.ob_mean.specs.declared.statement.TypedStatement.TheBlock.{Row_of-Branch, end_of-Branch, more_of-Branch, Row_of-CaseArm, end_of-CaseArm, more_of-CaseArm}
use Rattle.ob_mean.specs.declared.statement.TypedStatement.TheVariants.{Simple, If', Case', While', Repeat', For'}
use Rattle.ob_mean.specs.Values.{Whole, Value, Cell, Named, Open, Nothing, Beside, append, count, item, before, size}
use Rattle.ob_mean.specs.Shapes.{zero_of, zeros, opening_row}
use Rattle.ob_mean.specs.WellFormed.{Object, Of, OpenOf, Names, object_of, elements_in, base_object}
use Rattle.ob_code.specs.declared.instr.Extent.{Extent}
use Rattle.ob_code.specs.declared.instr.Root.{Root}
use Rattle.ob_code.specs.declared.instr.Root.TheVariants as root
use Rattle.ob_code.specs.declared.instr.Length.{Length}
use Rattle.ob_code.specs.declared.instr.Length.TheVariants.{Elements, OfName}
use Rattle.ob_code.specs.declared.instr.Span.{Span}
use Rattle.ob_code.specs.declared.instr.Target.{Target}
use Rattle.ob_code.specs.declared.instr.Target.TheVariants as target
use Rattle.ob_code.specs.declared.instr.Instr.{Instr}
use Rattle.ob_code.specs.declared.instr.Instr.TheVariants as instr
use Rattle.ob_code.specs.declared.instr.Line.{Line}

-- an instruction before which so many operands and names lie
abbrev pub line : ℕ → ℕ → Instr → Line
line h k i = record { operands = h; names = k; instr = i }

-- ---- where objects are

-- the cells of a variable in a row of variables
abbrev pub extent_at : Value → ℕ → Extent
extent_at row x = record { from = before row x; cells = size (item row x) }

-- the parameters of a call: one that names something has no cell
abbrev pub parameter_value : Parameter → Value
parameter_value parameter.Value = Cell (pos 0)
parameter_value (parameter.Place shape) = Named Whole []
parameter_value (parameter.Open shape) = Open Whole 0
parameter_value (parameter.Extended shape) = Named Whole []

abbrev pub parameter_row : List Parameter → Value
parameter_row [] = Nothing
parameter_row (p ∷ ps) = Beside (parameter_value p) (parameter_row ps)

-- the variables of a call
abbrev pub own_row : Names → Value
own_row names = append (parameter_row names.parameters) (zeros names.own)

abbrev pub face_row : Option Face → Value
face_row None = Nothing
face_row (Some face) = zeros face.variables

abbrev pub named_one : Parameter → ℕ
named_one parameter.Value = 0
named_one (parameter.Place shape) = 1
named_one (parameter.Open shape) = 1
named_one (parameter.Extended shape) = 1

-- how many of the parameters before this one name something
abbrev pub named_before : List Parameter → ℕ → ℕ
named_before [] x = 0
named_before (p ∷ ps) zero = 0
named_before (p ∷ ps) (suc x) = named_one p + named_before ps x

abbrev pub root_of : Names → Variable → Root
root_of names (variable.OfModule x) = root.OfModule (extent_at (opening_row names.variables) x)
root_of names (variable.OfImport i x) = root.OfImport i (extent_at (face_row (slice_get names.faces i)) x)
root_of names (variable.OfProcedure x) = root.OfCall (extent_at (own_row names) x)
root_of names (variable.ByParameter x) = root.Named (named_before names.parameters x)

-- the variable that a designator begins with
abbrev pub root_in : Names → Designator → Root
root_in names (designator.Whole v) = root_of names v
root_in names (designator.Element' g (more_of-Designator d end_of-Designator) l h row) = root_in names d
root_in names (designator.Field' h (more_of-Designator d end_of-Designator) i) = root_in names d
root_in names (designator.Guarded' h (more_of-Designator d end_of-Designator) l kind levels) = root_in names d

-- ---- what objects are

abbrev pub zero_in : Option Object → Value
zero_in None = Nothing
zero_in (Some (Of shape)) = zero_of shape
zero_in (Some (OpenOf shape)) = Nothing

abbrev pub zero_element : Option Shape → Value
zero_element None = Nothing
zero_element (Some shape) = zero_of shape

-- how many cells an object has
abbrev pub cells_of : Names → Designator → ℕ
cells_of names d = size (zero_in (object_of names d))

-- the base part of one, so many levels down
abbrev pub base_cells : Names → Designator → ℕ → ℕ
base_cells names d levels = size (zero_in (base_object levels (object_of names d)))

-- and an element of an array
abbrev pub element_cells : Names → Designator → ℕ
element_cells names d = size (zero_element (elements_in (object_of names d)))

abbrev pub name_number : Root → ℕ
name_number (root.OfModule e) = 0
name_number (root.OfImport i e) = 0
name_number (root.OfCall e) = 0
name_number (root.Named x) = x

-- the number of the name that a designator begins with
abbrev pub name_in : Names → Designator → ℕ
name_in names d = name_number (root_in names d)

abbrev pub length_in : Option Object → Root → Length
length_in None r = Elements 0
length_in (Some (Of shape)) r = Elements (count (zero_of shape))
length_in (Some (OpenOf shape)) r = OfName (name_number r)

-- the length of an array
abbrev pub length_of : Names → Designator → Length
length_of names d = length_in (object_of names d) (root_in names d)

abbrev pub span_of : Names → Designator → Span
span_of names d = record { root = root_in names d; length = length_of names d }

-- ---- truth values

-- the second side only where the first is not 0, and else 0
abbrev pub and_code : ℕ → ℕ → List Line → List Line → List Line
and_code h k a b = a ++ (line (h + 1) k (instr.SkipIfZero (length b + 1)) ∷ (b ++ (line (h + 1) k (instr.Skip 1) ∷ (line h k (instr.Push (pos 0)) ∷ []))))

-- the second side only where the first is 0, and else 1
abbrev pub or_code : ℕ → ℕ → List Line → List Line → List Line
or_code h k a b = a ++ (line (h + 1) k (instr.SkipIfZero 2) ∷ (line h k (instr.Push (pos 1)) ∷ (line (h + 1) k (instr.Skip (length b)) ∷ b)))

-- ---- what is passed

abbrev pub value_one : Argument → ℕ
value_one (argument.Value e) = 1
value_one (argument.Place d) = 0
value_one (argument.Open d) = 0
value_one (argument.Typed d kind levels) = 0
value_one (argument.Again d levels) = 0

abbrev pub name_one : Argument → ℕ
name_one (argument.Value e) = 0
name_one (argument.Place d) = 1
name_one (argument.Open d) = 1
name_one (argument.Typed d kind levels) = 1
name_one (argument.Again d levels) = 1

abbrev pub row_values : {k : _} → Row_of-Argument k → ℕ
row_values end_of-Argument = 0
row_values (more_of-Argument a rest) = value_one a + row_values rest

abbrev pub row_names : {k : _} → Row_of-Argument k → ℕ
row_names end_of-Argument = 0
row_names (more_of-Argument a rest) = name_one a + row_names rest

-- ---- expressions: each leaves one operand more than lay there before it

-- the value of a variable, or of the part of one whose first cell's number this code leaves
abbrev pub read_code : Names → ℕ → ℕ → Designator → List Line → List Line
read_code names h k (designator.Whole v) offset = line h k (instr.Load (root_of names v)) ∷ []
read_code names h k (designator.Element' g (more_of-Designator d end_of-Designator) l i row) offset =
    offset ++ line (h + 1) k (instr.LoadAt (root_in names d)) ∷ []
read_code names h k (designator.Field' g (more_of-Designator d end_of-Designator) i) offset =
    offset ++ line (h + 1) k (instr.LoadAt (root_in names d)) ∷ []
read_code names h k (designator.Guarded' g (more_of-Designator d end_of-Designator) l kind levels) offset =
    offset ++ line (h + 1) k (instr.LoadAt (root_in names d)) ∷ []

-- so many cells on: no instruction where there are none, as at the base of a part and at its first field
abbrev pub added_code : ℕ → ℕ → ℕ → List Line
added_code h k zero = []
added_code h k (suc n) = line h k (instr.AddOffset (suc n)) ∷ []

-- to a field so many cells on in this record. In a variable as a whole the instruction is always there: quick code has an operation
-- for it together with the 0 before it
abbrev pub field_code : ℕ → ℕ → Designator → ℕ → List Line
field_code h k (designator.Whole v) n = line h k (instr.AddOffset n) ∷ []
field_code h k (designator.Element' g d l i row) n = added_code h k n
field_code h k (designator.Field' g d i) n = added_code h k n
field_code h k (designator.Guarded' g d l kind levels) n = added_code h k n

abbrev mutual
  pub expr_code : Names → ℕ → ℕ → TypedExpr → List Line
  expr_code names h k (expr.Constant v) = line h k (instr.Push v) ∷ []
  expr_code names h k (expr.Read d) = read_code names h k d (offset_code names h k d)
  expr_code names h k expr.InputDone = line h k instr.PushDone ∷ []
  expr_code names h k (expr.Unary' op l g (more_of-TypedExpr a end_of-TypedExpr)) = expr_code names h k a ++ line (h + 1) k (instr.Unary op l) ∷ []
  expr_code names h k (expr.Chain' g (more_of-TypedExpr a end_of-TypedExpr) n steps) = expr_code names h k a ++ operations_code names h k steps
  expr_code names h k (expr.Every' n es) = every_code names h k es
  expr_code names h k (expr.Either' n es) = either_code names h k es
  expr_code names h k (expr.Texts relation a b) =
      offset_code names h k a ++ (offset_code names (h + 1) k b ++ line (h + 2) k (instr.RelateTexts relation (span_of names a) (span_of names b)) ∷ [])
  expr_code names h k (expr.Length d) = offset_code names h k d ++ line (h + 1) k (instr.TakeLength (length_of names d)) ∷ []
  expr_code names h k (expr.Function' f l n args) =
      arguments_code names h k args ++ line (h + row_values args) (k + row_names args) (instr.Invoke f l) ∷ []
  expr_code names h k (expr.Test d type) = offset_code names h k d ++ line (h + 1) k (instr.Test (name_in names d) type) ∷ []

  -- the number of a place's first cell in its variable
  pub offset_code : Names → ℕ → ℕ → Designator → List Line
  offset_code names h k (designator.Whole v) = line h k (instr.Push (pos 0)) ∷ []
  offset_code names h k (designator.Element' g (more_of-Designator d end_of-Designator) l i (more_of-TypedExpr e end_of-TypedExpr)) =
      offset_code names h k d ++ (expr_code names (h + 1) k e ++ line (h + 2) k (instr.Index (length_of names d) (element_cells names d) l) ∷ [])
  offset_code names h k (designator.Field' g (more_of-Designator d end_of-Designator) i) =
      offset_code names h k d ++ field_code (h + 1) k d (before (zero_in (object_of names d)) i)
  -- a record and its base part begin at one cell
  offset_code names h k (designator.Guarded' g (more_of-Designator d end_of-Designator) l kind levels) =
      offset_code names h k d ++ line (h + 1) k (instr.Guard (name_in names d) kind.names trap.Guard l) ∷ []

  pub operations_code : Names → ℕ → ℕ → {n : _} → Row_of-Operation n → List Line
  operations_code names h k end_of-Operation = []
  operations_code names h k (more_of-Operation op l e rest) =
      expr_code names (h + 1) k e ++ (line (h + 2) k (instr.Operate op l) ∷ operations_code names h k rest)

  pub every_code : Names → ℕ → ℕ → {n : _} → Row_of-TypedExpr n → List Line
  every_code names h k end_of-TypedExpr = line h k (instr.Push (pos 1)) ∷ []
  every_code names h k (more_of-TypedExpr e rest) = and_code h k (expr_code names h k e) (every_code names h k rest)

  pub either_code : Names → ℕ → ℕ → {n : _} → Row_of-TypedExpr n → List Line
  either_code names h k end_of-TypedExpr = line h k (instr.Push (pos 0)) ∷ []
  either_code names h k (more_of-TypedExpr e rest) = or_code h k (expr_code names h k e) (either_code names h k rest)

  pub argument_code : Names → ℕ → ℕ → Argument → List Line
  argument_code names h k (argument.Value e) = expr_code names h k e
  argument_code names h k (argument.Place d) = offset_code names h k d ++ line (h + 1) k (instr.NamePlace (root_in names d) (cells_of names d)) ∷ []
  argument_code names h k (argument.Open d) =
      offset_code names h k d ++ line (h + 1) k (instr.NameArray (root_in names d) (length_of names d) (element_cells names d)) ∷ []
  argument_code names h k (argument.Typed d kind levels) =
      offset_code names h k d ++ line (h + 1) k (instr.NameRecord (root_in names d) kind.names (base_cells names d levels)) ∷ []
  argument_code names h k (argument.Again d levels) =
      offset_code names h k d ++ line (h + 1) k (instr.NameAgain (name_in names d) (base_cells names d levels)) ∷ []

  pub arguments_code : Names → ℕ → ℕ → {n : _} → Row_of-Argument n → List Line
  arguments_code names h k end_of-Argument = []
  arguments_code names h k (more_of-Argument a rest) = argument_code names h k a ++ arguments_code names (h + value_one a) (k + name_one a) rest

abbrev pub list_values : List Argument → ℕ
list_values [] = 0
list_values (a ∷ rest) = value_one a + list_values rest

abbrev pub list_names : List Argument → ℕ
list_names [] = 0
list_names (a ∷ rest) = name_one a + list_names rest

abbrev pub passed_code : Names → ℕ → ℕ → List Argument → List Line
passed_code names h k [] = []
passed_code names h k (a ∷ rest) = argument_code names h k a ++ passed_code names (h + value_one a) (k + name_one a) rest

-- ---- statements: each begins and ends with nothing on the stack

abbrev pub at_place : Names → Designator → List Line → List Line
at_place names d rest = offset_code names 0 0 d ++ rest

abbrev pub target_of : Names → Reader → Designator → Target
target_of names reader.Char d = target.Char (root_in names d)
target_of names reader.Int d = target.Int (root_in names d)
target_of names reader.String d = target.String (span_of names d)
target_of names reader.Name d = target.Name (span_of names d)

abbrev pub input_code : Names → InputCall → List Line
input_code names incoming.Open = line 0 0 instr.OpenInput ∷ []
input_code names (incoming.Read reader d) =
    at_place names d (line 1 0 instr.CallInput ∷ (line 1 0 (instr.Read (target_of names reader d)) ∷ (line 1 0 instr.AskLine ∷ (line 1 0 instr.TakeLine ∷ []))))

abbrev pub output_code : Names → OutputCall → List Line
output_code names outgoing.Open = line 0 0 instr.OpenOutput ∷ []
output_code names (outgoing.Char e) = expr_code names 0 0 e ++ line 1 0 instr.PutChar ∷ []
output_code names (outgoing.String d) = at_place names d (line 1 0 (instr.PutText (span_of names d)) ∷ [])
output_code names (outgoing.Int e width) = expr_code names 0 0 e ++ (expr_code names 1 0 width ++ line 2 0 instr.PutInt ∷ [])
output_code names outgoing.Ln = line 0 0 instr.PutLine ∷ []

abbrev pub assign_code : Names → Designator → TypedExpr → List Line
assign_code names (designator.Whole v) e = expr_code names 0 0 e ++ line 1 0 (instr.Store (root_of names v)) ∷ []
assign_code names (designator.Element' g d l i row) e =
    at_place names (designator.Element' g d l i row) (expr_code names 1 0 e ++ line 2 0 (instr.StoreAt (root_in names (designator.Element' g d l i row))) ∷ [])
assign_code names (designator.Field' g d i) e =
    at_place names (designator.Field' g d i) (expr_code names 1 0 e ++ line 2 0 (instr.StoreAt (root_in names (designator.Field' g d i))) ∷ [])
assign_code names (designator.Guarded' g d l kind levels) e =
    at_place names (designator.Guarded' g d l kind levels) (expr_code names 1 0 e ++ line 2 0 (instr.StoreAt (root_in names (designator.Guarded' g d l kind levels))) ∷ [])

abbrev pub action_code : Names → Action → List Line
action_code names (action.Assign d e) = assign_code names d e
action_code names (action.Copy d e) =
    at_place names d (offset_code names 1 0 e ++ line 2 0 (instr.Copy (root_in names d) (root_in names e) (cells_of names d)) ∷ [])
action_code names (action.AssignText d l text) = at_place names d (line 1 0 (instr.StoreText (span_of names d) text l) ∷ [])
action_code names (action.Adjust a d e) = at_place names d (expr_code names 1 0 e ++ line 2 0 (instr.AdjustAt a (root_in names d)) ∷ [])
action_code names (action.Assert l e) = expr_code names 0 0 e ++ line 1 0 (instr.Assert l) ∷ []
action_code names (action.Call f l args) = passed_code names 0 0 args ++ line (list_values args) (list_names args) (instr.Invoke f l) ∷ []
action_code names (action.Input call) = input_code names call
action_code names (action.Output call) = output_code names call

-- code under a guard
pub record Guarded : Type 0 where
  pub guard : List Line
  pub body : List Line

-- the first body whose guard holds, or the rest
abbrev pub first_code : List Guarded → List Line → List Line
first_code [] rest = rest
first_code (b ∷ bs) rest =
    b.guard ++ (line 1 0 (instr.SkipIfZero (length b.body + 1)) ∷ (b.body ++ (line 0 0 (instr.Skip (length (first_code bs rest))) ∷ first_code bs rest)))

-- the bodies of a loop, each of which leads to the guards after them all
abbrev pub bodies_code : List Guarded → List Line
bodies_code [] = []
bodies_code (b ∷ bs) = b.body ++ (line 0 0 (instr.Skip (length (bodies_code bs))) ∷ bodies_code bs)

-- the guards, the first of which begins so far after the first body
abbrev pub guards_code : ℕ → List Guarded → List Line
guards_code far [] = []
guards_code far (b ∷ bs) = b.guard ++ (line 1 0 (instr.EnterBack (far + length b.guard)) ∷ guards_code (far + length b.guard - length b.body) bs)

-- a jump to the guards, the bodies, and the guards
abbrev pub loop_code : List Guarded → List Line
loop_code bs = line 0 0 (instr.Skip (length (bodies_code bs))) ∷ (bodies_code bs ++ guards_code (length (bodies_code bs)) bs)

abbrev pub repeat_code : List Line → List Line → List Line
repeat_code body until =
    line 0 0 instr.Enter ∷ (body ++ (until ++ (line 1 0 (instr.Unary Not 0) ∷ (line 1 0 (instr.EnterBack (length body + length until + 1)) ∷ []))))

-- v <= last, or >= for a step down
abbrev pub for_relation : ℤ → Relation
for_relation (pos n) = LessEqual
for_relation (negsuc n) = GreaterEqual

abbrev pub for_guard : Names → ForHead → List Line
for_guard names head =
    line 0 0 (instr.Load (root_of names head.variable)) ∷ (expr_code names 1 0 head.last ++ line 2 0 (instr.Operate (Compare (for_relation head.step)) 0) ∷ [])

abbrev pub for_step : Names → ForHead → List Line
for_step names head =
    line 0 0 (instr.Load (root_of names head.variable)) ∷ (line 1 0 (instr.Push head.step) ∷ (line 2 0 (instr.Operate Plus 0) ∷ (line 1 0 (instr.Store (root_of names head.variable)) ∷ [])))

abbrev pub for_code : Names → ForHead → List Line → List Line
for_code names head body =
    expr_code names 0 0 head.first ++ (line 1 0 (instr.Store (root_of names head.variable)) ∷
    loop_code (record { guard = for_guard names head; body = body ++ for_step names head } ∷ []))

abbrev pub labels_code : List LabelRange → List Line
labels_code [] = []
labels_code (r ∷ rs) = line 1 0 (instr.SkipIfWithin r.first r.last (length rs + 1)) ∷ labels_code rs

-- tests of the labels, a jump past the arm, the arm, and the rest
abbrev pub arm_code : List LabelRange → List Line → List Line → List Line
arm_code labels body rest =
    labels_code labels ++ (line 1 0 (instr.Skip (length body + 2)) ∷ (line 1 0 instr.Drop ∷ (body ++ (line 0 0 (instr.Skip (length rest)) ∷ rest))))

abbrev mutual
  pub stat_code : Names → TypedStatement → List Line
  stat_code names (Simple action) = action_code names action
  stat_code names (If' k bs m rest) = first_code (branches names bs) (stats_code names rest)
  stat_code names (Case' l e k arms) = expr_code names 0 0 e ++ arms_code names l arms
  stat_code names (While' k bs) = loop_code (branches names bs)
  stat_code names (Repeat' k body e) = repeat_code (stats_code names body) (expr_code names 0 0 e)
  stat_code names (For' head k body) = for_code names head (stats_code names body)

  pub stats_code : Names → {k : _} → Row_of-TypedStatement k → List Line
  stats_code names end_of-TypedStatement = []
  stats_code names (more_of-TypedStatement s rest) = stat_code names s ++ stats_code names rest

  pub branches : Names → {k : _} → Row_of-Branch k → List Guarded
  branches names end_of-Branch = []
  branches names (more_of-Branch e k body rest) = record { guard = expr_code names 0 0 e; body = stats_code names body } ∷ branches names rest

  pub arms_code : Names → ℕ → {k : _} → Row_of-CaseArm k → List Line
  arms_code names l end_of-CaseArm = line 1 0 (instr.Trap trap.Label l) ∷ []
  arms_code names l (more_of-CaseArm labels k body rest) = arm_code labels (stats_code names body) (arms_code names l rest)

abbrev pub list_code : Names → List TypedStatement → List Line
list_code names [] = []
list_code names (s ∷ rest) = stat_code names s ++ list_code names rest

-- ---- procedures

abbrev pub result_code : Names → Option TypedExpr → List Line
result_code names None = []
result_code names (Some e) = expr_code names 0 0 e

abbrev pub procedure_code : Names → List TypedStatement → Option TypedExpr → List Line
procedure_code names body result = list_code names body ++ result_code names result
