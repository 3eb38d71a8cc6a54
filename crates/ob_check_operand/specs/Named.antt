-- To be believed.
-- What names stand for.
use Rattle.std.specs.Prelude.{List, Bool}
use Rattle.ob_tree.specs.declared.tree.Selector.{Selector}
use Rattle.ob_types.specs.declared.exports.Constant.{Constant as Value}
use Rattle.ob_types.specs.declared.exports.Signature.{Signature}
use Rattle.ob_types.specs.declared.structure.ObType.{ObType}
use Rattle.ob_mean.specs.declared.expression.Callee.{Callee}
use Rattle.ob_mean.specs.declared.expression.Variable.{Variable as Numbered}
use Rattle.ob_check_scope.specs.declared.predeclared.Function.{Function as Computing}
use Rattle.ob_check_scope.specs.declared.predeclared.InputName.{InputName}
use Rattle.ob_check_scope.specs.declared.predeclared.OutputName.{OutputName}
use Rattle.ob_check_scope.specs.declared.predeclared.ProperProcedure.{ProperProcedure}
use Rattle.ob_check_operand.specs.declared.names.Named.{Named}
use Rattle.ob_check_operand.specs.declared.names.Named.TheVariants as named
use Rattle.ob_check_operand.specs.declared.names.Target.{Target}
use Rattle.ob_check_operand.specs.declared.names.Called.{Called}
use Rattle.ob_check_operand.specs.declared.names.Called.TheVariants as called

-- A name that is read: a constant, In.Done, or a variable with its type, whether a type is told of what it names, and the selectors
-- after it.
pub data Meant : Type 0 where
  Constant : Value → Meant
  InputDone : Meant
  Variable : ObType → Numbered → Bool → List Selector → Meant

-- A name that is called: a procedure with its parameters, what is declared before any module, or what In and Out export.
pub data Callable : Type 0 where
  Procedure : Signature → Callee → Callable
  Function : Computing → Callable
  Proper : ProperProcedure → Callable
  Input : InputName → Callable
  Output : OutputName → Callable

-- a variable that may be written, with its type, whether a type is told of what it names, and the selectors after it
abbrev pub Writable : Type 0
Writable = ObType × Numbered × Bool × (List Selector)

-- ---- what the code has of them

abbrev pub meant : Named → Meant
meant (named.Constant c) = Constant c.now
meant named.InputDone = InputDone
meant (named.Variable t v told behind) = Variable t.now v told behind.now

abbrev pub writable : Target → Writable
writable t = (t.of.now, t.variable, t.told, t.behind.now)

abbrev pub callable : Called → Callable
callable (called.Procedure s f) = Procedure s.now f
callable (called.Function f) = Function f
callable (called.Proper p) = Proper p
callable (called.Input i) = Input i
callable (called.Output o) = Output o
