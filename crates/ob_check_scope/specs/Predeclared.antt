-- To be believed.
-- The names that are declared before any module (Wirth, The Programming Language Oberon, Oberon-07), those that this
-- language leaves out, and the names in In and Out (the Oakwood Guidelines).
use Rattle.std.specs.Prelude.{ℕ, List, Bool, true, false, ◌||◌, Option, Some, None, codes, if◌then◌else◌}
use Rattle.std.specs.Str.{bytes_eq}
use Rattle.ob_check_scope.specs.declared.rule.RuleCode.{RuleCode}
use Rattle.ob_check_scope.specs.declared.rule.RuleCode.TheVariants as code
use Rattle.ob_types.specs.declared.structure.Basic.{Basic}
use Rattle.ob_types.specs.declared.structure.Basic.TheVariants as basic
use Rattle.ob_check_scope.specs.declared.predeclared.Function.{Function}
use Rattle.ob_check_scope.specs.declared.predeclared.Function.TheVariants as function
use Rattle.ob_check_scope.specs.declared.predeclared.ProperProcedure.{ProperProcedure}
use Rattle.ob_check_scope.specs.declared.predeclared.ProperProcedure.TheVariants as procedure
use Rattle.ob_check_scope.specs.declared.predeclared.Predeclared.{Predeclared}
use Rattle.ob_check_scope.specs.declared.predeclared.Predeclared.TheVariants as predeclared
use Rattle.ob_check_scope.specs.declared.predeclared.InputName.{InputName}
use Rattle.ob_check_scope.specs.declared.predeclared.InputName.TheVariants as input
use Rattle.ob_check_scope.specs.declared.predeclared.OutputName.{OutputName}
use Rattle.ob_check_scope.specs.declared.predeclared.OutputName.TheVariants as output

abbrev pub basic_named : List ℕ → Option Basic
basic_named name =
    if bytes_eq name (codes "INTEGER") then Some basic.Integer
    else (if bytes_eq name (codes "BOOLEAN") then Some basic.Boolean
    else (if bytes_eq name (codes "CHAR") then Some basic.Char
    else (if bytes_eq name (codes "BYTE") then Some basic.Byte else None)))

abbrev pub shift_named : List ℕ → Option Function
shift_named name =
    if bytes_eq name (codes "LSL") then Some function.Lsl
    else (if bytes_eq name (codes "ASR") then Some function.Asr
    else (if bytes_eq name (codes "ROR") then Some function.Ror else None))

abbrev pub function_named : List ℕ → Option Function
function_named name =
    if bytes_eq name (codes "ABS") then Some function.Abs
    else (if bytes_eq name (codes "ODD") then Some function.Odd
    else (if bytes_eq name (codes "ORD") then Some function.Ord
    else (if bytes_eq name (codes "CHR") then Some function.Chr
    else (if bytes_eq name (codes "LEN") then Some function.Len else shift_named name))))

abbrev pub procedure_named : List ℕ → Option ProperProcedure
procedure_named name =
    if bytes_eq name (codes "INC") then Some procedure.Inc
    else (if bytes_eq name (codes "DEC") then Some procedure.Dec
    else (if bytes_eq name (codes "ASSERT") then Some procedure.Assert else None))

abbrev pub is_left_out_type : List ℕ → Bool
is_left_out_type name = bytes_eq name (codes "REAL") || bytes_eq name (codes "SET")

abbrev pub is_left_out_function : List ℕ → Bool
is_left_out_function name = bytes_eq name (codes "FLOOR") || bytes_eq name (codes "FLT") || bytes_eq name (codes "NEW")

abbrev pub is_left_out_procedure : List ℕ → Bool
is_left_out_procedure name =
    bytes_eq name (codes "INCL") || bytes_eq name (codes "EXCL") || bytes_eq name (codes "PACK") || bytes_eq name (codes "UNPK")

abbrev pub is_left_out : List ℕ → Bool
is_left_out name = is_left_out_type name || is_left_out_function name || is_left_out_procedure name

-- ---- what a name is before any module

abbrev pub left_out : Bool → Predeclared
left_out true = predeclared.LeftOut
left_out false = predeclared.Unknown

abbrev pub predeclared_of : Option Basic → Option Function → Option ProperProcedure → Bool → Predeclared
predeclared_of (Some b) f p l = predeclared.Basic b
predeclared_of None (Some f) p l = predeclared.Function f
predeclared_of None None (Some p) l = predeclared.Procedure p
predeclared_of None None None l = left_out l

unfoldable pub predeclared_named : List ℕ → Predeclared
predeclared_named name = predeclared_of (basic_named name) (function_named name) (procedure_named name) (is_left_out name)

-- what is broken where nothing declares a name that has to stand for a value, or for a type
abbrev pub absent : Predeclared → RuleCode
absent predeclared.LeftOut = code.LeftOut
absent predeclared.Unknown = code.UnknownName
absent (predeclared.Basic b) = code.Types
absent (predeclared.Function f) = code.Types
absent (predeclared.Procedure p) = code.Types

-- ---- what In and Out export: no constants, no types, and one variable

unfoldable pub input_named : List ℕ → InputName
input_named name =
    if bytes_eq name (codes "Open") then input.Open
    else (if bytes_eq name (codes "Char") then input.Char
    else (if bytes_eq name (codes "Int") then input.Int
    else (if bytes_eq name (codes "String") then input.String
    else (if bytes_eq name (codes "Name") then input.Name
    else (if bytes_eq name (codes "Done") then input.Done else input.Unknown)))))

unfoldable pub output_named : List ℕ → OutputName
output_named name =
    if bytes_eq name (codes "Open") then output.Open
    else (if bytes_eq name (codes "Char") then output.Char
    else (if bytes_eq name (codes "String") then output.String
    else (if bytes_eq name (codes "Int") then output.Int
    else (if bytes_eq name (codes "Ln") then output.Ln else output.Unknown))))

-- whether a name is one of theirs
abbrev pub is_input : InputName → Bool
is_input input.Unknown = false
is_input _ = true

abbrev pub is_output : OutputName → Bool
is_output output.Unknown = false
is_output _ = true
