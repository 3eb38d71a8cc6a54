-- To be believed.
-- The numbers of codes.
use Rattle.std.specs.Prelude.{ℕ}
use Rattle.ob_base.specs.declared.fault.Code.{Code}
use Rattle.ob_base.specs.declared.fault.Code.TheVariants as code

-- the number by which a code is named
abbrev pub code_number : Code → ℕ
code_number code.Character = 1
code_number code.Comment = 2
code_number code.String = 3
code_number code.Number = 4
code_number code.Token = 5
code_number code.Nesting = 6
code_number code.EndName = 7
code_number code.UnknownName = 10
code_number code.DeclaredTwice = 11
code_number code.Types = 12
code_number code.ReadOnly = 13
code_number code.Parameters = 14
code_number code.NotConstant = 15
code_number code.NotLoaded = 16
code_number code.ImportsItself = 17
code_number code.NotExported = 18
code_number code.Label = 19
code_number code.Size = 20
code_number code.LeftOut = 21
