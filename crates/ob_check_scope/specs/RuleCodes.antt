-- To be believed.
-- The codes of the static rules, among those of all that can be wrong with a text.
use Rattle.ob_base.specs.declared.fault.Code.{Code}
use Rattle.ob_base.specs.declared.fault.Code.TheVariants as code
use Rattle.ob_check_scope.specs.declared.rule.RuleCode.{RuleCode}
use Rattle.ob_check_scope.specs.declared.rule.RuleCode.TheVariants as rule

abbrev pub code_of : RuleCode → Code
code_of rule.UnknownName = code.UnknownName
code_of rule.DeclaredTwice = code.DeclaredTwice
code_of rule.Types = code.Types
code_of rule.ReadOnly = code.ReadOnly
code_of rule.Parameters = code.Parameters
code_of rule.NotConstant = code.NotConstant
code_of rule.NotLoaded = code.NotLoaded
code_of rule.ImportsItself = code.ImportsItself
code_of rule.NotExported = code.NotExported
code_of rule.Label = code.Label
code_of rule.Size = code.Size
code_of rule.LeftOut = code.LeftOut
