-- What a checker answers, by the rules: a tree, or a refusal with a code of the static rules, 10 to 21, or for lack of memory.
use Rattle.std.specs.Prelude.{◌≡◌, Bool, true, false, Result, Ok, Err}
use Rattle.ob_base.specs.declared.fault.Code.{Code}
use Rattle.ob_base.specs.declared.fault.Code.TheVariants as code
use Rattle.ob_base.specs.declared.fault.Refused.{Refused}
use Rattle.ob_base.specs.declared.fault.Refused.TheVariants as refused
use Rattle.ob_check_scope.specs.declared.rejected.Rejected.{Rejected}
use Rattle.ob_check_scope.specs.declared.rule.RuleCode.{RuleCode}
use Rattle.ob_check_scope.specs.Rule.{Rule, gives, breaks_code}
use Rattle.ob_check_scope.specs.RuleCodes.{code_of}
use Rattle.ob_check_scope.specs.Told.{told}

-- the tree that the rules give is the answer, unless memory runs out
abbrev pub AnswersTree : {A : Type 0} → A → Result A Refused → Type 0
AnswersTree tree (Ok a) = a ≡ tree
AnswersTree tree (Err refused.Memory) = Unit {0}
AnswersTree tree (Err (refused.Fault fault)) = ⊥

-- a refusal has the code of a rule that is broken, and there is no tree
abbrev pub FaultsOnly : {A : Type 0} → Rule A → Result A Refused → Type 0
FaultsOnly r (Ok a) = Unit {0}
FaultsOnly r (Err refused.Memory) = Unit {0}
FaultsOnly {A} r (Err (refused.Fault fault)) = breaks_code r fault.code × ((a : A) → gives r a → ⊥)

-- this code is that of the broken rule which comes out
abbrev pub IsRefused : {A : Type 0} → Result A RuleCode → Code → Type 0
IsRefused outcome code = (broken : RuleCode) × (outcome ≡ Err broken) × (code ≡ code_of broken)

-- The answer is what somebody finds who goes through the rules from left to right, unless memory runs out.
abbrev pub IsAnswer : {A : Type 0} → Result A RuleCode → Result A Refused → Type 0
IsAnswer outcome (Ok a) = outcome ≡ Ok a
IsAnswer outcome (Err refused.Memory) = Unit {0}
IsAnswer outcome (Err (refused.Fault fault)) = IsRefused outcome fault.code

abbrev pub is_rule_code : Code → Bool
is_rule_code code.Character = false
is_rule_code code.Comment = false
is_rule_code code.String = false
is_rule_code code.Number = false
is_rule_code code.Token = false
is_rule_code code.Nesting = false
is_rule_code code.EndName = false
is_rule_code c = true

-- a refusal for lack of memory, or with such a code
abbrev pub HasRuleCode : Refused → Type 0
HasRuleCode refused.Memory = Unit {0}
HasRuleCode (refused.Fault fault) = is_rule_code fault.code ≡ true

-- what is told of what the rules give
abbrev pub told_of : {A : Type 0} → Result A Rejected → Result A Refused
told_of (Ok a) = Ok a
told_of (Err rejected) = Err (told rejected)
