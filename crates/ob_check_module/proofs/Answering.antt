-- What is told is what the rules give.
use Rattle.std.proofs.Common.{◌≡◌, true, Result, Ok, Err, refl, sym, ◌∙◌, ap, subst}
use Rattle.std.specs.Prelude.{IfOk, IfErr}
use Rattle.ob_base.specs.declared.fault.Refused.{Refused}
use Rattle.ob_base.specs.declared.fault.Refused.TheVariants as refused
use Rattle.ob_check_scope.specs.declared.rejected.Rejected.{Rejected}
use Rattle.ob_check_scope.specs.declared.rejected.Rejected.TheVariants as rejected
use Rattle.ob_check_scope.specs.declared.rule.RuleCode.{RuleCode}
use Rattle.ob_check_scope.specs.declared.rule.RuleCode.TheVariants as rule
use Rattle.ob_check_scope.specs.Rule.{Rule, Judges, gives, answer}
use Rattle.ob_check_scope.specs.RuleCodes.{code_of}
use Rattle.ob_check_scope.proofs.Exact as exact
use Rattle.ob_check_module.specs.Codes.{AnswersTree, FaultsOnly, HasRuleCode, IsAnswer, is_rule_code, told_of}

told_answers : {A : Type 0} (r : Rule A) (x : Result A Rejected) → Judges r x → IsAnswer (answer r) (told_of x)
told_answers r (Ok a) j = j
told_answers r (Err rejected.Memory) j = tt
told_answers r (Err (rejected.Rule broken)) j = (broken.code, j, refl)

pub answers : {A : Type 0} (r : Rule A) (x : Result A Rejected) (y : Result A Refused) → Judges r x → y ≡ told_of x → IsAnswer (answer r) y
answers r x y j e = subst (IsAnswer (answer r)) (sym e) (told_answers r x j)

-- ---- what such an answer is

pub found : {A : Type 0} (r : Rule A) (y : Result A Refused) → IsAnswer (answer r) y → IfOk y (λ a. gives r a)
found r (Ok a) h = exact.found r a h
found r (Err e) h = tt

pub only : {A : Type 0} (r : Rule A) (y : Result A Refused) → IsAnswer (answer r) y → (a : A) → gives r a → AnswersTree a y
only r (Ok b) h a g = exact.one r b a (exact.found r b h) g
only r (Err refused.Memory) h a g = tt
only r (Err (refused.Fault fault)) h a g = exact.none r h.0 a h.1 g

pub faults : {A : Type 0} (r : Rule A) (y : Result A Refused) → IsAnswer (answer r) y → FaultsOnly r y
faults r (Ok a) h = tt
faults r (Err refused.Memory) h = tt
faults r (Err (refused.Fault fault)) h = ((h.0, exact.broken r h.0 h.1, h.2), λ a g. exact.none r h.0 a h.1 g)

rule_code : (c : RuleCode) → is_rule_code (code_of c) ≡ true
rule_code rule.UnknownName = refl
rule_code rule.DeclaredTwice = refl
rule_code rule.Types = refl
rule_code rule.ReadOnly = refl
rule_code rule.Parameters = refl
rule_code rule.NotConstant = refl
rule_code rule.NotLoaded = refl
rule_code rule.ImportsItself = refl
rule_code rule.NotExported = refl
rule_code rule.Label = refl
rule_code rule.Size = refl
rule_code rule.LeftOut = refl

pub codes : {A : Type 0} (outcome : Result A RuleCode) (y : Result A Refused) → IsAnswer outcome y → IfErr y (λ e. HasRuleCode e)
codes outcome (Ok a) h = tt
codes outcome (Err refused.Memory) h = tt
codes outcome (Err (refused.Fault fault)) h = ap is_rule_code h.2 ∙ rule_code h.0
