-- To be believed.
-- What a rule is of a place in a text: the rule, over the modules that are seen there, the scope, and how many constructs more may
-- nest.
use Rattle.std.specs.Prelude.{ℕ}
use Rattle.ob_check_scope.specs.declared.scope.Scope.{Scope}
use Rattle.ob_check_scope.specs.declared.site.Site.{Site}
use Rattle.ob_check_scope.specs.Exports.{Modules}

abbrev pub on : {A : Type 1} → (Modules → Scope → ℕ → A) → Site → A
on rule site = rule site.imports.now site.scope.now site.levels
