-- To be believed.
-- What is seen at a place of a module (Wirth, The Programming Language Oberon, Oberon-07): the declarations of the innermost
-- block, and those of the blocks round it that nothing nearer hides.
use Rattle.std.specs.Prelude.{ℕ, ◌+◌, List, [], ◌∷◌, ◌++◌, length, reverse, Bool, true, false, ◌&&◌, Option, Some, None, if◌then◌else◌}
use Rattle.ob_mean.specs.declared.expression.Variable.{Variable}
use Rattle.ob_mean.specs.declared.expression.Variable.TheVariants as variable
use Rattle.ob_types.specs.declared.structure.RecordName.{RecordName}
use Rattle.ob_check_scope.specs.declared.block.Declared.{Declared}
use Rattle.ob_check_scope.specs.declared.block.Entry.{Entry}
use Rattle.ob_check_scope.specs.declared.block.Entry.TheVariants as entry
use Rattle.ob_check_scope.specs.declared.block.Standing.{Standing}
use Rattle.ob_check_scope.specs.declared.block.Standing.TheVariants as standing
use Rattle.ob_check_scope.specs.declared.predeclared.Predeclared.{Predeclared}
use Rattle.ob_check_scope.specs.declared.predeclared.Predeclared.TheVariants as predeclared
use Rattle.ob_check_scope.specs.declared.scope.Scope.{Scope}
use Rattle.ob_check_scope.specs.Block.{find}
use Rattle.ob_check_scope.specs.Predeclared.{predeclared_named}
use Rattle.ob_check_scope.specs.Stack.{is_empty}

-- ---- look-up

abbrev pub nearer : Option Entry → Option Entry → Option Entry
nearer (Some e) other = Some e
nearer None other = other

-- the nearest declaration of a name in these blocks, of which the innermost comes first
abbrev pub nearest : List (List Declared) → List ℕ → Option Entry
nearest [] name = None
nearest (b ∷ bs) name = nearer (find b name) (nearest bs name)

abbrev pub is_of_module : Standing → Bool
is_of_module (standing.Exported i) = true
is_of_module (standing.Own i) = true
is_of_module (standing.Local i) = false
is_of_module (standing.ByParameter i) = false
is_of_module (standing.ReadOnly i) = false

-- the variables and parameters of a procedure are not seen in the procedures inside
abbrev pub is_seen_inside : Entry → Bool
is_seen_inside (entry.Variable t s) = is_of_module s
is_seen_inside _ = true

abbrev pub seen_inside : Option Entry → Option Entry
seen_inside None = None
seen_inside (Some e) = if is_seen_inside e then Some e else None

-- what a name stands for
unfoldable pub seen : Scope → List ℕ → Option Entry
seen s name = nearer (find s.block name) (seen_inside (nearest s.around name))

-- what a name that stands for nothing is before any module: unknown, where it is hidden
abbrev pub not_hidden : Option Entry → Predeclared → Predeclared
not_hidden None p = p
not_hidden (Some e) p = predeclared.Unknown

unfoldable pub outer : Scope → List ℕ → Predeclared
outer s name = not_hidden (nearest s.around name) (predeclared_named name)

-- ---- variables

-- The variables of the module that others see come first, and then its own.
abbrev pub variable_of : Scope → Standing → Variable
variable_of s (standing.Exported i) = variable.OfModule i
variable_of s (standing.Own i) = variable.OfModule (s.exported_count + i)
variable_of s (standing.Local i) = variable.OfProcedure i
variable_of s (standing.ByParameter i) = variable.ByParameter i
variable_of s (standing.ReadOnly i) = variable.ByParameter i

-- nothing writes to what a structured value parameter names
abbrev pub is_writable : Standing → Bool
is_writable (standing.ReadOnly i) = false
is_writable _ = true

-- ---- opening and closing

-- before the first declaration of a module
abbrev pub opening : List ℕ → Scope
opening name = record {
  module_name = name;
  enclosing = [];
  block = [];
  around = [];
  import_count = 0;
  exported_count = 0;
  own_count = 0;
  local_count = 0;
  cells_taken = 0;
}

-- one declaration more in the innermost block. In a procedure the mark has no effect
abbrev pub with_entry : Scope → List ℕ → Bool → Entry → Scope
with_entry s name mark e =
    record s { block = s.block ++ record { name = name; exported = is_empty s.around && mark; entry = e } ∷ [] }

-- in the heading of a procedure, after these parameters: they stand in its own block
unfoldable pub in_heading : Scope → List Declared → Scope
in_heading s parameters = record s { block = parameters; around = s.block ∷ s.around }

-- inside a procedure of a name, after its parameters
abbrev pub entered : Scope → List ℕ → List Declared → Scope
entered s name parameters = record s {
  enclosing = name ∷ s.enclosing;
  block = parameters;
  around = s.block ∷ s.around;
  local_count = length parameters;
  cells_taken = 0;
}

-- after the procedure again
abbrev pub left_into : Scope → List (List ℕ) → List (List Declared) → Scope
left_into s (p ∷ ps) (b ∷ bs) = record s { enclosing = ps; block = b; around = bs }
left_into s _ _ = s

unfoldable pub left : Scope → Scope
left s = left_into s s.enclosing s.around

-- the name of the first record type in the declaration of a name
abbrev pub naming : Scope → List ℕ → RecordName
naming s declared = record { module_name = s.module_name; enclosing = reverse s.enclosing; declared = declared; before = 0 }
