-- What a compiler makes of a module.
use Rattle.std.specs.Prelude.{◌≡◌, ℕ, ◌+◌, max, List, [], ◌∷◌, map, Bool}
use Rattle.ob_mean.specs.declared.face.Face.{Face}
use Rattle.ob_mean.specs.declared.face.Heading.{Heading}
use Rattle.ob_mean.specs.declared.module.Parameter.{Parameter}
use Rattle.ob_mean.specs.declared.module.TypedModule.{TypedModule}
use Rattle.ob_mean.specs.Values.{size}
use Rattle.ob_mean.specs.Shapes.{zeros, opening_row}
use Rattle.ob_code.specs.declared.instr.Entry.{Entry}
use Rattle.ob_code.specs.declared.instr.Entries.{Entries}
use Rattle.ob_code.specs.declared.instr.Line.{Line}
use Rattle.ob_code.specs.declared.instr.Procedure.{Procedure}
use Rattle.ob_code.specs.declared.instr.CodeModule.{CodeModule}
use Rattle.ob_gen.specs.Code.{parameter_value}
use Rattle.ob_gen.specs.Correct.{AreCompiled, named_count, name_kinds}

-- ---- what calls take and leave

-- how many parameters hold a value
abbrev pub valued_count : List Parameter → ℕ
valued_count [] = 0
valued_count (p ∷ ps) = size (parameter_value p) + valued_count ps

abbrev pub entry_for : List Parameter → Bool → Entry
entry_for ps gives = record { operands = valued_count ps; names = named_count ps; kinds = name_kinds ps; is_function = gives }

abbrev pub heading_entry : Heading → Entry
heading_entry h = entry_for h.parameters h.is_function

-- what code knows of a module of this face
pub record IsOfFace (face : Face) (e : Entries) : Type 0 where
  pub cells : e.cells ≡ size (zeros face.variables)
  pub exported : e.exported.items ≡ map heading_entry face.procedures

abbrev pub AreOfFaces : List Face → List Entries → Type 0
AreOfFaces [] [] = Unit {0}
AreOfFaces [] (e ∷ es) = ⊥
AreOfFaces (face ∷ faces) [] = ⊥
AreOfFaces (face ∷ faces) (e ∷ es) = IsOfFace face e × AreOfFaces faces es

-- ---- room

-- the most operands, and the most names, that lie before a line
abbrev pub most_operands : List Line → ℕ
most_operands [] = 0
most_operands (l ∷ ls) = max l.operands (most_operands ls)

abbrev pub most_names : List Line → ℕ
most_names [] = 0
most_names (l ∷ ls) = max l.names (most_names ls)

-- a procedure has room for one more than lie before any of its lines
pub record HasRoom (g : Procedure) : Type 0 where
  pub operands : g.operand_room ≡ most_operands g.lines.items + 1
  pub names : g.name_room ≡ most_names g.lines.items + 1

abbrev pub AllHaveRoom : List Procedure → Type 0
AllHaveRoom [] = Unit {0}
AllHaveRoom (g ∷ gs) = HasRoom g × AllHaveRoom gs

-- the code of a module, over what is known of those that it imports
pub record IsGenerated (faces : List Face) (m : TypedModule) (c : CodeModule) : Type 0 where
  pub cells : c.cells ≡ size (opening_row m.variables)
  pub procedures : AreCompiled faces m m.procedures c.procedures.items
  pub rooms : AllHaveRoom c.procedures.items
  pub exported : c.exported.items ≡ m.exported
  pub imports : AreOfFaces faces c.imports.items
