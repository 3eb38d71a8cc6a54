-- What is so of a loaded module and what is known of it and of its imports, whatever else is loaded.
use Rattle.std.specs.Prelude.{◌≡◌, ℕ, List, [], ◌∷◌, map, false, Some, slice_get, slice_index}
use Rattle.ob_mean.specs.declared.module.TypedModule.{TypedModule}
use Rattle.ob_mean.specs.WellFormed.{own_heading}
use Rattle.ob_gen.specs.TypesAgree.{TypesAgree}
use Rattle.ob_session.specs.Session.{Import, Module, key_of}
use Rattle.ob_session.specs.Cells.{command_place}
use Rattle.ob_image.specs.Compiled.{Known}
use Rattle.ob_load.specs.Said.{face_said, shape_said}

-- the procedure that stands at this place among those that are exported takes and leaves nothing
pub record IsPlainAt (tree : TypedModule) (place : ℕ) : Type 0 where
  pub exported : slice_get tree.exported place ≡ Some (slice_index tree.exported place)
  pub plain : own_heading (slice_get tree.procedures (slice_index tree.exported place)) ≡ Some (record { parameters = []; is_function = false })

-- a module's commands by its interface are such procedures of its tree
abbrev pub HasCommands : Module → Type 0
HasCommands m = (name : List ℕ) (place : ℕ) → command_place m.interface.exports name 0 ≡ Some place → IsPlainAt m.tree place

-- what is known is what keys say: of a module its own, of its imports those that were recorded; and the record types in its tree
-- have the shapes that their names say
pub record IsSaid (m : Module) (k : Known) : Type 0 where
  pub face : k.face ≡ face_said (key_of m)
  pub faces : k.faces ≡ map (λ (i : Import). face_said i.key) m.imports
  pub commands : HasCommands m
  pub types : TypesAgree shape_said m.tree

-- of each module
abbrev pub AreSaid : List Module → List Known → Type 0
AreSaid [] [] = Unit {0}
AreSaid [] (k ∷ known) = ⊥
AreSaid (m ∷ modules) [] = ⊥
AreSaid (m ∷ modules) (k ∷ known) = IsSaid m k × AreSaid modules known
