-- What a cell comes to before it runs.
use Rattle.std.specs.Prelude.{◌≡◌, ℕ, List, map, option_map, Option, Some, None, Ok}
use Rattle.ob_base.specs.declared.fault.Refused.{Refused}
use Rattle.ob_base.specs.declared.fault.Refused.TheVariants as refused
use Rattle.ob_tree.specs.declared.tree.Cell.{Cell}
use Rattle.ob_mean.specs.declared.face.Face.{Face}
use Rattle.ob_mean.specs.WellFormed.{IsFaceOf, IsWellFormed}
use Rattle.ob_check_scope.specs.Rule.{answer}
use Rattle.ob_check_laws.specs.Fitting.{face_of_interface}
use Rattle.ob_types.specs.Solid.{ExportsSolid}
use Rattle.ob_session.specs.Session.{Session, Module, Import, name_of, find_module, link_fault}
use Rattle.ob_session.specs.Cells as cells
use Rattle.ob_session.specs.Cells.{Checked, OfModule, OfCommands, CommandName, all_ready}
use Rattle.ob_gen.specs.Generated.{IsGenerated}
use Rattle.ob_cell.specs.Texts.{cell_rule, breaks_first}
use Rattle.ob_image.specs.Compiled.{AllFound}
use Rattle.ob_image.specs.Loading.{IsUnreached}
use Rattle.ob_load.specs.Known.{IsSaid}
use Rattle.ob_load.specs.Words.{InterfaceWords}
use Rattle.ob_link.specs.Looking.{fault_seen}
use Rattle.ob_cell.specs.declared.planned.Plan.{Plan}
use Rattle.ob_cell.specs.declared.planned.Plan.TheVariants as plan
use Rattle.ob_cell.specs.declared.planned.Planned.{Planned}

-- ---- a module

-- compiled: its code is that of its tree, over these faces; its face is what its interface says, which is so; and the types
-- that it exports have cells
pub record IsCompiled (p : Planned) : Type 0 where
  pub formed : IsWellFormed p.faces p.module.tree
  pub generated : IsGenerated p.faces p.module.tree p.code
  pub said : p.face ≡ face_of_interface p.module.interface
  pub face : IsFaceOf p.face p.module.tree
  pub solid : ExportsSolid p.module.interface.exports

-- what the interface of the module of a name says
abbrev pub face_named : List Module → List ℕ → Option Face
face_named modules name = option_map (λ (m : Module). face_of_interface m.interface) (find_module modules name)

-- ready to be loaded among these: the module of each import is there, its face is that over which this was compiled, and all
-- that is reached through them is loaded with the recorded key
pub record IsLoadable (modules : List Module) (p : Planned) : Type 0 where
  pub compiled : IsCompiled p
  pub found : AllFound modules p.module.imports
  pub faces : map (λ (i : Import). face_named modules i.name) p.module.imports ≡ map Some p.faces
  pub links : link_fault modules p.module.imports ≡ None
  -- none of them reaches a module of its name
  pub unreached : IsUnreached modules (name_of p.module) p.module.imports
  -- the names that it exports are words, and what is known of it and of its imports is what their keys say
  pub words : InterfaceWords p.module.interface
  pub said : IsSaid p.module (record { face = p.face; faces = p.faces })

-- ---- a cell that keeps the rules and does not link, for this

abbrev pub IsUnlinked : Session → Checked → cells.LinkFault → Type 0
IsUnlinked s (OfModule m) fault = (name : List ℕ) × (link_fault s.modules m.imports ≡ Some name) × (fault ≡ cells.OtherKey name)
IsUnlinked s (OfCommands names) fault = all_ready s names ≡ cells.Faulty fault

-- ---- the plan of a cell in a session

abbrev pub IsPlanned : Session → Cell → Plan → Type 0
IsPlanned s c (plan.Module p) = (answer (cell_rule s c) ≡ Ok (OfModule p.module)) × IsLoadable s.modules p
IsPlanned s c (plan.Commands commands) =
    (names : List CommandName) × (answer (cell_rule s c) ≡ Ok (OfCommands names)) × (all_ready s names ≡ cells.Runs commands.items)
IsPlanned s c (plan.Unlinked fault) =
    (checked : Checked) × (answer (cell_rule s c) ≡ Ok checked) × IsUnlinked s checked (fault_seen fault)

-- a refusal has the code of the first broken rule, or memory was refused
abbrev pub IsStaticRefusal : Session → Cell → Refused → Type 0
IsStaticRefusal s c (refused.Fault fault) = breaks_first s c fault.code
IsStaticRefusal s c refused.Memory = Unit {0}
