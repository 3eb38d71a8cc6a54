use Rattle.std.proofs.Common.{Ok, map, rules, refl, sym, ◌∙◌, ap, subst}
use Rattle.ob_check_scope.specs.Exports.{Modules as Loaded}
use Rattle.ob_check_scope.specs.Rule.{gives}
use Rattle.ob_check_module.specs.Modules.{module_at}
use Rattle.ob_check_laws.specs.Solid.{EachSolid}
use Rattle.ob_session.specs.Session.{Module, link_fault}
use Rattle.ob_session.specs.Cells.{OfModule}
use Rattle.ob_compile.proofs.Checked.{each_compilable}
use Rattle.ob_cell.specs.Texts as meaning
use Rattle.ob_cell.proofs.Rules.{all_loaded, answered, each_solid, err_found, same_faults, loadable, right, memory_faults, memory_found, rules_faults}
use Rattle.ob_cell.proofs.module.plan_over.Goals as goal

pub returns-in_err-checked-clause-found : goal.returns-in_err-checked-clause-found
returns-in_err-checked-clause-found c = err_found _ _ c.from_residual.result c.from_residual.ensures.1

pub returns-in_err-checked-clause-faults : goal.returns-in_err-checked-clause-faults
returns-in_err-checked-clause-faults c =
    same_faults c.args.modules.now c.args.tree.now c.in_err-checked.field-0.0 c.from_residual.result c.from_residual.ensures.1
    (λ store. rules_faults c.args.modules.now c.args.loaded.now c.args.tree.now c.in_err-checked.field-0.0 store c.requires.loaded c.in_err-checked.ensures.answer)

pub returns-in_err-imports-clause-found : goal.returns-in_err-imports-clause-found
returns-in_err-imports-clause-found c = memory_found _ c.from_residual-in_err-imports.result c.from_residual-in_err-imports.ensures.1

pub returns-in_err-imports-clause-faults : goal.returns-in_err-imports-clause-faults
returns-in_err-imports-clause-faults c = memory_faults c.args.modules.now c.args.tree.now c.from_residual-in_err-imports.result c.from_residual-in_err-imports.ensures.1

pub returns-in_err-name-clause-found : goal.returns-in_err-name-clause-found
returns-in_err-name-clause-found c = memory_found _ c.from_residual-in_err-name.result c.from_residual-in_err-name.ensures.1

pub returns-in_err-name-clause-faults : goal.returns-in_err-name-clause-faults
returns-in_err-name-clause-faults c = memory_faults c.args.modules.now c.args.tree.now c.from_residual-in_err-name.result c.from_residual-in_err-name.ensures.1

pub returns-in-Some-clause-found : goal.returns-in-Some-clause-found
returns-in-Some-clause-found c = λ store.
    let modules = c.args.modules.now in
    let m = c.args.tree.now in
    let checked = c.in_ok-checked.checked in
    let rules_give = subst (λ (ms : Loaded). gives (module_at ms m) checked) c.requires.loaded c.in_ok-checked.ensures.found in
    let keyed = c.as_slice.ensures ∙ c.in_ok-imports.ensures ∙ ap (map meaning.import_of) c.imports.ensures in
    (OfModule (meaning.module_of checked), answered modules store m checked rules_give, (c.in-Some.name, ap (link_fault modules) (sym keyed) ∙ sym c.in_ok-name.ensures ∙ c.in-Some.is, refl))

pub same-checked : goal.same-checked
same-checked c = search rules

pub same-imports : goal.same-imports
same-imports c = search rules

pub compiled-requires-clause-ready : goal.compiled-requires-clause-ready
compiled-requires-clause-ready c =
    let modules = c.args.modules.now in
    let m = c.args.tree.now in
    each_compilable c.args.loaded.now m c.in_ok-checked.checked (subst EachSolid (sym c.requires.loaded) (each_solid modules modules m.name.name c.requires.solid)) c.in_ok-checked.ensures.found

pub compiled-requires-clause-imports : goal.compiled-requires-clause-imports
compiled-requires-clause-imports c = c.in_ok-imports.ensures ∙ ap (map meaning.import_of) c.imports.ensures

pub returns-in_err-planned-in-None-clause-found : goal.returns-in_err-planned-in-None-clause-found
returns-in_err-planned-in-None-clause-found c = memory_found _ c.from_residual-in_err-planned-in-None.result c.from_residual-in_err-planned-in-None.ensures.1

pub returns-in_err-planned-in-None-clause-faults : goal.returns-in_err-planned-in-None-clause-faults
returns-in_err-planned-in-None-clause-faults c = memory_faults c.args.modules.now c.args.tree.now c.from_residual-in_err-planned-in-None.result c.from_residual-in_err-planned-in-None.ensures.1

pub returns-in_ok-planned-in-None-clause-found : goal.returns-in_ok-planned-in-None-clause-found
returns-in_ok-planned-in-None-clause-found c = λ store.
    let modules = c.args.modules.now in
    let m = c.args.tree.now in
    let loaded = c.args.loaded.now in
    let checked = c.in_ok-checked.checked in
    let planned = c.in_ok-planned-in-None in
    let rules_give = subst (λ (ms : Loaded). gives (module_at ms m) checked) c.requires.loaded c.in_ok-checked.ensures.found in
    let ready = each_compilable loaded m checked (subst EachSolid (sym c.requires.loaded) (each_solid modules modules m.name.name c.requires.solid)) c.in_ok-checked.ensures.found in
    let keyed = c.as_slice.ensures ∙ c.in_ok-imports.ensures ∙ ap (map meaning.import_of) c.imports.ensures in
    let links = ap (link_fault modules) (sym keyed) ∙ sym c.in_ok-name.ensures ∙ c.in-None.is in (
      answered modules store m checked rules_give ∙ ap (λ (x : Module). Ok (OfModule x)) (sym planned.ensures.same),
      loadable modules m.name.name loaded checked planned.planned c.requires.loaded (all_loaded loaded checked.imports _ ready.known) planned.ensures.same planned.ensures.compiled planned.ensures.faces links
          (right modules m loaded checked c.requires.words (subst EachSolid (sym c.requires.loaded) (each_solid modules modules m.name.name c.requires.solid)) c.requires.read.0 c.requires.read.1 c.requires.loaded c.in_ok-checked.ensures.found),
    )
