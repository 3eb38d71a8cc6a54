-- A module by the rules, over the modules that are loaded.
use Rattle.std.proofs.Common.{◌≡◌, ℕ, Bool, true, false, cond, List, [], ◌∷◌, ◌++◌, map, Option, Some, None, is_some, option_map, Result, Ok, Err, refl, sym, ◌∙◌, ap, subst}
use Rattle.std.specs.Prelude.{IsSome, IfOk, IfErr, IsErrAnd, ◌≢◌}
use Rattle.std.specs.Str.{bytes_eq}
use Rattle.ob_base.specs.declared.fault.Code.{Code}
use Rattle.ob_check_scope.specs.declared.rule.RuleCode.{RuleCode}
use Rattle.ob_base.specs.declared.fault.Refused.{Refused}
use Rattle.ob_base.specs.declared.fault.Refused.TheVariants as refused
use Rattle.ob_tree.specs.declared.tree.Cell.TheVariants as cells
use Rattle.ob_tree.specs.declared.tree.Module as tree
use Rattle.ob_mean.specs.declared.face.Face.{Face}
use Rattle.ob_mean.specs.Values.{Value}
use Rattle.ob_check_scope.specs.Exports.{Modules as Loaded}
use Rattle.ob_check_scope.specs.Rule.{answer, gives, ◌>>=◌}
use Rattle.ob_check_scope.proofs.Exact.{only}
use Rattle.ob_check_module.specs.CheckedTree.{CheckedTree}
use Rattle.ob_check_module.specs.Codes.{IsAnswer, IsRefused}
use Rattle.ob_check_module.specs.declared.checked.Imported.{Imported}
use Rattle.ob_check_module.specs.Modules.{module_at}
use Rattle.ob_check_laws.specs.Fitting as fit
use Rattle.ob_check_laws.specs.Solid.{EachSolid}
use Rattle.ob_session.specs.Session.{Module, Import, name_of, find_module, link_fault}
use Rattle.ob_session.specs.Cells.{OfModule}
use Rattle.ob_compile.specs.Compilable.{AreFacesOf}
use Rattle.ob_cell.specs.Texts as meaning
use Rattle.ob_cell.specs.Texts.{cell_rule, breaks_first}
use Rattle.ob_image.specs.Compiled.{AllFound}
use Rattle.ob_link.specs.Looking.{in_store}
use Rattle.ob_link.specs.Modules.{AllSolid}
use Rattle.ob_cell.specs.Planned.{face_named, IsCompiled, IsLoadable, IsStaticRefusal}
use Rattle.ob_cell.specs.declared.planned.Planned.{Planned}
use Rattle.ob_parse.specs.CellText.{IsCellOf}
use Rattle.ob_mean.specs.WellFormed.{IsFaceOf}
use Rattle.ob_check_laws.specs.Fitting.{face_of_interface}
use Rattle.ob_image.specs.Loading.{IsUnreached}
use Rattle.ob_load.specs.Known.{IsSaid}
use Rattle.ob_load.specs.Words.{InterfaceWords, AllWords}
use Rattle.ob_cell.specs.Oberon.{IsTreeOf}
use Rattle.ob_cell.proofs.Keys.{key_says}
use Rattle.ob_cell.proofs.Loadable.{LoadsRight, loads_right, has_commands}

-- ---- what a module comes to

pub answered : (modules : List Module) (store : Value) (m : tree.Module) (checked : CheckedTree) → gives (module_at (map (meaning.loaded_as modules m.name.name) modules) m) checked → answer (cell_rule (in_store modules store) (cells.Module m)) ≡ Ok (OfModule (meaning.module_of checked))
answered modules store m checked h =
    ap (λ (r : Result CheckedTree RuleCode). r >>= (λ c. Ok (OfModule (meaning.module_of c)))) (only (module_at (map (meaning.loaded_as modules m.name.name) modules) m) checked h)

first_broken : (modules : List Module) (store : Value) (m : tree.Module) (fault : Code) → IsRefused (answer (module_at (map (meaning.loaded_as modules m.name.name) modules) m)) fault → breaks_first (in_store modules store) (cells.Module m) fault
first_broken modules store m fault h =
    (h.0, ap (λ (r : Result CheckedTree RuleCode). r >>= (λ c. Ok (OfModule (meaning.module_of c)))) h.1, h.2)

-- ---- the loaded modules, as the rules see them

pub each_solid : (all ms : List Module) (name : List ℕ) → AllSolid ms → EachSolid (map (meaning.loaded_as all name) ms)
each_solid all [] name h = tt
each_solid all (m ∷ ms) name h = (h.0, each_solid all ms name h.1)

named_by : (b : Bool) (m : Module) (o : Option Module) (rest : Option Face) → rest ≡ option_map (λ (x : Module). fit.face_of_interface x.interface) o → cond b (Some (fit.face_of_interface m.interface)) rest ≡ option_map (λ (x : Module). fit.face_of_interface x.interface) (cond b (Some m) o)
named_by true m o rest e = refl
named_by false m o rest e = e

same_face : (all ms : List Module) (own name : List ℕ) → fit.face_named (map (meaning.loaded_as all own) ms) name ≡ face_named ms name
same_face all [] own name = refl
same_face all (m ∷ ms) own name =
    named_by (bytes_eq (name_of m) name) m (find_module ms name) (fit.face_named (map (meaning.loaded_as all own) ms) name) (same_face all ms own name)

one_more : (o : Option Face) (rest : List Face) (row : List (Option Face)) → IsSome o → row ≡ map Some rest → o ∷ row ≡ map Some (fit.with_face o ++ rest)
one_more None rest row some e = absurd (let f : false ≡ true = some in cc)
one_more (Some face) rest row some e = ap (λ (l : List (Option Face)). Some face ∷ l) e

-- a module of each import's name is loaded
abbrev pub AllLoaded : Loaded → List Imported → Type 0
AllLoaded ms [] = Unit {0}
AllLoaded ms (i ∷ is) = IsSome (fit.face_named ms i.name) × AllLoaded ms is

pub all_loaded : (ms : Loaded) (is : List Imported) (faces : List Face) → AreFacesOf ms is faces → AllLoaded ms is
all_loaded ms [] faces h = tt
all_loaded ms (i ∷ is) [] h = absurd h
all_loaded ms (i ∷ is) (face ∷ faces) h = (ap is_some h.0, all_loaded ms is faces h.1)

pub same_faces : (all ms : List Module) (own : List ℕ) (is : List Imported) → AllLoaded (map (meaning.loaded_as all own) ms) is → map (λ (i : Import). face_named ms i.name) (map meaning.import_of is) ≡ map Some (fit.faces_of (map (meaning.loaded_as all own) ms) is)
same_faces all ms own [] h = refl
same_faces all ms own (i ∷ is) h =
    ap (λ (o : Option Face). o ∷ map (λ (j : Import). face_named ms j.name) (map meaning.import_of is)) (sym (same_face all ms own i.name))
    ∙ one_more (fit.face_named (map (meaning.loaded_as all own) ms) i.name) (fit.faces_of (map (meaning.loaded_as all own) ms) is) (map (λ (j : Import). face_named ms j.name) (map meaning.import_of is)) h.0 (same_faces all ms own is h.1)

some_found : (o : Option Module) → IsSome (option_map (λ (x : Module). fit.face_of_interface x.interface) o) → o ≢ None
some_found None some = absurd (let f : false ≡ true = some in cc)
some_found (Some m) some = λ e. cc

pub all_found : (all ms : List Module) (own : List ℕ) (is : List Imported) → AllLoaded (map (meaning.loaded_as all own) ms) is → AllFound ms (map meaning.import_of is)
all_found all ms own [] h = tt
all_found all ms own (i ∷ is) h =
    (some_found (find_module ms i.name) (ap is_some (sym (same_face all ms own i.name)) ∙ h.0), all_found all ms own is h.1)

-- ---- refusals

pub memory_found : {A : Type 0} (P : A → Type 0) (r : Result A Refused) → IsErrAnd r (λ e. e ≡ refused.Memory) → IfOk r P
memory_found P (Ok a) h = absurd h
memory_found P (Err e) h = tt

pub err_found : {A : Type 0} (P : A → Type 0) (Q : Refused → Type 0) (r : Result A Refused) → IsErrAnd r Q → IfOk r P
err_found P Q (Ok a) h = absurd h
err_found P Q (Err e) h = tt

pub same_faults : {A : Type 0} (modules : List Module) (m : tree.Module) (same : Refused) (r : Result A Refused) → IsErrAnd r (λ e. e ≡ same) → ((store : Value) → IsStaticRefusal (in_store modules store) (cells.Module m) same) → IfErr r (λ e. (store : Value) → IsStaticRefusal (in_store modules store) (cells.Module m) e)
same_faults modules m same (Ok a) h faults = tt
same_faults modules m same (Err e) h faults = λ store. subst (IsStaticRefusal (in_store modules store) (cells.Module m)) (sym h) (faults store)

pub memory_faults : {A : Type 0} (modules : List Module) (m : tree.Module) (r : Result A Refused) → IsErrAnd r (λ e. e ≡ refused.Memory) → IfErr r (λ e. (store : Value) → IsStaticRefusal (in_store modules store) (cells.Module m) e)
memory_faults modules m (Ok a) h = tt
memory_faults modules m (Err e) h = λ store. subst (IsStaticRefusal (in_store modules store) (cells.Module m)) (sym h) tt

pub rules_faults : (modules : List Module) (loaded : Loaded) (m : tree.Module) (e : Refused) (store : Value) → loaded ≡ map (meaning.loaded_as modules m.name.name) modules → IsAnswer {A = CheckedTree} (answer (module_at loaded m)) (Err e) → IsStaticRefusal (in_store modules store) (cells.Module m) e
rules_faults modules loaded m refused.Memory store same h = tt
rules_faults modules loaded m (refused.Fault fault) store same h =
    first_broken modules store m fault.code (subst (λ (ms : Loaded). IsRefused (answer (module_at ms m)) fault.code) same h)

-- ---- a module that was compiled

tree_is : (text : List ℕ) (m : tree.Module) → IsTreeOf text (cells.Module m) → IsCellOf text (cells.Module m)
unfolding IsTreeOf
tree_is text m h = h

pub right : (modules : List Module) (m : tree.Module) (loaded : Loaded) (c : CheckedTree) → AllWords modules → EachSolid loaded → (text : List ℕ) → IsTreeOf text (cells.Module m) → loaded ≡ map (meaning.loaded_as modules m.name.name) modules → gives (module_at loaded m) c → LoadsRight modules loaded c
right modules m loaded c words solid text is same h = loads_right modules m loaded c words solid text (tree_is text m is) same h

pub loadable : (modules : List Module) (own : List ℕ) (loaded : Loaded) (c : CheckedTree) (p : Planned) → loaded ≡ map (meaning.loaded_as modules own) modules → AllLoaded loaded c.imports → p.module ≡ meaning.module_of c → IsCompiled p → p.faces ≡ fit.faces_of loaded c.imports → link_fault modules (map meaning.import_of c.imports) ≡ None → LoadsRight modules loaded c → IsLoadable modules p
loadable modules own loaded c p same all is compiled faces links right =
    let there : AllLoaded (map (meaning.loaded_as modules own) modules) c.imports = subst (λ (ms : Loaded). AllLoaded ms c.imports) same all in
    let imports : p.module.imports ≡ map meaning.import_of c.imports = ap (λ (m : Module). m.imports) is in
    record {
      compiled = compiled;
      found = subst (AllFound modules) (sym imports) (all_found modules modules own c.imports there);
      faces =
          ap (λ (l : List Import). map (λ (i : Import). face_named modules i.name) l) imports
          ∙ same_faces modules modules own c.imports there
          ∙ sym (ap (map Some) (faces ∙ ap (λ (ms : Loaded). fit.faces_of ms c.imports) same));
      links = ap (link_fault modules) imports ∙ links;
      unreached = subst (λ (x : Module). IsUnreached modules (name_of x) x.imports) (sym is) right.unreached;
      words = subst (λ (x : Module). InterfaceWords x.interface) (sym is) right.words;
      said = subst (λ (x : Module). IsSaid x (record { face = p.face; faces = p.faces })) (sym is) (record {
        face = compiled.said ∙ ap (λ (x : Module). face_of_interface x.interface) is ∙ sym (key_says c.interface right.words);
        faces = faces ∙ right.faces;
        commands = has_commands (meaning.module_of c) (subst (λ (x : Module). IsFaceOf (face_of_interface x.interface) x.tree) is (subst (λ (f : Face). IsFaceOf f p.module.tree) compiled.said compiled.face));
        types = right.types;
      });
    }
