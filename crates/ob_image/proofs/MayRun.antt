-- Modules compiled over what is so of their imports may run: they are linked, enough is known of their operands and names, and their
-- code is that of their trees.
use Rattle.std.proofs.Common.{◌≡◌, ℕ, zero, suc, ◌+◌, true, List, [], ◌∷◌, Some, None, sym, ap, ◌∙◌, subst, arith}
use Rattle.std.specs.Prelude.{slice_get, option_map}
use Rattle.std.proofs.lemmas.Option.{slice_get-map}
use Rattle.ob_mean.specs.declared.face.Face.{Face}
use Rattle.ob_mean.specs.Values.{before}
use Rattle.ob_mean.specs.Programs.{opening_store}
use Rattle.ob_mean.specs.WellFormed.{IsFaceOf, Shows, AllShow, IsLinked as IsLinkedOver}
use Rattle.ob_code.specs.declared.instr.Entries.{Entries}
use Rattle.ob_code.specs.declared.instr.LinkedModule.{LinkedModule}
use Rattle.ob_code.specs.Linked.{IsAsKnown, Imports, IsLinked}
use Rattle.ob_code.specs.Machine.{Code}
use Rattle.ob_code.specs.Kinds.{IsMeasured}
use Rattle.ob_gen.specs.Correct.{AllRun, IsCompiled, MayRun}
use Rattle.ob_gen.specs.Generated.{IsOfFace}
use Rattle.ob_gen.specs.TypesAgree.{Shapes, TypesAgree}
use Rattle.ob_gen.proofs.machine.Behaves.{body_behaves}
use Rattle.ob_gen.proofs.machine.Told.{generated_measured}
use Rattle.ob_gen.proofs.machine.Places.{some_same}
use Rattle.ob_session.specs.Session.{Module, import_places, loaded, program_of}
use Rattle.ob_image.specs.Compiled.{Known, runs_in, IsCompiledAt, face_in, AreKnown, AreCompiled, faces_in, faces_at, AllAgree, EachMayRun}
use Rattle.ob_image.proofs.Imports.{running_at, imports_run}
use Rattle.ob_image.proofs.Sides.{code_at, are_laid, imported_at}
use Rattle.ob_image.proofs.Entries.{face_cells, exports_known}

agrees_at : (shapes : Shapes) (ms : List Module) (i : ℕ) (m : Module) → AllAgree shapes ms → slice_get ms i ≡ Some m → TypesAgree shapes m.tree
agrees_at shapes [] i m h e = absurd (let n : None ≡ Some m = e in cc)
agrees_at shapes (x ∷ ms) zero m h e = subst (λ (y : Module). TypesAgree shapes y.tree) (some_same x m e) h.0
agrees_at shapes (x ∷ ms) (suc i) m h e = agrees_at shapes ms i m h.1 e

module _ (modules : List Module) (known : List Known) (code : Code) (all : AreCompiled modules known code) where
  -- a module that may run, with its code and what is known of its imports
  pub record Whole (i : ℕ) : Type 0 where
    pub m : Module
    pub k : Known
    pub l : LinkedModule
    pub there : slice_get modules i ≡ Some m
    pub known_there : slice_get known i ≡ Some k
    pub found : slice_get code i ≡ Some l
    pub compiled : IsCompiledAt modules m k l (before (opening_store (program_of modules)) i)
    pub imports : AllRun (runs_in modules) (import_places modules m.imports)
    pub faces : AreKnown known (import_places modules m.imports) k.faces

  pub whole_at : (i : ℕ) → runs_in modules i ≡ true → Whole i
  whole_at i ok =
      let r = running_at modules i ok in
      let c = code_at modules modules known code 0 i r.m all.each r.there in
      let same : 0 + before (opening_store (program_of modules)) i ≡ before (opening_store (program_of modules)) i = omega arith in
      record {
        m = r.m;
        k = c.k;
        l = c.l;
        there = r.there;
        known_there = c.known;
        found = c.found;
        compiled = subst (IsCompiledAt modules r.m c.k c.l) same c.compiled;
        imports = imports_run modules r.m.imports r.linked;
        faces = all.agree i r.m c.k r.there c.known ok;
      }

  pub loaded_there : (i : ℕ) (w : Whole i) → slice_get (program_of modules) i ≡ Some (loaded modules w.m)
  loaded_there i w = slice_get-map (loaded modules) modules i ∙ ap (option_map (loaded modules)) w.there

  -- a face that is known of it is its face
  pub face_is : (i : ℕ) (face : Face) (w : Whole i) → face_in (slice_get known i) ≡ Some face → IsFaceOf face w.m.tree
  face_is i face w at = subst (λ f. IsFaceOf f w.m.tree) (some_same w.k.face face (ap face_in (sym w.known_there) ∙ at)) w.compiled.ready.face

  -- ---- linked

  pub as_known : (i : ℕ) (k : Known) (e : Entries) → runs_in modules i ≡ true → slice_get known i ≡ Some k → IsOfFace k.face e → IsAsKnown code (runs_in modules) i e
  as_known i k e ok at of_face =
      let w = whole_at i ok in
      let is_face = face_is i k.face w (ap face_in at) in
      let cells = face_cells k.face.variables w.m.tree.variables is_face.variables in
      record {
        may_run = ok;
        l = w.l;
        loaded = w.found;
        cells = omega (arith, cells, of_face.cells, w.compiled.ready.generated.cells);
        exports = exports_known w.k.faces w.m.tree w.l k.face e w.compiled.ready.generated is_face of_face;
      }

  import_of : (i : ℕ) (w : Whole i) (x : ℕ) (e : Entries) → slice_get w.l.code.imports.items x ≡ Some e → Imports code (runs_in modules) w.l x e
  import_of i w x e at =
      let n = imported_at known (runs_in modules) (import_places modules w.m.imports) w.k.faces w.l.code.imports.items x e w.faces w.imports w.compiled.ready.generated.imports at in
      record { number = n.number; found = ap (λ is. slice_get is x) w.compiled.ready.imports ∙ n.found; as_known = as_known n.number n.k e n.may_run n.at n.of_face }

  linked : IsLinked code (runs_in modules)
  linked = record {
    laid = are_laid modules modules known code 0 all.each;
    imports = λ home l at ok x e import.
        let w = whole_at home ok in
        let same : w.l ≡ l = some_same w.l l (sym w.found ∙ at) in
        subst (λ y. Imports code (runs_in modules) y x e) same (import_of home w x e (ap (λ (y : LinkedModule). slice_get y.code.imports.items x) same ∙ import));
  }

  -- ---- measured

  measured : (home : ℕ) (l : LinkedModule) → slice_get code home ≡ Some l → runs_in modules home ≡ true → IsMeasured l.code
  measured home l at ok =
      let w = whole_at home ok in
      subst (λ (y : LinkedModule). IsMeasured y.code) (some_same w.l l (sym w.found ∙ at)) (generated_measured w.k.faces w.m.tree w.l.code w.compiled.ready.formed w.compiled.ready.generated)

  -- ---- code of the program

  shows : (i : ℕ) (face : Face) → runs_in modules i ≡ true → face_in (slice_get known i) ≡ Some face → Shows (slice_get (program_of modules) i) face
  shows i face ok at =
      let w = whole_at i ok in
      subst (λ o. Shows o face) (sym (loaded_there i w)) (face_is i face w at)

  all_show : (is : List ℕ) (faces : List Face) → AreKnown known is faces → AllRun (runs_in modules) is → AllShow (program_of modules) is faces
  all_show [] [] a r = tt
  all_show [] (face ∷ faces) a r = absurd a
  all_show (i ∷ is) [] a r = absurd a
  all_show (i ∷ is) (face ∷ faces) a r = (shows i face r.0 a.0, all_show is faces a.1 r.1)

  runs_at : (shapes : Shapes) → AllAgree shapes modules → (i : ℕ) → runs_in modules i ≡ true → MayRun (program_of modules) code (faces_at known) shapes (runs_in modules) i
  runs_at shapes agree i ok =
      let w = whole_at i ok in
      let same : w.k.faces ≡ faces_at known i = ap faces_in (sym w.known_there) in
      record {
        m = loaded modules w.m;
        l = w.l;
        loaded = loaded_there i w;
        found = w.found;
        linked = subst (λ fs. IsLinkedOver (program_of modules) fs (loaded modules w.m)) same (record { formed = w.compiled.ready.formed; shown = all_show (import_places modules w.m.imports) w.k.faces w.faces w.imports });
        compiled = subst (λ fs. IsCompiled fs (loaded modules w.m) (before (opening_store (program_of modules)) i) w.l) same (record {
          procedures = w.compiled.ready.generated.procedures;
          exported = w.compiled.ready.generated.exported;
          imports = w.compiled.ready.imports;
          cells = w.compiled.ready.generated.cells;
          first_cell = w.compiled.cells;
        });
        types = agrees_at shapes modules i w.m agree w.there;
        imports = w.imports;
      }

pub each_may_run : EachMayRun
each_may_run modules known code all = record {
  linked = linked modules known code all;
  measured = measured modules known code all;
  means = runs_at modules known code all;
  does = λ shapes agree. body_behaves (program_of modules) code (faces_at known) shapes (runs_in modules) (runs_at modules known code all shapes agree);
}
