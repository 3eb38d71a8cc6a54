-- Modules that are linked: what a text names is there, and its code is where the machine looks for it.
use Rattle.std.proofs.Common.{◌≡◌, ℕ, zero, suc, ◌+◌, ◌-◌, List, [], ◌∷◌, length, Option, Some, None, Bool, false, true, refl, sym, ap, ◌∙◌, subst, arith}
use Rattle.std.specs.Prelude.{slice_get, slice_index}
use Rattle.ob_mean.specs.declared.expression.Variable.{Variable}
use Rattle.ob_mean.specs.declared.expression.Variable.TheVariants as variable
use Rattle.ob_mean.specs.declared.expression.Callee.{Callee}
use Rattle.ob_mean.specs.declared.expression.Callee.TheVariants as callee
use Rattle.ob_mean.specs.declared.shape.Shape.{Shape}
use Rattle.ob_mean.specs.declared.module.Parameter.{Parameter}
use Rattle.ob_mean.specs.declared.module.TypedProcedure.{TypedProcedure}
use Rattle.ob_mean.specs.declared.module.TypedModule.{TypedModule}
use Rattle.ob_mean.specs.declared.module.Loaded.{Loaded}
use Rattle.ob_mean.specs.declared.face.Face.{Face}
use Rattle.ob_mean.specs.declared.face.Heading.{Heading}
use Rattle.ob_mean.specs.Values.{Whole, Part, Value, before}
use Rattle.ob_mean.specs.Shapes.{zeros, opening_row}
use Rattle.ob_mean.specs.Expressions.{Scope}
use Rattle.ob_mean.specs.Programs.{Program, opening_store, imports_in, imports_of, procedure_in, exported_in, home_of, procedure_of, scope_at}
use Rattle.ob_mean.specs.WellFormed.{Object, Of, Names, face_object, shape_object, variable_object, own_object, named_object, own_heading, face_heading, heading_of, called, names_in, names_of, ProcedureFits, ProceduresFit, AreHeadings, IsFaceOf, Shows, AllShow}
use Rattle.ob_code.specs.declared.instr.Procedure.{Procedure}
use Rattle.ob_code.specs.Machine.{Code, imports_in as code_imports_in, import_number, cells_in, procedure_in as code_procedure_in, exported_number, target_of, number_of, part_of}
use Rattle.ob_gen.specs.TypesAgree.{Shapes, ProcedureAgrees, ProceduresAgree}
use Rattle.ob_gen.specs.Code.{extent_at, face_row}
use Rattle.ob_gen.specs.Correct.{IsCodeOf, AreCompiled, AllRun, IsCodeOfProgram}
use Rattle.ob_gen.proofs.machine.Reaches.{Running}
use Rattle.ob_gen.proofs.machine.Few.{variables_few, faces_few}
use Rattle.ob_gen.proofs.machine.Zeros.{declared_row}
use Rattle.ob_gen.proofs.machine.Records.{some_same}
use Rattle.ob_gen.proofs.machine.Places.{VariableFits, FrameFits}
use Rattle.ob_gen.proofs.machine.Frames.{HeldAt, held_module, held_import, variable_at, StoreFits, module_at}

-- ---- lists that go side by side

pub import_at : (program : Program) (runs : ℕ → Bool) (is : List ℕ) (fs : List Face) (i : ℕ) (face : Face) → AllShow program is fs → AllRun runs is → slice_get fs i ≡ Some face → Shows (slice_get program (slice_index is i)) face × (runs (slice_index is i) ≡ true)
import_at program runs [] [] i face h k e = absurd (let n : None ≡ Some face = e in cc)
import_at program runs [] (f ∷ fs) i face h k e = absurd h
import_at program runs (j ∷ is) [] i face h k e = absurd h
import_at program runs (j ∷ is) (f ∷ fs) zero face h k e =
    (subst (Shows (slice_get program j)) (some_same f face e) h.0, k.0)
import_at program runs (j ∷ is) (f ∷ fs) (suc i) face h k e = import_at program runs is fs i face h.1 k.1 e

heading_at : (hs : List Heading) (fs : List TypedProcedure) (ps : List ℕ) (x : ℕ) (h : Heading) → AreHeadings hs fs ps → slice_get hs x ≡ Some h → own_heading (slice_get fs (slice_index ps x)) ≡ Some h
heading_at [] fs [] x h a e = absurd (let n : None ≡ Some h = e in cc)
heading_at [] fs (p ∷ ps) x h a e = absurd a
heading_at (g ∷ hs) fs [] x h a e = absurd a
heading_at (g ∷ hs) fs (p ∷ ps) zero h a e = a.0 ∙ e
heading_at (g ∷ hs) fs (p ∷ ps) (suc x) h a e = heading_at hs fs ps x h a.1 e

pub heading_found : (o : Option TypedProcedure) (h : Heading) → own_heading o ≡ Some h → (f : TypedProcedure) × (o ≡ Some f) × (heading_of f ≡ h)
heading_found None h e = absurd (let n : None ≡ Some h = e in cc)
heading_found (Some f) h e = (f, refl, some_same (heading_of f) h e)

face_found : (o : Option Face) (x : ℕ) (h : Heading) → face_heading o x ≡ Some h → (face : Face) × (o ≡ Some face) × (slice_get face.procedures x ≡ Some h)
face_found None x h e = absurd (let n : None ≡ Some h = e in cc)
face_found (Some face) x h e = (face, refl, e)

face_holds : (o : Option Face) (x : ℕ) (b : Object) → face_object o x ≡ Some b → (face : Face) × (o ≡ Some face) × (shape_object (slice_get face.variables x) ≡ Some b)
face_holds None x b e = absurd (let n : None ≡ Some b = e in cc)
face_holds (Some face) x b e = (face, refl, e)

pub compiled_at : (faces : List Face) (m : TypedModule) (fs : List TypedProcedure) (gs : List Procedure) (p : ℕ) (f : TypedProcedure) → AreCompiled faces m fs gs → slice_get fs p ≡ Some f → (g : Procedure) × (slice_get gs p ≡ Some g) × IsCodeOf (names_of faces m f) f.body f.result g
compiled_at faces m [] gs p f h e = absurd (let n : None ≡ Some f = e in cc)
compiled_at faces m (y ∷ fs) [] p f h e = absurd h
compiled_at faces m (y ∷ fs) (g ∷ gs) zero f h e =
    (g, refl, subst (λ (x : TypedProcedure). IsCodeOf (names_of faces m x) x.body x.result g) (some_same y f e) h.0)
compiled_at faces m (y ∷ fs) (g ∷ gs) (suc p) f h e = compiled_at faces m fs gs p f h.1 e

-- the body stands last
pub body_compiled : (faces : List Face) (m : TypedModule) (fs : List TypedProcedure) (gs : List Procedure) → AreCompiled faces m fs gs → (g : Procedure) × (slice_get gs (length gs - 1) ≡ Some g) × IsCodeOf (names_in faces m) m.body None g
body_compiled faces m [] [] h = absurd h
body_compiled faces m [] (g ∷ []) h = (g, refl, h)
body_compiled faces m [] (g ∷ (k ∷ gs)) h = absurd h
body_compiled faces m (f ∷ fs) [] h = absurd h
body_compiled faces m (f ∷ []) (g ∷ []) h = absurd h.1
body_compiled faces m (f ∷ (y ∷ fs)) (g ∷ []) h = absurd h.1
body_compiled faces m (f ∷ fs) (g ∷ (k ∷ gs)) h =
    let b = body_compiled faces m fs (k ∷ gs) h.1 in
    let e : length (g ∷ (k ∷ gs)) - 1 ≡ suc (length (k ∷ gs) - 1) = omega arith in
    (b.0, ap (slice_get (g ∷ (k ∷ gs))) e ∙ b.1, b.2)

pub procedure_fits : (faces : List Face) (m : TypedModule) (fs : List TypedProcedure) (p : ℕ) (f : TypedProcedure) → ProceduresFit faces m fs → slice_get fs p ≡ Some f → ProcedureFits (names_of faces m f) f
procedure_fits faces m [] p f h e = absurd (let n : None ≡ Some f = e in cc)
procedure_fits faces m (y ∷ fs) zero f h e = subst (λ x. ProcedureFits (names_of faces m x) x) (some_same y f e) h.0
procedure_fits faces m (y ∷ fs) (suc p) f h e = procedure_fits faces m fs p f h.1 e

pub procedure_agrees : (shapes : Shapes) (fs : List TypedProcedure) (p : ℕ) (f : TypedProcedure) → ProceduresAgree shapes fs → slice_get fs p ≡ Some f → ProcedureAgrees shapes f
procedure_agrees shapes [] p f h e = absurd (let n : None ≡ Some f = e in cc)
procedure_agrees shapes (y ∷ fs) zero f h e = subst (ProcedureAgrees shapes) (some_same y f e) h.0
procedure_agrees shapes (y ∷ fs) (suc p) f h e = procedure_agrees shapes fs p f h.1 e

-- of a variable of its own nothing is told
pub no_type : {A : Type 0} → false ≡ true → A
no_type e = absurd (let n : false ≡ true = e in cc)

module _ (program : Program) (code : Code) (faces : ℕ → List Face) (shapes : Shapes) (runs : ℕ → Bool) (whole : IsCodeOfProgram program code faces shapes runs) where
  -- the tree of a module that may run
  abbrev pub tree_at : (home : ℕ) → runs home ≡ true → TypedModule
  tree_at home ok = (whole home ok).m.tree

  -- what a text in it can name, with these parameters and other variables
  abbrev pub names_at : (home : ℕ) → runs home ≡ true → List Parameter → List Shape → Names
  names_at home ok ps ts = record { faces = faces home; variables = (tree_at home ok).variables; procedures = (tree_at home ok).procedures; parameters = ps; own = ts }

  -- the number of an import is the same for both
  import_same : (home i : ℕ) (ok : runs home ≡ true) → import_number code home i ≡ slice_index (whole home ok).m.imports i
  import_same home i ok =
      let may = whole home ok in
      ap (λ x. slice_index (code_imports_in x) i) may.found ∙ ap (λ x. slice_index x i) may.compiled.imports

  imports_same : (home : ℕ) (ok : runs home ≡ true) → imports_of program home ≡ (whole home ok).m.imports
  imports_same home ok = ap imports_in (whole home ok).loaded

  cells_same : (home : ℕ) (ok : runs home ≡ true) → cells_in (slice_get code home) ≡ before (opening_store program) home
  cells_same home ok = ap cells_in (whole home ok).found ∙ (whole home ok).compiled.first_cell

  face_of : (o : Option Loaded) (m : Loaded) (face : Face) → o ≡ Some m → Shows o face → IsFaceOf face m.tree
  face_of o m face e h = subst (λ x. Shows x face) e h

  -- ---- what is called

  -- the code of a procedure that is called, and what it is the code of
  pub record CodeAt (home : ℕ) (f : Callee) (g : Heading) : Type 0 where
    pub there : ℕ
    pub ok : runs there ≡ true
    pub p : ℕ
    pub tree : TypedProcedure
    pub proc : Procedure
    pub heading : heading_of tree ≡ g
    pub target : target_of code home f ≡ there
    pub number : number_of code home f ≡ p
    pub found : code_procedure_in (slice_get code there) p ≡ Some proc
    pub is_code : IsCodeOf (names_at there ok tree.parameters tree.variables) tree.body tree.result proc
    pub fits : ProcedureFits (names_at there ok tree.parameters tree.variables) tree
    pub types : ProcedureAgrees shapes tree

  -- it is what the text calls
  pub record CalleeAt (home : ℕ) (f : Callee) (g : Heading) : Type 0 where
    pub at : CodeAt home f g
    pub home_is : home_of program home f ≡ at.there
    pub tree_is : procedure_of program home f ≡ Some at.tree

  abbrev pub code_at : (home there p : ℕ) (ok : runs there ≡ true) (f : Callee) (g : Heading) (tree : TypedProcedure) → target_of code home f ≡ there → number_of code home f ≡ p → slice_get (tree_at there ok).procedures p ≡ Some tree → heading_of tree ≡ g → CodeAt home f g
  code_at home there p ok f g tree target number tree_is heading =
      let may = whole there ok in
      let c = compiled_at (faces there) may.m.tree may.m.tree.procedures may.l.code.procedures.items p tree may.compiled.procedures tree_is in
      record {
        there = there;
        ok = ok;
        p = p;
        tree = tree;
        proc = c.0;
        heading = heading;
        target = target;
        number = number;
        found = ap (λ x. code_procedure_in x p) may.found ∙ c.1;
        is_code = c.2;
        fits = procedure_fits (faces there) may.m.tree may.m.tree.procedures p tree may.linked.formed.procedures tree_is;
        types = procedure_agrees shapes may.m.tree.procedures p tree may.types.0 tree_is;
      }

  callee_in : (home there p : ℕ) (ok : runs there ≡ true) (f : Callee) (g : Heading) → home_of program home f ≡ there → target_of code home f ≡ there → number_of code home f ≡ p → procedure_of program home f ≡ slice_get (tree_at there ok).procedures p → own_heading (slice_get (tree_at there ok).procedures p) ≡ Some g → CalleeAt home f g
  callee_in home there p ok f g home_is target number tree_is e =
      let h = heading_found (slice_get (tree_at there ok).procedures p) g e in
      record { at = code_at home there p ok f g h.0 target number h.1 h.2; home_is = home_is; tree_is = tree_is ∙ h.1 }

  pub callee_at : (home : ℕ) (ok : runs home ≡ true) (ps : List Parameter) (ts : List Shape) (f : Callee) (g : Heading) → called (names_at home ok ps ts) f ≡ Some g → CalleeAt home f g
  callee_at home ok ps ts (callee.OfModule p) g e =
      callee_in home home p ok (callee.OfModule p) g refl refl refl (ap (λ x. procedure_in x p) (whole home ok).loaded) e
  callee_at home ok ps ts (callee.OfImport i x) g e =
      let may = whole home ok in
      let face = face_found (slice_get (faces home) i) x g e in
      let there = slice_index may.m.imports i in
      let shows = import_at program runs may.m.imports (faces home) i face.0 may.linked.shown may.imports face.1 in
      let other = whole there shows.1 in
      let is_face = face_of (slice_get program there) other.m face.0 other.loaded shows.0 in
      let p = slice_index other.m.tree.exported x in
      let home_is : slice_index (imports_of program home) i ≡ there = ap (λ l. slice_index l i) (imports_same home ok) in
      let target = import_same home i ok in
      let number : exported_number (slice_get code (import_number code home i)) x ≡ p =
      ap (λ k. exported_number (slice_get code k) x) target ∙ ap (λ k. exported_number k x) other.found ∙ ap (λ l. slice_index l x) other.compiled.exported in
      let tree_is : exported_in (slice_get program (slice_index (imports_of program home) i)) x ≡ slice_get other.m.tree.procedures p =
      ap (λ k. exported_in (slice_get program k) x) home_is ∙ ap (λ k. exported_in k x) other.loaded in
      callee_in home there p shows.1 (callee.OfImport i x) g home_is target number tree_is (heading_at face.0.procedures other.m.tree.procedures other.m.tree.exported x g is_face.procedures face.2)

  -- ---- what is named

  -- the call's own variables, and what its parameters name
  pub record OwnFits (r : Running) (s : Value) (names : Names) (scope : Scope) : Type 0 where
    pub holds : (x : ℕ) (o : Object) → own_object names.parameters names.own x ≡ Some o → VariableFits code shapes r s names scope (variable.OfProcedure x) o
    pub names_it : (x : ℕ) (o : Object) → named_object (slice_get names.parameters x) ≡ Some o → VariableFits code shapes r s names scope (variable.ByParameter x) o

  module_fits : (r : Running) (s : Value) (ps : List Parameter) (ts : List Shape) (more k : ℕ) (ok : runs r.home ≡ true) (x : ℕ) (t : Shape) → StoreFits program s → HeldAt (declared_row (tree_at r.home ok).variables) x t (extent_at (opening_row (tree_at r.home ok).variables) x) → VariableFits code shapes r s (names_at r.home ok ps ts) (scope_at program more r.home k) (variable.OfModule x) (Of t)
  module_fits r s ps ts more k ok x t fit held =
      let may = whole r.home ok in
      let vs = may.m.tree.variables in
      let e = extent_at (opening_row vs) x in
      let at_s = module_at program s r.home may.m fit may.loaded in
      let name = part_of (cells_in (slice_get code r.home)) e in
      let base = before (opening_store program) r.home in
      let v = variable_at s r.home x base (declared_row vs) t e name at_s.there at_s.is at_s.at held (ap (λ n. n + e.from) (cells_same r.home ok)) refl in
      record {
        place = Part (Part Whole r.home) x;
        stands = λ w q. refl;
        root = record { found = λ pc stack pending w. refl; low = variables_few vs x may.linked.formed.variables };
        fits = v.0;
        at = v.1;
        told = λ t. no_type t;
        tells = λ w q t. no_type t;
      }

  import_fits : (r : Running) (s : Value) (ps : List Parameter) (ts : List Shape) (more k : ℕ) (ok : runs r.home ≡ true) (i x : ℕ) (face : Face) (t : Shape) → StoreFits program s → slice_get (faces r.home) i ≡ Some face → (shows : Shows (slice_get program (slice_index (whole r.home ok).m.imports i)) face × (runs (slice_index (whole r.home ok).m.imports i) ≡ true)) → HeldAt (declared_row (tree_at (slice_index (whole r.home ok).m.imports i) shows.1).variables) x t (extent_at (zeros face.variables) x) → VariableFits code shapes r s (names_at r.home ok ps ts) (scope_at program more r.home k) (variable.OfImport i x) (Of t)
  import_fits r s ps ts more k ok i x face t fit has_face shows held =
      let may = whole r.home ok in
      let there = slice_index may.m.imports i in
      let other = whole there shows.1 in
      let vs = other.m.tree.variables in
      let e = extent_at (zeros face.variables) x in
      let e' = extent_at (face_row (slice_get (faces r.home) i)) x in
      let same_e : e' ≡ e = ap (λ f. extent_at (face_row f) x) has_face in
      let at_s = module_at program s there other.m fit other.loaded in
      let name = part_of (cells_in (slice_get code (import_number code r.home i))) e' in
      let base = before (opening_store program) there in
      let cells : cells_in (slice_get code (import_number code r.home i)) ≡ base = ap (λ n. cells_in (slice_get code n)) (import_same r.home i ok) ∙ cells_same there shows.1 in
      let v = variable_at s there x base (declared_row vs) t e' name at_s.there at_s.is at_s.at (subst (HeldAt (declared_row vs) x t) (sym same_e) held) (ap (λ n. n + e'.from) cells) refl in
      record {
        place = Part (Part Whole there) x;
        stands = λ w q. ap (λ l. Part (Part Whole (slice_index l i)) x) (imports_same r.home ok);
        root = record { found = λ pc stack pending w. refl; low = faces_few (faces r.home) i x may.linked.formed.known };
        fits = v.0;
        at = v.1;
        told = λ t. no_type t;
        tells = λ w q t. no_type t;
      }

  pub frame_fits : (r : Running) (s : Value) (ps : List Parameter) (ts : List Shape) (more k : ℕ) (ok : runs r.home ≡ true) → StoreFits program s → OwnFits r s (names_at r.home ok ps ts) (scope_at program more r.home k) → FrameFits code shapes r s (names_at r.home ok ps ts) (scope_at program more r.home k)
  frame_fits r s ps ts more k ok fit own = record { home = refl; variables = variables_at }
    where
      variables_at : (v : Variable) (o : Object) → variable_object (names_at r.home ok ps ts) v ≡ Some o → VariableFits code shapes r s (names_at r.home ok ps ts) (scope_at program more r.home k) v o
      variables_at (variable.OfModule x) o e =
          let h = held_module (tree_at r.home ok).variables x o e in
          subst (VariableFits code shapes r s (names_at r.home ok ps ts) (scope_at program more r.home k) (variable.OfModule x)) (sym h.1) (module_fits r s ps ts more k ok x h.0 fit h.2)
      variables_at (variable.OfImport i x) o e =
          let may = whole r.home ok in
          let face = face_holds (slice_get (faces r.home) i) x o e in
          let there = slice_index may.m.imports i in
          let shows = import_at program runs may.m.imports (faces r.home) i face.0 may.linked.shown may.imports face.1 in
          let other = whole there shows.1 in
          let is_face = face_of (slice_get program there) other.m face.0 other.loaded shows.0 in
          let h = held_import face.0.variables other.m.tree.variables x o is_face.variables face.2 in
          subst (VariableFits code shapes r s (names_at r.home ok ps ts) (scope_at program more r.home k) (variable.OfImport i x)) (sym h.1) (import_fits r s ps ts more k ok i x face.0 h.0 fit face.1 shows h.2)
      variables_at (variable.OfProcedure x) o e = own.holds x o e
      variables_at (variable.ByParameter x) o e = own.names_it x o e
