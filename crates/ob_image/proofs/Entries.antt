-- What code knows of a module is so of the module's code.
use Rattle.std.proofs.Common.{◌≡◌, ℕ, zero, suc, ◌+◌, ◌≤◌, ◌<◌, List, [], ◌∷◌, Option, Some, None, refl, sym, ap, ◌∙◌, subst, arith}
use Rattle.std.specs.Prelude.{slice_get, option_map}
use Rattle.std.proofs.lemmas.Option.{slice_get-map}
use Rattle.ob_mean.specs.declared.face.Face.{Face}
use Rattle.ob_mean.specs.declared.face.Heading.{Heading}
use Rattle.ob_mean.specs.declared.shape.Shape.{Shape}
use Rattle.ob_mean.specs.declared.module.Parameter.{Parameter}
use Rattle.ob_mean.specs.declared.module.Parameter.TheVariants as parameter
use Rattle.ob_mean.specs.declared.module.ModuleVariable.{ModuleVariable}
use Rattle.ob_mean.specs.declared.module.ModuleVariable.TheVariants.{Declared, Text}
use Rattle.ob_mean.specs.declared.module.TypedProcedure.{TypedProcedure}
use Rattle.ob_mean.specs.declared.module.TypedModule.{TypedModule}
use Rattle.ob_mean.specs.Values.{size}
use Rattle.ob_mean.specs.Shapes.{zero_of, zeros, opening_row}
use Rattle.ob_mean.specs.WellFormed.{heading_of, own_heading, names_of, cell_limit, ShapesFit, VariablesFit, StartWith, AreHeadings, IsFaceOf}
use Rattle.ob_code.specs.declared.instr.Entry.{Entry}
use Rattle.ob_code.specs.declared.instr.Entries.{Entries}
use Rattle.ob_code.specs.declared.instr.Procedure.{Procedure}
use Rattle.ob_code.specs.declared.instr.LinkedModule.{LinkedModule}
use Rattle.ob_code.specs.Linked.{Exports}
use Rattle.ob_code.proofs.machine.Laid.{entry_same}
use Rattle.ob_gen.specs.Correct.{named_count, parameter_count, IsCodeOf}
use Rattle.ob_gen.specs.Generated.{valued_count, heading_entry, IsOfFace, IsGenerated}
use Rattle.ob_gen.proofs.machine.Places.{some_same}
use Rattle.ob_gen.proofs.machine.Linked.{heading_found, compiled_at}

-- ---- cells

-- a module has at least the cells of its exported variables
pub face_cells : (ts : List Shape) (vs : List ModuleVariable) → StartWith ts vs → size (zeros ts) ≤ size (opening_row vs)
face_cells [] vs h = omega arith
face_cells (t ∷ ts) [] h = absurd h
face_cells (t ∷ ts) (Declared u ∷ vs) h =
    let one = ap (λ x. size (zero_of x)) h.0 in
    let rest = face_cells ts vs h.1 in
    omega (arith, one, rest)
face_cells (t ∷ ts) (Text characters n ∷ vs) h = absurd h

-- and its exported variables have as few cells as its own
pub face_few : (ts : List Shape) (vs : List ModuleVariable) → StartWith ts vs → VariablesFit vs → ShapesFit ts
face_few [] vs h g = tt
face_few (t ∷ ts) [] h g = absurd h
face_few (t ∷ ts) (Declared u ∷ vs) h g = (subst (λ x. size (zero_of x) < cell_limit) (sym h.0) g.0, face_few ts vs h.1 g.1)
face_few (t ∷ ts) (Text characters n ∷ vs) h g = absurd h

-- ---- procedures

-- each parameter is a value or a name
valued : (ps : List Parameter) → valued_count ps + named_count ps ≡ parameter_count ps
valued [] = refl
valued (parameter.Value ∷ ps) = let h = valued ps in omega (arith, h)
valued (parameter.Place t ∷ ps) = let h = valued ps in omega (arith, h)
valued (parameter.Open t ∷ ps) = let h = valued ps in omega (arith, h)
valued (parameter.Extended t ∷ ps) = let h = valued ps in omega (arith, h)

-- what a procedure of the code takes and leaves is what its heading says
entry_is : (faces : List Face) (m : TypedModule) (tree : TypedProcedure) (g : Procedure) → IsCodeOf (names_of faces m tree) tree.body tree.result g → g.entry ≡ heading_entry (heading_of tree)
entry_is faces m tree g code =
    let all = valued tree.parameters in
    entry_same g.entry (heading_entry (heading_of tree)) (omega (arith, all, code.all_taken, code.names_taken)) code.names_taken code.stand_for code.gives

-- the number of an exported procedure
pub record Numbered (fs : List TypedProcedure) (ps : List ℕ) (x : ℕ) (h : Heading) : Type 0 where
  pub number : ℕ
  pub at : slice_get ps x ≡ Some number
  pub heading : own_heading (slice_get fs number) ≡ Some h

pub numbered_at : (hs : List Heading) (fs : List TypedProcedure) (ps : List ℕ) (x : ℕ) (h : Heading) → AreHeadings hs fs ps → slice_get hs x ≡ Some h → Numbered fs ps x h
numbered_at [] fs ps x h a e = absurd (let n : None ≡ Some h = e in cc)
numbered_at (g ∷ hs) fs [] x h a e = absurd a
numbered_at (g ∷ hs) fs (p ∷ ps) zero h a e = record { number = p; at = refl; heading = a.0 ∙ e }
numbered_at (g ∷ hs) fs (p ∷ ps) (suc x) h a e =
    let r = numbered_at hs fs ps x h a.1 e in
    record { number = r.number; at = r.at; heading = r.heading }

mapped_at : (o : Option Heading) (entry : Entry) → option_map heading_entry o ≡ Some entry → (h : Heading) × (o ≡ Some h) × (heading_entry h ≡ entry)
mapped_at None entry e = absurd (let n : None ≡ Some entry = e in cc)
mapped_at (Some h) entry e = (h, refl, some_same (heading_entry h) entry e)

-- a procedure with this heading is compiled
exported_at : (faces : List Face) (m : TypedModule) (l : LinkedModule) (h : Heading) (place : ℕ) → IsGenerated faces m l.code → Numbered m.procedures m.exported place h → Exports l place (heading_entry h)
exported_at faces m l h place made n =
    let f = heading_found (slice_get m.procedures n.number) h n.heading in
    let g = compiled_at faces m m.procedures l.code.procedures.items n.number f.0 made.procedures f.1 in
    record {
      number = n.number;
      f = g.0;
      exported = ap (λ ps. slice_get ps place) made.exported ∙ n.at;
      found = g.1;
      same = entry_is faces m f.0 g.0 g.2 ∙ ap heading_entry f.2;
    }

-- code of a module exports what its face says
pub exports_known : (faces : List Face) (m : TypedModule) (l : LinkedModule) (face : Face) (e : Entries) → IsGenerated faces m l.code → IsFaceOf face m → IsOfFace face e → (place : ℕ) (entry : Entry) → slice_get e.exported.items place ≡ Some entry → Exports l place entry
exports_known faces m l face e made is_face of_face place entry at =
    let mapped : option_map heading_entry (slice_get face.procedures place) ≡ Some entry =
    sym (slice_get-map heading_entry face.procedures place) ∙ ap (λ es. slice_get es place) (sym of_face.exported) ∙ at in
    let h = mapped_at (slice_get face.procedures place) entry mapped in
    subst (Exports l place) h.2 (exported_at faces m l h.0 place made (numbered_at face.procedures m.procedures m.exported place h.0 is_face.procedures h.1))
