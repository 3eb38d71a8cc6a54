-- The code of commands, after that of a session's modules, may run and does what they mean.
use Rattle.std.proofs.Common.{◌≡◌, ◌⊎◌, ℕ, zero, suc, ◌<◌, true, false, List, [], ◌∷◌, ◌++◌, length, Some, None, refl, sym, ap, subst, ◌∙◌, inl, inr, arith, append-nil}
use Rattle.std.specs.Prelude.{◌||◌, nat_eq, slice_get, slice_index}
use Rattle.std.proofs.lemmas.Option.{slice_get_within}
use Rattle.ob_mean.specs.declared.expression.Callee.{Callee}
use Rattle.ob_mean.specs.declared.expression.Callee.TheVariants.{OfImport}
use Rattle.ob_mean.specs.declared.face.Face.{Face}
use Rattle.ob_mean.specs.declared.face.Heading.{Heading}
use Rattle.ob_mean.specs.declared.module.TypedProcedure.{TypedProcedure}
use Rattle.ob_mean.specs.Programs.{Command, procedure_in}
use Rattle.ob_mean.specs.WellFormed.{Names, own_heading, face_heading, names_in, ListFits, ShapesFit, FacesFit, AreHeadings, IsFaceOf, IsWellFormed}
use Rattle.ob_code.specs.declared.instr.Entries.{Entries}
use Rattle.ob_code.specs.declared.instr.LinkedModule.{LinkedModule}
use Rattle.ob_code.specs.Linked.{Imports, IsLinked}
use Rattle.ob_code.specs.Machine.{Code, imports_in, import_number, exported_number}
use Rattle.ob_code.specs.Kinds.{IsMeasured}
use Rattle.ob_gen.specs.Code.{list_code}
use Rattle.ob_gen.specs.Commands.{commands_code, LeadsTo, AllLead, IsCodeOfCommands}
use Rattle.ob_gen.specs.Correct.{AllRun, IsCodeOfProgram}
use Rattle.ob_gen.specs.TypesAgree.{Shapes}
use Rattle.ob_gen.proofs.machine.Commands.{commands_behave}
use Rattle.ob_gen.proofs.machine.Told.{generated_measured}
use Rattle.ob_gen.proofs.machine.Linked.{body_compiled}
use Rattle.ob_gen.proofs.machine.Places.{some_same}
use Rattle.ob_session.specs.Session.{Module, program_of}
use Rattle.ob_image.specs.Compiled.{Known, runs_in, face_in, AreKnown, AreCompiled, faces_at, AllAgree, MayRunAll}
use Rattle.ob_image.specs.CommandsCode.{IsCallable, AllCallable, AreCallable, calls_body, commands_tree, IsBehind, EachCommandsForm, runs_with, EachCommandsMayRun}
use Rattle.ob_image.proofs.Sides.{imported_at, as_long}
use Rattle.ob_image.proofs.Entries.{face_few, numbered_at}
use Rattle.ob_image.proofs.MayRun.{whole_at, face_is, loaded_there, as_known, each_may_run}
use Rattle.ob_image.proofs.Behind.{kept_at, last_at, kept_or_last, index_at, as_known_alike, linked_behind, program_behind}

-- what callers know of a command
abbrev pub plain : Heading
plain = record { parameters = []; is_function = false }

-- the procedures that are called
abbrev callees : List (ℕ × ℕ) → List Callee
callees [] = []
callees (call ∷ calls) = OfImport call.0 call.1 ∷ callees calls

-- the code of calls is a line for each
calls_code : (names : Names) (calls : List (ℕ × ℕ)) → list_code names (calls_body calls) ≡ commands_code (callees calls)
calls_code names [] = refl
calls_code names (call ∷ calls) = ap (λ ls. commands_code (OfImport call.0 call.1 ∷ []) ++ ls) (calls_code names calls)

-- the heading of an exported procedure is in the face
heading_there : (hs : List Heading) (fs : List TypedProcedure) (ps : List ℕ) (x p : ℕ) (h : Heading) → AreHeadings hs fs ps → slice_get ps x ≡ Some p → own_heading (slice_get fs p) ≡ Some h → slice_get hs x ≡ Some h
heading_there hs fs [] x p h a at e = absurd (let n : None ≡ Some p = at in cc)
heading_there [] fs (q ∷ ps) x p h a at e = absurd a
heading_there (g ∷ hs) fs (q ∷ ps) zero p h a at e = sym a.0 ∙ ap (λ k. own_heading (slice_get fs k)) (some_same q p at) ∙ e
heading_there (g ∷ hs) fs (q ∷ ps) (suc x) p h a at e = heading_there hs fs ps x p h a.1 at e

-- what is known of an imported module
known_at : (known : List Known) (is : List ℕ) (faces : List Face) → AreKnown known is faces → (i h : ℕ) → slice_get is i ≡ Some h → (face : Face) × (slice_get faces i ≡ Some face) × (face_in (slice_get known h) ≡ Some face)
known_at known [] faces a i h e = absurd (let n : None ≡ Some h = e in cc)
known_at known (j ∷ is) [] a i h e = absurd a
known_at known (j ∷ is) (face ∷ faces) a zero h e = (face, refl, ap (λ n. face_in (slice_get known n)) (sym (some_same j h e)) ∙ a.0)
known_at known (j ∷ is) (face ∷ faces) a (suc i) h e = known_at known is faces a.1 i h e

module _ (modules : List Module) (known : List Known) (code : Code) (all : AreCompiled modules known code) where
  -- a command that its module's face shows can be called
  pub shown_callable : (c : Command) (place : ℕ) (m : Module) (face : Face) → slice_get modules c.home ≡ Some m → runs_in modules c.home ≡ true → face_in (slice_get known c.home) ≡ Some face → slice_get m.tree.exported place ≡ Some c.procedure → slice_get face.procedures place ≡ Some plain → IsCallable modules c place
  shown_callable c place m face there ok at exported shown =
      let w = whole_at modules known code all c.home ok in
      let same : w.m ≡ m = some_same w.m m (sym w.there ∙ there) in
      let is_face : IsFaceOf face m.tree = subst (λ (x : Module). IsFaceOf face x.tree) same (face_is modules known code all c.home face w at) in
      let n = numbered_at face.procedures m.tree.procedures m.tree.exported place plain is_face.procedures shown in
      let number : n.number ≡ c.procedure = some_same n.number c.procedure (sym n.at ∙ exported) in
      record {
        m = m;
        there = there;
        may_run = ok;
        exported = exported;
        plain = ap (λ p. own_heading (slice_get m.tree.procedures p)) (sym number) ∙ n.heading;
      }

  -- ---- the module's tree

  known_few : (i : ℕ) (face : Face) → runs_in modules i ≡ true → face_in (slice_get known i) ≡ Some face → ShapesFit face.variables
  known_few i face ok at =
      let w = whole_at modules known code all i ok in
      let is_face = face_is modules known code all i face w at in
      face_few face.variables w.m.tree.variables is_face.variables w.compiled.ready.formed.variables

  faces_fit : (is : List ℕ) (faces : List Face) → AreKnown known is faces → AllRun (runs_in modules) is → FacesFit faces
  faces_fit [] [] a r = tt
  faces_fit [] (face ∷ faces) a r = absurd a
  faces_fit (i ∷ is) [] a r = absurd a
  faces_fit (i ∷ is) (face ∷ faces) a r = (known_few i face r.0 a.0, faces_fit is faces a.1 r.1)

  -- the command is what the face says
  called_in : (c : Command) (place : ℕ) (face : Face) → IsCallable modules c place → face_in (slice_get known c.home) ≡ Some face → face_heading (Some face) place ≡ Some plain
  called_in c place face h at =
      let w = whole_at modules known code all c.home h.may_run in
      let is_face = face_is modules known code all c.home face w at in
      let same : h.m ≡ w.m = some_same h.m w.m (sym h.there ∙ w.there) in
      heading_there face.procedures w.m.tree.procedures w.m.tree.exported place c.procedure plain is_face.procedures
      (ap (λ (m : Module). slice_get m.tree.exported place) (sym same) ∙ h.exported)
      (ap (λ (m : Module). own_heading (slice_get m.tree.procedures c.procedure)) (sym same) ∙ h.plain)

  calls_fit : (names : Names) (homes : List ℕ) (cs : List Command) (calls : List (ℕ × ℕ)) (faces : List Face) → AllCallable modules homes cs calls → AreKnown known homes faces → names.faces ≡ faces → ListFits names (calls_body calls)
  calls_fit names homes [] [] faces h a same = tt
  calls_fit names homes [] (call ∷ calls) faces h a same = absurd h
  calls_fit names homes (c ∷ cs) [] faces h a same = absurd h
  calls_fit names homes (c ∷ cs) (call ∷ calls) faces h a same =
      let k = known_at known homes faces a call.0 c.home h.1 in
      let there : slice_get names.faces call.0 ≡ Some k.0 = ap (λ (fs : List Face). slice_get fs call.0) same ∙ k.1 in
      let called : face_heading (slice_get names.faces call.0) call.1 ≡ Some plain = ap (λ o. face_heading o call.1) there ∙ called_in c call.1 k.0 h.0 k.2 in
      ((plain, called, refl, tt), calls_fit names homes cs calls faces h.2 a same)

  formed : (cs : List Command) (homes : List ℕ) (calls : List (ℕ × ℕ)) (faces : List Face) → AreCallable modules known cs homes calls faces → IsWellFormed faces (commands_tree calls)
  formed cs homes calls faces h = record {
    known = faces_fit homes faces h.agree h.run;
    variables = tt;
    exported = tt;
    procedures = tt;
    body = calls_fit (names_in faces (commands_tree calls)) homes cs calls faces h.each h.agree refl;
  }

  -- ---- its code

  module _ (cs : List Command) (homes : List ℕ) (calls : List (ℕ × ℕ)) (faces : List Face) (l : LinkedModule) (callable : AreCallable modules known cs homes calls faces) (is_behind : IsBehind code homes calls faces l) where
    abbrev longer : Code
    longer = code ++ l ∷ []

    may_run : MayRunAll modules known code
    may_run = each_may_run modules known code all

    count : length code ≡ length modules
    count = as_long modules modules known code 0 all.each

    l_there : slice_get longer (length modules) ≡ Some l
    l_there = ap (slice_get longer) (sym count) ∙ last_at code l

    -- the module after others changes nothing of them
    alike : (n : ℕ) → n < length code → runs_in modules n ≡ runs_with modules n
    alike n lt = ap (λ b. b || runs_in modules n) (sym other)
      where
        other : nat_eq n (length modules) ≡ false
        other = grind (arith, lt, count)

    import_of : (i : ℕ) (e : Entries) → slice_get l.code.imports.items i ≡ Some e → Imports longer (runs_with modules) l i e
    import_of i e at =
        let n = imported_at known (runs_in modules) homes faces l.code.imports.items i e callable.agree callable.run is_behind.generated.imports at in
        record {
          number = n.number;
          found = ap (λ is. slice_get is i) is_behind.imports ∙ n.found;
          as_known = as_known_alike code longer (runs_in modules) (runs_with modules) n.number e (kept_at code (l ∷ [])) alike (as_known modules known code all n.number n.k e n.may_run n.at n.of_face);
        }

    measured : (home : ℕ) (x : LinkedModule) → slice_get longer home ≡ Some x → runs_with modules home ≡ true → IsMeasured x.code
    measured home x at ok = by (kept_or_last code l x home at)
      where
        by : (slice_get code home ≡ Some x) ⊎ ((home ≡ length code) × (l ≡ x)) → IsMeasured x.code
        by (inl h) = may_run.measured home x h (alike home (slice_get_within code home x h) ∙ ok)
        by (inr h) = subst (λ (y : LinkedModule). IsMeasured y.code) h.1 (generated_measured faces (commands_tree calls) l.code (formed cs homes calls faces callable) is_behind.generated)

    linked : IsLinked longer (runs_with modules)
    linked = linked_behind code l (runs_in modules) (runs_with modules) alike may_run.linked is_behind.cells import_of

    -- ---- what it does

    import_is : (i : ℕ) → import_number longer (length modules) i ≡ slice_index homes i
    import_is i = ap (λ o. slice_index (imports_in o) i) l_there ∙ ap (λ is. slice_index is i) is_behind.imports

    leads : (i place : ℕ) (c : Command) → IsCallable modules c place → slice_get homes i ≡ Some c.home → LeadsTo (program_of modules) longer (runs_in modules) (length modules) (OfImport i place) c
    leads i place c h at =
        let w = whole_at modules known code all c.home h.may_run in
        let same : h.m ≡ w.m = some_same h.m w.m (sym h.there ∙ w.there) in
        let target : import_number longer (length modules) i ≡ c.home = import_is i ∙ index_at homes i c.home at in
        let exported : slice_get w.l.code.exported.items place ≡ Some c.procedure =
        ap (λ ps. slice_get ps place) w.compiled.ready.generated.exported ∙ ap (λ (m : Module). slice_get m.tree.exported place) (sym same) ∙ h.exported in
        record {
          target = target;
          number = ap (λ n. exported_number (slice_get longer n) place) target ∙ ap (λ o. exported_number o place) (kept_at code (l ∷ []) c.home w.l w.found) ∙ index_at w.l.code.exported.items place c.procedure exported;
          may_run = h.may_run;
          plain = ap (λ o. own_heading (procedure_in o c.procedure)) (loaded_there modules known code all c.home w) ∙ ap (λ (m : Module). own_heading (slice_get m.tree.procedures c.procedure)) (sym same) ∙ h.plain;
        }

    all_lead : (ds : List Command) (qs : List (ℕ × ℕ)) → AllCallable modules homes ds qs → AllLead (program_of modules) longer (runs_in modules) (length modules) (callees qs) ds
    all_lead [] [] h = tt
    all_lead [] (q ∷ qs) h = absurd h
    all_lead (d ∷ ds) [] h = absurd h
    all_lead (d ∷ ds) (q ∷ qs) h = (leads q.0 q.1 d h.0 h.1, all_lead ds qs h.2)

    commands_mean : IsCodeOfCommands (program_of modules) longer (runs_in modules) (length modules) cs
    commands_mean =
        let names = names_in faces (commands_tree calls) in
        let body = body_compiled faces (commands_tree calls) [] l.code.procedures.items is_behind.generated.procedures in
        record {
          module_of = l;
          found = l_there;
          body = body.0;
          last = body.1;
          calls = callees calls;
          lines = body.2.lines ∙ append-nil (list_code names (calls_body calls)) ∙ calls_code names calls;
          lead = all_lead cs calls callable.each;
        }

pub commands_form : EachCommandsForm
commands_form modules known code cs homes calls faces all callable = formed modules known code all cs homes calls faces callable

pub commands_run : EachCommandsMayRun
commands_run modules known code cs homes calls faces l all callable is_behind =
    let means : (shapes : Shapes) → AllAgree shapes modules → IsCodeOfProgram (program_of modules) (code ++ l ∷ []) (faces_at known) shapes (runs_in modules) =
    λ shapes agree. program_behind (program_of modules) code (l ∷ []) (faces_at known) shapes (runs_in modules) ((each_may_run modules known code all).means shapes agree) in
    let is_code = commands_mean modules known code all cs homes calls faces l callable is_behind in
    record {
      linked = linked modules known code all cs homes calls faces l callable is_behind;
      measured = measured modules known code all cs homes calls faces l callable is_behind;
      modules_mean = means;
      commands_mean = is_code;
      does = λ shapes agree. commands_behave (program_of modules) (code ++ l ∷ []) (faces_at known) shapes (runs_in modules) (means shapes agree) (length modules) cs is_code;
    }
