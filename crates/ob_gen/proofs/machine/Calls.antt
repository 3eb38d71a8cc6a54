-- Calls: the variables of a procedure come with its turn, and go when it returns.
use Rattle.std.proofs.Common.{◌≡◌, ℕ, zero, suc, ◌+◌, ◌-◌, ◌<◌, ℤ, pos, List, [], ◌∷◌, ◌++◌, length, take, drop, reverse, replicate, Option, Some, None, Bool, true, false, refl, sym, ap, ◌∙◌, subst, arith, length-append, append_assoc, append-nil}
use Rattle.std.specs.Prelude.{slice_get, nat_lt}
use Rattle.std.proofs.lemmas.Option.{slice_get_past, get_or_from_slice_get}
use Rattle.std.proofs.lemmas.Bool.Decides.{nat_tests}
use Rattle.std.proofs.lemmas.List.{reverse-append, reverse-reverse, length-reverse}
use Rattle.std.proofs.Math.Seq.{take-append_seam, drop-append_seam}
use Rattle.ob_mean.specs.declared.expression.Variable.TheVariants as variable
use Rattle.ob_mean.specs.declared.expression.TypedExpr.{TypedExpr}
use Rattle.ob_mean.specs.declared.expression.Callee.{Callee}
use Rattle.ob_mean.specs.declared.outcome.Outcome.TheVariants.{Trapped, Stopped}
use Rattle.ob_mean.specs.declared.outcome.TrapKind.TheVariants as trap
use Rattle.ob_mean.specs.declared.outcome.TurnKind.TheVariants as kind
use Rattle.ob_mean.specs.declared.shape.Shape.{Shape}
use Rattle.ob_mean.specs.declared.module.Parameter.{Parameter}
use Rattle.ob_mean.specs.declared.face.Face.{Face}
use Rattle.ob_mean.specs.declared.face.Heading.{Heading}
use Rattle.ob_inout.specs.Reading.{Line as InputLine}
use Rattle.ob_mean.specs.Values.{Place, Whole, Part, Value, Nothing, Beside, count, size, item, before, get, offset, shape, image, append, first}
use Rattle.ob_mean.specs.Shapes.{zeros}
use Rattle.ob_mean.specs.Runs.{World, Supply, supply, Goes, turn, with_store}
use Rattle.ob_mean.specs.Expressions.{Scope, value_of}
use Rattle.ob_mean.specs.Statements.{list_meaning}
use Rattle.ob_mean.specs.Programs.{Program, opening_store, home_of, scope_at, result_of, entered, procedure_meaning, found_meaning, call_at, max_depth}
use Rattle.ob_mean.specs.WellFormed.{Object, Of, OpenOf, Names, is_there, own_object, named_object, is_extended, ResultFits, cell_limit}
use Rattle.ob_code.specs.declared.instr.Instr.TheVariants.{Invoke}
use Rattle.ob_code.specs.declared.instr.Line.{Line}
use Rattle.ob_code.specs.declared.instr.Name.{Name}
use Rattle.ob_code.specs.declared.instr.Told.{Told}
use Rattle.ob_code.specs.declared.instr.Root.TheVariants as root
use Rattle.ob_code.specs.Machine.{Code, Config, Point, Going, Standing, no_name, type_of, procedure_in as code_procedure_in, number_of, lines_in as lines_of_procedure, invoked, found as enters, entry_cells, act, take_effect, Comes}
use Rattle.ob_gen.specs.Code.{line, extent_at, parameter_row, own_row, named_before, list_code, result_code}
use Rattle.ob_gen.specs.TypesAgree.{Shapes, ResultAgrees}
use Rattle.ob_gen.specs.Correct.{IsCodeOfProgram}
use Rattle.ob_code.proofs.machine.Runs.{stays, steps_on, performs}
use Rattle.ob_gen.proofs.machine.Reaches.{HasAt, has_front, has_back, has_all, Running, conf, here, lines_in, Good, Reaches, AnyNumber, AnyDone, SoMany, follows, binds, ties, moved, BeginsWith, Same, Longer}
use Rattle.ob_gen.proofs.machine.Store.{Inside, IsRow, length-image, count-shape, size-shape, shape-append, shape_at, size-append, image-append, row-append, row-shape, append-assoc, count-append, item-next, before-next, get-front, leads-front, offset-front, grows, shrinks, shrinks-shape}
use Rattle.ob_gen.proofs.machine.Zeros.{shape-zeros, image-zeros}
use Rattle.ob_gen.proofs.machine.Places.{rooted, IsTold, IsObject, PlaceFits, VariableFits, FrameFits}
use Rattle.ob_gen.proofs.machine.Records.{told_cells, told_front}
use Rattle.ob_gen.proofs.machine.Passing.{PassedFit, names_passed, pile, results, CallsRun}
use Rattle.ob_gen.proofs.machine.Expressions.{expr_runs}
use Rattle.ob_gen.proofs.machine.Actions.{variables_hold, action_runs}
use Rattle.ob_gen.proofs.machine.Statements.{list_runs}
use Rattle.ob_gen.proofs.machine.Few.{own_few}
use Rattle.ob_gen.proofs.machine.Frames.{NamesAt, held_own, own_of, names_own, passed_row, passed_names, passed_all, passed_size, variable_at, StoreFits, get_left, get_right}
use Rattle.ob_gen.proofs.machine.Linked.{no_type, CodeAt, callee_at, names_at, frame_fits}

-- ---- operands

pile-is : (vs stack : List ℤ) → pile vs stack ≡ reverse vs ++ stack
pile-is [] stack = refl
pile-is (v ∷ vs) stack =
    pile-is vs (v ∷ stack)
    ∙ sym (append_assoc (reverse vs) (v ∷ []) stack)
    ∙ ap (λ l. l ++ stack) (sym (reverse-append (v ∷ []) vs))

pile-over : (vs stack under : List ℤ) → pile vs stack ++ under ≡ reverse vs ++ (stack ++ under)
pile-over vs stack under = ap (λ l. l ++ under) (pile-is vs stack) ∙ append_assoc (reverse vs) stack under

drops : (k : ℕ) (vs stack under : List ℤ) → k ≡ length vs → drop k (pile vs stack ++ under) ≡ stack ++ under
drops k vs stack under e =
    ap (drop k) (pile-over vs stack under) ∙ ap (λ n. drop n (reverse vs ++ (stack ++ under))) (e ∙ sym (length-reverse vs)) ∙ drop-append_seam (reverse vs) (stack ++ under)

takes : (k : ℕ) (vs stack under : List ℤ) → k ≡ length vs → reverse (take k (pile vs stack ++ under)) ≡ vs
takes k vs stack under e =
    ap (λ l. reverse (take k l)) (pile-over vs stack under) ∙ ap (λ n. reverse (take n (reverse vs ++ (stack ++ under)))) (e ∙ sym (length-reverse vs))
    ∙ ap reverse (take-append_seam (reverse vs) (stack ++ under)) ∙ reverse-reverse vs

-- ---- how many calls may be open

no_room : (depth : ℕ) → 0 + depth ≡ max_depth → nat_lt depth max_depth ≡ false
no_room depth e = grind (arith, nat_tests)

room_left : (more depth : ℕ) → suc more + depth ≡ max_depth → nat_lt depth max_depth ≡ true
room_left more depth e = grind (arith, nat_tests)

-- ---- what a call finds

parameters-row : (ps : List Parameter) → IsRow (parameter_row ps)
parameters-row [] = tt
parameters-row (p ∷ ps) = parameters-row ps

object-front : (s more : Value) (many : ℕ) (o : Object) (p : Place) → Inside s p → IsObject s many o p → IsObject (append s more) many o p
object-front s more many (Of t) p lead is = get-front s more p lead ∙ is
object-front s more many (OpenOf t) p lead is = get-front s more p lead ∙ is

module _ (program : Program) (code : Code) (faces : ℕ → List Face) (shapes : Shapes) (runs : ℕ → Bool) (whole : IsCodeOfProgram program code faces shapes runs) where
  -- ---- a call that may be made, with a turn left
  module _ (r : Running) (s : Value) (more : ℕ) (fit : StoreFits program s) (f : Callee) (g : Heading) (c : CodeAt program code faces shapes runs whole r.home f g) (l h k pc : ℕ) (xs : List Told) (a : Value) (stack : List ℤ) (pending : List Name) (t : ℕ) (ls : List InputLine) (w : World) (fits : shape w.store ≡ s) (passed : PassedFit code shapes s xs c.tree.parameters a) where
    abbrev names' : Names
    names' = names_at program code faces shapes runs whole c.there c.ok c.tree.parameters c.tree.variables

    abbrev scope' : Scope
    scope' = scope_at program more c.there (count w.store)

    abbrev own : Value
    own = own_of a c.tree.variables

    abbrev tail : Value
    tail = Beside own Nothing

    abbrev s' : Value
    s' = append s tail

    abbrev w0 : World
    w0 = with_store w (entered w.store a c.tree)

    shape-more : shape (append a (zeros c.tree.variables)) ≡ own
    shape-more = shape-append a (zeros c.tree.variables) ∙ ap (append (shape a)) (shape-zeros c.tree.variables)

    pub shape0 : shape w0.store ≡ s'
    shape0 =
        shape-append w.store (Beside (append a (zeros c.tree.variables)) Nothing)
        ∙ ap (λ v. append (shape w.store) (Beside v Nothing)) shape-more
        ∙ ap (λ x. append x tail) fits

    -- the names of the callers, and those that are passed
    abbrev outer : List Name
    outer = r.below ++ pending

    abbrev fresh : List Name
    fresh = names_passed s xs a

    abbrev r' : Running
    r' = record {
      home = c.there;
      procedure = c.p;
      cells = length (image w.store);
      names = length outer;
      frames = record { home = r.home; procedure = r.procedure; place = pc + 1; cells = r.cells; names = r.names } ∷ r.frames;
      under = stack ++ r.under;
      below = outer ++ fresh;
    }

    count_is : count w.store ≡ count s
    count_is = sym (count-shape w.store) ∙ ap count fits

    size_is : length (image w.store) ≡ size s
    size_is = length-image w.store ∙ sym (size-shape w.store) ∙ ap size fits

    at_frame : item s' (count w.store) ≡ own
    at_frame = ap (item s') count_is ∙ item-next s own Nothing fit.row

    before_frame : before s' (count w.store) ≡ length (image w.store)
    before_frame = ap (before s') count_is ∙ before-next s tail fit.row ∙ sym size_is

    there_frame : count w.store < count s'
    there_frame = let e = count-append s tail in omega (arith, e, count_is)

    pub fit' : StoreFits program s'
    fit' = record {
      row = row-append s tail fit.row tt;
      others = append fit.others tail;
      has = ap (λ x. append x tail) fit.has ∙ append-assoc (shape (opening_store program)) fit.others tail;
    }

    size_own : size (own_row names') ≡ size (parameter_row c.tree.parameters) + size (zeros c.tree.variables)
    size_own = size-append (parameter_row c.tree.parameters) (zeros c.tree.variables) (parameters-row c.tree.parameters)

    own_holds : (x : ℕ) (o : Object) → own_object c.tree.parameters c.tree.variables x ≡ Some o → VariableFits code shapes r' s' names' scope' (variable.OfProcedure x) o
    own_holds x o e =
        let held = held_own code shapes s xs c.tree.parameters c.tree.variables a x o passed e in
        let ext = extent_at (own_row names') x in
        let name = rooted code r' (root.OfCall ext) in
        let v = variable_at s' (count w.store) x (length (image w.store)) own held.0 ext name there_frame at_frame before_frame held.2 refl refl in
        subst (VariableFits code shapes r' s' names' scope' (variable.OfProcedure x)) (sym held.1)
        (record {
          place = Part (Part Whole (count w.store)) x;
          stands = λ v q. refl;
          root = record { found = λ pc stack pending w. refl; low = own_few c.tree.parameters c.tree.variables x c.fits.2 };
          fits = v.0;
          at = v.1;
          told = λ t. no_type t;
          tells = λ w q t. no_type t;
        })

    -- what is told of a parameter is told during the call
    told_in_call : (x : ℕ) (o : Object) (n : NamesAt code shapes s own fresh (slice_get c.tree.parameters x) x (named_before c.tree.parameters x) o) → is_extended (slice_get c.tree.parameters x) ≡ true → offset s' n.place ≡ offset s n.place → IsTold code shapes s' n.name o n.place
    told_in_call x o n t off =
        let told = n.told t in
        let types = type_of code n.name in
        record {
          kind = told.kind;
          is = told.is;
          holds = told_front shapes s tail n.place types told.kind told.holds;
          at = off ∙ n.at;
          cells = told.cells ∙ told_cells shapes s n.place types told.kind told.holds s n.place ∙ sym (told_cells shapes s n.place types told.kind told.holds s' n.place);
          plain = told.plain;
        }

    own_names : (x : ℕ) (o : Object) → named_object (slice_get c.tree.parameters x) ≡ Some o → VariableFits code shapes r' s' names' scope' (variable.ByParameter x) o
    own_names x o e =
        let n = names_own code shapes s xs c.tree.parameters c.tree.variables a x o passed e in
        let y = named_before c.tree.parameters x in
        let name = n.name in
        let at_y : slice_get (outer ++ fresh) (length outer + y) ≡ Some name = get_right outer fresh y ∙ n.found in
        let is_name : rooted code r' (root.Named y) ≡ name = get_or_from_slice_get (outer ++ fresh) (length outer + y) name no_name at_y in
        let off = offset-front s tail n.place n.leads in
        let what = ap size (get-front s tail n.place n.leads) in
        let at = n.at in
        let enough = n.whole in
        let fits_name : PlaceFits s' name o n.place = record {
          leads = leads-front s tail n.place n.leads;
          from = omega (arith, off, at);
          ends = omega (arith, off, what, at, enough);
          is = object-front s tail name.length o n.place n.leads n.is;
        } in
        let what_is : (v : World) → shape v.store ≡ s' → shape (get v.store (Part (Part Whole (count w.store)) x)) ≡ item own x =
        λ v q. shape_at s' v.store (Part (Part Whole (count w.store)) x) q ∙ ap (λ u. item u x) at_frame in
        record {
          place = n.place;
          stands = λ v q. n.called (get v.store (Part (Part Whole (count w.store)) x)) (what_is v q);
          root = record {
            found = λ pc stack pending' w. get_or_from_slice_get ((outer ++ fresh) ++ pending') (length outer + y) name no_name (get_left (outer ++ fresh) pending' (length outer + y) name at_y) ∙ sym is_name;
            low = subst (λ (z : Name). z.cells < cell_limit) (sym is_name) n.low;
          };
          fits = subst (λ z. PlaceFits s' z o n.place) (sym is_name) fits_name;
          at = off ∙ at ∙ ap (λ (z : Name). z.address) (sym is_name);
          told = λ t. subst (λ z. IsTold code shapes s' z o n.place) (sym is_name) (told_in_call x o n t off);
          tells = λ v q t. (n.told t).called (get v.store (Part (Part Whole (count w.store)) x)) (what_is v q) ∙ ap (type_of code) (sym is_name);
        }

    pub frame' : FrameFits code shapes r' s' names' scope'
    frame' = frame_fits program code faces shapes runs whole r' s' c.tree.parameters c.tree.variables more (count w.store) c.ok fit' (record { holds = own_holds; names_it = own_names })

    -- ---- the way in

    names_len : c.proc.entry.names ≡ length fresh
    names_len = c.is_code.names_taken ∙ sym (passed_names code shapes s xs c.tree.parameters a passed)

    operands_len : c.proc.entry.operands ≡ length (image a)
    operands_len =
        let all = c.is_code.all_taken in
        let some = c.is_code.names_taken in
        let both = passed_all code shapes s xs c.tree.parameters a passed in
        omega (arith, all, some, both)

    zero_cells : c.proc.cells - c.proc.entry.operands ≡ size (zeros c.tree.variables)
    zero_cells =
        let cells = c.is_code.cells in
        let passed_cells : length (image a) ≡ size (parameter_row c.tree.parameters) = length-image a ∙ sym (size-shape a) ∙ passed_size code shapes s xs c.tree.parameters a passed in
        omega (arith, cells, size_own, passed_cells, operands_len)

    new_cells : image w0.store ≡ image w.store ++ (image a ++ replicate (size (zeros c.tree.variables)) (pos 0))
    new_cells =
        let row : IsRow w.store = row-shape w.store (subst IsRow (sym fits) fit.row) in
        grows w.store (append a (zeros c.tree.variables)) row
        ∙ ap (λ x. image w.store ++ x) (image-append a (zeros c.tree.variables) (passed_row code shapes s xs c.tree.parameters a passed))
        ∙ ap (λ x. image w.store ++ (image a ++ x)) (image-zeros c.tree.variables)

    abbrev from : Config
    from = conf r pc (pile (image a) stack) (pending ++ fresh) w

    abbrev entry : ℕ → List ℤ → List Name → List ℤ → Config
    entry names under all cells = record {
      at = record { home = c.there; procedure = c.p; place = 0; cells = length (image w.store); names = names };
      stack = under;
      names = all;
      frames = r'.frames;
      memory = record { cells = cells; written = w.written; input = w.input };
    }

    all_names : r.below ++ (pending ++ fresh) ≡ outer ++ fresh
    all_names = sym (append_assoc r.below pending fresh)

    names_from : length (r.below ++ (pending ++ fresh)) - c.proc.entry.names ≡ length outer
    names_from = let e = ap length all_names in let m = length-append outer fresh in omega (arith, e, m, names_len)

    pub comes : nat_lt (length r.frames) max_depth ≡ true → slice_get (lines_in code r) pc ≡ Some (line h k (Invoke f l)) → Comes code (Going (supply (suc t) ls) from) (here r' 0 [] [] (supply t ls) w0)
    comes room has =
        let n = supply (suc t) ls in
        let st = pile (image a) stack ++ r.under in
        let ops = c.proc.entry.operands in
        let number = number_of code r.home f in
        let all = r.below ++ (pending ++ fresh) in
        let go : ℕ → List ℤ → List Name → List ℤ → Point = λ names under every cells. Going (supply t ls) (entry names under every (image w.store ++ cells)) in
        performs code n from (line h k (Invoke f l)) (here r' 0 [] [] (supply t ls) w0) has
        (ap (λ b. take_effect (invoked b code f l from) n from) room
        ∙ ap (λ x. take_effect (enters (code_procedure_in (slice_get code x) number) x number from) n from) c.target
        ∙ ap (λ x. take_effect (enters (code_procedure_in (slice_get code c.there) x) c.there x from) n from) c.number
        ∙ ap (λ o. take_effect (enters o c.there c.p from) n from) c.found
        ∙ ap (λ m. go m (drop ops st) all (entry_cells st c.proc)) names_from
        ∙ ap (λ u. go (length outer) u all (entry_cells st c.proc)) (drops ops (image a) stack r.under operands_len)
        ∙ ap (λ ns. go (length outer) (stack ++ r.under) ns (entry_cells st c.proc)) (all_names ∙ sym (append-nil (outer ++ fresh)))
        ∙ ap (λ vs. go (length outer) (stack ++ r.under) ((outer ++ fresh) ++ []) (vs ++ replicate (c.proc.cells - ops) (pos 0))) (takes ops (image a) stack r.under operands_len)
        ∙ ap (λ m. go (length outer) (stack ++ r.under) ((outer ++ fresh) ++ []) (image a ++ replicate m (pos 0))) zero_cells
        ∙ ap (λ x. Going (supply t ls) (entry (length outer) (stack ++ r.under) ((outer ++ fresh) ++ []) x)) (sym new_cells))

    -- ---- the body

    abbrev body : List Line
    body = list_code names' c.tree.body

    abbrev value : List Line
    value = result_code names' c.tree.result

    lines_is : lines_in code r' ≡ body ++ value
    lines_is = ap lines_of_procedure c.found ∙ c.is_code.lines

    has_code : HasAt (lines_in code r') 0 (body ++ value)
    has_code = subst (λ x. HasAt x 0 (body ++ value)) (sym lines_is) (has_all (body ++ value) [])

    has_value : HasAt (lines_in code r') (length body) value
    has_value = let e : 0 + length body ≡ length body = omega arith in subst (λ m. HasAt (lines_in code r') m value) e (has_back (lines_in code r') 0 body value has_code)

    body_done : (most : ℕ) → Good most s (supply (suc t) ls) w → CallsRun code shapes r' s' names' scope' → Reaches code most s' AnyDone (here r' 0 [] [] (supply t ls) w0) (λ d n' w'. here r' (length body) [] [] n' w') (list_meaning scope' c.tree.body (supply t ls) w0)
    body_done most g calls =
        let good : Good most s' (supply t ls) w0 = record { less = let b = g.less in omega (arith, b); fits = shape0 } in
        let e : 0 + length body ≡ length body = omega arith in
        moved code most s' _ _ AnyDone (λ x d n' w'. here r' x [] [] n' w') (here r' 0 [] [] (supply t ls) w0) (list_meaning scope' c.tree.body (supply t ls) w0) e
        (list_runs code shapes r' s' names' scope' (expr_runs code shapes r' s' names' scope' frame' calls) (action_runs code shapes r' s' names' scope' frame' calls) (variables_hold code shapes r' s' names' scope' frame') refl
        c.tree.body 0 (supply t ls) most w0 c.fits.0 c.types.0 good (has_front (lines_in code r') 0 body value has_code))

    value_done : (v : Option TypedExpr) (n : Supply) (most : ℕ) (w1 : World) → ResultFits names' v → ResultAgrees shapes v → Good most s' n w1 → CallsRun code shapes r' s' names' scope' → HasAt (lines_in code r') (length body) (result_code names' v) → Reaches code most s' (SoMany (results (is_there v))) (here r' (length body) [] [] n w1) (λ vs n' w'. here r' (length body + length (result_code names' v)) vs [] n' w') (result_of scope' v n w1)
    value_done None n most w1 ty ag g calls has =
        moved code most s' (length body) (length body + 0) (SoMany 0) (λ x vs n' w'. here r' x vs [] n' w') (here r' (length body) [] [] n w1) (Goes [] n w1) (omega arith) (g, refl, stays code (here r' (length body) [] [] n w1))
    value_done (Some e) n most w1 ty ag g calls has =
        let end = length body + length (result_code names' (Some e)) in
        ties code most s' AnyNumber (SoMany 1) (here r' (length body) [] [] n w1) (λ v n' w'. here r' end (v ∷ []) [] n' w') (λ vs n' w'. here r' end vs [] n' w') (value_of scope' e n w1) _
        (expr_runs code shapes r' s' names' scope' frame' calls e 0 0 (length body) [] [] n most w1 ty ag g has)
        (λ v n2 w2 g2 k2. (g2, refl, stays code (here r' end (v ∷ []) [] n2 w2)))

    -- ---- the way back

    abbrev back : List ℤ → Supply → World → Point
    back vs n w = here r (pc + 1) (vs ++ stack) pending n w

    low : (w2 : World) → shape w2.store ≡ s' → shape (first (count w.store) w2.store) ≡ s
    low w2 e = ap (λ k. shape (first k w2.store)) count_is ∙ shrinks-shape s tail w2.store fit.row e

    kept : (w2 : World) → shape w2.store ≡ s' → take (length (image w.store)) (image w2.store) ≡ image (first (count w.store) w2.store)
    kept w2 e = ap (λ k. take k (image w2.store)) size_is ∙ sym (shrinks s tail w2.store fit.row e) ∙ ap (λ k. image (first k w2.store)) (sym count_is)

    leaves : (vs : List ℤ) (n2 : Supply) (w2 : World) → shape w2.store ≡ s' → Comes code (here r' (length body + length value) vs [] n2 w2) (back vs n2 (with_store w2 (first (count w.store) w2.store)))
    leaves vs n2 w2 e =
        let end = length body + length value in
        let c2 = conf r' end vs [] w2 in
        let past : slice_get (lines_in code r') end ≡ None = ap (λ x. slice_get x end) lines_is ∙ slice_get_past (body ++ value) end (omega (arith, length-append body value)) in
        let go : List ℤ → List Name → List ℤ → Point = λ under every cells. Going n2 (record { at = (conf r (pc + 1) [] [] w).at; stack = under; names = every; frames = r.frames; memory = record { cells = cells; written = w2.written; input = w2.input } }) in
        let names_left : take (length outer) ((outer ++ fresh) ++ []) ≡ outer = ap (take (length outer)) (append-nil (outer ++ fresh)) ∙ take-append_seam outer fresh in
        steps_on code (Going n2 c2) (back vs n2 (with_store w2 (first (count w.store) w2.store)))
        (ap (λ o. take_effect (act code o c2) n2 c2) past
        ∙ ap (λ u. go u (take (length outer) ((outer ++ fresh) ++ [])) (take (length (image w.store)) (image w2.store))) (sym (append_assoc vs stack r.under))
        ∙ ap (λ x. go ((vs ++ stack) ++ r.under) x (take (length (image w.store)) (image w2.store))) names_left
        ∙ ap (λ x. go ((vs ++ stack) ++ r.under) outer x) (kept w2 e))

    -- ---- all of it

    -- what begins with the call's variables begins with the callers'
    begins : (t : Value) → BeginsWith s' t → BeginsWith s t
    begins t (Same e) = Longer tail e
    begins t (Longer more e) = Longer (append tail more) (e ∙ append-assoc s tail more)

    pub entered_runs : (most : ℕ) → nat_lt (length r.frames) max_depth ≡ true → Good most s (supply (suc t) ls) w → slice_get (lines_in code r) pc ≡ Some (line h k (Invoke f l)) → CallsRun code shapes r' s' names' scope' → Reaches code most s (SoMany (results g.is_function)) (Going (supply (suc t) ls) from) back (procedure_meaning scope' c.tree a (supply t ls) w)
    entered_runs most room good has calls =
        let many : results (is_there c.tree.result) ≡ results g.is_function = ap (λ (x : Heading). results x.is_function) c.heading in
        follows code most s (SoMany (results g.is_function)) (Going (supply (suc t) ls) from) (here r' 0 [] [] (supply t ls) w0) back (procedure_meaning scope' c.tree a (supply t ls) w) (comes room has)
        (binds code most s' s AnyDone (SoMany (results g.is_function)) (here r' 0 [] [] (supply t ls) w0) (λ d n' w'. here r' (length body) [] [] n' w') back (list_meaning scope' c.tree.body (supply t ls) w0) _ (body_done most good calls) begins
        (λ d n1 w1 g1 k1. binds code most s' s (SoMany (results (is_there c.tree.result))) (SoMany (results g.is_function)) (here r' (length body) [] [] n1 w1) (λ vs n' w'. here r' (length body + length value) vs [] n' w') back (result_of scope' c.tree.result n1 w1) _
        (value_done c.tree.result n1 most w1 c.fits.1 c.types.1 g1 calls has_value) begins
        (λ vs n2 w2 g2 k2. (record { less = g2.less; fits = low w2 g2.fits }, k2 ∙ many, leaves vs n2 w2 g2.fits))))

  -- ---- every call, by how many more may be open

  -- a call that may be made, by the turns left
  pub called_runs : (r : Running) (s : Value) (more : ℕ) (fit : StoreFits program s) (f : Callee) (g : Heading) (c : CodeAt program code faces shapes runs whole r.home f g) (l h k pc : ℕ) (xs : List Told) (a : Value) (stack : List ℤ) (pending : List Name) (t : ℕ) (ls : List InputLine) (most : ℕ) (w : World) → nat_lt (length r.frames) max_depth ≡ true → (good : Good most s (supply t ls) w) → (passed : PassedFit code shapes s xs c.tree.parameters a) → slice_get (lines_in code r) pc ≡ Some (line h k (Invoke f l))
      → ((r' : Running) (s' : Value) (ps : List Parameter) (ts : List Shape) (frame : ℕ) (ok : runs r'.home ≡ true) → StoreFits program s' → length r'.frames ≡ length r.frames + 1 → CallsRun code shapes r' s' (names_at program code faces shapes runs whole r'.home ok ps ts) (scope_at program more r'.home frame))
      → Reaches code most s (SoMany (results g.is_function)) (here r pc (pile (image a) stack) (pending ++ names_passed s xs a) (supply t ls) w) (λ vs n' w'. here r (pc + 1) (vs ++ stack) pending n' w') (turn kind.ProcedureCall (supply t ls) w (λ n1. procedure_meaning (scope_at program more c.there (count w.store)) c.tree a n1 w))
  called_runs r s more fit f g c l h k pc xs a stack pending zero ls most w room good passed has calls =
      let from = conf r pc (pile (image a) stack) (pending ++ names_passed s xs a) w in
      let n = supply 0 ls in
      let number = number_of code r.home f in
      record {
        there = from;
        comes = performs code n from (line h k (Invoke f l)) (Standing (Stopped kind.ProcedureCall) n from) has
            (ap (λ b. take_effect (invoked b code f l from) n from) room
            ∙ ap (λ x. take_effect (enters (code_procedure_in (slice_get code x) number) x number from) n from) c.target
            ∙ ap (λ x. take_effect (enters (code_procedure_in (slice_get code c.there) x) c.there x from) n from) c.number
            ∙ ap (λ o. take_effect (enters o c.there c.p from) n from) c.found);
        same = refl;
        kept = Same good.fits;
      }
  called_runs r s more fit f g c l h k pc xs a stack pending (suc t) ls most w room good passed has calls =
      entered_runs r s more fit f g c l h k pc xs a stack pending t ls w good.fits passed most room good has
      (calls (r' r s more fit f g c l h k pc xs a stack pending t ls w good.fits passed) (s' r s more fit f g c l h k pc xs a stack pending t ls w good.fits passed) c.tree.parameters c.tree.variables (count w.store) c.ok (fit' r s more fit f g c l h k pc xs a stack pending t ls w good.fits passed) (omega arith))

  pub calls_run : (more : ℕ) (r : Running) (s : Value) (ps : List Parameter) (ts : List Shape) (frame : ℕ) (ok : runs r.home ≡ true) → StoreFits program s → more + length r.frames ≡ max_depth → CallsRun code shapes r s (names_at program code faces shapes runs whole r.home ok ps ts) (scope_at program more r.home frame)
  unfolding call_at
  calls_run zero r s ps ts frame ok fit e =
      record {
        by = λ f l h k pc g xs a stack pending n most w good at_f passed has.
            let from = conf r pc (pile (image a) stack) (pending ++ names_passed s xs a) w in
            record {
              there = from;
              comes = performs code n from (line h k (Invoke f l)) (Standing (Trapped trap.CallDepth r.home l) n from) has (ap (λ b. take_effect (invoked b code f l from) n from) (no_room (length r.frames) e));
              same = refl;
              kept = Same good.fits;
            };
      }
  calls_run (suc more) r s ps ts frame ok fit e =
      record {
        by = λ f l h k pc g xs a stack pending n most w good at_f passed has.
            let found = callee_at program code faces shapes runs whole r.home ok ps ts f g at_f in
            let c = found.at in
            let to : List ℤ → Supply → World → Point = λ vs n' w'. here r (pc + 1) (vs ++ stack) pending n' w' in
            let from = here r pc (pile (image a) stack) (pending ++ names_passed s xs a) n w in
            let args : PassedFit code shapes s xs c.tree.parameters a = subst (λ (x : Heading). PassedFit code shapes s xs x.parameters a) (sym c.heading) passed in
            subst (λ o. Reaches code most s (SoMany (results g.is_function)) from to (turn kind.ProcedureCall n w (λ n1. found_meaning (scope_at program more (home_of program r.home f) (count w.store)) o a n1 w))) (sym found.tree_is)
            (subst (λ x. Reaches code most s (SoMany (results g.is_function)) from to (turn kind.ProcedureCall n w (λ n1. procedure_meaning (scope_at program more x (count w.store)) c.tree a n1 w))) (sym found.home_is)
            (called_runs r s more fit f g c l h k pc xs a stack pending n.turns n.lines most w (room_left more (length r.frames) e) good args has
            (λ r1 s1 ps1 ts1 frame1 ok1 fit1 len. calls_run more r1 s1 ps1 ts1 frame1 ok1 fit1 (omega (arith, e, len)))));
      }
