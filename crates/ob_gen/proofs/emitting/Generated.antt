-- The tables and entries of a module.
use Rattle.std.proofs.Common.{◌≡◌, ℕ, zero, suc, ◌+◌, ◌<◌, ◌≤◌, arith, length, drop, map, get_or, List, [], ◌∷◌, ◌++◌, Option, Some, None, refl, sym, ap, ◌∙◌, subst, append_assoc, append-nil}
use Rattle.std.specs.Prelude.{is_some}
use Rattle.std.proofs.lemmas.List.{drop_more}
use Rattle.ob_mean.specs.declared.face.Face.{Face}
use Rattle.ob_mean.specs.declared.shape.Shape.{Shape}
use Rattle.ob_mean.specs.declared.module.Parameter.{Parameter}
use Rattle.ob_mean.specs.declared.module.Parameter.TheVariants as parameter
use Rattle.ob_mean.specs.declared.module.ModuleVariable.{ModuleVariable}
use Rattle.ob_mean.specs.declared.module.TypedModule.{TypedModule}
use Rattle.ob_mean.specs.declared.module.TypedProcedure.{TypedProcedure}
use Rattle.ob_mean.specs.Values.{size, append}
use Rattle.ob_mean.specs.Texts.{text_row}
use Rattle.ob_mean.specs.Shapes.{zero_of, zeros, opening_row, opening_value}
use Rattle.ob_mean.specs.WellFormed.{is_there, names_in, names_of}
use Rattle.ob_code.specs.declared.instr.Entries.{Entries}
use Rattle.ob_code.specs.declared.instr.Procedure.{Procedure}
use Rattle.ob_gen.specs.Code.{parameter_row, parameter_value}
use Rattle.ob_gen.specs.Correct.{IsCodeOf, AreCompiled, named_count, parameter_count}
use Rattle.ob_gen.specs.Generated.{valued_count, AreOfFaces, HasRoom, AllHaveRoom}
use Rattle.ob_table.specs.Tables.{row_sizes, cells_in}

pub text_size : (n : ℕ) (cs : List ℕ) → size (text_row n cs) ≡ n
text_size zero cs = refl
text_size (suc n) [] = let e = text_size n [] in omega (arith, e)
text_size (suc n) (c ∷ cs) = let e = text_size n cs in omega (arith, e)

pub cells_zeros : (shapes : List Shape) → cells_in (row_sizes (zeros shapes)) ≡ size (zeros shapes)
cells_zeros [] = refl
cells_zeros (x ∷ xs) = ap (λ k. size (zero_of x) + k) (cells_zeros xs)

pub cells_opening : (vs : List ModuleVariable) → cells_in (row_sizes (opening_row vs)) ≡ size (opening_row vs)
cells_opening [] = refl
cells_opening (v ∷ vs) = ap (λ k. size (opening_value v) + k) (cells_opening vs)

pub cells_own : (ps : List Parameter) (shapes : List Shape) → cells_in (row_sizes (append (parameter_row ps) (zeros shapes))) ≡ size (append (parameter_row ps) (zeros shapes))
cells_own [] shapes = cells_zeros shapes
cells_own (p ∷ ps) shapes = ap (λ k. size (parameter_value p) + k) (cells_own ps shapes)

pub counts : (ps : List Parameter) → valued_count ps + named_count ps ≡ parameter_count ps
counts [] = omega arith
counts (parameter.Value ∷ ps) = let e = counts ps in omega (arith, e)
counts (parameter.Place shape ∷ ps) = let e = counts ps in omega (arith, e)
counts (parameter.Open shape ∷ ps) = let e = counts ps in omega (arith, e)
counts (parameter.Extended shape ∷ ps) = let e = counts ps in omega (arith, e)

pub there_is : {A : Type 0} (o : Option A) → is_some o ≡ is_there o
there_is None = refl
there_is (Some a) = refl

-- ---- at the end of a loop

drop_past : {A : Type 0} (xs : List A) (i : ℕ) → length xs ≤ i → drop i xs ≡ []
drop_past [] zero le = refl
drop_past [] (suc i) le = refl
drop_past (x ∷ xs) zero le = absurd (omega (arith, le))
drop_past (x ∷ xs) (suc i) le = drop_past xs i (omega (arith, le))

pub list_done : {A B : Type 0} (f : A → B) (xs : List A) (i : ℕ) (ys : List B) → length xs ≤ i → ys ++ map f (drop i xs) ≡ map f xs → ys ≡ map f xs
list_done f xs i ys le h = sym (append-nil ys) ∙ ap (λ l. ys ++ map f l) (sym (drop_past xs i le)) ∙ h

pub faces_done : (faces : List Face) (i : ℕ) (es : List Entries) → length faces ≤ i → ((rest : List Entries) → AreOfFaces (drop i faces) rest → AreOfFaces faces (es ++ rest)) → AreOfFaces faces es
faces_done faces i es le h =
    subst (AreOfFaces faces) (append-nil es) (h [] (subst (λ l. AreOfFaces l []) (sym (drop_past faces i le)) tt))

-- ---- procedures

pub compiled_next : (faces : List Face) (m : TypedModule) (fs : List TypedProcedure) (i : ℕ) (f : TypedProcedure) (gs gs' : List Procedure) (g : Procedure) → i < length fs → f ≡ get_or fs i f → gs' ≡ gs ++ g ∷ [] → IsCodeOf (names_of faces m f) f.body f.result g → ((rest : List Procedure) → AreCompiled faces m (drop i fs) rest → AreCompiled faces m fs (gs ++ rest)) → (rest : List Procedure) → AreCompiled faces m (drop (i + 1) fs) rest → AreCompiled faces m fs (gs' ++ rest)
compiled_next faces m fs i f gs gs' g lt e more code h rest hr =
    let front : drop i fs ≡ f ∷ drop (i + 1) fs = drop_more fs i f lt ∙ ap (λ x. x ∷ drop (i + 1) fs) (sym e) in
    let all = h (g ∷ rest) (subst (λ l. AreCompiled faces m l (g ∷ rest)) (sym front) (code, hr)) in
    subst (AreCompiled faces m fs) (sym (append_assoc gs (g ∷ []) rest) ∙ ap (λ l. l ++ rest) (sym more)) all

pub compiled_whole : (faces : List Face) (m : TypedModule) (fs : List TypedProcedure) (i : ℕ) (gs gs' : List Procedure) (g : Procedure) → length fs ≤ i → gs' ≡ gs ++ g ∷ [] → IsCodeOf (names_in faces m) m.body None g → ((rest : List Procedure) → AreCompiled faces m (drop i fs) rest → AreCompiled faces m fs (gs ++ rest)) → AreCompiled faces m fs gs'
compiled_whole faces m fs i gs gs' g le more code h =
    subst (AreCompiled faces m fs) (sym more) (h (g ∷ []) (subst (λ l. AreCompiled faces m l (g ∷ [])) (sym (drop_past fs i le)) code))

rooms_append : (gs : List Procedure) (g : Procedure) → AllHaveRoom gs → HasRoom g → AllHaveRoom (gs ++ g ∷ [])
rooms_append [] g h r = (r, tt)
rooms_append (x ∷ gs) g h r = (h.0, rooms_append gs g h.1 r)

pub rooms_more : (gs gs' : List Procedure) (g : Procedure) → gs' ≡ gs ++ g ∷ [] → AllHaveRoom gs → HasRoom g → AllHaveRoom gs'
rooms_more gs gs' g more h r = subst AllHaveRoom (sym more) (rooms_append gs g h r)
