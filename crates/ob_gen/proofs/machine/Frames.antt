-- What stands where in the store: the modules' variables, and those of the running call.
use Rattle.std.proofs.Common.{◌≡◌, ℕ, zero, suc, ◌+◌, ◌<◌, ◌≤◌, pos, List, [], ◌∷◌, ◌++◌, length, Option, Some, None, false, true, refl, sym, ap, ◌∙◌, subst, arith, length-append}
use Rattle.std.specs.Prelude.{slice_get}
use Rattle.ob_mean.specs.declared.shape.Shape.{Shape}
use Rattle.ob_mean.specs.declared.shape.Shape.TheVariants.{Basic}
use Rattle.ob_mean.specs.declared.module.ModuleVariable.{ModuleVariable}
use Rattle.ob_mean.specs.declared.module.ModuleVariable.TheVariants.{Declared, Text}
use Rattle.ob_mean.specs.declared.module.Parameter.{Parameter}
use Rattle.ob_mean.specs.declared.module.Parameter.TheVariants as parameter
use Rattle.ob_mean.specs.declared.module.Loaded.{Loaded}
use Rattle.ob_mean.specs.Values.{Place, Whole, Part, Value, Cell, Named, Open, Beside, count, size, item, before, get, named, told, offset, shape, image, append}
use Rattle.ob_mean.specs.Shapes.{zero_of, zeros, opening_value, opening_row}
use Rattle.ob_mean.specs.Texts.{text_row}
use Rattle.ob_mean.specs.Programs.{Program, opening_store}
use Rattle.ob_mean.specs.WellFormed.{Object, Of, OpenOf, module_object, shape_object, value_object, own_object, named_object, is_extended, StartWith, cell_limit}
use Rattle.ob_code.specs.declared.instr.Extent.{Extent}
use Rattle.ob_code.specs.declared.instr.Name.{Name}
use Rattle.ob_code.specs.declared.instr.Told.{Told}
use Rattle.ob_code.specs.Machine.{Code, untold, type_of}
use Rattle.ob_gen.specs.TypesAgree.{Shapes}
use Rattle.ob_gen.specs.Code.{extent_at, parameter_value, parameter_row, named_one, named_before}
use Rattle.ob_gen.specs.Correct.{named_count, parameter_count}
use Rattle.ob_gen.proofs.machine.Store.{Inside, IsRow, size-shape, count-append, item-front, before-front, name_is, open_is}
use Rattle.ob_gen.proofs.machine.Zeros.{declared_shape, declared_row, shape-opening, shape-opening_value, shape-text_row, zero-array}
use Rattle.ob_gen.proofs.machine.Records.{some_same, named_cells, HoldsTold, part_stands, told_within, told_few}
use Rattle.ob_gen.proofs.machine.Places.{IsObject, PlaceFits}
use Rattle.ob_gen.proofs.machine.Passing.{Tells, OneFits, PassedFit, one_name, names_passed}

-- ---- a variable in a row of variables, and where code looks for it

-- in the row u there stands a variable of this shape, at this extent
pub record HeldAt (u : Value) (x : ℕ) (t : Shape) (e : Extent) : Type 0 where
  pub there : x < count u
  pub is : item u x ≡ zero_of t
  pub from : before u x ≡ e.from
  pub cells : size (item u x) ≡ e.cells

held_later : (v u : Value) (x : ℕ) (t : Shape) (e e' : Extent) → e'.from ≡ size v + e.from → e'.cells ≡ e.cells → HeldAt u x t e → HeldAt (Beside v u) (suc x) t e'
held_later v u x t e e' a b h =
    record { there = omega (arith, h.there); is = h.is; from = omega (arith, h.from, a); cells = h.cells ∙ sym b }

-- the module's own
pub held_module : (vs : List ModuleVariable) (x : ℕ) (o : Object) → module_object (slice_get vs x) ≡ Some o → (t : Shape) × (o ≡ Of t) × HeldAt (declared_row vs) x t (extent_at (opening_row vs) x)
held_module [] x o e = absurd (let n : None ≡ Some o = e in cc)
held_module (Declared t ∷ vs) zero o e = (t, sym (some_same (Of t) o e), record { there = omega arith; is = refl; from = refl; cells = refl })
held_module (Text cs n ∷ vs) zero o e =
    (_, sym (some_same _ o e), record { there = omega arith; is = sym (zero-array n Basic); from = refl; cells = ap size (sym (shape-text_row n cs)) ∙ size-shape (text_row n cs) })
held_module (v ∷ vs) (suc x) o e =
    let h = held_module vs x o e in
    let same : size (declared_shape v) ≡ size (opening_value v) = ap size (sym (shape-opening_value v)) ∙ size-shape (opening_value v) in
    (h.0, h.1, held_later (declared_shape v) (declared_row vs) x h.0 (extent_at (opening_row vs) x) (extent_at (opening_row (v ∷ vs)) (suc x)) (omega (arith, same)) refl h.2)

-- those that an importing module knows of
pub held_import : (ts : List Shape) (vs : List ModuleVariable) (x : ℕ) (o : Object) → StartWith ts vs → shape_object (slice_get ts x) ≡ Some o → (t : Shape) × (o ≡ Of t) × HeldAt (declared_row vs) x t (extent_at (zeros ts) x)
held_import [] vs x o h e = absurd (let n : None ≡ Some o = e in cc)
held_import (t ∷ ts) [] x o h e = absurd h
held_import (t ∷ ts) (Text cs n ∷ vs) x o h e = absurd h
held_import (t ∷ ts) (Declared u ∷ vs) zero o h e =
    let same : zero_of u ≡ zero_of t = ap zero_of (sym h.0) in
    (t, sym (some_same (Of t) o e), record { there = omega arith; is = same; from = refl; cells = ap size same })
held_import (t ∷ ts) (Declared u ∷ vs) (suc x) o h e =
    let k = held_import ts vs x o h.1 e in
    let same : size (zero_of u) ≡ size (zero_of t) = ap (λ y. size (zero_of y)) (sym h.0) in
    (k.0, k.1, held_later (zero_of u) (declared_row vs) x k.0 (extent_at (zeros ts) x) (extent_at (zeros (t ∷ ts)) (suc x)) (omega (arith, same)) refl k.2)

-- those of a call
pub held_zeros : (ts : List Shape) (x : ℕ) (o : Object) → shape_object (slice_get ts x) ≡ Some o → (t : Shape) × (o ≡ Of t) × HeldAt (zeros ts) x t (extent_at (zeros ts) x)
held_zeros [] x o e = absurd (let n : None ≡ Some o = e in cc)
held_zeros (t ∷ ts) zero o e = (t, sym (some_same (Of t) o e), record { there = omega arith; is = refl; from = refl; cells = refl })
held_zeros (t ∷ ts) (suc x) o e =
    let k = held_zeros ts x o e in
    (k.0, k.1, held_later (zero_of t) (zeros ts) x k.0 (extent_at (zeros ts) x) (extent_at (zeros (t ∷ ts)) (suc x)) refl refl k.2)

one_size : (code : Code) (shapes : Shapes) (s : Value) (x : Told) (p : Parameter) (v : Value) → OneFits code shapes s x p v → size (shape v) ≡ size (parameter_value p)
one_size code shapes s x parameter.Value v h = ap (λ y. size (shape y)) h.1
one_size code shapes s x (parameter.Place t) v h = ap (λ y. size (shape y)) h.1
one_size code shapes s x (parameter.Open t) v h = ap (λ y. size (shape y)) h.2
one_size code shapes s x (parameter.Extended t) v h = ap (λ y. size (shape y)) h.2

-- the variables of a call, of what was passed
abbrev pub own_of : Value → List Shape → Value
own_of a ts = append (shape a) (zeros ts)

abbrev own_rows : List Parameter → List Shape → Value
own_rows ps ts = append (parameter_row ps) (zeros ts)

held_first : (code : Code) (shapes : Shapes) (s : Value) (x : Told) (p : Parameter) (v u u' : Value) (o : Object) → OneFits code shapes s x p v → value_object p ≡ Some o → (t : Shape) × (o ≡ Of t) × HeldAt (Beside (shape v) u) 0 t (extent_at (Beside (parameter_value p) u') 0)
held_first code shapes s x parameter.Value v u u' o h e =
    let same : shape v ≡ Cell (pos 0) = ap shape h.1 in
    (Basic, sym (some_same (Of Basic) o e), record { there = omega arith; is = same; from = refl; cells = ap size same })
held_first code shapes s x (parameter.Place t) v u u' o h e = absurd (let n : None ≡ Some o = e in cc)
held_first code shapes s x (parameter.Open t) v u u' o h e = absurd (let n : None ≡ Some o = e in cc)
held_first code shapes s x (parameter.Extended t) v u u' o h e = absurd (let n : None ≡ Some o = e in cc)

pub held_own : (code : Code) (shapes : Shapes) (s : Value) (xs : List Told) (ps : List Parameter) (ts : List Shape) (a : Value) (x : ℕ) (o : Object) → PassedFit code shapes s xs ps a → own_object ps ts x ≡ Some o → (t : Shape) × (o ≡ Of t) × HeldAt (own_of a ts) x t (extent_at (own_rows ps ts) x)
held_own code shapes s xs [] ts a x o h e = subst (λ y. (t : Shape) × (o ≡ Of t) × HeldAt (own_of y ts) x t (extent_at (own_rows [] ts) x)) (sym h) (held_zeros ts x o e)
held_own code shapes s [] (p ∷ ps) ts a x o h e = absurd h
held_own code shapes s (y ∷ xs) (p ∷ ps) ts a zero o h e =
    subst (λ y. (t : Shape) × (o ≡ Of t) × HeldAt (own_of y ts) 0 t (extent_at (own_rows (p ∷ ps) ts) 0)) (sym h.2)
    (held_first code shapes s y p h.0 (own_of h.1 ts) (own_rows ps ts) o h.3 e)
held_own code shapes s (y ∷ xs) (p ∷ ps) ts a (suc x) o h e =
    let k = held_own code shapes s xs ps ts h.1 x o h.4 e in
    let same = one_size code shapes s y p h.0 h.3 in
    subst (λ y. (t : Shape) × (o ≡ Of t) × HeldAt (own_of y ts) (suc x) t (extent_at (own_rows (p ∷ ps) ts) (suc x))) (sym h.2)
    (k.0, k.1, held_later (shape h.0) (own_of h.1 ts) x k.0 (extent_at (own_rows ps ts) x) (extent_at (own_rows (p ∷ ps) ts) (suc x)) (omega (arith, same)) refl k.2)

-- ---- what a parameter names

-- where a type is told of it, its name tells that type
pub record TellsAt (code : Code) (shapes : Shapes) (s : Value) (u : Value) (x : ℕ) (name : Name) (o : Object) (place : Place) : Type 0 where
  pub kind : Shape
  pub is : o ≡ Of kind
  pub called : (v : Value) → shape v ≡ item u x → told v ≡ type_of code name
  pub holds : HoldsTold shapes s place (type_of code name) kind
  pub cells : name.cells ≡ named_cells s place (type_of code name)
  pub plain : name.length ≡ 0

pub record NamesAt (code : Code) (shapes : Shapes) (s : Value) (u : Value) (names : List Name) (p : Option Parameter) (x y : ℕ) (o : Object) : Type 0 where
  pub place : Place
  pub name : Name
  pub there : x < count u
  pub called : (v : Value) → shape v ≡ item u x → named v ≡ place
  pub found : slice_get names y ≡ Some name
  pub leads : Inside s place
  pub at : offset s place ≡ name.address
  pub whole : size (get s place) ≤ name.cells
  pub is : IsObject s name.length o place
  pub low : name.cells < cell_limit
  pub told : is_extended p ≡ true → TellsAt code shapes s u x name o place

names_first : (code : Code) (shapes : Shapes) (s : Value) (x : Told) (p : Parameter) (v u : Value) (rest : List Name) (o : Object) → OneFits code shapes s x p v → named_object (Some p) ≡ Some o → NamesAt code shapes s (Beside (shape v) u) (one_name s x v ++ rest) (Some p) 0 0 o
names_first code shapes s x parameter.Value v u rest o h e = absurd (let n : None ≡ Some o = e in cc)
names_first code shapes s x (parameter.Place t) v u rest o h e =
    let same : Of t ≡ o = some_same (Of t) o e in
    let is_name : shape v ≡ Named h.0 [] = ap shape h.1 in
    record {
      place = h.0;
      name = record { address = offset s h.0; cells = size (get s h.0); length = 0; told = x };
      there = omega arith;
      called = λ y q. ap named (name_is y h.0 [] (q ∙ is_name));
      found = ap (λ y. slice_get (one_name s x y ++ rest) 0) h.1;
      leads = h.2;
      at = refl;
      whole = omega arith;
      is = subst (λ y. IsObject s 0 y h.0) same h.3;
      low = h.4;
      told = λ e. absurd (let n : false ≡ true = e in cc);
    }
names_first code shapes s x (parameter.Open t) v u rest o h e =
    let same : OpenOf t ≡ o = some_same (OpenOf t) o e in
    let is_name : shape v ≡ Open h.0 h.1 = ap shape h.2 in
    record {
      place = h.0;
      name = record { address = offset s h.0; cells = size (get s h.0); length = h.1; told = untold };
      there = omega arith;
      called = λ y q. ap named (open_is y h.0 h.1 (q ∙ is_name));
      found = ap (λ y. slice_get (one_name s x y ++ rest) 0) h.2;
      leads = h.3;
      at = refl;
      whole = omega arith;
      is = subst (λ y. IsObject s h.1 y h.0) same h.4;
      low = h.5;
      told = λ e. absurd (let n : false ≡ true = e in cc);
    }
names_first code shapes s x (parameter.Extended t) v u rest o h e =
    let q = h.0 in
    let types = h.1 in
    let tells : Tells code x types = h.3 in
    let holds : HoldsTold shapes s q types t = h.4 in
    let same : Of t ≡ o = some_same (Of t) o e in
    let is_name : shape v ≡ Named q types = ap shape h.2 in
    let stands = part_stands shapes s q types t holds in
    let name : Name = record { address = offset s q; cells = named_cells s q types; length = 0; told = x } in
    record {
      place = q;
      name = name;
      there = omega arith;
      called = λ y e. ap named (name_is y q types (e ∙ is_name));
      found = ap (λ y. slice_get (one_name s x y ++ rest) 0) h.2;
      leads = stands.leads;
      at = refl;
      whole = told_within shapes s q types t holds;
      is = subst (λ y. IsObject s 0 y q) same stands.is;
      low = told_few shapes s q types t holds;
      told = λ e. record {
        kind = t;
        is = sym same;
        called = λ y e. ap told (name_is y q types (e ∙ is_name)) ∙ sym tells;
        holds = subst (λ y. HoldsTold shapes s q y t) (sym tells) holds;
        cells = ap (named_cells s q) (sym tells);
        plain = refl;
      };
    }

names_skip : (code : Code) (shapes : Shapes) (s : Value) (x : Told) (p : Parameter) (v : Value) (rest : List Name) (n : ℕ) → OneFits code shapes s x p v → slice_get (one_name s x v ++ rest) (named_one p + n) ≡ slice_get rest n
names_skip code shapes s x parameter.Value v rest n h = let e : 0 + n ≡ n = omega arith in ap (λ y. slice_get (one_name s x y ++ rest) (0 + n)) h.1 ∙ ap (slice_get rest) e
names_skip code shapes s x (parameter.Place t) v rest n h = let e : 1 + n ≡ suc n = omega arith in ap (λ y. slice_get (one_name s x y ++ rest) (1 + n)) h.1 ∙ ap (slice_get (one_name s x (Named h.0 []) ++ rest)) e
names_skip code shapes s x (parameter.Open t) v rest n h = let e : 1 + n ≡ suc n = omega arith in ap (λ y. slice_get (one_name s x y ++ rest) (1 + n)) h.2 ∙ ap (slice_get (one_name s x (Open h.0 h.1) ++ rest)) e
names_skip code shapes s x (parameter.Extended t) v rest n h = let e : 1 + n ≡ suc n = omega arith in ap (λ y. slice_get (one_name s x y ++ rest) (1 + n)) h.2 ∙ ap (slice_get (one_name s x (Named h.0 h.1) ++ rest)) e

later : (code : Code) (shapes : Shapes) (s v u : Value) (x : ℕ) (name : Name) (o : Object) (place : Place) → TellsAt code shapes s u x name o place → TellsAt code shapes s (Beside v u) (suc x) name o place
later code shapes s v u x name o place h = record { kind = h.kind; is = h.is; called = h.called; holds = h.holds; cells = h.cells; plain = h.plain }

pub names_own : (code : Code) (shapes : Shapes) (s : Value) (xs : List Told) (ps : List Parameter) (ts : List Shape) (a : Value) (x : ℕ) (o : Object) → PassedFit code shapes s xs ps a → named_object (slice_get ps x) ≡ Some o → NamesAt code shapes s (own_of a ts) (names_passed s xs a) (slice_get ps x) x (named_before ps x) o
names_own code shapes s xs [] ts a x o h e = absurd (let n : None ≡ Some o = e in cc)
names_own code shapes s [] (p ∷ ps) ts a x o h e = absurd h
names_own code shapes s (y ∷ xs) (p ∷ ps) ts a zero o h e =
    subst (λ z. NamesAt code shapes s (own_of z ts) (names_passed s (y ∷ xs) z) (Some p) 0 0 o) (sym h.2) (names_first code shapes s y p h.0 (own_of h.1 ts) (names_passed s xs h.1) o h.3 e)
names_own code shapes s (y ∷ xs) (p ∷ ps) ts a (suc x) o h e =
    let k = names_own code shapes s xs ps ts h.1 x o h.4 e in
    subst (λ z. NamesAt code shapes s (own_of z ts) (names_passed s (y ∷ xs) z) (slice_get ps x) (suc x) (named_before (p ∷ ps) (suc x)) o) (sym h.2)
    (record {
      place = k.place;
      name = k.name;
      there = omega (arith, k.there);
      called = k.called;
      found = names_skip code shapes s y p h.0 (names_passed s xs h.1) (named_before ps x) h.3 ∙ k.found;
      leads = k.leads;
      at = k.at;
      whole = k.whole;
      is = k.is;
      low = k.low;
      told = λ e. later code shapes s (shape h.0) (own_of h.1 ts) x k.name o k.place (k.told e);
    })

-- ---- how much is passed

pub passed_row : (code : Code) (shapes : Shapes) (s : Value) (xs : List Told) (ps : List Parameter) (a : Value) → PassedFit code shapes s xs ps a → IsRow a
passed_row code shapes s xs [] a h = subst IsRow (sym h) tt
passed_row code shapes s [] (p ∷ ps) a h = absurd h
passed_row code shapes s (x ∷ xs) (p ∷ ps) a h = subst IsRow (sym h.2) (passed_row code shapes s xs ps h.1 h.4)

one_named : (code : Code) (shapes : Shapes) (s : Value) (x : Told) (p : Parameter) (v : Value) → OneFits code shapes s x p v → length (one_name s x v) ≡ named_one p
one_named code shapes s x parameter.Value v h = ap (λ y. length (one_name s x y)) h.1
one_named code shapes s x (parameter.Place t) v h = ap (λ y. length (one_name s x y)) h.1
one_named code shapes s x (parameter.Open t) v h = ap (λ y. length (one_name s x y)) h.2
one_named code shapes s x (parameter.Extended t) v h = ap (λ y. length (one_name s x y)) h.2

one_either : (code : Code) (shapes : Shapes) (s : Value) (x : Told) (p : Parameter) (v : Value) → OneFits code shapes s x p v → length (image v) + named_one p ≡ 1
one_either code shapes s x parameter.Value v h = ap (λ y. length (image y) + 0) h.1
one_either code shapes s x (parameter.Place t) v h = ap (λ y. length (image y) + 1) h.1
one_either code shapes s x (parameter.Open t) v h = ap (λ y. length (image y) + 1) h.2
one_either code shapes s x (parameter.Extended t) v h = ap (λ y. length (image y) + 1) h.2

pub passed_names : (code : Code) (shapes : Shapes) (s : Value) (xs : List Told) (ps : List Parameter) (a : Value) → PassedFit code shapes s xs ps a → length (names_passed s xs a) ≡ named_count ps
passed_names code shapes s xs [] a h = ap (λ y. length (names_passed s xs y)) h
passed_names code shapes s [] (p ∷ ps) a h = absurd h
passed_names code shapes s (x ∷ xs) (p ∷ ps) a h =
    ap (λ y. length (names_passed s (x ∷ xs) y)) h.2
    ∙ (let one = one_named code shapes s x p h.0 h.3 in let others = passed_names code shapes s xs ps h.1 h.4 in omega (arith, length-append (one_name s x h.0) (names_passed s xs h.1), one, others))

pub passed_all : (code : Code) (shapes : Shapes) (s : Value) (xs : List Told) (ps : List Parameter) (a : Value) → PassedFit code shapes s xs ps a → length (image a) + named_count ps ≡ parameter_count ps
passed_all code shapes s xs [] a h = ap (λ y. length (image y) + 0) h
passed_all code shapes s [] (p ∷ ps) a h = absurd h
passed_all code shapes s (x ∷ xs) (p ∷ ps) a h =
    ap (λ y. length (image y) + named_count (p ∷ ps)) h.2
    ∙ (let one = one_either code shapes s x p h.0 h.3 in let others = passed_all code shapes s xs ps h.1 h.4 in omega (arith, length-append (image h.0) (image h.1), one, others))

pub passed_size : (code : Code) (shapes : Shapes) (s : Value) (xs : List Told) (ps : List Parameter) (a : Value) → PassedFit code shapes s xs ps a → size (shape a) ≡ size (parameter_row ps)
passed_size code shapes s xs [] a h = ap (λ y. size (shape y)) h
passed_size code shapes s [] (p ∷ ps) a h = absurd h
passed_size code shapes s (x ∷ xs) (p ∷ ps) a h =
    ap (λ y. size (shape y)) h.2 ∙ (let one = one_size code shapes s x p h.0 h.3 in let others = passed_size code shapes s xs ps h.1 h.4 in omega (arith, one, others))

-- ---- a row of variables in the store

-- its variables are places of the store
pub variable_at : (s : Value) (i x base : ℕ) (u : Value) (t : Shape) (e : Extent) (name : Name) → i < count s → item s i ≡ u → before s i ≡ base → HeldAt u x t e → name.address ≡ base + e.from → name.cells ≡ e.cells
    → PlaceFits s name (Of t) (Part (Part Whole i) x) × (offset s (Part (Part Whole i) x) ≡ name.address)
variable_at s i x base u t e name lt is at h address cells =
    let far : before (item s i) x ≡ e.from = ap (λ v. before v x) is ∙ h.from in
    let many : size (item (item s i) x) ≡ e.cells = ap (λ v. size (item v x)) is ∙ h.cells in
    let off : offset s (Part (Part Whole i) x) ≡ name.address = omega (arith, far, at, address) in (
      record {
        leads = ((tt, lt), omega (arith, h.there, ap count is));
        from = omega (arith, off);
        ends = omega (arith, off, many, cells);
        is = ap (λ v. item v x) is ∙ h.is;
      },
      off,
    )

-- the modules stand first
pub record StoreFits (program : Program) (s : Value) : Type 0 where
  pub row : IsRow s
  pub others : Value
  pub has : s ≡ append (shape (opening_store program)) others

pub record ModuleAt (s : Value) (i : ℕ) (u : Value) (base : ℕ) : Type 0 where
  pub there : i < count s
  pub is : item s i ≡ u
  pub at : before s i ≡ base

opening_at : (program : Program) (i : ℕ) (m : Loaded) → slice_get program i ≡ Some m → ModuleAt (shape (opening_store program)) i (declared_row m.tree.variables) (before (opening_store program) i)
opening_at [] i m e = absurd (let n : None ≡ Some m = e in cc)
opening_at (k ∷ ms) zero m e =
    let same : k ≡ m = some_same k m e in
    record { there = omega arith; is = shape-opening k.tree.variables ∙ ap (λ (y : Loaded). declared_row y.tree.variables) same; at = refl }
opening_at (k ∷ ms) (suc i) m e =
    let h = opening_at ms i m e in
    record { there = omega (arith, h.there); is = h.is; at = omega (arith, h.at, size-shape (opening_row k.tree.variables)) }

pub module_at : (program : Program) (s : Value) (i : ℕ) (m : Loaded) → StoreFits program s → slice_get program i ≡ Some m → ModuleAt s i (declared_row m.tree.variables) (before (opening_store program) i)
module_at program s i m fit e =
    let a = shape (opening_store program) in
    let h = opening_at program i m e in
    subst (λ y. ModuleAt y i (declared_row m.tree.variables) (before (opening_store program) i)) (sym fit.has)
    (record {
      there = omega (arith, h.there, count-append a fit.others);
      is = item-front a fit.others i h.there ∙ h.is;
      at = before-front a fit.others i h.there ∙ h.at;
    })

-- ---- a list of names

pub get_left : {A : Type 0} (xs ys : List A) (n : ℕ) (x : A) → slice_get xs n ≡ Some x → slice_get (xs ++ ys) n ≡ Some x
get_left [] ys n x e = absurd (let y : None ≡ Some x = e in cc)
get_left (z ∷ xs) ys zero x e = e
get_left (z ∷ xs) ys (suc n) x e = get_left xs ys n x e

pub get_right : {A : Type 0} (xs ys : List A) (n : ℕ) → slice_get (xs ++ ys) (length xs + n) ≡ slice_get ys n
get_right [] ys n = let e : 0 + n ≡ n = omega arith in ap (slice_get ys) e
get_right (z ∷ xs) ys n = let e : suc (length xs) + n ≡ suc (length xs + n) = omega arith in ap (slice_get (z ∷ (xs ++ ys))) e ∙ get_right xs ys n
