-- What the static rules give can be compiled.
use Rattle.std.proofs.Common.{◌≡◌, ℕ, zero, suc, nat_eq, Bool, true, false, cond, List, [], ◌∷◌, ◌++◌, length, Option, Some, None, is_some, slice_get, refl, sym, ap, ◌∙◌, subst}
use Rattle.std.specs.Prelude.{IsSome}
use Rattle.std.specs.Str.{bytes_eq}
use Rattle.std.proofs.lemmas.Slice.Eq.{bytes_eq-Decides}
use Rattle.ob_tree.specs.declared.tree.Module.{Module}
use Rattle.ob_mean.specs.declared.face.Face.{Face}
use Rattle.ob_check_scope.specs.declared.block.Declared.{Declared}
use Rattle.ob_check_scope.specs.declared.block.Entry.{Entry}
use Rattle.ob_check_scope.specs.declared.block.Entry.TheVariants as entry
use Rattle.ob_check_scope.specs.Exports.{Modules}
use Rattle.ob_check_scope.specs.LoadedTree.{LoadedTree}
use Rattle.ob_check_scope.specs.Rule.{gives}
use Rattle.ob_check_module.specs.declared.checked.Imported.{Imported}
use Rattle.ob_check_module.specs.CheckedTree.{CheckedTree}
use Rattle.ob_check_module.specs.Modules.{body_rule, checked_rule, imported_by, module_at, procedures_rule, with_imports, with_key}
use Rattle.ob_check_laws.specs.Fitting.{face_named, face_of_loaded, faces_of, with_face}
use Rattle.ob_check_laws.proofs.Modules.{each_checked}
use Rattle.ob_compile.specs.Compilable.{AreFacesOf, EachCheckedIsCompilable}

-- ---- a loaded module has a face by its name

found : (b : Bool) (face : Face) (rest : Option Face) → (b ≡ false → IsSome rest) → IsSome (cond b (Some face) rest)
found true face rest h = refl
found false face rest h = h refl

own_text : (x : List ℕ) → bytes_eq x x ≡ true
own_text x = (bytes_eq-Decides x x).1 refl

loaded_named : (ms : Modules) (place : ℕ) (m : LoadedTree) → slice_get ms place ≡ Some m → IsSome (face_named ms m.interface.name)
loaded_named [] place m h = absurd (let k : None ≡ Some m = h in cc)
loaded_named (n ∷ ms) zero m h =
    let e : n ≡ m = cc in
    let own : bytes_eq n.interface.name m.interface.name ≡ true = ap (λ (x : LoadedTree). bytes_eq n.interface.name x.interface.name) (sym e) ∙ own_text n.interface.name in
    ap (λ b. is_some (cond b (Some (face_of_loaded n)) (face_named ms m.interface.name))) own
loaded_named (n ∷ ms) (suc place) m h =
    found (bytes_eq n.interface.name m.interface.name) (face_of_loaded n) (face_named ms m.interface.name) (λ e. loaded_named ms place m h)

-- ---- so has each import

abbrev AllLoaded : Modules → List Imported → Type 0
AllLoaded ms [] = Unit {0}
AllLoaded ms (i ∷ is) = IsSome (face_named ms i.name) × AllLoaded ms is

joined_loaded : (ms : Modules) (is js : List Imported) → AllLoaded ms is → AllLoaded ms js → AllLoaded ms (is ++ js)
joined_loaded ms [] js h g = g
joined_loaded ms (i ∷ is) js h g = (h.0, joined_loaded ms is js h.1 g)

key_loaded : (ms : Modules) (place : ℕ) (o : Option LoadedTree) → slice_get ms place ≡ o → AllLoaded ms (with_key o)
key_loaded ms place None h = tt
key_loaded ms place (Some m) h = (loaded_named ms place m h, tt)

entry_loaded : (ms : Modules) (n : ℕ) (e : Entry) → AllLoaded ms (imported_by ms n e)
entry_loaded ms n (entry.Constant c) = tt
entry_loaded ms n (entry.TypeName t) = tt
entry_loaded ms n (entry.Variable t s) = tt
entry_loaded ms n (entry.Procedure p k) = tt
entry_loaded ms n entry.In = tt
entry_loaded ms n entry.Out = tt
entry_loaded ms n (entry.Module i place) = by (nat_eq i n)
  where
    by : (b : Bool) → AllLoaded ms (cond b (with_key (slice_get ms place)) [])
    by true = key_loaded ms place (slice_get ms place) refl
    by false = tt

block_loaded : (ms : Modules) (is : List Imported) (ds : List Declared) → AllLoaded ms is → AllLoaded ms (with_imports ms is ds)
block_loaded ms is [] h = h
block_loaded ms is (d ∷ ds) h =
    let more = imported_by ms (length is) d.entry in
    block_loaded ms (is ++ more) ds (joined_loaded ms is more h (entry_loaded ms (length is) d.entry))

imports_loaded : (ms : Modules) (m : Module) (c : CheckedTree) → gives (module_at ms m) c → AllLoaded ms c.imports
unfolding module_at checked_rule procedures_rule body_rule
imports_loaded ms m c h =
    let checking = (h.2).0 in
    subst (λ (x : CheckedTree). AllLoaded ms x.imports) (((h.2).2).2) (block_loaded ms [] checking.0.block tt)

-- ---- and no face but theirs is among them

first_face : (ms : Modules) (i : Imported) (is : List Imported) (faces : List Face) (o : Option Face) → face_named ms i.name ≡ o → IsSome o → AreFacesOf ms is faces → AreFacesOf ms (i ∷ is) (with_face o ++ faces)
first_face ms i is faces None e h g = absurd (let k : false ≡ true = h in cc)
first_face ms i is faces (Some face) e h g = (e, g)

their_faces : (ms : Modules) (is : List Imported) → AllLoaded ms is → AreFacesOf ms is (faces_of ms is)
their_faces ms [] h = tt
their_faces ms (i ∷ is) h = first_face ms i is (faces_of ms is) (face_named ms i.name) refl h.0 (their_faces ms is h.1)

pub each_compilable : EachCheckedIsCompilable
each_compilable ms m c solid h =
    let f = each_checked ms m c solid h in
    record { known = their_faces ms c.imports (imports_loaded ms m c h); formed = f.0; face = f.1; solid = f.2 }
