-- What loading asks of a checked module: what keys say of it and of its imports, its commands, and that its imports don't
-- reach it.
use Rattle.std.proofs.Common.{◌≡◌, ◌≢◌, ℕ, zero, suc, ◌+◌, nat_eq, Bool, true, false, cond, ◌&&◌, ◌||◌, List, [], ◌∷◌, ◌++◌, length, map, Option, Some, None, is_some, option_map, if◌then◌else◌, refl, sym, ap, ◌∙◌, subst, arith}
use Rattle.std.specs.List.{AllByRecursion}
use Rattle.std.specs.Prelude.{slice_get, slice_index, slice_index_or}
use Rattle.std.specs.Str.{bytes_eq}
use Rattle.std.proofs.lemmas.Option.{slice_get-map}
use Rattle.std.proofs.lemmas.Slice.Eq.{bytes_eq-Decides}
use Rattle.ob_types.specs.declared.exports.Exported.{Exported}
use Rattle.ob_types.specs.declared.exports.Formal.{Formal}
use Rattle.ob_types.specs.declared.exports.Object.{Object}
use Rattle.ob_types.specs.declared.exports.Object.TheVariants as object
use Rattle.ob_types.specs.declared.structure.Basic.{Basic}
use Rattle.ob_types.specs.InterfaceText.{interface_text}
use Rattle.ob_mean.specs.declared.face.Face.{Face}
use Rattle.ob_mean.specs.declared.face.Heading.{Heading}
use Rattle.ob_mean.specs.declared.module.TypedProcedure.{TypedProcedure}
use Rattle.ob_mean.specs.WellFormed.{AreHeadings, IsFaceOf, own_heading}
use Rattle.ob_parse.specs.CellText.{IsCellOf}
use Rattle.ob_tree.specs.declared.tree.Cell.TheVariants as cells
use Rattle.ob_tree.specs.declared.tree.Module as tree
use Rattle.ob_types.specs.InterfaceTree.{InterfaceTree}
use Rattle.ob_check_scope.specs.declared.block.Declared.{Declared}
use Rattle.ob_check_scope.specs.declared.block.Entry.{Entry}
use Rattle.ob_check_scope.specs.declared.block.Entry.TheVariants as entry
use Rattle.ob_check_scope.specs.Exports.{Modules as Loaded, module_names}
use Rattle.ob_check_scope.specs.Imports.{module_place, reaches}
use Rattle.ob_check_scope.specs.LoadedTree.{LoadedTree}
use Rattle.ob_check_scope.specs.Names.{place_in, is_among}
use Rattle.ob_check_scope.specs.Rule.{gives}
use Rattle.ob_check_module.specs.CheckedTree.{CheckedTree}
use Rattle.ob_check_module.specs.declared.checked.Imported.{Imported}
use Rattle.ob_check_module.specs.Modules.{with_key, imported_by, with_imports, all_imported, module_at}
use Rattle.ob_check_kinds.specs.Shapes.{parameters_of}
use Rattle.ob_check_laws.specs.Fitting as fit
use Rattle.ob_check_laws.specs.Fitting.{procedure_heading, procedure_headings, heading_of, face_of_interface}
use Rattle.ob_check_laws.specs.Solid.{EachSolid}
use Rattle.ob_check_laws.proofs.Modules.{each_tree_agrees}
use Rattle.ob_check_laws.proofs.Rules.{joined_thrice}
use Rattle.ob_check_laws.proofs.Suiting.{some_same, nothing}
use Rattle.ob_gen.specs.TypesAgree.{TypesAgree}
use Rattle.ob_session.specs.Session.{Import, Module, name_of, find_module, place_of}
use Rattle.ob_session.specs.Links.{Reached, First, Behind, Through}
use Rattle.ob_session.specs.Reaches.{reached_by}
use Rattle.ob_session.specs.Cells.{is_plain, is_command, command_place, place_behind}
use Rattle.ob_link.specs.Reaching as reaching
use Rattle.ob_link.proofs.Chains.{each_reaches}
use Rattle.ob_image.specs.Loading.{IsUnreached}
use Rattle.ob_image.proofs.Imports.{found_at}
use Rattle.ob_load.specs.Known.{IsPlainAt, HasCommands}
use Rattle.ob_load.specs.Said.{face_said, shape_said}
use Rattle.ob_load.specs.Words.{InterfaceWords, AllWords}
use Rattle.ob_cell.specs.Texts as meaning
use Rattle.ob_cell.proofs.Keys.{key_says, names_say}
use Rattle.ob_cell.proofs.Spelled.{text_words}
use Rattle.ob_cell.proofs.WordTypes.{LoadedWords}
use Rattle.ob_cell.proofs.WordModules.{checked_block, checked_words}
use Rattle.ob_cell.proofs.WordScopes.{ImportRight, EntryRight, DeclaredRight}

-- ---- the loaded modules

pub loaded_words : (all ms : List Module) (name : List ℕ) → AllWords ms → LoadedWords (map (meaning.loaded_as all name) ms)
loaded_words all [] name h = tt
loaded_words all (m ∷ ms) name h = (h.0, loaded_words all ms name h.1)

same_name : (a b : List ℕ) → bytes_eq a b ≡ true → a ≡ b
same_name a b e = let d = bytes_eq-Decides a b in grind (arith, d, e)

equal_name : (a : List ℕ) → bytes_eq a a ≡ true
equal_name a = let d = bytes_eq-Decides a a in grind (arith, d)

-- the first module of a name
pub record FirstOf (ms : Loaded) (own : List ℕ) (place : ℕ) : Type 0 where
  pub x : LoadedTree
  pub there : slice_get ms place ≡ Some x
  pub name : x.interface.name ≡ own
  pub face : fit.face_named ms own ≡ Some (face_of_interface x.interface)

first_of : (ms : Loaded) (own : List ℕ) (place : ℕ) → place_in (module_names ms) own ≡ Some place → FirstOf ms own place
first_of [] own place h = nothing place h
first_of (n ∷ ms) own place h = by (bytes_eq n.interface.name own) refl (first_of ms own) h
  where
    later : (o : Option ℕ) → bytes_eq n.interface.name own ≡ false → ((p : ℕ) → place_in (module_names ms) own ≡ Some p → FirstOf ms own p) → place_in (module_names ms) own ≡ o → option_map suc o ≡ Some place → FirstOf (n ∷ ms) own place
    later None f rest k e = nothing place e
    later (Some p) f rest k e =
        let r = rest p k in
        let at : suc p ≡ place = some_same (suc p) place e in
        subst (FirstOf (n ∷ ms) own) at (record {
          x = r.x;
          there = r.there;
          name = r.name;
          face = ap (λ b. cond b (Some (fit.face_of_loaded n)) (fit.face_named ms own)) f ∙ r.face;
        })

    by : (b : Bool) → bytes_eq n.interface.name own ≡ b → ((p : ℕ) → place_in (module_names ms) own ≡ Some p → FirstOf ms own p) → cond b (Some 0) (option_map suc (place_in (module_names ms) own)) ≡ Some place → FirstOf (n ∷ ms) own place
    by true t rest e = subst (FirstOf (n ∷ ms) own) (some_same zero place e) (record {
      x = n;
      there = refl;
      name = same_name n.interface.name own t;
      face = ap (λ b. cond b (Some (fit.face_of_loaded n)) (fit.face_named ms own)) t;
    })
    by false f rest e = later (place_in (module_names ms) own) f rest refl e

words_at : (ms : Loaded) (place : ℕ) (x : LoadedTree) → LoadedWords ms → slice_get ms place ≡ Some x → face_said (interface_text x.interface) ≡ face_of_interface x.interface
words_at [] place x h e = nothing x e
words_at (m ∷ ms) zero x h e = subst (λ (y : LoadedTree). face_said (interface_text y.interface) ≡ face_of_interface y.interface) (some_same m x e) (key_says m.interface h.0)
words_at (m ∷ ms) (suc place) x h e = words_at ms place x h.1 e

-- ---- what the keys of imports say

module _ (ms : Loaded) (loaded : LoadedWords ms) (self : List ℕ) where
  abbrev Said : List Imported → Type 0
  Said is = fit.faces_of ms is ≡ map (λ (i : Import). face_said i.key) (map meaning.import_of is)

  said_more : (o : Option Face) (f : Face) (key : List ℕ) (is : List Imported) → o ≡ Some f → face_said key ≡ f → Said is → fit.with_face o ++ fit.faces_of ms is ≡ face_said key ∷ map (λ (i : Import). face_said i.key) (map meaning.import_of is)
  said_more o f key is e k h = ap (λ p. fit.with_face p ++ fit.faces_of ms is) e ∙ ap (λ fs. f ∷ fs) h ∙ ap (λ g. g ∷ map (λ (i : Import). face_said i.key) (map meaning.import_of is)) (sym k)

  first_import : (place : ℕ) (h : ImportRight ms self place) → FirstOf ms h.0 place
  unfolding module_place
  first_import place h = first_of ms h.0 place h.1

  faces_join : (is js : List Imported) → fit.faces_of ms (is ++ js) ≡ fit.faces_of ms is ++ fit.faces_of ms js
  faces_join [] js = refl
  faces_join (i ∷ is) js = ap (λ l. fit.with_face (fit.face_named ms i.name) ++ l) (faces_join is js) ∙ sym (joined_thrice (fit.with_face (fit.face_named ms i.name)) (fit.faces_of ms is) (fit.faces_of ms js))

  abbrev told : List Imported → List Face
  told is = map (λ (i : Import). face_said i.key) (map meaning.import_of is)

  told_join : (is js : List Imported) → told (is ++ js) ≡ told is ++ told js
  told_join [] js = refl
  told_join (i ∷ is) js = ap (λ l. face_said (meaning.import_of i).key ∷ l) (told_join is js)

  said_join : (is js : List Imported) → Said is → Said js → Said (is ++ js)
  said_join is js h g = faces_join is js ∙ ap (λ l. l ++ fit.faces_of ms js) h ∙ ap (λ l. told is ++ l) g ∙ sym (told_join is js)

  said_by : (n : ℕ) (e : Entry) → EntryRight ms self e → Said (imported_by ms n e)
  said_by n (entry.Constant c) h = refl
  said_by n (entry.TypeName t) h = refl
  said_by n (entry.Variable t v) h = refl
  said_by n (entry.Procedure p k) h = refl
  said_by n entry.In h = refl
  said_by n entry.Out h = refl
  said_by n (entry.Module i place) h = by (nat_eq i n)
    where
      by : (b : Bool) → Said (cond b (with_key (slice_get ms place)) [])
      by true =
          let r = first_import place h in
          subst (λ o. Said (with_key o)) (sym r.there)
          (said_more (fit.face_named ms r.x.interface.name) (face_of_interface r.x.interface) (interface_text r.x.interface) [] (ap (fit.face_named ms) r.name ∙ r.face) (words_at ms place r.x loaded r.there) refl)
      by false = refl

  said_behind : (is : List Imported) (ds : List Declared) → Said is → AllByRecursion (DeclaredRight ms self) ds → Said (with_imports ms is ds)
  said_behind is [] g h = g
  said_behind is (d ∷ ds) g h =
      let more = imported_by ms (length is) d.entry in
      said_behind (is ++ more) ds (said_join is more g (said_by (length is) d.entry h.0.1)) h.1

  pub said_all : (ds : List Declared) → AllByRecursion (DeclaredRight ms self) ds → Said (all_imported ms ds)
  said_all ds h = said_behind [] ds refl h

-- ---- imports that don't reach the module

abbrev Apart : List Module → List ℕ → Import → Type 0
Apart modules self i = (i.name ≢ self) × ((d : Module) → find_module modules i.name ≡ Some d → reached_by modules self d ≡ false)

module _ (modules : List Module) (self : List ℕ) where
  never_reached : (d : Module) (name : List ℕ) → find_module modules name ≡ Some d → reached_by modules self d ≡ false → (i : Import) → Reached modules i d.imports → i.name ≢ self
  never_reached d name found flag i r same =
      let at = found_at modules name d found in
      let yes = (each_reaches modules (place_of modules name) d self at).1 (i, r, same) in
      let read : slice_get (reaching.reaching modules self) (place_of modules name) ≡ Some (reached_by modules self d) = slice_get-map (reached_by modules self) modules (place_of modules name) ∙ ap (option_map (reached_by modules self)) at in
      let is = indexed (reaching.reaching modules self) (place_of modules name) (reached_by modules self d) read in
      absurd (let n : true ≡ false = sym yes ∙ is ∙ flag in cc)
    where
      indexed : (xs : List Bool) (k : ℕ) (b : Bool) → slice_get xs k ≡ Some b → slice_index_or xs k false ≡ b
      indexed [] k b e = nothing b e
      indexed (x ∷ xs) zero b e = some_same x b e
      indexed (x ∷ xs) (suc k) b e = indexed xs k b e

  apart_reached : (i : Import) (is : List Import) → AllByRecursion (Apart modules self) is → Reached modules i is → i.name ≢ self
  apart_reached i is h (First js) = h.0.0
  apart_reached i is h (Behind j js r) = apart_reached i js h.1 r
  apart_reached i is h (Through j js d e r) = never_reached d j.name e (h.0.1 d e) i r

  pub unreached : (is : List Import) → AllByRecursion (Apart modules self) is → IsUnreached modules self is
  unreached is h i r = apart_reached i is h r

  -- the modules as the rules for this one see them
  abbrev seen : List Module → Loaded
  seen ms = map (meaning.loaded_as modules self) ms

  record Found (ms : List Module) (own : List ℕ) (place : ℕ) : Type 0 where
    y : Module
    there : slice_get (seen ms) place ≡ Some (meaning.loaded_as modules self y)
    found : find_module ms own ≡ Some y
    name : name_of y ≡ own

  found_first : (ms : List Module) (own : List ℕ) (place : ℕ) → place_in (module_names (seen ms)) own ≡ Some place → Found ms own place
  found_first [] own place h = nothing place h
  found_first (n ∷ ms) own place h = by (bytes_eq (name_of n) own) refl (found_first ms own) h
    where
      later : (o : Option ℕ) → bytes_eq (name_of n) own ≡ false → ((p : ℕ) → place_in (module_names (seen ms)) own ≡ Some p → Found ms own p) → place_in (module_names (seen ms)) own ≡ o → option_map suc o ≡ Some place → Found (n ∷ ms) own place
      later None f rest k e = nothing place e
      later (Some p) f rest k e =
          let r = rest p k in
          subst (Found (n ∷ ms) own) (some_same (suc p) place e)
          (record { y = r.y; there = r.there; found = ap (λ b. if b then Some n else find_module ms own) f ∙ r.found; name = r.name })

      by : (b : Bool) → bytes_eq (name_of n) own ≡ b → ((p : ℕ) → place_in (module_names (seen ms)) own ≡ Some p → Found ms own p) → cond b (Some 0) (option_map suc (place_in (module_names (seen ms)) own)) ≡ Some place → Found (n ∷ ms) own place
      by true t rest e = subst (Found (n ∷ ms) own) (some_same zero place e)
          (record { y = n; there = refl; found = ap (λ b. if b then Some n else find_module ms own) t; name = same_name (name_of n) own t })
      by false f rest e = later (place_in (module_names (seen ms)) own) f rest refl e

  flag_of : (b : Bool) → is_among (if b then self ∷ [] else []) self ≡ false → b ≡ false
  flag_of true h = absurd (let t : is_among (self ∷ []) self ≡ true = ap (λ c. c || false) (equal_name self) in let n : true ≡ false = sym t ∙ h in cc)
  flag_of false h = refl

  apart_of : (place : ℕ) → ImportRight (seen modules) self place → AllByRecursion (Apart modules self) (map meaning.import_of (with_key (slice_get (seen modules) place)))
  unfolding module_place
  apart_of place h =
      let r = found_first modules h.0 place h.1 in
      let flag : reached_by modules self r.y ≡ false = flag_of _ (subst (λ o. reaches o self ≡ false) r.there h.3) in
      subst (λ o. AllByRecursion (Apart modules self) (map meaning.import_of (with_key o))) (sym r.there) (
        (
          (λ same. let t = sym (equal_name self) ∙ ap (λ n. bytes_eq n self) (sym same ∙ r.name) ∙ h.2 in absurd (let n : true ≡ false = t in cc)),
          (λ d found. let one : r.y ≡ d = some_same r.y d (sym r.found ∙ ap (find_module modules) (sym r.name) ∙ found) in
              subst (λ x. reached_by modules self x ≡ false) one flag),
        ),
        tt,
      )

  apart_by : (n : ℕ) (e : Entry) → EntryRight (seen modules) self e → AllByRecursion (Apart modules self) (map meaning.import_of (imported_by (seen modules) n e))
  apart_by n (entry.Constant c) h = tt
  apart_by n (entry.TypeName t) h = tt
  apart_by n (entry.Variable t v) h = tt
  apart_by n (entry.Procedure p k) h = tt
  apart_by n entry.In h = tt
  apart_by n entry.Out h = tt
  apart_by n (entry.Module i place) h = by (nat_eq i n)
    where
      by : (b : Bool) → AllByRecursion (Apart modules self) (map meaning.import_of (cond b (with_key (slice_get (seen modules) place)) []))
      by true = apart_of place h
      by false = tt

  apart_join : (is js : List Imported) → AllByRecursion (Apart modules self) (map meaning.import_of is) → AllByRecursion (Apart modules self) (map meaning.import_of js) → AllByRecursion (Apart modules self) (map meaning.import_of (is ++ js))
  apart_join [] js h g = g
  apart_join (i ∷ is) js h g = (h.0, apart_join is js h.1 g)

  apart_behind : (is : List Imported) (ds : List Declared) → AllByRecursion (Apart modules self) (map meaning.import_of is) → AllByRecursion (DeclaredRight (seen modules) self) ds → AllByRecursion (Apart modules self) (map meaning.import_of (with_imports (seen modules) is ds))
  apart_behind is [] g h = g
  apart_behind is (d ∷ ds) g h =
      let more = imported_by (seen modules) (length is) d.entry in
      apart_behind (is ++ more) ds (apart_join is more g (apart_by (length is) d.entry h.0.1)) h.1

  pub all_apart : (ds : List Declared) → AllByRecursion (DeclaredRight (seen modules) self) ds → AllByRecursion (Apart modules self) (map meaning.import_of (all_imported (seen modules) ds))
  all_apart ds h = apart_behind [] ds tt h

-- ---- commands

abbrev plain : Heading
plain = record { parameters = []; is_function = false }

plain_heading : (fs : List Formal) (r : Option Basic) → is_plain fs r ≡ true → (let h : Heading = record { parameters = parameters_of fs; is_function = is_some r } in h) ≡ plain
plain_heading [] None h = refl
plain_heading [] (Some b) h = absurd (let n : false ≡ true = h in cc)
plain_heading (f ∷ fs) r h = absurd (let n : false ≡ true = h in cc)

-- the heading of a command, counted from the first procedure
record CommandAt (hs : List Heading) (from place : ℕ) : Type 0 where
  j : ℕ
  counted : place ≡ from + j
  there : slice_get hs j ≡ Some plain

second_holds : (a b : Bool) → (a && b) ≡ true → b ≡ true
second_holds true b h = h
second_holds false b h = absurd (let n : false ≡ true = h in cc)

found_here : (o : Object) (hs : List Heading) (from place : ℕ) → is_command o ≡ true → Some from ≡ Some place → CommandAt (procedure_heading o ++ hs) from place
found_here (object.Procedure s) hs from place h e =
    record { j = zero; counted = let same = some_same from place e in omega (arith, same); there = ap Some (plain_heading s.formals s.result h) }
found_here (object.Constant c) hs from place h e = absurd (let n : false ≡ true = h in cc)
found_here (object.TypeName t) hs from place h e = absurd (let n : false ≡ true = h in cc)
found_here (object.Variable t) hs from place h e = absurd (let n : false ≡ true = h in cc)

found_later : (o : Object) (hs : List Heading) (from place : ℕ) → CommandAt hs (place_behind o from) place → CommandAt (procedure_heading o ++ hs) from place
found_later (object.Procedure s) hs from place c = record { j = suc c.j; counted = let k = c.counted in omega (arith, k); there = c.there }
found_later (object.Constant k) hs from place c = record { j = c.j; counted = c.counted; there = c.there }
found_later (object.TypeName t) hs from place c = record { j = c.j; counted = c.counted; there = c.there }
found_later (object.Variable t) hs from place c = record { j = c.j; counted = c.counted; there = c.there }

command_at : (es : List Exported) (name : List ℕ) (from place : ℕ) → command_place es name from ≡ Some place → CommandAt (procedure_headings es) from place
command_at [] name from place h = nothing place h
command_at (e ∷ es) name from place h = by (bytes_eq e.name name && is_command e.object) refl (command_at es name (place_behind e.object from) place) h
  where
    by : (b : Bool) → (bytes_eq e.name name && is_command e.object) ≡ b → (command_place es name (place_behind e.object from) ≡ Some place → CommandAt (procedure_headings es) (place_behind e.object from) place) → (if b then Some from else command_place es name (place_behind e.object from)) ≡ Some place → CommandAt (procedure_headings (e ∷ es)) from place
    by true t rest k = found_here e.object (procedure_headings es) from place (second_holds (bytes_eq e.name name) (is_command e.object) t) k
    by false t rest k = found_later e.object (procedure_headings es) from place (rest k)

headed : (hs : List Heading) (procedures : List TypedProcedure) (ps : List ℕ) (j : ℕ) (h : Heading) → AreHeadings hs procedures ps → slice_get hs j ≡ Some h → (slice_get ps j ≡ Some (slice_index ps j)) × (own_heading (slice_get procedures (slice_index ps j)) ≡ Some h)
headed [] procedures ps j h a e = nothing h e
headed (x ∷ hs) procedures [] j h a e = absurd a
headed (x ∷ hs) procedures (p ∷ ps) zero h a e = (refl, a.0 ∙ e)
headed (x ∷ hs) procedures (p ∷ ps) (suc j) h a e = headed hs procedures ps j h a.1 e

pub has_commands : (m : Module) → IsFaceOf (face_of_interface m.interface) m.tree → HasCommands m
has_commands m face name place h =
    let c = command_at m.interface.exports name zero place h in
    let at : c.j ≡ place = let k = c.counted in omega (arith, k) in
    let r = headed (procedure_headings m.interface.exports) m.tree.procedures m.tree.exported c.j plain face.procedures c.there in
    subst (IsPlainAt m.tree) at (record { exported = r.0; plain = r.1 })

-- ---- the whole

-- what loading asks of a checked module, over the modules as the rules saw them
pub record LoadsRight (modules : List Module) (seen : Loaded) (c : CheckedTree) : Type 0 where
  pub unreached : IsUnreached modules (name_of (meaning.module_of c)) (map meaning.import_of c.imports)
  pub words : InterfaceWords c.interface
  pub faces : fit.faces_of seen c.imports ≡ map (λ (i : Import). face_said i.key) (map meaning.import_of c.imports)
  pub types : TypesAgree shape_said c.tree

pub loads_right : (modules : List Module) (m : tree.Module) (loaded : Loaded) (c : CheckedTree) → AllWords modules → EachSolid loaded → (text : List ℕ) → IsCellOf text (cells.Module m) → loaded ≡ map (meaning.loaded_as modules m.name.name) modules → gives (module_at loaded m) c → LoadsRight modules loaded c
loads_right modules m loaded c words solid text is same h =
    let around = map (meaning.loaded_as modules m.name.name) modules in
    let known = loaded_words modules modules m.name.name words in
    let spelled = text_words text m is in
    let rules = subst (λ (ms : Loaded). gives (module_at ms m) c) same h in
    let b = checked_block around known m c spelled rules in
    subst (λ (ms : Loaded). LoadsRight modules ms c) (sym same) (record {
      unreached = subst (λ name. IsUnreached modules name (map meaning.import_of c.imports)) (sym (ap (λ (i : InterfaceTree). i.name) b.interface))
          (subst (λ is. IsUnreached modules m.name.name (map meaning.import_of is)) (sym b.imports)
          (unreached modules m.name.name (map meaning.import_of (all_imported around b.block)) (all_apart modules m.name.name b.block b.right)));
      words = checked_words around known m c spelled rules;
      faces = subst (λ is. fit.faces_of around is ≡ map (λ (i : Import). face_said i.key) (map meaning.import_of is)) (sym b.imports) (said_all around known m.name.name b.block b.right);
      types = each_tree_agrees shape_said names_say around m c (subst EachSolid same solid) rules;
    })
