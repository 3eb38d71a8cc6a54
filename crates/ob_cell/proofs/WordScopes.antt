-- What a module declares has names that are words, and its imports are modules that do not reach it.
use Rattle.std.proofs.Common.{◌≡◌, ℕ, ◌++◌, length, reverse, Bool, true, false, not, cond, List, [], ◌∷◌, Option, Some, None, is_some, slice_get, refl, sym, ap, ◌∙◌, subst}
use Rattle.std.specs.List.{AllByRecursion}
use Rattle.std.specs.Prelude.{◌&&◌}
use Rattle.std.specs.Str.{bytes_eq}
use Rattle.ob_tree.specs.declared.tree.ConstDeclaration.{ConstDeclaration}
use Rattle.ob_tree.specs.declared.tree.Declarations.{Declarations, out-Declarations}
use Rattle.ob_tree.specs.declared.tree.Formals.{Formals}
use Rattle.ob_tree.specs.declared.tree.FormalSection.{FormalSection}
use Rattle.ob_tree.specs.declared.tree.Ident.{Ident}
use Rattle.ob_tree.specs.declared.tree.IdentDef.{IdentDef}
use Rattle.ob_tree.specs.declared.tree.Import.{Import}
use Rattle.ob_tree.specs.declared.tree.Module.{Module}
use Rattle.ob_tree.specs.declared.tree.TypeDeclaration.{TypeDeclaration}
use Rattle.ob_tree.specs.declared.tree.TypedNames.{TypedNames, out-TypedNames}
use Rattle.ob_types.specs.declared.exports.Exported.{Exported}
use Rattle.ob_types.specs.declared.exports.Formal.{Formal}
use Rattle.ob_types.specs.declared.structure.ObType.{ObType}
use Rattle.ob_check_scope.specs.declared.block.Declared.{Declared}
use Rattle.ob_check_scope.specs.declared.block.Entry.{Entry}
use Rattle.ob_check_scope.specs.declared.block.Entry.TheVariants as entry
use Rattle.ob_check_scope.specs.declared.block.Standing.TheVariants as standing
use Rattle.ob_check_decl.specs.declared.heading.Heading.{Heading}
use Rattle.ob_check_decl.specs.declared.heading.Parameters.{Parameters}
use Rattle.ob_check_scope.specs.declared.imports.StandardName.{StandardName}
use Rattle.ob_check_scope.specs.declared.imports.StandardName.TheVariants as standard
use Rattle.ob_check_scope.specs.declared.scope.Scope.{Scope}
use Rattle.ob_check_scope.specs.Block.{find}
use Rattle.ob_check_decl.specs.Declarations.{loaded_place, number_of_module, module_numbered, other_module, imported_as, import_named, import_rule, own_name, new_constant, constant_rule, new_type, type_rule, exported_variable, own_variable, variable_in, variable_rule, typed_variables, variables_rule, declarations_rule, module_rule, max_nesting, first_name, has_mark}
use Rattle.ob_check_scope.specs.Exports.{Modules}
use Rattle.ob_check_decl.specs.Headings.{kind_of, standing_of, no_parameters, parameter_rule, typed_parameters, section_rule, formals_rule, heading_rule}
use Rattle.ob_check_scope.specs.Imports.{module_place, reaches, standard_named}
use Rattle.ob_check_decl.specs.Interfaces.{object_of, exported_of, exports_of, interface_of}
use Rattle.ob_check_scope.specs.Rule.{gives, through}
use Rattle.ob_check_scope.specs.Scope.{seen, nearer, seen_inside, nearest, is_seen_inside, in_heading, opening, naming}
use Rattle.ob_check_scope.specs.Stack.{is_empty}
use Rattle.ob_check_laws.proofs.Suiting.{some_same, nothing}
use Rattle.ob_load.specs.Words.{IsWord, AreWords, RecordWords, TypeWords, FormalWords, ExportWords, InterfaceWords}
use Rattle.ob_cell.proofs.Spelled.{NameIn, TypedIn, TypeIn, ConstantIn, DeclaredTypeIn, DeclarationsIn, ModuleIn}
use Rattle.ob_cell.proofs.WordTypes.{LoadedWords, TypesOf, SeenWords, through_keeps, always, type_words, formal_words}

-- ---- entries and blocks

-- a loaded module that is imported: the first of its name, which is not the importing one's, and which does not reach that
abbrev pub ImportRight : Modules → List ℕ → ℕ → Type 0
ImportRight ms self place = (own : List ℕ) × (module_place ms own ≡ Some place) × (bytes_eq own self ≡ false) × (reaches (slice_get ms place) self ≡ false)

abbrev pub EntryRight : Modules → List ℕ → Entry → Type 0
EntryRight ms self (entry.Constant c) = Unit {0}
EntryRight ms self (entry.TypeName t) = TypeWords t
EntryRight ms self (entry.Variable t v) = TypeWords t
EntryRight ms self (entry.Procedure p n) = FormalWords p.formals
EntryRight ms self entry.In = Unit {0}
EntryRight ms self entry.Out = Unit {0}
EntryRight ms self (entry.Module i place) = ImportRight ms self place

abbrev pub DeclaredRight : Modules → List ℕ → Declared → Type 0
DeclaredRight ms self d = IsWord d.name × EntryRight ms self d.entry

right_types : (ms : Modules) (self : List ℕ) (e : Entry) → EntryRight ms self e → TypesOf e
right_types ms self (entry.Constant c) h = tt
right_types ms self (entry.TypeName t) h = h
right_types ms self (entry.Variable t v) h = h
right_types ms self (entry.Procedure p n) h = tt
right_types ms self entry.In h = tt
right_types ms self entry.Out h = tt
right_types ms self (entry.Module i place) h = tt

abbrev pub BlockTypes : List Declared → Type 0
BlockTypes = AllByRecursion (λ (d : Declared). TypesOf d.entry)

pub each_more : {A : Type 0} (P : A → Type 0) (xs : List A) (x : A) → AllByRecursion P xs → P x → AllByRecursion P (xs ++ x ∷ [])
each_more P [] x h g = (g, tt)
each_more P (y ∷ xs) x h g = (h.0, each_more P xs x h.1 g)

each_map : {A : Type 0} (P Q : A → Type 0) → ((x : A) → P x → Q x) → (xs : List A) → AllByRecursion P xs → AllByRecursion Q xs
each_map P Q f [] h = tt
each_map P Q f (x ∷ xs) h = (f x h.0, each_map P Q f xs h.1)

pub block_types : (ms : Modules) (self : List ℕ) (ds : List Declared) → AllByRecursion (DeclaredRight ms self) ds → BlockTypes ds
block_types ms self ds h = each_map (DeclaredRight ms self) (λ (d : Declared). TypesOf d.entry) (λ d x. right_types ms self d.entry x.1) ds h

-- ---- look-ups

found_by : (d : Declared) (ds : List Declared) (name : List ℕ) (e : Entry) (b : Bool) → TypesOf d.entry → (find ds name ≡ Some e → TypesOf e) → cond b (Some d.entry) (find ds name) ≡ Some e → TypesOf e
found_by d ds name e true h g k = subst TypesOf (some_same d.entry e k) h
found_by d ds name e false h g k = g k

found : (ds : List Declared) (name : List ℕ) (e : Entry) → BlockTypes ds → find ds name ≡ Some e → TypesOf e
found [] name e h k = nothing e k
found (d ∷ ds) name e h k = found_by d ds name e (bytes_eq d.name name) h.0 (found ds name e h.1) k

nearer_by : (o p : Option Entry) (e : Entry) → (o ≡ Some e → TypesOf e) → (p ≡ Some e → TypesOf e) → nearer o p ≡ Some e → TypesOf e
nearer_by None p e g h k = h k
nearer_by (Some x) p e g h k = g k

nearest_is : (bs : List (List Declared)) (name : List ℕ) (e : Entry) → AllByRecursion BlockTypes bs → nearest bs name ≡ Some e → TypesOf e
nearest_is [] name e h k = nothing e k
nearest_is (b ∷ bs) name e h k = nearer_by (find b name) (nearest bs name) e (found b name e h.0) (nearest_is bs name e h.1) k

shown_by : (b : Bool) (x e : Entry) → cond b (Some x) None ≡ Some e → Some x ≡ Some e
shown_by true x e k = k
shown_by false x e k = nothing e k

inside_is : (o : Option Entry) (e : Entry) → seen_inside o ≡ Some e → o ≡ Some e
inside_is None e k = nothing e k
inside_is (Some x) e k = shown_by (is_seen_inside x) x e k

seen_words : (s : Scope) → BlockTypes s.block → AllByRecursion BlockTypes s.around → SeenWords s
unfolding seen
seen_words s h g name e k =
    nearer_by (find s.block name) (seen_inside (nearest s.around name)) e (found s.block name e h)
    (λ j. nearest_is s.around name e g (inside_is (nearest s.around name) e j)) k

-- ---- headings

abbrev ParametersRight : Parameters → Type 0
ParametersRight p = FormalWords p.formals × BlockTypes p.block

formals_more : (fs : List Formal) (f : Formal) → FormalWords fs → TypeWords f.of → FormalWords (fs ++ f ∷ [])
formals_more [] f h g = (g, tt)
formals_more (x ∷ fs) f h g = (h.0, formals_more fs f h.1 g)

parameter_right : (var : Bool) (t : ObType) (p : Parameters) (name : Ident) (q : Parameters) → TypeWords t → gives (parameter_rule var t p name) q → ParametersRight p → ParametersRight q
unfolding parameter_rule
parameter_right var t p name q w h g = subst ParametersRight h.1 (
  formals_more p.formals (record { kind = kind_of var; of = t }) g.0 w,
  each_more (λ (d : Declared). TypesOf d.entry) p.block (record { name = name.name; exported = false; entry = entry.Variable t (standing_of var t (length p.block)) }) g.1 w,
)

module _ (ms : Modules) (loaded : LoadedWords ms) where
  module _ (n : ℕ) (s : Scope) (here : BlockTypes s.block) (round : AllByRecursion BlockTypes s.around) where
    heading_seen : (p : Parameters) → ParametersRight p → SeenWords (in_heading s p.block)
    unfolding in_heading
    heading_seen p g = seen_words (in_heading s p.block) g.1 (here, round)

    section_right : (p : Parameters) (x : FormalSection) (q : Parameters) → gives (section_rule ms n s p x) q → ParametersRight p → ParametersRight q
    unfolding section_rule typed_parameters
    section_right p x q h g =
        let t = h.2 in
        let w = formal_words ms loaded (in_heading s p.block) (heading_seen p g) n x.of t.0 t.1 in
        through_keeps ParametersRight (λ y. Unit {0}) (parameter_rule (is_some x.by_reference) t.0) (λ a e b u k c. parameter_right (is_some x.by_reference) t.0 a e b w k c) p x.names q (always x.names) t.2 g

    pub heading_words : (o : Option Formals) (h : Heading) → gives (heading_rule ms n s o) h → FormalWords h.signature.formals
    unfolding heading_rule formals_rule
    heading_words None h k = subst (λ (x : Heading). FormalWords x.signature.formals) k tt
    heading_words (Some f) h k =
        subst (λ (x : Heading). FormalWords x.signature.formals) (k.2).2
        (through_keeps ParametersRight (λ y. Unit {0}) (section_rule ms n s) (λ a e b u g c. section_right a e b g c) no_parameters f.sections k.0 (always f.sections) k.1 (tt, tt)).0

  -- ---- the declarations of a module

  module _ (self : List ℕ) (self_word : IsWord self) where
    pub record InModule (s : Scope) : Type 0 where
      pub around : s.around ≡ []
      pub enclosing : s.enclosing ≡ []
      pub name : s.module_name ≡ self
      pub block : AllByRecursion (DeclaredRight ms self) s.block

    pub seen_here : (s : Scope) → InModule s → SeenWords s
    seen_here s g = seen_words s (block_types ms self s.block g.block) (subst (AllByRecursion BlockTypes) (sym g.around) tt)

    naming_words : (s : Scope) (name : List ℕ) → InModule s → IsWord name → RecordWords (naming s name)
    naming_words s name g h = record {
      home = subst IsWord (sym g.name) self_word;
      enclosing = subst (λ xs. AreWords (reverse xs)) (sym g.enclosing) tt;
      declared = h;
    }

    -- one declaration more
    more : (s t : Scope) (d : Declared) → InModule s → t.around ≡ s.around → t.enclosing ≡ s.enclosing → t.module_name ≡ s.module_name → t.block ≡ s.block ++ d ∷ [] → DeclaredRight ms self d → InModule t
    more s t d g a e n b h = record {
      around = a ∙ g.around;
      enclosing = e ∙ g.enclosing;
      name = n ∙ g.name;
      block = subst (AllByRecursion (DeclaredRight ms self)) (sym b) (each_more (DeclaredRight ms self) s.block d g.block h);
    }

    constant_right : (n : ℕ) (s : Scope) (x : ConstDeclaration) (t : Scope) → ConstantIn x → gives (constant_rule ms n s x) t → InModule s → InModule t
    unfolding constant_rule new_constant
    constant_right n s x t w h g =
        subst InModule (h.1).2 (more s _ (record { name = x.name.name.name; exported = is_empty s.around && has_mark x.name; entry = entry.Constant (h.1).0 }) g refl refl refl refl (w, tt))

    type_right : (n : ℕ) (s : Scope) (x : TypeDeclaration) (t : Scope) → DeclaredTypeIn n x → gives (type_rule ms n s x) t → InModule s → InModule t
    unfolding type_rule new_type
    type_right n s x t w h g =
        let k = h.1 in
        subst InModule k.2 (more s _ (record { name = x.name.name.name; exported = is_empty s.around && has_mark x.name; entry = entry.TypeName k.0.of }) g refl refl refl refl
        (w.0, type_words ms loaded s (seen_here s g) (naming s x.name.name.name) (naming_words s x.name.name.name g w.0) n 0 x.of k.0 w.1 k.1))

    variable_in_right : (mark : Bool) (s : Scope) (name : List ℕ) (t : ObType) (u : Scope) → IsWord name → TypeWords t → gives (variable_in true mark s name t) u → InModule s → InModule u
    unfolding variable_in exported_variable own_variable
    variable_in_right true s name t u n w h g =
        subst InModule h.2 (more s _ (record { name = name; exported = is_empty s.around && true; entry = entry.Variable t (standing.Exported s.exported_count) }) g refl refl refl refl (n, w))
    variable_in_right false s name t u n w h g =
        subst InModule h.2 (more s _ (record { name = name; exported = is_empty s.around && false; entry = entry.Variable t (standing.Own s.own_count) }) g refl refl refl refl (n, w))

    variable_right : (t : ObType) → TypeWords t → (s : Scope) (x : IdentDef) (u : Scope) → NameIn x → gives (variable_rule t s x) u → InModule s → InModule u
    unfolding variable_rule
    variable_right t w s x u n h g =
        let taken = record s { cells_taken = (h.1).0 } in
        variable_in_right (has_mark x) taken x.name.name t u n w
        (subst (λ b. gives (variable_in b (has_mark x) taken x.name.name t) u) (ap is_empty g.around) (h.1).2)
        (record { around = g.around; enclosing = g.enclosing; name = g.name; block = g.block })

    first_word : (xs : List IdentDef) → AllByRecursion NameIn xs → IsWord (first_name xs)
    first_word [] h = refl
    first_word (x ∷ xs) h = h.0

    variables_right : (n : ℕ) (s : Scope) (x : TypedNames) (t : Scope) → TypedIn (TypeIn n) x → gives (variables_rule ms n s x) t → InModule s → InModule t
    unfolding variables_rule typed_variables
    variables_right n s x t w h g =
        let k = h.2 in
        let first = first_name (out-TypedNames x).names in
        let typed = type_words ms loaded s (seen_here s g) (naming s first) (naming_words s first g (first_word (out-TypedNames x).names w.0)) n 0 (out-TypedNames x).of k.0 w.1 k.1 in
        through_keeps InModule NameIn (variable_rule k.0.of) (λ a e b u v c. variable_right k.0.of typed a e b u v c) s (out-TypedNames x).names t w.0 k.2 g

    declarations_right : (n : ℕ) (s : Scope) (x : Declarations) (t : Scope) → DeclarationsIn n x → gives (declarations_rule ms n s x) t → InModule s → InModule t
    unfolding declarations_rule
    declarations_right n s x t w h g =
        through_keeps InModule (TypedIn (TypeIn n)) (variables_rule ms n) (λ a e b u k c. variables_right n a e b u k c) (h.2).0 (out-Declarations x).variables t w.variables (h.2).2
        (through_keeps InModule (DeclaredTypeIn n) (type_rule ms n) (λ a e b u k c. type_right n a e b u k c) h.0 (out-Declarations x).types (h.2).0 w.types (h.2).1
        (through_keeps InModule ConstantIn (constant_rule ms n) (λ a e b u k c. constant_right n a e b u k c) s (out-Declarations x).constants h.0 w.constants h.1 g))

    -- ---- imports

    not_true : (b : Bool) → not b ≡ true → b ≡ false
    not_true true h = absurd (let n : false ≡ true = h in cc)
    not_true false h = refl

    placed : (own : List ℕ) (o : Option ℕ) (place : ℕ) → gives (loaded_place ms self o) place → (o ≡ Some place) × (reaches (slice_get ms place) self ≡ false)
    unfolding loaded_place
    placed own None place h = absurd h
    placed own (Some p) place h = (ap Some h.1, subst (λ q. reaches (slice_get ms q) self ≡ false) h.1 (not_true _ h.0))

    -- a module has the number that it has already or a new one
    numbered_right : (s : Scope) (name : List ℕ) (place : ℕ) (o : Option ℕ) (t : Scope) → IsWord name → ImportRight ms self place → gives (module_numbered s name place o) t → InModule s → InModule t
    unfolding module_numbered
    numbered_right s name place None t n right h g =
        subst InModule h.2 (more s _ (record { name = name; exported = is_empty s.around && false; entry = entry.Module s.import_count place }) g refl refl refl refl (n, right))
    numbered_right s name place (Some import) t n right h g =
        subst InModule h (more s _ (record { name = name; exported = is_empty s.around && false; entry = entry.Module import place }) g refl refl refl refl (n, right))

    import_as_right : (s : Scope) (name own : List ℕ) (x : StandardName) (t : Scope) → IsWord name → bytes_eq own self ≡ false → gives (imported_as ms s name own x) t → InModule s → InModule t
    unfolding imported_as other_module
    import_as_right s name own standard.In t n other h g =
        subst InModule h (more s _ (record { name = name; exported = is_empty s.around && false; entry = entry.In }) g refl refl refl refl (n, tt))
    import_as_right s name own standard.Out t n other h g =
        subst InModule h (more s _ (record { name = name; exported = is_empty s.around && false; entry = entry.Out }) g refl refl refl refl (n, tt))
    import_as_right s name own standard.System t n other h g = absurd h
    import_as_right s name own standard.Other t n other h g =
        let p = placed own (module_place ms own) h.0 (subst (λ m. gives (loaded_place ms m (module_place ms own)) h.0) g.name h.1) in
        numbered_right s name h.0 (number_of_module s.block h.0) t n (own, p.0, other, p.1) h.2 g

    import_right : (s : Scope) (i : Import) (t : Scope) → IsWord i.name.name → gives (import_rule ms s i) t → InModule s → InModule t
    unfolding import_rule import_named
    import_right s i t n h g =
        let own = own_name i.name i.module_name in
        import_as_right s i.name.name own (standard_named own) t n (not_true _ (subst (λ m. not (bytes_eq own m) ≡ true) g.name (h.1).0)) (h.1).1 g

    opening_right : InModule (opening self)
    opening_right = record { around = refl; enclosing = refl; name = refl; block = tt }

    pub imports_right : (m : Module) (s : Scope) → AllByRecursion (λ (i : Import). IsWord i.name.name) m.imports → gives (through (import_rule ms) (opening self) m.imports) s → InModule s
    imports_right m s w h = through_keeps InModule (λ (i : Import). IsWord i.name.name) (import_rule ms) (λ a e b u k c. import_right a e b u k c) (opening self) m.imports s w h opening_right

  pub declared_right : (m : Module) (s : Scope) (w : ModuleIn m) → gives (module_rule ms m) s → InModule m.name.name w.name s
  unfolding module_rule
  declared_right m s w h =
      let k = h.1 in
      declarations_right m.name.name w.name max_nesting k.0 m.declarations s w.declarations k.2 (imports_right m.name.name w.name m k.0 w.imports k.1)

-- ---- what is exported

exports_append : (es fs : List Exported) → ExportWords es → ExportWords fs → ExportWords (es ++ fs)
exports_append [] fs h g = g
exports_append (e ∷ es) fs h g = (h.0, h.1, exports_append es fs h.2 g)

one_exported : (ms : Modules) (self name : List ℕ) (mark : Bool) (e : Entry) → IsWord name → EntryRight ms self e → ExportWords (exported_of name mark (object_of e))
one_exported ms self name true (entry.Constant c) n h = (n, tt, tt)
one_exported ms self name true (entry.TypeName t) n h = (n, h, tt)
one_exported ms self name true (entry.Variable t v) n h = (n, h, tt)
one_exported ms self name true (entry.Procedure p k) n h = (n, h, tt)
one_exported ms self name true entry.In n h = tt
one_exported ms self name true entry.Out n h = tt
one_exported ms self name true (entry.Module i place) n h = tt
one_exported ms self name false (entry.Constant c) n h = tt
one_exported ms self name false (entry.TypeName t) n h = tt
one_exported ms self name false (entry.Variable t v) n h = tt
one_exported ms self name false (entry.Procedure p k) n h = tt
one_exported ms self name false entry.In n h = tt
one_exported ms self name false entry.Out n h = tt
one_exported ms self name false (entry.Module i place) n h = tt

exports_right : (ms : Modules) (self : List ℕ) (ds : List Declared) → AllByRecursion (DeclaredRight ms self) ds → ExportWords (exports_of ds)
exports_right ms self [] h = tt
exports_right ms self (d ∷ ds) h = exports_append (exported_of d.name d.exported (object_of d.entry)) (exports_of ds) (one_exported ms self d.name d.exported d.entry h.0.0 h.0.1) (exports_right ms self ds h.1)

pub interface_right : (ms : Modules) (self : List ℕ) (ds : List Declared) → IsWord self → AllByRecursion (DeclaredRight ms self) ds → InterfaceWords (interface_of self ds)
interface_right ms self ds w h = record { name = w; exports = exports_right ms self ds h }
