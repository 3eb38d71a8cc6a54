-- What is so of every type that is seen is so of a type that is named, and of arrays, as they are written, of such types.
use Rattle.std.proofs.Common.{◌≡◌, ℕ, zero, suc, reverse, Bool, true, false, cond, List, [], ◌∷◌, Option, Some, None, slice_get, refl, ap, ◌∙◌, subst}
use Rattle.std.proofs.lemmas.List.Elements.{All-nil, All-head, All-tail, All-push}
use Rattle.std.proofs.lemmas.List.Sorted.{All-permutation, IsPermutation-reverse}
use Rattle.std.specs.List.{All}
use Rattle.std.specs.Str.{bytes_eq}
use Rattle.ob_tree.specs.declared.tree.Expr.{Expr}
use Rattle.ob_tree.specs.declared.tree.FormalType.{FormalType, out-FormalType}
use Rattle.ob_tree.specs.declared.tree.FormalType.TheOpen.{FormalType-F}
use Rattle.ob_tree.specs.declared.tree.Ident.{Ident}
use Rattle.ob_tree.specs.declared.tree.Qualident.{Qualident}
use Rattle.ob_types.specs.declared.exports.Constant.{Constant}
use Rattle.ob_types.specs.declared.exports.Exported.{Exported}
use Rattle.ob_types.specs.declared.exports.Object.{Object}
use Rattle.ob_types.specs.declared.exports.Object.TheVariants as object
use Rattle.ob_types.specs.declared.structure.Basic.{Basic}
use Rattle.ob_types.specs.declared.structure.ObType.{ObType}
use Rattle.ob_types.specs.declared.structure.ObType.TheVariants.{Basic as OfBasic, Array, Open}
use Rattle.ob_check_scope.specs.declared.rule.RuleCode.TheVariants as code
use Rattle.ob_check_scope.specs.declared.block.Entry.{Entry}
use Rattle.ob_check_scope.specs.declared.block.Entry.TheVariants as entry
use Rattle.ob_check_scope.specs.declared.predeclared.Predeclared.{Predeclared}
use Rattle.ob_check_scope.specs.declared.predeclared.Predeclared.TheVariants as predeclared
use Rattle.ob_check_scope.specs.declared.scope.Scope.{Scope}
use Rattle.ob_check_scope.specs.Exports.{Modules, exported_in}
use Rattle.ob_check_scope.specs.Imports.{exported_at, exported_by}
use Rattle.ob_check_scope.specs.LoadedTree.{LoadedTree}
use Rattle.ob_check_scope.specs.Rule.{Rule, gives, through}
use Rattle.ob_check_scope.specs.Scope.{seen, outer}
use Rattle.ob_check_const.specs.NamedTypes.{predeclared_type, own_type, object_type, other_type, qualified, type_named}
use Rattle.ob_check_decl.specs.Headings.{open_of, formal_layer, formal_rule, inner_formal, formal_at}
use Rattle.ob_check_decl.specs.WrittenTypes.{length_of, next_length, array_of}
use Rattle.ob_check_laws.proofs.Rules.{through_keeps, there_is}
use Rattle.ob_check_laws.proofs.Suiting.{nothing, some_same}

-- ---- what is imported

-- what is so of each object in a list of exports
module _ (P : Object → Type 0) (Each : List Exported → Type 0) (parts : (e : Exported) (es : List Exported) → Each (e ∷ es) → P e.object × Each es) where
  by_name : (e : Exported) (es : List Exported) (name : List ℕ) (o : Object) (b : Bool) → P e.object → (exported_in es name ≡ Some o → P o) → cond b (Some e.object) (exported_in es name) ≡ Some o → P o
  by_name e es name o true h g k = subst P (some_same e.object o k) h
  by_name e es name o false h g k = g k

  exported_keeps : (es : List Exported) (name : List ℕ) (o : Object) → Each es → exported_in es name ≡ Some o → P o
  exported_keeps [] name o h k = nothing o k
  exported_keeps (e ∷ es) name o h k = by_name e es name o (bytes_eq e.name name) (parts e es h).0 (exported_keeps es name o (parts e es h).1) k

  -- is so of what the loaded module at a place exports
  pub object_keeps : (ms : Modules) (place : ℕ) (name : List ℕ) (o : Object) → ((m : LoadedTree) → slice_get ms place ≡ Some m → Each m.interface.exports) → exported_at ms place name ≡ Some o → P o
  unfolding exported_at
  object_keeps ms place name o h k = by (slice_get ms place) h k
    where
      by : (m : Option LoadedTree) → ((n : LoadedTree) → m ≡ Some n → Each n.interface.exports) → exported_by m name ≡ Some o → P o
      by None s e = nothing o e
      by (Some m) s e = exported_keeps m.interface.exports name o (s m refl) e

-- ---- types that are named

-- what is so of basic types, of those that loaded modules export, and of those that are seen in a scope
module _ (P : ObType → Type 0) (basic : (b : Basic) → P (OfBasic b)) (ms : Modules) (loaded : (place : ℕ) (name : List ℕ) (t : ObType) → exported_at ms place name ≡ Some (object.TypeName t) → P t) (s : Scope) (scope : (name : List ℕ) (t : ObType) → seen s name ≡ Some (entry.TypeName t) → P t) where
  predeclared_keeps : (p : Predeclared) (t : ObType) → gives (predeclared_type p) t → P t
  unfolding predeclared_type
  predeclared_keeps (predeclared.Basic b) t h = subst P h (basic b)
  predeclared_keeps (predeclared.Function f) t h = absurd h
  predeclared_keeps (predeclared.Procedure f) t h = absurd h
  predeclared_keeps predeclared.LeftOut t h = absurd h
  predeclared_keeps predeclared.Unknown t h = absurd h

  own_type_keeps : (o : Option Entry) (p : Predeclared) (t : ObType) → ((u : ObType) → o ≡ Some (entry.TypeName u) → P u) → gives (own_type o p) t → P t
  unfolding own_type
  own_type_keeps (Some (entry.TypeName u)) p t g h = subst P h (g u refl)
  own_type_keeps (Some (entry.Constant c)) p t g h = absurd h
  own_type_keeps (Some (entry.Variable u v)) p t g h = absurd h
  own_type_keeps (Some (entry.Procedure u v)) p t g h = absurd h
  own_type_keeps (Some entry.In) p t g h = absurd h
  own_type_keeps (Some entry.Out) p t g h = absurd h
  own_type_keeps (Some (entry.Module u v)) p t g h = absurd h
  own_type_keeps None p t g h = predeclared_keeps p t h

  object_type_keeps : (o : Object) (t : ObType) → ((u : ObType) → o ≡ object.TypeName u → P u) → gives (object_type o) t → P t
  object_type_keeps (object.TypeName u) t g h = subst P h (g u refl)
  object_type_keeps (object.Constant c) t g h = absurd h
  object_type_keeps (object.Variable u) t g h = absurd h
  object_type_keeps (object.Procedure u) t g h = absurd h

  other_type_keeps : (o : Option Entry) (p : Predeclared) (name : List ℕ) (t : ObType) → gives (other_type ms o p name) t → P t
  unfolding other_type
  other_type_keeps (Some (entry.Module i place)) p name t h =
      object_type_keeps h.0 t (λ u e. loaded place name u (there_is (exported_at ms place name) code.NotExported h.0 h.1 ∙ ap Some e)) h.2
  other_type_keeps (Some (entry.TypeName u)) p name t h = absurd h
  other_type_keeps (Some (entry.Constant c)) p name t h = absurd h
  other_type_keeps (Some (entry.Variable u v)) p name t h = absurd h
  other_type_keeps (Some (entry.Procedure u v)) p name t h = absurd h
  other_type_keeps (Some entry.In) p name t h = absurd h
  other_type_keeps (Some entry.Out) p name t h = absurd h
  other_type_keeps None p name t h = absurd h

  qualified_keeps : (o : Option Entry) (p : Predeclared) (second : Option Ident) (t : ObType) → ((u : ObType) → o ≡ Some (entry.TypeName u) → P u) → gives (qualified ms o p second) t → P t
  unfolding qualified
  qualified_keeps o p None t g h = own_type_keeps o p t g h
  qualified_keeps o p (Some second) t g h = other_type_keeps o p second.name t h

  pub named_keeps : (q : Qualident) (t : ObType) → gives (type_named ms s q) t → P t
  unfolding type_named
  named_keeps q t h = qualified_keeps (seen s q.first.name) (outer s q.first.name) q.second t (scope q.first.name) h

  -- ---- types of formal parameters, where it is so of open arrays too

  module _ (opened : (e : ObType) → P e → P (Open e)) where
    formal_layer_keeps : (inner : FormalType → Rule ObType) → ((f : FormalType) (t : ObType) → gives (inner f) t → P t) → (l : FormalType-F FormalType) (t : ObType) → gives (formal_layer inner ms s l) t → P t
    unfolding open_of
    formal_layer_keeps inner inside (FormalType-F.Named q) t h = named_keeps q t h
    formal_layer_keeps inner inside (FormalType-F.Open span element) t h = subst P (h.2).1 (opened h.0 (inside element h.0 h.1))

    inner_formal_keeps : (n : ℕ) (f : FormalType) (t : ObType) → gives (inner_formal ms s n f) t → P t
    unfolding inner_formal formal_rule
    inner_formal_keeps zero f t h = absurd h
    inner_formal_keeps (suc n) f t h = formal_layer_keeps (inner_formal ms s n) (inner_formal_keeps n) (out-FormalType f) t h

    pub formal_keeps : (n : ℕ) (f : FormalType) (t : ObType) → gives (formal_at ms s n f) t → P t
    unfolding formal_at formal_rule
    formal_keeps n f t h = formal_layer_keeps (inner_formal ms s n) (inner_formal_keeps n) (out-FormalType f) t h

-- ---- arrays

-- what is so of arrays of such types, where their lengths are as lengths have to be
module _ (P : ObType → Type 0) (Q : ℕ → Type 0) (array : (n : ℕ) (e : ObType) → Q n → P e → P (Array n e)) (length : (c : Constant) (n : ℕ) → gives (length_of c) n → Q n) where
  arrays_of : (t : ObType) (ns : List ℕ) (u : ObType) → gives (through array_of t ns) u → P t → All Q ns → P u
  unfolding array_of
  arrays_of t [] u h p q = subst P h p
  arrays_of t (n ∷ ns) u h p q = arrays_of h.0 ns u h.2 (subst P (h.1).1 (array n t (All-head Q n ns q) p)) (All-tail Q n ns q)

  pub arrays_keep : (constants : Expr → Rule Constant) (lengths : List Expr) (ns : List ℕ) (t u : ObType) → gives (through (next_length constants) [] lengths) ns → gives (through array_of t (reverse ns)) u → P t → P u
  unfolding next_length
  arrays_keep constants lengths ns t u h g p =
      let q = through_keeps (All Q) (next_length constants) (λ a e b k f. subst (All Q) (k.2).2 (All-push Q a (k.2).0 f (length k.0 (k.2).0 (k.2).1))) [] lengths ns h (All-nil Q) in
      arrays_of t (reverse ns) u g p (All-permutation Q ns (reverse ns) (IsPermutation-reverse ns) q)
