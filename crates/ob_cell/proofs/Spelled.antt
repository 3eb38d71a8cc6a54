-- The names that a module's text declares are words.
use Rattle.std.proofs.Common.{ℕ, zero, suc, List, [], ◌∷◌, inl, inr, subst, sym}
use Rattle.std.specs.List.{AllByRecursion}
use Rattle.ob_scan.specs.declared.token.Symbol.{Symbol}
use Rattle.ob_scan.specs.declared.token.Symbol.TheVariants as s
use Rattle.ob_scan.specs.declared.token.Token.{Token}
use Rattle.ob_scan.specs.Places.{start_of_text}
use Rattle.ob_tree.specs.declared.tree.Cell.TheVariants as cells
use Rattle.ob_tree.specs.declared.tree.ConstDeclaration.{ConstDeclaration}
use Rattle.ob_tree.specs.declared.tree.Declarations.{Declarations, out-Declarations}
use Rattle.ob_tree.specs.declared.tree.FormalSection.{FormalSection}
use Rattle.ob_tree.specs.declared.tree.FormalType.{FormalType, out-FormalType}
use Rattle.ob_tree.specs.declared.tree.FormalType.TheOpen.{FormalType-F}
use Rattle.ob_tree.specs.declared.tree.Formals.{Formals}
use Rattle.ob_tree.specs.declared.tree.Ident.{Ident}
use Rattle.ob_tree.specs.declared.tree.IdentDef.{IdentDef}
use Rattle.ob_tree.specs.declared.tree.Import.{Import}
use Rattle.ob_tree.specs.declared.tree.Module.{Module}
use Rattle.ob_tree.specs.declared.tree.Procedure.{Procedure, out-Procedure}
use Rattle.ob_tree.specs.declared.tree.Qualident.{Qualident}
use Rattle.ob_tree.specs.declared.tree.Returned.{Returned}
use Rattle.ob_tree.specs.declared.tree.TypeDeclaration.{TypeDeclaration}
use Rattle.ob_tree.specs.declared.tree.TypedNames.{TypedNames, out-TypedNames}
use Rattle.ob_tree.specs.declared.tree.TypeExpr.{TypeExpr, out-TypeExpr}
use Rattle.ob_tree.specs.declared.tree.TypeExpr.TheOpen.{TypeExpr-F}
use Rattle.ob_parse.specs.CellText.{IsCellOf}
use Rattle.ob_tree.specs.Declaration as d
use Rattle.ob_tree.specs.Expression as expression
use Rattle.ob_parse.specs.Grammar as grammar
use Rattle.ob_tree.specs.Name as n
use Rattle.ob_tree.specs.Phrase.{Phrase, ◌⨾◌, symbol_at, symbol, ident, each, separated, listed, optional}
use Rattle.ob_tree.specs.Statement as st
use Rattle.ob_tree.specs.Structure as t
use Rattle.ob_load.specs.Words.{IsWord}
use Rattle.ob_cell.proofs.Tokens.{TokenWords, token_words, Keeps, then, never, sign, mark, name, deeper, every, perhaps, between, list_of, behind_word}
use Rattle.ob_cell.proofs.Passed as passed
use Rattle.ob_cell.proofs.Passed.{ident_def, ident_list, qualident, expr, statements}

-- ---- the names of a tree that others may see

abbrev pub NameIn : IdentDef → Type 0
NameIn x = IsWord x.name.name

abbrev pub TypedIn : (TypeExpr → Type 0) → TypedNames → Type 0
TypedIn inner x = AllByRecursion NameIn (out-TypedNames x).names × inner (out-TypedNames x).of

abbrev pub LayerIn : (TypeExpr → Type 0) → t.TypeLayer → Type 0
LayerIn inner (TypeExpr-F.Named q) = Unit {0}
LayerIn inner (TypeExpr-F.Array span lengths element) = inner element
LayerIn inner (TypeExpr-F.Record span base fields) = AllByRecursion (TypedIn inner) fields

-- of a type in which that many more constructs may nest
abbrev pub InnerIn : ℕ → TypeExpr → Type 0
InnerIn zero x = Unit {0}
InnerIn (suc k) x = LayerIn (InnerIn k) (out-TypeExpr x)

abbrev pub TypeIn : ℕ → TypeExpr → Type 0
TypeIn k x = LayerIn (InnerIn k) (out-TypeExpr x)

abbrev pub ConstantIn : ConstDeclaration → Type 0
ConstantIn c = NameIn c.name

abbrev pub DeclaredTypeIn : ℕ → TypeDeclaration → Type 0
DeclaredTypeIn k x = NameIn x.name × TypeIn k x.of

abbrev pub ProcedureIn : Procedure → Type 0
ProcedureIn p = NameIn (out-Procedure p).name

pub record DeclarationsIn (levels : ℕ) (x : Declarations) : Type 0 where
  pub constants : AllByRecursion ConstantIn (out-Declarations x).constants
  pub types : AllByRecursion (DeclaredTypeIn levels) (out-Declarations x).types
  pub variables : AllByRecursion (TypedIn (TypeIn levels)) (out-Declarations x).variables
  pub procedures : AllByRecursion ProcedureIn (out-Declarations x).procedures

pub record ModuleIn (m : Module) : Type 0 where
  pub name : IsWord m.name.name
  pub imports : AllByRecursion (λ (i : Import). IsWord i.name.name) m.imports
  pub declarations : DeclarationsIn grammar.max_nesting m.declarations

-- ---- what a phrase says where names of its tokens are words

record Says (p : Phrase) (A : Type 0) : Type 0 where
  says : (tokens rest : List Token) → p tokens rest → TokenWords tokens → A

first : {p q : Phrase} {A : Type 0} → Says p A → Says (p ⨾ q) A
first f = record { says = λ tokens rest h w. f.says tokens h.0 h.1 w }

later : {p q : Phrase} {A : Type 0} → Keeps p → Says q A → Says (p ⨾ q) A
later k f = record { says = λ tokens rest h w. f.says h.0 rest h.2 (k.keeps tokens h.0 h.1 w) }

both : {p : Phrase} {A B : Type 0} → Says p A → Says p B → Says p (A × B)
both f g = record { says = λ tokens rest h w. (f.says tokens rest h w, g.says tokens rest h w) }

nothing_said : {p : Phrase} → Says p (Unit {0})
nothing_said = record { says = λ tokens rest h w. tt }

said_name : (i : Ident) → Says (ident i) (IsWord i.name)
said_name i = record { says = λ tokens rest h w. (subst TokenWords h w).0 }

all_said : {X : Type 0} (p : X → Phrase) (A : X → Type 0) → ((x : X) → Keeps (p x)) → ((x : X) → Says (p x) (A x)) → (xs : List X) → Says (each p xs) (AllByRecursion A xs)
all_said p A k f [] = nothing_said
all_said p A k f (x ∷ xs) = both (first (f x)) (later (k x) (all_said p A k f xs))

between_said : {X : Type 0} (word : Symbol) (p : X → Phrase) (A : X → Type 0) → ((x : X) → Keeps (p x)) → ((x : X) → Says (p x) (A x)) → (xs : List X) → Says (separated word p xs) (AllByRecursion A xs)
between_said word p A k f [] = record { says = λ tokens rest h w. absurd h }
between_said {X} word p A k f (x ∷ xs) = record { says = λ tokens rest h w. (all (x ∷ xs)).says tokens rest h w }
  where
    others : (ys : List X) → Says (each (λ y. symbol word ⨾ p y) ys) (AllByRecursion A ys)
    others ys = all_said (λ y. symbol word ⨾ p y) A (λ y. then (mark word) (k y)) (λ y. later (mark word) (f y)) ys

    all : (ys : List X) → Says (p x ⨾ each (λ y. symbol word ⨾ p y) xs) (A x × AllByRecursion A xs)
    all ys = both (first (f x)) (later (k x) (others xs))

list_said : {X : Type 0} (word : Symbol) (p : X → Phrase) (A : X → Type 0) → ((x : X) → Keeps (p x)) → ((x : X) → Says (p x) (A x)) → (xs : List X) → Says (listed word p xs) (AllByRecursion A xs)
list_said word p A k f [] = nothing_said
list_said word p A k f (x ∷ xs) = between_said word p A k f (x ∷ xs)

optional_said : {X : Type 0} (word : Symbol) (p : List X → Phrase) (A : X → Type 0) → ((xs : List X) → Says (p xs) (AllByRecursion A xs)) → (xs : List X) → Says (optional word p xs) (AllByRecursion A xs)
optional_said {X} word p A f xs = record { says = by }
  where
    by : (tokens rest : List Token) → optional word p xs tokens rest → TokenWords tokens → AllByRecursion A xs
    by tokens rest (inl e) w = subst (AllByRecursion A) (sym e.0) tt
    by tokens rest (inr h) w = (later (mark word) (f xs)).says tokens rest h w

said_def : (x : IdentDef) → Says (n.ident_def x) (NameIn x)
said_def x = first (said_name x.name)

said_list : (xs : List IdentDef) → Says (n.ident_list xs) (AllByRecursion NameIn xs)
said_list xs = between_said s.Comma n.ident_def NameIn ident_def said_def xs

-- ---- types

module _ (levels : ℕ) (inner : TypeExpr → Phrase) (In : TypeExpr → Type 0) (type_in : (x : TypeExpr) → Keeps (inner x)) (says_in : (x : TypeExpr) → Says (inner x) (In x)) where
  names_keep : (x : TypedNames) → Keeps (t.names_of inner x)
  names_keep x = then (ident_list (out-TypedNames x).names) (then (mark s.Colon) (type_in (out-TypedNames x).of))

  names_say : (x : TypedNames) → Says (t.names_of inner x) (TypedIn In x)
  names_say x = both (first (said_list (out-TypedNames x).names)) (later (ident_list (out-TypedNames x).names) (later (mark s.Colon) (says_in (out-TypedNames x).of)))

  base_keeps : (q : Qualident) → Keeps (t.base_name q)
  base_keeps q = then (mark s.LeftParen) (then (qualident q) (mark s.RightParen))

  layer_keeps : (l : t.TypeLayer) → Keeps (t.type_layer levels inner l)
  layer_keeps (TypeExpr-F.Named q) = qualident q
  layer_keeps (TypeExpr-F.Array span lengths element) =
      then (sign s.Array span) (then (deeper levels) (then (between s.Comma (expression.inner levels) (passed.inner levels) lengths) (then (mark s.Of) (type_in element))))
  layer_keeps (TypeExpr-F.Record span base fields) =
      then (sign s.Record span) (then (deeper levels) (then (perhaps t.base_name base_keeps base) (then (list_of s.Semicolon (t.names_of inner) names_keep fields) (mark s.End))))

  layer_says : (l : t.TypeLayer) → Says (t.type_layer levels inner l) (LayerIn In l)
  layer_says (TypeExpr-F.Named q) = nothing_said
  layer_says (TypeExpr-F.Array span lengths element) =
      later (sign s.Array span) (later (deeper levels) (later (between s.Comma (expression.inner levels) (passed.inner levels) lengths) (later (mark s.Of) (says_in element))))
  layer_says (TypeExpr-F.Record span base fields) =
      later (sign s.Record span) (later (deeper levels) (later (perhaps t.base_name base_keeps base) (first (list_said s.Semicolon (t.names_of inner) (TypedIn In) names_keep names_say fields))))

inner_keeps : (k : ℕ) (x : TypeExpr) → Keeps (t.inner k x)
inner_keeps zero x = never
inner_keeps (suc k) x = layer_keeps k (t.inner k) (λ y. Unit {0}) (inner_keeps k) (λ y. nothing_said) (out-TypeExpr x)

inner_says : (k : ℕ) (x : TypeExpr) → Says (t.inner k x) (InnerIn k x)
inner_says zero x = nothing_said
inner_says (suc k) x = layer_says k (t.inner k) (InnerIn k) (inner_keeps k) (inner_says k) (out-TypeExpr x)

type_keeps : (k : ℕ) (x : TypeExpr) → Keeps (t.type_expr k x)
type_keeps k x = layer_keeps k (t.inner k) (InnerIn k) (inner_keeps k) (inner_says k) (out-TypeExpr x)

type_says : (k : ℕ) (x : TypeExpr) → Says (t.type_expr k x) (TypeIn k x)
type_says k x = layer_says k (t.inner k) (InnerIn k) (inner_keeps k) (inner_says k) (out-TypeExpr x)

-- ---- formal parameters

formal_layer : (k : ℕ) (inner : FormalType → Phrase) → ((x : FormalType) → Keeps (inner x)) → (l : d.FormalLayer) → Keeps (d.formal_layer k inner l)
formal_layer k inner inside (FormalType-F.Named q) = qualident q
formal_layer k inner inside (FormalType-F.Open span element) = then (sign s.Array span) (then (deeper k) (then (mark s.Of) (inside element)))

inner_formal : (k : ℕ) (x : FormalType) → Keeps (d.inner_formal k x)
inner_formal zero x = never
inner_formal (suc k) x = formal_layer k (d.inner_formal k) (inner_formal k) (out-FormalType x)

formal_type : (k : ℕ) (x : FormalType) → Keeps (d.formal_type k x)
formal_type k x = formal_layer k (d.inner_formal k) (inner_formal k) (out-FormalType x)

section : (k : ℕ) (x : FormalSection) → Keeps (d.section k x)
section k x = then (perhaps (symbol_at s.Var) (sign s.Var) x.by_reference) (then (between s.Comma ident name x.names) (then (mark s.Colon) (formal_type k x.of)))

formals : (k : ℕ) (x : Formals) → Keeps (d.formals k x)
formals k x =
    then (mark s.LeftParen) (then (list_of s.Semicolon (d.section k) (section k) x.sections) (then (mark s.RightParen)
    (perhaps (λ q. symbol s.Colon ⨾ n.qualident q) (λ q. then (mark s.Colon) (qualident q)) x.result)))

-- ---- declarations

const_keeps : (k : ℕ) (c : ConstDeclaration) → Keeps (d.const_declaration k c)
const_keeps k c = then (ident_def c.name) (then (mark s.Equal) (then (expr k c.value) (mark s.Semicolon)))

declared_type_keeps : (k : ℕ) (x : TypeDeclaration) → Keeps (d.type_declaration k x)
declared_type_keeps k x = then (ident_def x.name) (then (mark s.Equal) (then (type_keeps k x.of) (mark s.Semicolon)))

variables_keep : (k : ℕ) (x : TypedNames) → Keeps (d.variables k x)
variables_keep k x = then (names_keep k (t.type_expr k) (TypeIn k) (type_keeps k) (type_says k) x) (mark s.Semicolon)

returned_keeps : (k : ℕ) (x : Returned) → Keeps (d.returned k x)
returned_keeps k x = then (sign s.Return x.span) (expr k x.value)

again : (xs : List ℕ) → Keeps (d.name_again xs)
again xs = record { keeps = λ tokens rest h w. (subst TokenWords h.1 w).1 }

module _ (k : ℕ) (inner : Procedure → Phrase) (inside : (p : Procedure) → Keeps (inner p)) where
  part_keeps : (p : Procedure) → Keeps (d.procedure_part k inner p)
  part_keeps p = then (mark s.Procedure) (then (deeper k) (then (inside p) (mark s.Semicolon)))

  declarations_keep : (x : Declarations) → Keeps (d.declarations_phrase k inner x)
  declarations_keep x =
      then (behind_word s.Const (each (d.const_declaration k)) (every (d.const_declaration k) (const_keeps k)) (out-Declarations x).constants)
      (then (behind_word s.Type (each (d.type_declaration k)) (every (d.type_declaration k) (declared_type_keeps k)) (out-Declarations x).types)
      (then (behind_word s.Var (each (d.variables k)) (every (d.variables k) (variables_keep k)) (out-Declarations x).variables)
      (every (d.procedure_part k inner) part_keeps (out-Declarations x).procedures)))

  procedure_keeps : (p : Procedure) → Keeps (d.procedure_phrase k inner p)
  procedure_keeps p =
      then (ident_def (out-Procedure p).name) (then (perhaps (d.formals k) (formals k) (out-Procedure p).formals) (then (mark s.Semicolon)
      (then (declarations_keep (out-Procedure p).declarations) (then (behind_word s.Begin (st.statements k) (statements k) (out-Procedure p).body)
      (then (perhaps (d.returned k) (returned_keeps k) (out-Procedure p).returned) (then (mark s.End) (again (out-Procedure p).name.name.name)))))))

  -- its name stands in front
  part_says : (inner_says : (p : Procedure) → Says (inner p) (ProcedureIn p)) (p : Procedure) → Says (d.procedure_part k inner p) (ProcedureIn p)
  part_says inner_says p = later (mark s.Procedure) (later (deeper k) (first (inner_says p)))

  constants_said : (x : Declarations) → Says (d.declarations_phrase k inner x) (AllByRecursion ConstantIn (out-Declarations x).constants)
  constants_said x =
      first (optional_said s.Const (each (d.const_declaration k)) ConstantIn (all_said (d.const_declaration k) ConstantIn (const_keeps k) (λ c. first (said_def c.name))) (out-Declarations x).constants)

  types_said : (x : Declarations) → Says (d.declarations_phrase k inner x) (AllByRecursion (DeclaredTypeIn k) (out-Declarations x).types)
  types_said x =
      later (behind_word s.Const (each (d.const_declaration k)) (every (d.const_declaration k) (const_keeps k)) (out-Declarations x).constants)
      (first (optional_said s.Type (each (d.type_declaration k)) (DeclaredTypeIn k)
      (all_said (d.type_declaration k) (DeclaredTypeIn k) (declared_type_keeps k) (λ y. both (first (said_def y.name)) (later (ident_def y.name) (later (mark s.Equal) (first (type_says k y.of)))))) (out-Declarations x).types))

  variables_said : (x : Declarations) → Says (d.declarations_phrase k inner x) (AllByRecursion (TypedIn (TypeIn k)) (out-Declarations x).variables)
  variables_said x =
      later (behind_word s.Const (each (d.const_declaration k)) (every (d.const_declaration k) (const_keeps k)) (out-Declarations x).constants)
      (later (behind_word s.Type (each (d.type_declaration k)) (every (d.type_declaration k) (declared_type_keeps k)) (out-Declarations x).types)
      (first (optional_said s.Var (each (d.variables k)) (TypedIn (TypeIn k))
      (all_said (d.variables k) (TypedIn (TypeIn k)) (variables_keep k) (λ y. first (names_say k (t.type_expr k) (TypeIn k) (type_keeps k) (type_says k) y))) (out-Declarations x).variables)))

  procedures_said : (inner_says : (p : Procedure) → Says (inner p) (ProcedureIn p)) (x : Declarations) → Says (d.declarations_phrase k inner x) (AllByRecursion ProcedureIn (out-Declarations x).procedures)
  procedures_said inner_says x =
      later (behind_word s.Const (each (d.const_declaration k)) (every (d.const_declaration k) (const_keeps k)) (out-Declarations x).constants)
      (later (behind_word s.Type (each (d.type_declaration k)) (every (d.type_declaration k) (declared_type_keeps k)) (out-Declarations x).types)
      (later (behind_word s.Var (each (d.variables k)) (every (d.variables k) (variables_keep k)) (out-Declarations x).variables)
      (all_said (d.procedure_part k inner) ProcedureIn part_keeps (part_says inner_says) (out-Declarations x).procedures)))

inner_procedure_keeps : (k : ℕ) (p : Procedure) → Keeps (d.inner_procedure k p)
inner_procedure_keeps zero p = never
inner_procedure_keeps (suc k) p = procedure_keeps k (d.inner_procedure k) (inner_procedure_keeps k) p

inner_procedure_says : (k : ℕ) (p : Procedure) → Says (d.inner_procedure k p) (ProcedureIn p)
inner_procedure_says zero p = record { says = λ tokens rest h w. absurd h }
inner_procedure_says (suc k) p = first (said_def (out-Procedure p).name)

declarations_said : (k : ℕ) (x : Declarations) → Says (d.declarations k x) (DeclarationsIn k x)
declarations_said k x = record {
  says = λ tokens rest h w. record {
    constants = (constants_said k (d.inner_procedure k) (inner_procedure_keeps k) x).says tokens rest h w;
    types = (types_said k (d.inner_procedure k) (inner_procedure_keeps k) x).says tokens rest h w;
    variables = (variables_said k (d.inner_procedure k) (inner_procedure_keeps k) x).says tokens rest h w;
    procedures = (procedures_said k (d.inner_procedure k) (inner_procedure_keeps k) (inner_procedure_says k) x).says tokens rest h w;
  };
}

-- ---- modules

import_keeps : (i : Import) → Keeps (grammar.import_phrase i)
import_keeps i = then (name i.name) (perhaps (λ m. symbol s.Becomes ⨾ ident m) (λ m. then (mark s.Becomes) (name m)) i.module_name)

imports_keep : (xs : List Import) → Keeps (grammar.import_list xs)
imports_keep xs = then (between s.Comma grammar.import_phrase import_keeps xs) (mark s.Semicolon)

imports_said : (xs : List Import) → Says (grammar.import_list xs) (AllByRecursion (λ (i : Import). IsWord i.name.name) xs)
imports_said xs = first (between_said s.Comma grammar.import_phrase (λ (i : Import). IsWord i.name.name) import_keeps (λ i. first (said_name i.name)) xs)

module_name : (m : Module) → Says (grammar.module_phrase m) (IsWord m.name.name)
module_name m = later (mark s.Module) (first (said_name m.name))

module_imports : (m : Module) → Says (grammar.module_phrase m) (AllByRecursion (λ (i : Import). IsWord i.name.name) m.imports)
module_imports m =
    later (mark s.Module) (later (name m.name) (later (mark s.Semicolon)
    (first (optional_said s.Import grammar.import_list (λ (i : Import). IsWord i.name.name) imports_said m.imports))))

module_declarations : (m : Module) → Says (grammar.module_phrase m) (DeclarationsIn grammar.max_nesting m.declarations)
module_declarations m =
    later (mark s.Module) (later (name m.name) (later (mark s.Semicolon)
    (later (behind_word s.Import grammar.import_list imports_keep m.imports) (first (declarations_said grammar.max_nesting m.declarations)))))

module_said : (m : Module) → Says (grammar.module_phrase m) (ModuleIn m)
module_said m = record {
  says = λ tokens rest h w. record {
    name = (module_name m).says tokens rest h w;
    imports = (module_imports m).says tokens rest h w;
    declarations = (module_declarations m).says tokens rest h w;
  };
}

-- of a text's module
pub text_words : (text : List ℕ) (m : Module) → IsCellOf text (cells.Module m) → ModuleIn m
text_words text m h = (module_said m).says h.0 [] h.2 (token_words start_of_text text h.0 h.1)
