-- The interface of a checked module has names that are words, and its imports don't reach it.
use Rattle.std.proofs.Common.{◌≡◌, ℕ, zero, suc, ◌++◌, Bool, true, false, List, [], ◌∷◌, refl, sym, ap, ◌∙◌, subst}
use Rattle.std.specs.List.{AllByRecursion}
use Rattle.std.specs.Prelude.{◌&&◌}
use Rattle.ob_tree.specs.declared.tree.ConstDeclaration.{ConstDeclaration}
use Rattle.ob_tree.specs.declared.tree.Declarations.{Declarations, out-Declarations}
use Rattle.ob_tree.specs.declared.tree.IdentDef.{IdentDef}
use Rattle.ob_tree.specs.declared.tree.Module.{Module}
use Rattle.ob_tree.specs.declared.tree.Procedure.{Procedure, out-Procedure}
use Rattle.ob_tree.specs.declared.tree.TypeDeclaration.{TypeDeclaration}
use Rattle.ob_tree.specs.declared.tree.TypedNames.{TypedNames, out-TypedNames}
use Rattle.ob_types.specs.declared.exports.Signature.{Signature}
use Rattle.ob_types.specs.declared.structure.ObType.{ObType}
use Rattle.ob_check_scope.specs.declared.block.Declared.{Declared}
use Rattle.ob_check_scope.specs.declared.block.Entry.TheVariants as entry
use Rattle.ob_check_decl.specs.declared.heading.Entered.{Entered}
use Rattle.ob_check_scope.specs.declared.scope.Scope.{Scope}
use Rattle.ob_check_decl.specs.Declarations.{new_constant, constant_rule, new_type, type_rule, exported_variable, own_variable, local_variable, variable_in, variable_rule, typed_variables, variables_rule, declarations_rule, max_nesting, has_mark}
use Rattle.ob_check_scope.specs.Exports.{Modules}
use Rattle.ob_check_decl.specs.Headings.{new_procedure, procedure_rule}
use Rattle.ob_check_decl.specs.Interfaces.{interface_of}
use Rattle.ob_check_scope.specs.Rule.{gives}
use Rattle.ob_check_scope.specs.Scope.{left, left_into}
use Rattle.ob_check_scope.specs.Stack.{is_empty}
use Rattle.ob_check_module.specs.CheckedTree.{CheckedTree}
use Rattle.ob_check_module.specs.Modules.{all_imported, body_rule, procedures_rule, checked_rule, module_at}
use Rattle.ob_check_module.specs.Procedures.{Checking, procedures_in, body_of, inside_of, procedure_of, procedure_at}
use Rattle.ob_load.specs.Words.{IsWord, InterfaceWords}
use Rattle.ob_cell.proofs.Spelled.{ProcedureIn, ModuleIn}
use Rattle.ob_cell.proofs.WordTypes.{LoadedWords, through_keeps, always}
use Rattle.ob_cell.proofs.WordScopes.{DeclaredRight, InModule, BlockTypes, block_types, each_more, heading_words, declared_right, interface_right}

-- ---- rules that leave the blocks round a place as they are

pub record SameRound (s t : Scope) : Type 0 where
  pub around : t.around ≡ s.around
  pub enclosing : t.enclosing ≡ s.enclosing
  pub name : t.module_name ≡ s.module_name

same_round : (s : Scope) → SameRound s s
same_round s = record { around = refl; enclosing = refl; name = refl }

then_same : (s t u : Scope) → SameRound s t → SameRound t u → SameRound s u
then_same s t u a b = record { around = b.around ∙ a.around; enclosing = b.enclosing ∙ a.enclosing; name = b.name ∙ a.name }

module _ (ms : Modules) (n : ℕ) where
  constant_same : (s : Scope) (x : ConstDeclaration) (t : Scope) → gives (constant_rule ms n s x) t → SameRound s t
  unfolding constant_rule new_constant
  constant_same s x t h = subst (SameRound s) (h.1).2 (record { around = refl; enclosing = refl; name = refl })

  type_same : (s : Scope) (x : TypeDeclaration) (t : Scope) → gives (type_rule ms n s x) t → SameRound s t
  unfolding type_rule new_type
  type_same s x t h = subst (SameRound s) (h.1).2 (record { around = refl; enclosing = refl; name = refl })

  variable_in_same : (in_module mark : Bool) (s : Scope) (name : List ℕ) (t : ObType) (u : Scope) → gives (variable_in in_module mark s name t) u → SameRound s u
  unfolding variable_in exported_variable own_variable local_variable
  variable_in_same true true s name t u h = subst (SameRound s) h.2 (record { around = refl; enclosing = refl; name = refl })
  variable_in_same true false s name t u h = subst (SameRound s) h.2 (record { around = refl; enclosing = refl; name = refl })
  variable_in_same false mark s name t u h = subst (SameRound s) h.2 (record { around = refl; enclosing = refl; name = refl })

  variable_same : (t : ObType) (s : Scope) (x : IdentDef) (u : Scope) → gives (variable_rule t s x) u → SameRound s u
  unfolding variable_rule
  variable_same t s x u h =
      let g = variable_in_same (is_empty s.around) (has_mark x) (record s { cells_taken = (h.1).0 }) x.name.name t u (h.1).2 in
      record { around = g.around; enclosing = g.enclosing; name = g.name }

  variables_same : (s : Scope) (x : TypedNames) (t : Scope) → gives (variables_rule ms n s x) t → SameRound s t
  unfolding variables_rule typed_variables
  variables_same s x t h =
      let k = h.2 in
      through_keeps (SameRound s) (λ y. Unit {0}) (variable_rule k.0.of) (λ a e b u v c. then_same s a b c (variable_same k.0.of a e b v)) s (out-TypedNames x).names t (always (out-TypedNames x).names) k.2 (same_round s)

  declarations_same : (s : Scope) (x : Declarations) (t : Scope) → gives (declarations_rule ms n s x) t → SameRound s t
  unfolding declarations_rule
  declarations_same s x t h =
      through_keeps (SameRound s) (λ y. Unit {0}) (variables_rule ms n) (λ a e b u k c. then_same s a b c (variables_same a e b k)) (h.2).0 (out-Declarations x).variables t (always (out-Declarations x).variables) (h.2).2
      (through_keeps (SameRound s) (λ y. Unit {0}) (type_rule ms n) (λ a e b u k c. then_same s a b c (type_same a e b k)) h.0 (out-Declarations x).types (h.2).0 (always (out-Declarations x).types) (h.2).1
      (through_keeps (SameRound s) (λ y. Unit {0}) (constant_rule ms n) (λ a e b u k c. then_same s a b c (constant_same a e b k)) s (out-Declarations x).constants h.0 (always (out-Declarations x).constants) h.1 (same_round s)))

-- ---- procedures: each is one declaration more where it stands

left_is : (s : Scope) (p : List ℕ) (ps : List (List ℕ)) (b : List Declared) (bs : List (List Declared)) → s.enclosing ≡ p ∷ ps → s.around ≡ b ∷ bs → left s ≡ record s { enclosing = ps; block = b; around = bs }
unfolding left
left_is s p ps b bs e f = λ i. left_into s (e i) (f i)

abbrev declared_as : Scope → Procedure → Signature → ℕ → Declared
declared_as s p f number = record { name = (out-Procedure p).name.name.name; exported = is_empty s.around && has_mark (out-Procedure p).name; entry = entry.Procedure f number }

pub record OneMore (s t : Scope) (d : Declared) : Type 0 where
  pub around : t.around ≡ s.around
  pub enclosing : t.enclosing ≡ s.enclosing
  pub name : t.module_name ≡ s.module_name
  pub block : t.block ≡ s.block ++ d ∷ []

module _ (ms : Modules) where
  body_same : (n : ℕ) (f : Signature) (c : Checking) (p : Procedure) (d : Checking) → gives (body_of ms n f c p) d → d.0 ≡ left c.0
  unfolding body_of
  body_same n f c p d h = ap (λ (x : Checking). x.0) (sym (h.2).2)

  abbrev Step : ℕ → Type 0
  Step n = (c : Checking) (p : Procedure) (d : Checking) → gives (procedure_at ms n c p) d → SameRound c.0 d.0

  -- a procedure is left where it was entered
  inside_more : (n : ℕ) → Step n → (e : Entered) (c d : Checking) (s : Scope) (p : Procedure) (own : Declared) → e.scope.around ≡ (s.block ++ own ∷ []) ∷ s.around → e.scope.enclosing ≡ (out-Procedure p).name.name.name ∷ s.enclosing → e.scope.module_name ≡ s.module_name → gives (inside_of ms n (procedure_at ms n) e c.1 c.2 p) d → OneMore s d.0 own
  unfolding inside_of
  inside_more n step e c d s p own around enclosing name h =
      let a = declarations_same ms n e.scope (out-Procedure p).declarations h.0 h.1 in
      let b = through_keeps (λ (x : Checking). SameRound h.0 x.0) (λ y. Unit {0}) (procedure_at ms n) (λ x q y u k g. then_same h.0 x.0 y.0 g (step x q y k)) (h.0, c.1, c.2) (procedures_in p) (h.2).0 (always (procedures_in p)) (h.2).1 (same_round h.0) in
      let r = then_same e.scope h.0 (h.2).0.0 a b in
      let is = body_same n e.signature (h.2).0 p d (h.2).2
      ∙ left_is (h.2).0.0 (out-Procedure p).name.name.name s.enclosing (s.block ++ own ∷ []) s.around (r.enclosing ∙ enclosing) (r.around ∙ around) in
      record {
        around = ap (λ (x : Scope). x.around) is;
        enclosing = ap (λ (x : Scope). x.enclosing) is;
        name = ap (λ (x : Scope). x.module_name) is ∙ r.name ∙ name;
        block = ap (λ (x : Scope). x.block) is;
      }

  one_same : (s t : Scope) (d : Declared) → OneMore s t d → SameRound s t
  one_same s t d h = record { around = h.around; enclosing = h.enclosing; name = h.name }

  procedure_same : (n : ℕ) → Step n
  unfolding procedure_at procedure_of procedure_rule new_procedure
  procedure_same zero c p d h = absurd h
  procedure_same (suc n) c p d h =
      let e = (h.1).1 in
      let scope = ap (λ (x : Entered). x.scope) (sym e.2) in
      one_same c.0 d.0 (declared_as c.0 p e.0.signature _)
      (inside_more n (procedure_same n) h.0 c d c.0 p (declared_as c.0 p e.0.signature _) (ap (λ (x : Scope). x.around) scope) (ap (λ (x : Scope). x.enclosing) scope) (ap (λ (x : Scope). x.module_name) scope) h.2)

  module _ (loaded : LoadedWords ms) (self : List ℕ) (self_word : IsWord self) where
    abbrev In : Scope → Type 0
    In = InModule ms loaded self self_word

    one_right : (s t : Scope) (d : Declared) → OneMore s t d → DeclaredRight ms self d → In s → In t
    one_right s t d h r g = record {
      around = h.around ∙ g.around;
      enclosing = h.enclosing ∙ g.enclosing;
      name = h.name ∙ g.name;
      block = subst (AllByRecursion (DeclaredRight ms self)) (sym h.block) (each_more (DeclaredRight ms self) s.block d g.block r);
    }

    procedure_right : (n : ℕ) (c : Checking) (p : Procedure) (d : Checking) → ProcedureIn p → gives (procedure_at ms n c p) d → In c.0 → In d.0
    unfolding procedure_at procedure_of procedure_rule new_procedure
    procedure_right zero c p d w h g = absurd h
    procedure_right (suc n) c p d w h g =
        let e = (h.1).1 in
        let scope = ap (λ (x : Entered). x.scope) (sym e.2) in
        let words = heading_words ms loaded n c.0 (block_types ms self c.0.block g.block) (subst (AllByRecursion BlockTypes) (sym g.around) tt) (out-Procedure p).formals e.0 e.1 in
        one_right c.0 d.0 (declared_as c.0 p e.0.signature _)
        (inside_more n (procedure_same n) h.0 c d c.0 p (declared_as c.0 p e.0.signature _) (ap (λ (x : Scope). x.around) scope) (ap (λ (x : Scope). x.enclosing) scope) (ap (λ (x : Scope). x.module_name) scope) h.2)
        (w, words) g

-- ---- a checked module

-- its block, by which its interface and its imports are made
pub record CheckedBlock (ms : Modules) (m : Module) (c : CheckedTree) : Type 0 where
  pub block : List Declared
  pub right : AllByRecursion (DeclaredRight ms m.name.name) block
  pub interface : c.interface ≡ interface_of m.name.name block
  pub imports : c.imports ≡ all_imported ms block

pub checked_block : (ms : Modules) → LoadedWords ms → (m : Module) (c : CheckedTree) → ModuleIn m → gives (module_at ms m) c → CheckedBlock ms m c
unfolding module_at checked_rule procedures_rule body_rule
checked_block ms loaded m c w h =
    let s = declared_right ms loaded m h.0 w h.1 in
    let p = (h.2) in
    let last = through_keeps (λ (x : Checking). InModule ms loaded m.name.name w.name x.0) ProcedureIn (procedure_at ms max_nesting) (λ a q b u k g. procedure_right ms loaded m.name.name w.name max_nesting a q b u k g)
    (h.0, [], _) (out-Declarations m.declarations).procedures p.0 w.declarations.procedures p.1 s in
    record {
      block = p.0.0.block;
      right = last.block;
      interface = ap (λ (x : CheckedTree). x.interface) (sym (p.2).2) ∙ ap (λ xs. interface_of xs p.0.0.block) last.name;
      imports = ap (λ (x : CheckedTree). x.imports) (sym (p.2).2);
    }

-- so its interface has names that are words
pub checked_words : (ms : Modules) → LoadedWords ms → (m : Module) (c : CheckedTree) → ModuleIn m → gives (module_at ms m) c → InterfaceWords c.interface
checked_words ms loaded m c w h =
    let b = checked_block ms loaded m c w h in
    subst InterfaceWords (sym b.interface) (interface_right ms m.name.name b.block w.name b.right)
