-- What the rules of procedures give fits.
use Rattle.std.proofs.Common.{◌≡◌, ℕ, zero, suc, ◌+◌, sum, map, ◌++◌, length, Bool, true, false, ◌&&◌, List, [], ◌∷◌, Option, Some, None, is_some, slice_get, refl, sym, ap, ◌∙◌, subst, arith}
use Rattle.std.proofs.lemmas.List.Sums.{sum_by-cons}
use Rattle.ob_tree.specs.declared.tree.Procedure.{Procedure, out-Procedure}
use Rattle.ob_tree.specs.declared.tree.Returned.{Returned}
use Rattle.ob_types.specs.declared.exports.Signature.{Signature}
use Rattle.ob_types.specs.declared.structure.Basic.{Basic}
use Rattle.ob_mean.specs.declared.expression.TypedExpr.{TypedExpr}
use Rattle.ob_mean.specs.declared.module.Parameter.{Parameter}
use Rattle.ob_mean.specs.declared.module.TypedProcedure.{TypedProcedure}
use Rattle.ob_mean.specs.declared.shape.Shape.{Shape}
use Rattle.ob_mean.specs.WellFormed.{Names, ShapesFit, own_heading, is_there}
use Rattle.ob_check_scope.specs.declared.block.Declared.{Declared}
use Rattle.ob_check_scope.specs.declared.block.Entry.{Entry}
use Rattle.ob_check_scope.specs.declared.block.Entry.TheVariants as entry
use Rattle.ob_check_decl.specs.declared.heading.Heading.{Heading}
use Rattle.ob_check_scope.specs.declared.scope.Scope.{Scope}
use Rattle.ob_check_decl.specs.Declarations.{has_mark}
use Rattle.ob_check_scope.specs.Exports.{Modules}
use Rattle.ob_check_decl.specs.Headings.{entered_by, heading_rule, new_procedure, procedure_rule}
use Rattle.ob_check_scope.specs.Rule.{Rule, gives, through}
use Rattle.ob_check_scope.specs.Scope.{left, left_into}
use Rattle.ob_check_scope.specs.Stack.{is_empty}
use Rattle.ob_check_operand.specs.Operands.{Variables}
use Rattle.ob_check_module.specs.Procedures.{procedures_in, counted, nested, own_shapes, result_at, Checking, typed_procedure, body_of, inside_of, procedure_of, procedure_at}
use Rattle.ob_check_kinds.specs.Shapes.{parameters_of}
use Rattle.ob_check_stmt.specs.Statements.{statements_at}
use Rattle.ob_check_laws.specs.Fitting.{StartsWith, ScopeFits, heading_of}
use Rattle.ob_check_laws.specs.Solid.{EachSolid}
use Rattle.ob_check_laws.proofs.Solid.{SolidEntry}
use Rattle.ob_check_laws.proofs.Blocks.{blocks_solid, outer_solid, ParametersFit, of_heading, EntryOf, OuterOf, EachEntry, EachBlock, within, outer_of, each_more, each_map, scope_fits, own_more, count_of, heading_fits, length_more}
use Rattle.ob_check_laws.proofs.Expressions.{value_for_fits}
use Rattle.ob_check_laws.proofs.Grows.{same, longer, one_longer, Extends, begins_with, unchanged, further, optional_grows, statements_grow, value_for_grows}
use Rattle.ob_check_laws.proofs.Locals.{InProcedure, declarations_fit}
use Rattle.ob_check_laws.proofs.Rules.{joined_none, starts_reads}
use Rattle.ob_check_laws.proofs.Statements.{statements_fit, optional_fits}
use Rattle.ob_check_laws.specs.Formed.{ListFits, ResultFits}

-- ---- procedures and variables only grow

abbrev pub Grown : Checking → Checking → Type 0
Grown c d = StartsWith d.1 c.1 × Extends d.2 c.2

body_grows : (ms : Modules) (n : ℕ) (f : Signature) (c : Checking) (p : Procedure) (d : Checking) → gives (body_of ms n f c p) d → Grown c d × (length d.1 ≡ length c.1 + 1)
unfolding body_of result_at
body_grows ms n f c p d h = subst (λ x. Grown c x × (length x.1 ≡ length c.1 + 1)) (h.2).2 (
  (
    one_longer c.1 _,
    further (h.2).0.1 h.0.1 c.2 (result_grows f.result h.0.1 (out-Procedure p).returned (h.2).0 (h.2).1)
        (optional_grows ms c.0 n (statements_at ms c.0 n) (statements_grow ms c.0 n) c.2 (out-Procedure p).body h.0 h.1),
  ),
  length_more c.1 _,
)
  where
    result_grows : (b : Option Basic) (vs : Variables) (r : Option Returned) (q : Option TypedExpr × Variables) → gives (result_at ms c.0 n b vs r) q → Extends q.1 vs
    result_grows None vs None q k = subst (λ x. Extends x.1 vs) k (unchanged vs)
    result_grows None vs (Some r) q k = absurd k
    result_grows (Some b) vs None q k = absurd k
    result_grows (Some b) vs (Some r) q k = subst (λ x. Extends x.1 vs) k.2 (value_for_grows ms c.0 n b vs r.value k.0 k.1)

abbrev pub Counted : (Checking → Procedure → Rule Checking) → (Procedure → ℕ) → Type 0
Counted r count = (c : Checking) (p : Procedure) (d : Checking) → gives (r c p) d → Grown c d × (length d.1 ≡ length c.1 + count p)

pub all_grow : (r : Checking → Procedure → Rule Checking) (count : Procedure → ℕ) → Counted r count → (c : Checking) (ps : List Procedure) (d : Checking) → gives (through r c ps) d → Grown c d × (length d.1 ≡ length c.1 + sum (map count ps))
all_grow r count one c [] d h = subst (λ x. Grown c x × (length x.1 ≡ length c.1 + 0)) h ((same c.1, unchanged c.2), omega arith)
all_grow r count one c (p ∷ ps) d h =
    let a = one c p h.0 h.1 in
    let b = all_grow r count one h.0 ps d h.2 in (
      (longer d.1 h.0.1 c.1 b.0.0 a.0.0, further d.2 h.0.2 c.2 b.0.1 a.0.1),
      (let x : length h.0.1 ≡ length c.1 + count p = a.1 in let y : length d.1 ≡ length h.0.1 + sum (map count ps) = b.1 in let z : sum (map count (p ∷ ps)) ≡ count p + sum (map count ps) = sum_by-cons (λ i. i) (count p) (map count ps) in omega (arith, z)),
    )

pub procedure_grows : (ms : Modules) (n : ℕ) → Counted (procedure_at ms n) (counted n)
unfolding procedure_at procedure_of inside_of counted
procedure_grows ms zero c p d h = absurd h
procedure_grows ms (suc n) c p d h =
    let i = (h.2).2 in
    let a = all_grow (procedure_at ms n) (counted n) (procedure_grows ms n) ((h.2).0, c.1, c.2) (procedures_in p) i.0 i.1 in
    let b = body_grows ms n h.0.signature i.0 p d i.2 in (
      (longer d.1 i.0.1 c.1 b.0.0 a.0.0, further d.2 i.0.2 c.2 b.0.1 a.0.1),
      (let x : length i.0.1 ≡ length c.1 + sum (map (counted n) (procedures_in p)) = a.1 in let y : length d.1 ≡ length i.0.1 + 1 = b.1 in omega arith),
    )

-- ---- procedures fit

abbrev pub ProcedureMeets : Names → TypedProcedure → Type 0
ProcedureMeets names f = ListFits (within names f.parameters f.variables) f.body × ResultFits (within names f.parameters f.variables) f.result × ShapesFit f.variables

abbrev pub EachMeets : Names → List TypedProcedure → Type 0
EachMeets names [] = Unit {0}
EachMeets names (f ∷ fs) = ProcedureMeets names f × EachMeets names fs

meets_more : (names : Names) (fs : List TypedProcedure) (f : TypedProcedure) → EachMeets names fs → ProcedureMeets names f → EachMeets names (fs ++ f ∷ [])
meets_more names [] f h g = (g, tt)
meets_more names (x ∷ fs) f h g = (h.0, meets_more names fs f h.1 g)

left_is : (s : Scope) (p : List ℕ) (ps : List (List ℕ)) (b : List Declared) (bs : List (List Declared)) → s.enclosing ≡ p ∷ ps → s.around ≡ b ∷ bs → left s ≡ record s { enclosing = ps; block = b; around = bs }
unfolding left
left_is s p ps b bs e f = λ i. left_into s (e i) (f i)

module _ (ms : Modules) (loaded : EachSolid ms) (names : Names) (base : ℕ) where
  -- where the innermost block keeps a fact, and the blocks round it are these
  abbrev pub At : (Entry → Type 0) → (List Declared → Type 0) → List (List Declared) → List (List ℕ) → Checking → Type 0
  At Q R around enclosing c =
      (c.0.around ≡ around) × (c.0.enclosing ≡ enclosing) × (c.0.exported_count ≡ base) × EachEntry Q c.0.block × R c.0.block

  abbrev pub TakesProcedures : (Entry → Type 0) → Type 0
  TakesProcedures Q = (p : Signature) (n : ℕ) → own_heading (slice_get names.procedures n) ≡ Some (heading_of p) → Q (entry.Procedure p n)

  abbrev pub KeepsProcedures : (List Declared → Type 0) → Type 0
  KeepsProcedures R = (ds : List Declared) (name : List ℕ) (mark : Bool) (p : Signature) (n : ℕ) → R ds → R (ds ++ record { name = name; exported = mark; entry = entry.Procedure p n } ∷ [])

  abbrev pub IsOuter : (Entry → Type 0) → Type 0
  IsOuter Q = (e : Entry) → Q e → OuterOf ms names base e

  abbrev pub Step : (Checking → Procedure → Rule Checking) → Type 1
  Step r =
      (Q : Entry → Type 0) → TakesProcedures Q → IsOuter Q → (R : List Declared → Type 0) → KeepsProcedures R → (around : List (List Declared)) (enclosing : List (List ℕ)) → EachBlock (OuterOf ms names base) around
      → (c : Checking) (p : Procedure) (d : Checking) → gives (r c p) d → StartsWith names.procedures d.1 → StartsWith names.variables d.2
      → At Q R around enclosing c → EachMeets names c.1 → At Q R around enclosing d × EachMeets names d.1

  pub all_fit : (r : Checking → Procedure → Rule Checking) (count : Procedure → ℕ) → Counted r count → Step r → (Q : Entry → Type 0) → TakesProcedures Q → IsOuter Q → (R : List Declared → Type 0) → KeepsProcedures R → (around : List (List Declared)) (enclosing : List (List ℕ)) → EachBlock (OuterOf ms names base) around → (c : Checking) (ps : List Procedure) (d : Checking) → gives (through r c ps) d → StartsWith names.procedures d.1 → StartsWith names.variables d.2 → At Q R around enclosing c → EachMeets names c.1 → At Q R around enclosing d × EachMeets names d.1
  all_fit r count grows step Q takes outer R keeps around enclosing blocks c [] d h s t g m = subst (λ x. At Q R around enclosing x × EachMeets names x.1) h (g, m)
  all_fit r count grows step Q takes outer R keeps around enclosing blocks c (p ∷ ps) d h s t g m =
      let a = all_grow r count grows h.0 ps d h.2 in
      let b = step Q takes outer R keeps around enclosing blocks c p h.0 h.1 (longer names.procedures d.1 h.0.1 s a.0.0) (longer names.variables d.2 h.0.2 t (begins_with d.2 h.0.2 a.0.1)) g m in
      all_fit r count grows step Q takes outer R keeps around enclosing blocks h.0 ps d h.2 s t b.0 b.1

  result_fits : (own : Names) (s : Scope) (n : ℕ) → ScopeFits ms own s → (b : Option Basic) (vs : Variables) (r : Option Returned) (q : Option TypedExpr × Variables) → gives (result_at ms s n b vs r) q → StartsWith own.variables q.1 → ResultFits own q.0 × StartsWith own.variables vs
  unfolding result_at
  result_fits own s n scope None vs None q h t =
      subst (λ x. StartsWith own.variables x.1 → ResultFits own x.0 × StartsWith own.variables vs) h (λ u. (tt, u)) t
  result_fits own s n scope None vs (Some r) q h t = absurd h
  result_fits own s n scope (Some b) vs None q h t = absurd h
  result_fits own s n scope (Some b) vs (Some r) q h t =
      subst (λ x. StartsWith own.variables x.1 → ResultFits own x.0 × StartsWith own.variables vs) h.2 (value_for_fits ms own s scope n b vs r.value h.0 h.1) t

  has_result : (s : Scope) (n : ℕ) (b : Option Basic) (vs : Variables) (r : Option Returned) (q : Option TypedExpr × Variables) → gives (result_at ms s n b vs r) q → is_there q.0 ≡ is_some b
  unfolding result_at
  has_result s n None vs None q h = subst (λ x. is_there x.0 ≡ false) h refl
  has_result s n None vs (Some r) q h = absurd h
  has_result s n (Some b) vs None q h = absurd h
  has_result s n (Some b) vs (Some r) q h = subst (λ x. is_there x.0 ≡ true) h.2 refl

  -- a body, in the scope after the declarations and the procedures in it
  body_fits : (n : ℕ) (f : Signature) (os : List Shape) (c : Checking) (p : Procedure) (d : Checking) → gives (body_of ms n f c p) d → StartsWith names.variables d.2 → ScopeFits ms (within names (parameters_of f.formals) os) c.0 → own_shapes (length f.formals) c.0.block ≡ os → ShapesFit os → EachMeets names c.1 → EachMeets names d.1 × (d.0 ≡ left c.0)
  unfolding body_of
  body_fits n f os c p d h t scope o few m =
      subst (λ x. StartsWith names.variables x.2 → EachMeets names x.1 × (x.0 ≡ left c.0)) (h.2).2
      (λ u. let r = result_fits (within names (parameters_of f.formals) os) c.0 n scope f.result h.0.1 (out-Procedure p).returned (h.2).0 (h.2).1 u in
      let b = optional_fits ms (within names (parameters_of f.formals) os) c.0 scope n (statements_at ms c.0 n) (statements_fit ms (within names (parameters_of f.formals) os) c.0 scope n) c.2 (out-Procedure p).body h.0 h.1 r.1 in (
        meets_more names c.1 (typed_procedure f c.0 h.0.0 (h.2).0.0) m
            (subst (λ l. ListFits (within names (parameters_of f.formals) l) h.0.0 × ResultFits (within names (parameters_of f.formals) l) (h.2).0.0 × ShapesFit l) (sym o) (b.0, r.0, few)),
        refl,
      )) t

  -- what is known of a procedure that ended
  ended_heading : (n : ℕ) (f : Signature) (c : Checking) (p : Procedure) (d : Checking) → gives (body_of ms n f c p) d → StartsWith names.procedures d.1 → own_heading (slice_get names.procedures (length c.1)) ≡ Some (heading_of f)
  unfolding body_of
  ended_heading n f c p d h s =
      let q = subst (λ x. StartsWith names.procedures x.1) (sym (h.2).2) s in
      ap own_heading (starts_reads names.procedures c.1 (typed_procedure f c.0 h.0.0 (h.2).0.0) q)
      ∙ ap (λ x. Some (record { parameters = parameters_of f.formals; is_function = x })) (has_result c.0 n f.result h.0.1 (out-Procedure p).returned (h.2).0 (h.2).1)

  -- from inside of a procedure with this heading
  inside_fits : (n : ℕ) → Step (procedure_at ms n) → (Q : Entry → Type 0) → TakesProcedures Q → IsOuter Q → (R : List Declared → Type 0) → KeepsProcedures R → (around : List (List Declared)) (enclosing : List (List ℕ)) → EachBlock (OuterOf ms names base) around → (c : Checking) (p : Procedure) (name : List ℕ) (mark : Bool) (hd : Heading) (d : Checking) → gives (heading_rule ms n c.0 (out-Procedure p).formals) hd → gives (inside_of ms n (procedure_at ms n) (entered_by c.0 name mark (length c.1 + nested n p) hd) c.1 c.2 p) d → StartsWith names.procedures d.1 → StartsWith names.variables d.2 → At Q R around enclosing c → EachMeets names c.1 → At Q R around enclosing d × EachMeets names d.1
  unfolding inside_of
  inside_fits n step Q takes outer R keeps around enclosing blocks c p name mark hd d hh h s t g m =
      (done, (ended).0)
    where
      ps : List Parameter
      ps = parameters_of hd.signature.formals

      number : ℕ
      number = length c.1 + nested n p

      dcl : Declared
      dcl = record { name = name; exported = is_empty c.0.around && mark; entry = entry.Procedure hd.signature number }

      head : ParametersFit ms names base (of_heading ms names base hd)
      head = heading_fits ms names base n c.0 (out-Procedure p).formals hd loaded
          (each_map Q SolidEntry (λ e x. outer_solid ms names base e (outer e x)) c.0.block g.3) (subst (EachBlock SolidEntry) (sym g.0) (blocks_solid ms names base around blocks)) hh

      none_own : own_shapes (length ps) hd.block ≡ []
      none_own = (head).1 (length ps) (let a = count_of hd.signature.formals in omega arith)

      more : Grown (h.0, c.1, c.2) (h.2).0 × (length (h.2).0.1 ≡ length c.1 + sum (map (counted n) (procedures_in p)))
      more = all_grow (procedure_at ms n) (counted n) (procedure_grows ms n) (h.0, c.1, c.2) (procedures_in p) (h.2).0 (h.2).1

      behind : Grown (h.2).0 d × (length d.1 ≡ length (h.2).0.1 + 1)
      behind = body_grows ms n hd.signature (h.2).0 p d (h.2).2

      procedures_start : StartsWith names.procedures (h.2).0.1
      procedures_start = longer names.procedures d.1 (h.2).0.1 s behind.0.0

      variables_start : StartsWith names.variables (h.2).0.2
      variables_start = longer names.variables d.2 (h.2).0.2 t (begins_with d.2 (h.2).0.2 behind.0.1)

      heading_is : own_heading (slice_get names.procedures number) ≡ Some (heading_of hd.signature)
      heading_is = subst (λ x. own_heading (slice_get names.procedures x) ≡ Some (heading_of hd.signature)) more.1 (ended_heading n hd.signature (h.2).0 p d (h.2).2 s)

      round : EachBlock (OuterOf ms names base) ((c.0.block ++ dcl ∷ []) ∷ c.0.around)
      round = (
        each_more (OuterOf ms names base) c.0.block dcl (each_map Q (OuterOf ms names base) outer c.0.block g.3) heading_is,
        subst (EachBlock (OuterOf ms names base)) (sym g.0) blocks,
      )

      opened : InProcedure ms names base ps (name ∷ c.0.enclosing) (c.0.block ++ dcl ∷ []) c.0.around loaded (blocks_solid ms names base ((c.0.block ++ dcl ∷ []) ∷ c.0.around) round) (entered_by c.0 name mark number hd).scope
      opened = (
        refl,
        refl,
        g.2,
        (
          (let a = (head).0 in let b = count_of hd.signature.formals in let e : length (own_shapes (length ps) hd.block) ≡ 0 = ap length none_own in omega arith),
          λ own st. (head).2 ps own (same ps),
          subst ShapesFit (sym none_own) tt,
        ),
      )

      declared : InProcedure ms names base ps (name ∷ c.0.enclosing) (c.0.block ++ dcl ∷ []) c.0.around loaded (blocks_solid ms names base ((c.0.block ++ dcl ∷ []) ∷ c.0.around) round) h.0
      declared = declarations_fit ms names base ps (name ∷ c.0.enclosing) (c.0.block ++ dcl ∷ []) c.0.around loaded (blocks_solid ms names base ((c.0.block ++ dcl ∷ []) ∷ c.0.around) round) n (entered_by c.0 name mark number hd).scope (out-Procedure p).declarations h.0 h.1 opened

      own : List Shape
      own = own_shapes (length ps) h.0.block

      begun : At (λ e. EntryOf ms (within names ps own) base e) (λ ds. own_shapes (length ps) ds ≡ own) ((c.0.block ++ dcl ∷ []) ∷ c.0.around) (name ∷ c.0.enclosing) (h.0, c.1, c.2)
      begun = (declared.0, declared.1, declared.2, (declared.3).1 own (same own), refl)

      inner : At (λ e. EntryOf ms (within names ps own) base e) (λ ds. own_shapes (length ps) ds ≡ own) ((c.0.block ++ dcl ∷ []) ∷ c.0.around) (name ∷ c.0.enclosing) (h.2).0 × EachMeets names (h.2).0.1
      inner = all_fit (procedure_at ms n) (counted n) (procedure_grows ms n) step (λ e. EntryOf ms (within names ps own) base e) (λ q i e. e) (λ e x. outer_of ms names ps own base e x) (λ ds. own_shapes (length ps) ds ≡ own)
          (λ ds nm mk q i r. own_more (length ps) ds (record { name = nm; exported = mk; entry = entry.Procedure q i }) ∙ joined_none (own_shapes (length ps) ds) ∙ r) ((c.0.block ++ dcl ∷ []) ∷ c.0.around) (name ∷ c.0.enclosing) round (h.0, c.1, c.2) (procedures_in p) (h.2).0 (h.2).1 procedures_start variables_start begun m

      scope : ScopeFits ms (within names ps own) (h.2).0.0
      scope = scope_fits ms names ps own (h.2).0.0 loaded
          (subst (λ x. EachEntry (EntryOf ms (within names ps own) x) (h.2).0.0.block) (sym (inner.0).2) (inner.0).3)
          (subst (λ x. EachBlock (OuterOf ms names x) (h.2).0.0.around) (sym (inner.0).2) (subst (EachBlock (OuterOf ms names base)) (sym (inner.0).0) round))

      ended : EachMeets names d.1 × (d.0 ≡ left (h.2).0.0)
      ended = body_fits n hd.signature own (h.2).0 p d (h.2).2 t scope
          (ap (λ x. own_shapes x (h.2).0.0.block) (sym (count_of hd.signature.formals)) ∙ (inner.0).4) ((declared.3).2) inner.1

      left_here : d.0 ≡ record (h.2).0.0 { enclosing = c.0.enclosing; block = c.0.block ++ dcl ∷ []; around = c.0.around }
      left_here = ended.1 ∙ left_is (h.2).0.0 name c.0.enclosing (c.0.block ++ dcl ∷ []) c.0.around (inner.0).1 (inner.0).0

      done : At Q R around enclosing d
      done = (
        ap (λ x. x.around) left_here ∙ g.0,
        ap (λ x. x.enclosing) left_here ∙ g.1,
        ap (λ x. x.exported_count) left_here ∙ (inner.0).2,
        subst (EachEntry Q) (sym (ap (λ x. x.block) left_here)) (each_more Q c.0.block dcl g.3 (takes hd.signature number heading_is)),
        subst R (sym (ap (λ x. x.block) left_here)) (keeps c.0.block name (is_empty c.0.around && mark) hd.signature number g.4),
      )

  pub procedure_fits : (n : ℕ) → Step (procedure_at ms n)
  unfolding procedure_at procedure_of procedure_rule new_procedure
  procedure_fits zero Q takes outer R keeps around enclosing blocks c p d h s t g m = absurd h
  procedure_fits (suc n) Q takes outer R keeps around enclosing blocks c p d h s t g m =
      let e = (h.1).1 in
      inside_fits n (procedure_fits n) Q takes outer R keeps around enclosing blocks c p (out-Procedure p).name.name.name (has_mark (out-Procedure p).name) e.0 d e.1
      (subst (λ x. gives (inside_of ms n (procedure_at ms n) x c.1 c.2 p) d) (sym e.2) h.2) s t g m
