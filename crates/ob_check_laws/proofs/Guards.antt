-- Guards and tests fit: what they name is a record of which a type is told, and its type stands so many bases down.
use Rattle.std.proofs.Common.{◌≡◌, ◌≤◌, inl, ℕ, Bool, true, false, ◌&&◌, cond, nat_le, Option, Some, None, option_map, refl, sym, ap, ◌∙◌, subst, arith}
use Rattle.std.proofs.lemmas.Bool.Decides.{nat_tests}
use Rattle.ob_check_scope.specs.declared.rule.RuleCode.TheVariants as code
use Rattle.ob_tree.specs.declared.tree.Qualident.{Qualident}
use Rattle.ob_types.specs.declared.structure.ObType.{ObType, end_of-ObType, more_of-ObType, out-ObType}
use Rattle.ob_types.specs.declared.structure.ObType.TheVariants.{Basic as OfBasic, Array', Open', Record}
use Rattle.ob_types.specs.declared.structure.ObType.TheBlock as block
use Rattle.ob_types.specs.declared.structure.ObType.TheBlock.{Row_of-Field, end_of-Field, more_of-Field}
use Rattle.ob_types.specs.declared.structure.RecordType.{RecordType'}
use Rattle.ob_types.specs.Solid.{IsSolid, AreSolid}
use Rattle.ob_types.specs.Types.{same, chain, max_cells}
use Rattle.ob_types.proofs.SameType.{same_true}
use Rattle.ob_mean.specs.declared.expression.Designator.{Designator}
use Rattle.ob_mean.specs.declared.module.Parameter.TheVariants as parameter
use Rattle.ob_mean.specs.WellFormed.{Names, Of, is_told, base_object, object_of}
use Rattle.ob_check_scope.specs.declared.scope.Scope.{Scope}
use Rattle.ob_check_scope.specs.Exports.{Modules}
use Rattle.ob_check_scope.specs.Rule.{gives}
use Rattle.ob_check_const.specs.NamedTypes as named
use Rattle.ob_types.specs.Declarable.{is_record, are_words, is_labelled, is_plain, are_plain, is_declarable}
use Rattle.ob_check_kinds.specs.Kinds.{kind_of, level_in, levels_to}
use Rattle.ob_check_kinds.specs.Shapes.{shape_of}
use Rattle.ob_check_kinds.proofs.KindFits.{first_holds, second_holds, declarable_plain, level_down, level_record}
use Rattle.ob_check_operand.specs.declared.operand.Operand.{Operand}
use Rattle.ob_check_operand.specs.Operands.{Variables}
use Rattle.ob_check_operand.specs.Passing.{named_record}
use Rattle.ob_check_operand.specs.Selecting.{Selected, extension_named, guarded, tested}
use Rattle.ob_check_stmt.specs.Assignments.{is_open}
use Rattle.ob_check_laws.specs.Fitting.{Suits, TellsRight, OperandFits, StartsWith}
use Rattle.ob_check_laws.specs.Formed.{IndexesFit, IsPassed}
use Rattle.ob_check_laws.proofs.Forms.{guarded_fits, guarded_object, guarded_told}
use Rattle.ob_check_laws.proofs.Rules.{there_is}
use Rattle.ob_check_laws.proofs.Suiting.{never, nothing, closed_suits}

-- ---- types

some_long : (n : ℕ) → nat_le 1 n ≡ true → 1 ≤ n
some_long n h = grind (arith, nat_tests)

-- a plain type is solid
mutual
  plain_solid : (t : ObType) → is_plain t ≡ true → IsSolid t
  plain_solid (OfBasic b) h = tt
  plain_solid (Array' n p (more_of-ObType e end_of-ObType)) h = (
    some_long n (first_holds (nat_le 1 n) (nat_le n max_cells) (first_holds (nat_le 1 n && nat_le n max_cells) (is_plain e) h)),
    plain_solid e (second_holds (nat_le 1 n && nat_le n max_cells) (is_plain e) h),
  )
  plain_solid (Open' p (more_of-ObType e end_of-ObType)) h = plain_solid e h
  plain_solid (Record (RecordType' name k fields)) h = plain_fields_solid fields (second_holds (are_words name) (are_plain fields) h)

  plain_fields_solid : {k : _} (fields : Row_of-Field k) → are_plain fields ≡ true → AreSolid fields
  plain_fields_solid end_of-Field h = tt
  plain_fields_solid (more_of-Field name exported of rest) h = (
    plain_solid of (second_holds (is_labelled name of) (is_plain of) (first_holds (is_labelled name of && is_plain of) (are_plain rest) h)),
    plain_fields_solid rest (second_holds (is_labelled name of && is_plain of) (are_plain rest) h),
  )

-- what the rules ask
record_is : (t : ObType) → named.is_record t ≡ is_record t
unfolding block.hidden-the_row-ObType-0 denote.Hole.Carrier.hidden block.shown-the_row-ObType-0 denote.Hole.Carrier.shown out-ObType denote.Hole.Carrier.out
record_is (OfBasic b) = refl
record_is (Array' n p (more_of-ObType e end_of-ObType)) = refl
record_is (Open' p (more_of-ObType e end_of-ObType)) = refl
record_is (Record r) = refl

pub record_closed : (t : ObType) → is_record t ≡ true → is_open t ≡ false
record_closed (OfBasic b) h = never h
record_closed (Array' n p e) h = never h
record_closed (Open' p e) h = never h
record_closed (Record r) h = refl

-- what has a record among its bases or is one
only_first : (to t : ObType) (b : Bool) (n : ℕ) → same to t ≡ b → cond b (Some 0) (option_map (λ (m : ℕ). m) None) ≡ Some n → is_record to ≡ true → is_record t ≡ true
only_first to t true n e h r = ap is_record (sym (same_true to t e)) ∙ r
only_first to t false n e h r = nothing n h

top_in : (to t : ObType) (n : ℕ) → level_in to (chain t) ≡ Some n → is_record to ≡ true → is_record t ≡ true
top_in to (OfBasic b) n h r = only_first to (OfBasic b) (same to (OfBasic b)) n refl h r
top_in to (Array' m p e) n h r = only_first to (Array' m p e) (same to (Array' m p e)) n refl h r
top_in to (Open' p e) n h r = only_first to (Open' p e) (same to (Open' p e)) n refl h r
top_in to (Record x) n h r = refl

counted : (b : Bool) (o : Option ℕ) (n : ℕ) → cond b o None ≡ Some n → o ≡ Some n
counted true o n h = h
counted false o n h = nothing n h

top_record : (to t : ObType) (n : ℕ) → levels_to to t ≡ Some n → is_record to ≡ true → is_record t ≡ true
top_record to t n h r = top_in to t n (counted (is_declarable t) (level_in to (chain t)) n h) r

-- ---- the type that a guard or a test names

extension_is : (ms : Modules) (s : Scope) (of : ObType) (q : Qualident) (t : ObType × ℕ) → gives (extension_named ms s of q) t → (is_record t.0 ≡ true) × (levels_to of t.0 ≡ Some t.1)
unfolding extension_named
extension_is ms s of q t h =
    let e = (h.2).1 in
    subst (λ (x : ObType × ℕ). (is_record x.0 ≡ true) × (levels_to of x.0 ≡ Some x.1)) e.2
    (sym (record_is h.0) ∙ (h.2).0, there_is (levels_to of h.0) code.Types e.0 e.1)

-- a part of a variable, where the variables begin with these
abbrev pub SelectedFits : Names → Variables → Selected → Type 0
SelectedFits names vs p =
    StartsWith names.variables p.2 → IndexesFit names p.1 × Suits p.0 (object_of names p.1) × StartsWith names.variables vs × IsSolid p.0 × TellsRight p.0 p.3 (is_told names p.1)

module _ (names : Names) (ms : Modules) (s : Scope) where
  pub guarded_is : (start : Variables) (at : Selected) (q : Qualident) (p : Selected) → gives (guarded ms s at q) p → SelectedFits names start at → SelectedFits names start p
  unfolding guarded
  guarded_is start at q p h g = subst (SelectedFits names start) (h.2).1 (λ w.
      let k = g w in
      let t = extension_is ms s at.0 q h.0 h.1 in
      let down = level_down at.0 (h.0).0 (h.0).1 t.1 in
      let record_at = level_record at.0 (h.0).0 (h.0).1 t.1 t.0 in
      let told : is_told names at.1 ≡ true = sym (k.4 record_at) ∙ (h.2).0 in
      let object = closed_suits at.0 (object_of names at.1) (record_closed at.0 record_at) k.1 in (
        guarded_fits names at.1 q.first.span.line (kind_of (h.0).0) (h.0).1 k.0 told ((h.0).0, down.0, refl) (down.1 ∙ sym object),
        inl (guarded_object names at.1 q.first.span.line (kind_of (h.0).0) (h.0).1),
        k.2,
        plain_solid (h.0).0 (declarable_plain (h.0).0 down.0),
        λ r. sym (guarded_told names at.1 q.first.span.line (kind_of (h.0).0) (h.0).1 ∙ told),
      ))

  pub tested_is : (start : Variables) (at : Selected) (q : Qualident) (p : Operand × Variables) → gives (tested ms s at q) p → SelectedFits names start at → StartsWith names.variables p.1 → OperandFits names p.0 × StartsWith names.variables start
  unfolding tested
  tested_is start at q p h g w =
      let e = h.1 in
      let k = g (subst (λ (x : Operand × Variables). StartsWith names.variables x.1) (sym e.2) w) in
      let t = extension_is ms s at.0 q e.0 e.1 in
      let told : is_told names at.1 ≡ true = sym (k.4 (level_record at.0 (e.0).0 (e.0).1 t.1 t.0)) ∙ h.0 in
      (subst (λ (x : Operand × Variables). OperandFits names x.0) e.2 (k.0, told), k.2)

-- ---- what a VAR parameter of record type names

pub record_named : (names : Names) (formal t : ObType) (d : Designator) (told : Bool) (levels : ℕ) → levels_to formal t ≡ Some levels → is_record formal ≡ true → IndexesFit names d → Suits t (object_of names d) → TellsRight t told (is_told names d) → IsPassed names (named_record told t d levels) (parameter.Extended (shape_of formal))
record_named names formal t d told levels e r h s k =
    let down = level_down formal t levels e in
    let record_t = top_record formal t levels e r in
    let object = closed_suits t (object_of names d) (record_closed t record_t) s in
    by told (k record_t) down.0 object (ap (base_object levels) object ∙ down.1)
  where
    by : (b : Bool) → b ≡ is_told names d → is_declarable t ≡ true → object_of names d ≡ Some (Of (shape_of t)) → base_object levels (object_of names d) ≡ Some (Of (shape_of formal)) → IsPassed names (named_record b t d levels) (parameter.Extended (shape_of formal))
    by true w x o base = (h, sym w, base)
    by false w x o base = (h, sym w, (t, x, refl), o, base)
