-- The bases of a record type, one after the other, and what stands at them in a variable.
use Rattle.std.proofs.Common.{◌≡◌, inl, ℕ, Bool, true, false, cond, List, [], ◌∷◌, Option, Some, None, option_map, slice_get, refl, sym, ap, ◌∙◌, subst}
use Rattle.std.specs.Str.{bytes_eq}
use Rattle.ob_types.specs.declared.structure.Field.{Field}
use Rattle.ob_types.specs.declared.structure.RecordType.{RecordType, out-RecordType}
use Rattle.ob_types.specs.declared.structure.ObType.{ObType, end_of-ObType, more_of-ObType, out-ObType}
use Rattle.ob_types.specs.declared.structure.ObType.TheVariants.{Basic as OfBasic, Array', Open', Record}
use Rattle.ob_types.specs.declared.structure.ObType.TheBlock as block
use Rattle.ob_types.specs.declared.structure.ObType.TheBlock.{Row_of-Field, end_of-Field, more_of-Field}
use Rattle.ob_types.specs.Types.{same, chain, base_of, base_named, base_among}
use Rattle.ob_types.specs.Solid.{IsSolid, FieldsSolid}
use Rattle.ob_types.proofs.Equations.{base_record}
use Rattle.ob_types.proofs.SameType.{same_true}
use Rattle.ob_mean.specs.declared.expression.Designator.{Designator}
use Rattle.ob_mean.specs.declared.expression.Designator.TheVariants as designator
use Rattle.ob_mean.specs.WellFormed.{Names, Of, field_in, field_shape, is_told, object_of, shape_object}
use Rattle.ob_check_scope.specs.declared.scope.Scope.{Scope}
use Rattle.ob_check_scope.specs.Rule.{gives}
use Rattle.ob_check_operand.specs.Selecting.{FoundField, own_layer, nearest, field_along, field_from, field_of, seen_field, part_as}
use Rattle.ob_check_operand.proofs.Chains.{field_from_base, field_step, part_from_base, part_step}
use Rattle.ob_check_kinds.specs.Shapes.{shape_of, shapes_in}
use Rattle.ob_check_kinds.proofs.KindFits.{along}
use Rattle.ob_check_kinds.proofs.ShapeForms.{shape_record}
use Rattle.ob_check_laws.specs.Fitting.{Suits}
use Rattle.ob_check_laws.proofs.Forms.{field_fits, field_object, field_told}
use Rattle.ob_check_laws.proofs.Suiting.{nothing, some_same, closed_suits, record_fields, record_not_open, found_field}
use Rattle.ob_check_laws.proofs.Solid.{record_solid, found_solid}
use Rattle.ob_check_laws.specs.Formed.{IndexesFit}

-- a base is the first field
named_is : (name : List ℕ) (of b : ObType) → base_named name of ≡ Some b → of ≡ b
named_is [] of b e = some_same of b e
named_is (c ∷ cs) of b e = nothing b e

first_shape : (fs : List Field) (b : ObType) → base_among fs ≡ Some b → slice_get (shapes_in fs) 0 ≡ Some (shape_of b)
first_shape [] b e = nothing b e
first_shape (f ∷ fs) b e = ap (λ x. Some (shape_of x)) (named_is f.name f.of b e)

first_solid : (fs : List Field) (b : ObType) → base_among fs ≡ Some b → FieldsSolid fs → IsSolid b
first_solid [] b e h = nothing b e
first_solid (f ∷ fs) b e h = subst IsSolid (named_is f.name f.of b e) h.0

base_solid : (t b : ObType) → base_of t ≡ Some b → IsSolid t → IsSolid b
base_solid (OfBasic x) b e h = nothing b e
base_solid (Array' n p x) b e h = nothing b e
base_solid (Open' p x) b e h = nothing b e
base_solid (Record r) b e h = first_solid (out-RecordType r).fields b (sym (base_record r) ∙ e) (subst (λ x. x) (record_solid r) h)

part_object : (names : Names) (r : RecordType) (d : Designator) (i : ℕ) → Suits (Record r) (object_of names d) → object_of names (designator.Field d i) ≡ shape_object (slice_get (shapes_in (out-RecordType r).fields) i)
part_object names r d i g =
    field_object names d i
    ∙ ap (λ x. field_in x i) (closed_suits (Record r) (object_of names d) (record_not_open r) g)
    ∙ ap (λ x. field_shape x i) (shape_record r)
    ∙ record_fields (shapes_in (out-RecordType r).fields) i

base_object : (names : Names) (t b : ObType) (d : Designator) → base_of t ≡ Some b → Suits t (object_of names d) → object_of names (designator.Field d 0) ≡ Some (Of (shape_of b))
base_object names (OfBasic x) b d e g = nothing b e
base_object names (Array' n p x) b d e g = nothing b e
base_object names (Open' p x) b d e g = nothing b e
base_object names (Record r) b d e g = part_object names r d 0 g ∙ ap shape_object (first_shape (out-RecordType r).fields b (sym (base_record r) ∙ e))

-- ---- the part of a variable that is of a type

abbrev PartFits : Names → ObType → ObType → Type 0
PartFits names to t = (d e : Designator) → part_as to t d ≡ Some e → IndexesFit names d → Suits t (object_of names d) → IndexesFit names e × Suits to (object_of names e)

part_below : (names : Names) (to t : ObType) → ((b : ObType) → base_of t ≡ Some b → PartFits names to b) → (o : Option ObType) → base_of t ≡ o → (d e : Designator) → part_from_base to o d ≡ Some e → IndexesFit names d → Suits t (object_of names d) → IndexesFit names e × Suits to (object_of names e)
part_below names to t more None k d e h g s = nothing e h
part_below names to t more (Some b) k d e h g s =
    more b k (designator.Field d 0) e h (field_fits names d 0 g) (inl (base_object names t b d k s))

part_here : (names : Names) (to t : ObType) → ((b : ObType) → base_of t ≡ Some b → PartFits names to b) → (x : Bool) → same to t ≡ x → (d e : Designator) → cond x (Some d) (part_from_base to (base_of t) d) ≡ Some e → IndexesFit names d → Suits t (object_of names d) → IndexesFit names e × Suits to (object_of names e)
part_here names to t more true k d e h g s =
    let i = some_same d e h in
    (subst (IndexesFit names) i g, subst (λ x. Suits to (object_of names x)) i (subst (λ x. Suits x (object_of names d)) (sym (same_true to t k)) s))
part_here names to t more false k d e h g s = part_below names to t more (base_of t) refl d e h g s

pub part_fits : (names : Names) (to t : ObType) → PartFits names to t
part_fits names to = along (PartFits names to) (λ t more d e h g s. part_here names to t more (same to t) refl d e (sym (part_step to t d) ∙ h) g s)

-- ---- the field of a name

own_suits : (names : Names) (t : ObType) (name : List ℕ) (p : List ℕ × ℕ × Field) (d : Designator) → own_layer (out-ObType t) name ≡ Some p → Suits t (object_of names d) → IsSolid t → (object_of names (designator.Field d p.1) ≡ Some (Of (shape_of p.2.of))) × IsSolid p.2.of
unfolding block.hidden-the_row-ObType-0 denote.Hole.Carrier.hidden block.shown-the_row-ObType-0 denote.Hole.Carrier.shown out-ObType denote.Hole.Carrier.out
own_suits names (OfBasic x) name p d h g s = nothing p h
own_suits names (Array' n w (more_of-ObType x end_of-ObType)) name p d h g s = nothing p h
own_suits names (Open' w (more_of-ObType x end_of-ObType)) name p d h g s = nothing p h
own_suits names (Record r) name p d h g s = by (field_from 0 (out-RecordType r).fields name) refl h
  where
    by : (o : Option (ℕ × Field)) → field_from 0 (out-RecordType r).fields name ≡ o → option_map (λ (q : ℕ × Field). ((out-RecordType r).name.module_name, q.0, q.1)) o ≡ Some p → (object_of names (designator.Field d p.1) ≡ Some (Of (shape_of p.2.of))) × IsSolid p.2.of
    by None e f = nothing p f
    by (Some q) e f =
        let i = some_same ((out-RecordType r).name.module_name, q.0, q.1) p f in
        subst (λ (x : List ℕ × ℕ × Field). (object_of names (designator.Field d x.1) ≡ Some (Of (shape_of x.2.of))) × IsSolid x.2.of) i
        (part_object names r d q.0 g ∙ ap shape_object (found_field (out-RecordType r).fields name q e), found_solid 0 (out-RecordType r).fields name q (subst (λ x. x) (record_solid r) s) e)

abbrev FieldFits : Names → List ℕ → ObType → Type 0
FieldFits names name t = (d : Designator) (q : FoundField) → field_along (chain t) name d ≡ Some q → IndexesFit names d → Suits t (object_of names d) → IsSolid t → IndexesFit names q.2 × (object_of names q.2 ≡ Some (Of (shape_of q.1.of))) × IsSolid q.1.of × (is_told names q.2 ≡ false)

field_below : (names : Names) (name : List ℕ) (t : ObType) → ((b : ObType) → base_of t ≡ Some b → FieldFits names name b) → (o : Option ObType) → base_of t ≡ o → (d : Designator) (q : FoundField) → field_from_base o name d ≡ Some q → IndexesFit names d → Suits t (object_of names d) → IsSolid t → IndexesFit names q.2 × (object_of names q.2 ≡ Some (Of (shape_of q.1.of))) × IsSolid q.1.of × (is_told names q.2 ≡ false)
field_below names name t more None k d q h g s v = nothing q h
field_below names name t more (Some b) k d q h g s v =
    more b k (designator.Field d 0) q h (field_fits names d 0 g) (inl (base_object names t b d k s)) (base_solid t b k v)

field_here : (names : Names) (name : List ℕ) (t : ObType) → ((b : ObType) → base_of t ≡ Some b → FieldFits names name b) → (o : Option (List ℕ × ℕ × Field)) → own_layer (out-ObType t) name ≡ o → (d : Designator) (q : FoundField) → nearest d o (field_from_base (base_of t) name d) ≡ Some q → IndexesFit names d → Suits t (object_of names d) → IsSolid t → IndexesFit names q.2 × (object_of names q.2 ≡ Some (Of (shape_of q.1.of))) × IsSolid q.1.of × (is_told names q.2 ≡ false)
field_here names name t more None k d q h g s v = field_below names name t more (base_of t) refl d q h g s v
field_here names name t more (Some p) k d q h g s v =
    let f = own_suits names t name p d k s v in
    subst (λ (x : FoundField). IndexesFit names x.2 × (object_of names x.2 ≡ Some (Of (shape_of x.1.of))) × IsSolid x.1.of × (is_told names x.2 ≡ false)) (some_same (p.0, p.2, designator.Field d p.1) q h)
    (field_fits names d p.1 g, f.0, f.1, field_told names d p.1)

along_fits : (names : Names) (name : List ℕ) (t : ObType) → FieldFits names name t
along_fits names name = along (FieldFits names name) (λ t more d q h g s v. field_here names name t more (own_layer (out-ObType t) name) refl d q (sym (field_step t name d) ∙ h) g s v)

seen_is : (home : List ℕ) (own : Bool) (o : Option FoundField) (p : ObType × Designator) → gives (seen_field home own o) p → (q : FoundField) × (o ≡ Some q) × ((q.1.of, q.2) ≡ p)
unfolding seen_field
seen_is home own None p h = absurd h
seen_is home own (Some q) p h = (q, refl, h.1)

pub field_suits : (names : Names) (s : Scope) (t : ObType) (name : List ℕ) (d : Designator) (p : ObType × Designator) → gives (field_of s t name d) p → IndexesFit names d → Suits t (object_of names d) → IsSolid t → IndexesFit names p.1 × (object_of names p.1 ≡ Some (Of (shape_of p.0))) × IsSolid p.0 × (is_told names p.1 ≡ false)
unfolding block.hidden-the_row-ObType-0 denote.Hole.Carrier.hidden block.shown-the_row-ObType-0 denote.Hole.Carrier.shown out-ObType denote.Hole.Carrier.out field_of
field_suits names s (OfBasic x) name d p h g k v = absurd h
field_suits names s (Array' n w (more_of-ObType x end_of-ObType)) name d p h g k v = absurd h
field_suits names s (Open' w (more_of-ObType x end_of-ObType)) name d p h g k v = absurd h
field_suits names s (Record r) name d p h g k v =
    let q = seen_is s.module_name (bytes_eq (out-RecordType r).name.module_name s.module_name) (field_along (chain (Record r)) name d) p h in
    subst (λ (x : ObType × Designator). IndexesFit names x.1 × (object_of names x.1 ≡ Some (Of (shape_of x.0))) × IsSolid x.0 × (is_told names x.1 ≡ false)) q.2
    (along_fits names name (Record r) d q.0 q.1 g k v)
