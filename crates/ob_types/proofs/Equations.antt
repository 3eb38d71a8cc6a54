-- What the definitions on types say of each form of type.
use Rattle.std.proofs.Common.{◌≡◌, ◌<◌, ◌≤◌, ℕ, ◌+◌, ◌*◌, max, List, [], ◌∷◌, Option, Some, None, refl, ap, sym, ◌∙◌}
use Rattle.ob_types.specs.declared.structure.ObType.{ObType}
use Rattle.ob_types.specs.declared.structure.ObType.TheBlock.{Row_of-Field, end_of-Field, more_of-Field, items-the_row-Field, items_shown-the_row-Field-1}
use Rattle.ob_types.specs.declared.structure.ObType.TheVariants.{Basic, Array, Open, Record, Array', Open'}
use Rattle.ob_types.specs.declared.structure.ObType.{end_of-ObType, more_of-ObType}
use Rattle.ob_types.specs.declared.structure.RecordType.{RecordType, RecordType', out-RecordType}
use Rattle.ob_types.specs.Forms.{type_of}
use Rattle.ob_types.specs.declared.form.Form.{Form}
use Rattle.ob_types.specs.declared.form.Form.TheVariants as form
use Rattle.std.specs.Prelude.{◌&&◌, ◌||◌, nat_eq, nat_lt, Bool, true, false}
use Rattle.std.proofs.Common.{arith}
use Rattle.std.proofs.lemmas.Bool.Decides.{nat_tests}
use Rattle.std.specs.Cmp.Lexicographic.{pointwise}
use Rattle.std.specs.Str.{bytes_eq}
use Rattle.ob_types.specs.Types.{cells, cells_of, cells_in, levels, levels_of, levels_in, same, same_fields, same_field, same_record, same_truth, is_char, string_assignable, base_in, base_of, base_among, chain, chain_in, is_in, extends}

pub cells_array : (n : ℕ) (e : ObType) → cells (Array n e) ≡ n * cells e
unfolding Rattle.ob_types.specs.declared.structure.ObType.TheBlock.hidden-the_row-ObType-0 denote.Hole.Carrier.hidden
cells_array n e = refl

row_cells : (k : _) (row : Row_of-Field k) → cells_of row ≡ cells_in (items-the_row-Field k row)
row_cells k end_of-Field = refl
row_cells k (more_of-Field name exported of rest) = ap (λ n. cells of + n) (row_cells _ rest)

pub cells_record : (r : RecordType) → cells (Record r) ≡ max 1 (cells_in (out-RecordType r).fields)
unfolding out-RecordType denote.Hole.Carrier.out
cells_record (RecordType' name k fields) = ap (max 1) (row_cells _ fields ∙ ap cells_in (sym (items_shown-the_row-Field-1 k fields)))

pub levels_array : (n : ℕ) (e : ObType) → levels (Array n e) ≡ levels e + 1
unfolding Rattle.ob_types.specs.declared.structure.ObType.TheBlock.hidden-the_row-ObType-0 denote.Hole.Carrier.hidden
levels_array n e = refl

pub levels_open : (e : ObType) → levels (Open e) ≡ levels e + 1
unfolding Rattle.ob_types.specs.declared.structure.ObType.TheBlock.hidden-the_row-ObType-0 denote.Hole.Carrier.hidden
levels_open e = refl

row_levels : (k : _) (row : Row_of-Field k) → levels_of row ≡ levels_in (items-the_row-Field k row)
row_levels k end_of-Field = refl
row_levels k (more_of-Field name exported of rest) = ap (λ n. max (levels of) n) (row_levels _ rest)

pub levels_record : (r : RecordType) → levels (Record r) ≡ levels_in (out-RecordType r).fields + 1
unfolding out-RecordType denote.Hole.Carrier.out
levels_record (RecordType' name k fields) = ap (λ n. n + 1) (row_levels _ fields ∙ ap levels_in (sym (items_shown-the_row-Field-1 k fields)))

pub cells_open : (e : ObType) → cells (Open e) ≡ cells e
unfolding Rattle.ob_types.specs.declared.structure.ObType.TheBlock.hidden-the_row-ObType-0 denote.Hole.Carrier.hidden
cells_open e = refl

pub same_array : (n : ℕ) (x : ObType) (m : ℕ) (y : ObType) → same (Array n x) (Array m y) ≡ (nat_eq n m && same x y)
unfolding Rattle.ob_types.specs.declared.structure.ObType.TheBlock.hidden-the_row-ObType-0 denote.Hole.Carrier.hidden
same_array n x m y = refl

pub same_open : (x y : ObType) → same (Open x) (Open y) ≡ same x y
unfolding Rattle.ob_types.specs.declared.structure.ObType.TheBlock.hidden-the_row-ObType-0 denote.Hole.Carrier.hidden
same_open x y = refl

row_same : (k : _) (xs : Row_of-Field k) (j : _) (ys : Row_of-Field j) → same_fields xs ys ≡ pointwise same_field (items-the_row-Field k xs) (items-the_row-Field j ys)
row_same k end_of-Field j end_of-Field = refl
row_same k (more_of-Field x e a xs) j end_of-Field = refl
row_same k end_of-Field j (more_of-Field y f b ys) = refl
row_same k (more_of-Field x e a xs) j (more_of-Field y f b ys) =
    ap (λ t. bytes_eq x y && same_truth e f && same a b && t) (row_same _ xs _ ys)

pub same_records : (r s : RecordType) → same (Record r) (Record s) ≡ (same_record (out-RecordType r).name (out-RecordType s).name && pointwise same_field (out-RecordType r).fields (out-RecordType s).fields)
unfolding out-RecordType denote.Hole.Carrier.out
same_records (RecordType' x k xs) (RecordType' y j ys) =
    ap (λ t. same_record x y && t) (row_same _ xs _ ys
    ∙ ap (λ l. pointwise same_field l (items-the_row-Field _ ys)) (sym (items_shown-the_row-Field-1 k xs))
    ∙ ap (λ l. pointwise same_field (out-RecordType (RecordType' x k xs)).fields l) (sym (items_shown-the_row-Field-1 j ys)))

-- records of different names, and of one name
pub names_differ : (r s : RecordType) → same_record (out-RecordType r).name (out-RecordType s).name ≡ false → false ≡ same (Record r) (Record s)
names_differ r s e = ap (λ b. b && pointwise same_field (out-RecordType r).fields (out-RecordType s).fields) (sym e) ∙ sym (same_records r s)

pub fields_decide : (r s : RecordType) → same_record (out-RecordType r).name (out-RecordType s).name ≡ true → pointwise same_field (out-RecordType r).fields (out-RecordType s).fields ≡ same (Record r) (Record s)
fields_decide r s e = ap (λ b. b && pointwise same_field (out-RecordType r).fields (out-RecordType s).fields) (sym e) ∙ sym (same_records r s)

pub string_array : (n : ℕ) (e : ObType) (k : ℕ) → string_assignable (Array n e) k ≡ (is_char e && nat_lt k n)
unfolding Rattle.ob_types.specs.declared.structure.ObType.TheBlock.hidden-the_row-ObType-0 denote.Hole.Carrier.hidden
string_array n e k = refl

pub string_open : (e : ObType) (k : ℕ) → string_assignable (Open e) k ≡ is_char e
unfolding Rattle.ob_types.specs.declared.structure.ObType.TheBlock.hidden-the_row-ObType-0 denote.Hole.Carrier.hidden
string_open e k = refl

pub equal : (n m : ℕ) → n ≡ m → true ≡ nat_eq n m
equal n m e = grind (arith, nat_tests)

different : (n m : ℕ) → (n ≡ m → ⊥) → nat_eq n m ≡ false
different n m e = grind (arith, nat_tests)

pub unequal : (n m : ℕ) (b : Bool) → (n ≡ m → ⊥) → nat_eq n m ≡ (nat_eq n m && b)
unequal n m b e = ap (λ x. x) (different n m e) ∙ ap (λ x. x && b) (sym (different n m e))

-- an array is the same as no other form of type
pub apart_array : (n : ℕ) (x : ObType) (f : Form) → ((m : ℕ) (y : ObType) → f ≡ form.Array m y → ⊥) → false ≡ same (Array n x) (type_of f)
unfolding Rattle.ob_types.specs.declared.structure.ObType.TheBlock.hidden-the_row-ObType-0 denote.Hole.Carrier.hidden
apart_array n x (form.Basic b) other = refl
apart_array n x (form.Array m y) other = absurd (other m y refl)
apart_array n x (form.Open y) other = refl
apart_array n x (form.Record r) other = refl

pub apart_open : (x : ObType) (f : Form) → ((y : ObType) → f ≡ form.Open y → ⊥) → false ≡ same (Open x) (type_of f)
unfolding Rattle.ob_types.specs.declared.structure.ObType.TheBlock.hidden-the_row-ObType-0 denote.Hole.Carrier.hidden
apart_open x (form.Basic b) other = refl
apart_open x (form.Array m y) other = refl
apart_open x (form.Open y) other = absurd (other y refl)
apart_open x (form.Record r) other = refl

row_base : (k : _) (row : Row_of-Field k) → base_in row ≡ base_among (items-the_row-Field k row)
row_base k end_of-Field = refl
row_base k (more_of-Field [] exported of rest) = refl
row_base k (more_of-Field (c ∷ cs) exported of rest) = refl

pub base_record : (r : RecordType) → base_of (Record r) ≡ base_among (out-RecordType r).fields
unfolding out-RecordType denote.Hole.Carrier.out
base_record (RecordType' name k fields) = row_base _ fields ∙ ap base_among (sym (items_shown-the_row-Field-1 k fields))

pub base_array : (n : ℕ) (e : ObType) → base_of (Array n e) ≡ None
unfolding Rattle.ob_types.specs.declared.structure.ObType.TheBlock.hidden-the_row-ObType-0 denote.Hole.Carrier.hidden
base_array n e = refl

pub base_open : (e : ObType) → base_of (Open e) ≡ None
unfolding Rattle.ob_types.specs.declared.structure.ObType.TheBlock.hidden-the_row-ObType-0 denote.Hole.Carrier.hidden
base_open e = refl

-- a base stands one level below its extension
lower_in : {k : _} (fields : Row_of-Field k) (b : ObType) → base_in fields ≡ Some b → levels b ≤ levels_of fields
lower_in end_of-Field b e = absurd (let n : None ≡ Some b = e in cc)
lower_in (more_of-Field [] exported of rest) b e = let s : of ≡ b = cc in omega (arith, ap levels s)
lower_in (more_of-Field (c ∷ cs) exported of rest) b e = absurd (let n : None ≡ Some b = e in cc)

pub base_lower : (t b : ObType) → base_of t ≡ Some b → levels b < levels t
base_lower (Basic x) b e = absurd (let n : None ≡ Some b = e in cc)
base_lower (Array' n p x) b e = absurd (let n : None ≡ Some b = e in cc)
base_lower (Open' p x) b e = absurd (let n : None ≡ Some b = e in cc)
base_lower (Record (RecordType' name k fields)) b e = omega (arith, lower_in fields b e)

-- what comes after a type in its chain
abbrev pub chain_from : Option ObType → List ObType
chain_from None = []
chain_from (Some b) = chain b

in_chain : {k : _} (fields : Row_of-Field k) → chain_in fields ≡ chain_from (base_in fields)
in_chain end_of-Field = refl
in_chain (more_of-Field [] exported of rest) = refl
in_chain (more_of-Field (c ∷ cs) exported of rest) = refl

pub chain_step : (t : ObType) → chain t ≡ t ∷ chain_from (base_of t)
chain_step (Basic x) = refl
chain_step (Array' n p x) = refl
chain_step (Open' p x) = refl
chain_step (Record (RecordType' name k fields)) = ap (λ ts. Record (RecordType' name k fields) ∷ ts) (in_chain fields)

-- whether it extends another by its base
abbrev pub base_extends : ObType → Option ObType → Bool
base_extends to None = false
base_extends to (Some b) = extends to b

from_base : (to : ObType) (o : Option ObType) → is_in to (chain_from o) ≡ base_extends to o
from_base to None = refl
from_base to (Some b) = refl

pub extends_step : (to from : ObType) → extends to from ≡ (same to from || base_extends to (base_of from))
extends_step to from = ap (is_in to) (chain_step from) ∙ ap (λ b. same to from || b) (from_base to (base_of from))
