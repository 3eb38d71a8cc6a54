-- Which types are plain, for each form of type.
use Rattle.std.proofs.Common.{◌≡◌, ℕ, refl, ap, sym, ◌∙◌}
use Rattle.std.specs.Prelude.{◌&&◌, nat_le, Bool, true, false}
use Rattle.ob_types.specs.declared.structure.ObType.{ObType}
use Rattle.ob_types.specs.declared.structure.ObType.TheBlock.{Row_of-Field, end_of-Field, more_of-Field, items-the_row-Field, items_shown-the_row-Field-1}
use Rattle.ob_types.specs.declared.structure.ObType.TheVariants.{Array, Open, Record}
use Rattle.ob_types.specs.declared.structure.RecordType.{RecordType, RecordType', out-RecordType}
use Rattle.ob_types.specs.Types.{max_cells}
use Rattle.ob_types.specs.Declarable.{is_labelled, are_words, is_plain, are_plain, plain_fields}

pub plain_array : (n : ℕ) (e : ObType) → is_plain (Array n e) ≡ (nat_le 1 n && nat_le n max_cells && is_plain e)
unfolding Rattle.ob_types.specs.declared.structure.ObType.TheBlock.hidden-the_row-ObType-0 denote.Hole.Carrier.hidden
plain_array n e = refl

-- after two tests the third decides
pub both_tests : (a b c : Bool) → (a && b) ≡ true → c ≡ (a && b && c)
both_tests true true c h = refl
both_tests true false c h = absurd (let k : false ≡ true = h in cc)
both_tests false b c h = absurd (let k : false ≡ true = h in cc)

pub plain_open : (e : ObType) → is_plain (Open e) ≡ is_plain e
unfolding Rattle.ob_types.specs.declared.structure.ObType.TheBlock.hidden-the_row-ObType-0 denote.Hole.Carrier.hidden
plain_open e = refl

row_plain : (k : _) (row : Row_of-Field k) → are_plain row ≡ plain_fields (items-the_row-Field k row)
row_plain k end_of-Field = refl
row_plain k (more_of-Field name exported of rest) = ap (λ b. is_labelled name of && is_plain of && b) (row_plain _ rest)

pub plain_record : (r : RecordType) → is_plain (Record r) ≡ (are_words (out-RecordType r).name && plain_fields (out-RecordType r).fields)
unfolding out-RecordType denote.Hole.Carrier.out
plain_record (RecordType' name k fields) = ap (λ b. are_words name && b) (row_plain _ fields ∙ ap plain_fields (sym (items_shown-the_row-Field-1 k fields)))
