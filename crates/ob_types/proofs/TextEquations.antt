-- What the text of a type says of each form of type.
use Rattle.std.proofs.Common.{◌≡◌, ℕ, ◌++◌, refl, ap, sym, ◌∙◌}
use Rattle.std.specs.Prelude.{codes}
use Rattle.std.specs.Fmt.{decimal}
use Rattle.ob_types.specs.declared.structure.ObType.{ObType}
use Rattle.ob_types.specs.declared.structure.ObType.TheBlock.{Row_of-Field, end_of-Field, more_of-Field, items-the_row-Field, items_shown-the_row-Field-1}
use Rattle.ob_types.specs.declared.structure.ObType.TheVariants.{Array, Open}
use Rattle.ob_types.specs.declared.structure.RecordType.{RecordType, RecordType', out-RecordType}
use Rattle.ob_types.specs.InterfaceText.{label_text, type_text, fields_text, all_fields_text, record_text, record_name_text}

pub array_text : (n : ℕ) (e : ObType) → type_text (Array n e) ≡ codes "A" ++ decimal n ++ codes " " ++ type_text e
unfolding Rattle.ob_types.specs.declared.structure.ObType.TheBlock.hidden-the_row-ObType-0 denote.Hole.Carrier.hidden
array_text n e = refl

pub open_text : (e : ObType) → type_text (Open e) ≡ codes "O" ++ type_text e
unfolding Rattle.ob_types.specs.declared.structure.ObType.TheBlock.hidden-the_row-ObType-0 denote.Hole.Carrier.hidden
open_text e = refl

row_text : (k : _) (row : Row_of-Field k) → fields_text row ≡ all_fields_text (items-the_row-Field k row)
row_text k end_of-Field = refl
row_text k (more_of-Field name exported of rest) =
    ap (λ l. label_text name exported ++ type_text of ++ codes ";" ++ l) (row_text _ rest)

pub text_of_record : (r : RecordType) → record_text r ≡ codes "R" ++ record_name_text (out-RecordType r).name ++ codes "(" ++ all_fields_text (out-RecordType r).fields ++ codes ")"
unfolding out-RecordType denote.Hole.Carrier.out
text_of_record (RecordType' name k fields) =
    ap (λ l. codes "R" ++ record_name_text name ++ codes "(" ++ l ++ codes ")") (row_text _ fields ∙ ap all_fields_text (sym (items_shown-the_row-Field-1 k fields)))
