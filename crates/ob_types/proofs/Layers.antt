-- A type's form is its outermost layer.
use Rattle.std.proofs.Common.{◌≡◌, refl}
use Rattle.ob_types.specs.declared.structure.ObType.{out-ObType}
use Rattle.ob_types.specs.declared.form.Form.{Form}
use Rattle.ob_types.specs.declared.form.Form.TheVariants as form
use Rattle.ob_types.specs.Forms.{type_of, layer_of}

pub layer_is : (f : Form) → layer_of f ≡ out-ObType (type_of f)
unfolding Rattle.ob_types.specs.declared.structure.ObType.TheBlock.hidden-the_row-ObType-0 denote.Hole.Carrier.hidden out-ObType denote.Hole.Carrier.out Rattle.ob_types.specs.declared.structure.ObType.TheBlock.shown-the_row-ObType-0 denote.Hole.Carrier.shown
layer_is (form.Basic b) = refl
layer_is (form.Array n e) = refl
layer_is (form.Open e) = refl
layer_is (form.Record r) = refl
