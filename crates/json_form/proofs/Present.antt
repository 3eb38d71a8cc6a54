-- A field that is `null` is as good as missing.
use Rattle.std.proofs.Common.{◌≡◌, Some, None, is_some, true, false, refl}
use Rattle.serde_json.specs.Data.{Data, null, boolean, number, string, array, object}
use Rattle.serde_json.specs.Find.{as_null}
use Rattle.json_form.specs.Forms.{present}

pub present_null : (d : Data) → is_some (as_null d) ≡ true → present d ≡ None
present_null null e = refl
present_null (boolean b) e = cc
present_null (number n) e = cc
present_null (string s) e = cc
present_null (array ds) e = cc
present_null (object ms) e = cc

pub present_other : (d : Data) → is_some (as_null d) ≡ false → present d ≡ Some d
present_other null e = cc
present_other (boolean b) e = refl
present_other (number n) e = refl
present_other (string s) e = refl
present_other (array ds) e = refl
present_other (object ms) e = refl
