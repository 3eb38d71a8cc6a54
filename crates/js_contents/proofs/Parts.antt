-- The content of a body, which is taken out of it.
use Rattle.std.proofs.Common.{◌≡◌, ◌≤◌, ℕ, List, Option, Some, None, Bool, true, false, is_some, option_and_then, Result, Ok, Err, refl, ap, ◌∙◌, arith}
use Rattle.serde_json.specs.Data.{Data, depth}
use Rattle.serde_json.specs.Find.{get, as_null}
use Rattle.serde_json.specs.Read.{max_depth}
use Rattle.json_form.specs.Forms.{given, present}
use Rattle.json_form.proofs.Present.{present_null, present_other}
use Rattle.nb_doc.proofs.Shallow.{get_depth}
use Rattle.js_http.specs.declared.response.ErrorStatus.TheVariants.{BadRequest}
use Rattle.js_contents.specs.Puts.{or_missing}

pub missing_part : (k : List ℕ) (d : Data) → get k d ≡ None → or_missing (given k d) ≡ Err BadRequest
unfolding given
missing_part k d h = ap (λ o. or_missing (option_and_then present o)) h

pub null_part : (k : List ℕ) (d e : Data) → get k d ≡ Some e → is_some (as_null e) ≡ true → or_missing (given k d) ≡ Err BadRequest
unfolding given
null_part k d e h n = ap (λ o. or_missing (option_and_then present o)) h ∙ ap or_missing (present_null e n)

pub given_part : (k : List ℕ) (d e : Data) → get k d ≡ Some e → is_some (as_null e) ≡ false → or_missing (given k d) ≡ Ok e
unfolding given
given_part k d e h n = ap (λ o. or_missing (option_and_then present o)) h ∙ ap or_missing (present_other e n)

pub part_shallow : (k : List ℕ) (d e : Data) → get k d ≡ Some e → depth d ≤ max_depth → depth e ≤ max_depth
part_shallow k d e h low = let less = get_depth k d e h in omega arith
