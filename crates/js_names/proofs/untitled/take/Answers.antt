use Rattle.std.proofs.Common.{◌≡◌, Bool, true, false, cond, string_bytes, refl, ◌∙◌}
use Rattle.std.specs.Prelude.{◌||◌}
use Rattle.std.specs.HashSet.{contains_text}
use Rattle.std.specs.Str.{bytes_eq}
use Rattle.std.proofs.lemmas.Map.Text.{hash_set_updates_text}
use Rattle.js_names.proofs.untitled.take.Goals as goal

either : (a b : Bool) → cond a true b ≡ (b || a)
either true true = refl
either true false = refl
either false true = refl
either false false = refl

pub returns : goal.returns
returns c = λ other.
    hash_set_updates_text (string_bytes c.args.name) c.args.taken.now c.insert.new.self true c.in_ok-insert.ensures.updates other
    ∙ either (bytes_eq (string_bytes c.args.name) other) (contains_text c.args.taken.now other)
