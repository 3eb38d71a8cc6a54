use Rattle.std.proofs.Common.{rules, ap, ◌∙◌, drop, add-one}
use Rattle.std.proofs.lemmas.Str.Pattern.{rfind_char}
use Rattle.js_contents.proofs.Names.{name_at, name_none}
use Rattle.js_contents.proofs.place.name_of.Goals as goal

pub returns-in-Some : goal.returns-in-Some
returns-in-Some c =
    let last = rw c.in-Some.is at (rfind_char 47 c.args.path.now c.rfind.result c.rfind.ensures.cases (search rules)) in
    c.range_from.ensures.value ∙ ap (λ n. drop n c.args.path.now) (add-one c.in-Some.slash) ∙ name_at c.args.path.now c.in-Some.slash last.0 last.1 last.2

pub returns-in-None : goal.returns-in-None
returns-in-None c =
    let none = rw c.in-None.is at (rfind_char 47 c.args.path.now c.rfind.result c.rfind.ensures.cases (search rules)) in
    name_none c.args.path.now none
