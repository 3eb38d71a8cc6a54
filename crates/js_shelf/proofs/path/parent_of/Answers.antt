use Rattle.std.proofs.Common.{◌≡◌, ◌-◌, rules, arith, ap, ◌∙◌, take}
use Rattle.std.proofs.lemmas.Str.Pattern.{rfind_char}
use Rattle.js_shelf.proofs.PathLemmas.{parent_at, parent_none}
use Rattle.js_shelf.proofs.path.parent_of.Goals as goal

pub returns-in-Some : goal.returns-in-Some
returns-in-Some c =
    let last = rw c.in-Some.is at (rfind_char 47 c.args.path.now c.rfind.result c.rfind.ensures.cases (search rules)) in
    let minus : c.in-Some.slash - 0 ≡ c.in-Some.slash = omega arith in
    c.range.ensures.value ∙ ap (λ n. take n c.args.path.now) minus ∙ parent_at c.args.path.now c.in-Some.slash last.0 last.1 last.2

pub returns-in-None : goal.returns-in-None
returns-in-None c =
    let none = rw c.in-None.is at (rfind_char 47 c.args.path.now c.rfind.result c.rfind.ensures.cases (search rules)) in
    parent_none c.args.path.now none
