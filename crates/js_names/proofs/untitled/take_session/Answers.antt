use Rattle.std.proofs.Common.{◌≡◌, Some, string_bytes, ap, ◌∙◌}
use Rattle.std.specs.HashSet.{contains_text}
use Rattle.std.proofs.lemmas.Result.{on_ok_weaker}
use Rattle.js_shelf.specs.Paths.{behind}
use Rattle.js_names.proofs.Taken.{taken_more}
use Rattle.js_names.proofs.untitled.take_session.Goals as goal

pub returns : goal.returns
returns c =
    let front = c.args.front.now in
    let rest = string_bytes c.in_ok-from_str.field-0 in
    let is : Some rest ≡ behind front c.in-Some.session.path =
    ap (λ t. Some t) c.in_ok-from_str.ensures.ok ∙ c.in-Some-behind.ensures ∙ ap (behind front) c.as_str.ensures in
    on_ok_weaker c.take.result
    (λ h name.
    taken_more (contains_text c.args.taken.now name) (contains_text c.take.new.taken name) front name rest c.args.session.now c.in-Some.session c.in-Some.is is (h name))
    c.take.ensures
