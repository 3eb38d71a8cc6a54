use Rattle.std.proofs.Common.{◌≡◌, ◌+◌, ◌*◌, ℕ, List, [], ◌∷◌, ◌++◌, ◌-◌, drop, length, take, ap, ◌∙◌, subst, append_assoc}
use Rattle.std.specs.Prelude.{OnOk}
use Rattle.ob_types.specs.Spelling.{field_spelled, letters, mark, shared, type_spelled}
use Rattle.ob_types.proofs.SharedFronts.{rest_whole}
use Rattle.ob_types.proofs.spelling.put_field.Goals as goal

pub returns : goal.returns
returns c =
    let f = c.args.field.now in
    let before = c.args.previous.now in
    let old = c.args.output.now.items in
    let name : c.as_slice-name.result.now ≡ f.name = c.as_slice-name.ensures ∙ c.name.ensures in
    let common : c.shared-common.result ≡ shared 100 before f.name = c.shared-common.ensures.shared ∙ ap (shared 100 before) name in
    let first : ℕ = 16 + 2 * shared 100 before f.name + mark f.exported in
    let number : 16 + 2 * c.shared-common.result + c.mark.result ≡ first =
    ap (λ n. 16 + 2 * n + c.mark.result) common ∙ ap (λ n. 16 + 2 * shared 100 before f.name + n) (c.mark.ensures ∙ ap mark c.exported.ensures) in
    let pushed : c.push.new.self.items ≡ old ++ first ∷ [] = c.in_ok-push.ensures.items ∙ ap (λ n. old ++ n ∷ []) number in
    let slice : List ℕ = take (length c.as_slice-name.result.now - c.shared-common.result) (drop c.shared-common.result c.as_slice-name.result.now) in
    let rest : slice ≡ drop (shared 100 before f.name) f.name =
    rest_whole c.as_slice-name.result.now c.shared-common.result ∙ ap (λ n. drop n c.as_slice-name.result.now) common ∙ ap (drop (shared 100 before f.name)) name in
    let put : c.put_letters.new.output.items ≡ (old ++ first ∷ []) ++ letters (drop (shared 100 before f.name) f.name) =
    c.in_ok-put_letters.ensures ∙ ap (λ l. l ++ letters slice) pushed ∙ ap (λ l. (old ++ first ∷ []) ++ letters l) rest in
    let all : c.put_letters.new.output.items ++ type_spelled c.of.result.now ≡ old ++ field_spelled before f =
    ap (λ l. l ++ type_spelled c.of.result.now) put ∙ ap (λ t. ((old ++ first ∷ []) ++ letters (drop (shared 100 before f.name) f.name)) ++ type_spelled t) c.of.ensures
    ∙ append_assoc (old ++ first ∷ []) (letters (drop (shared 100 before f.name) f.name)) (type_spelled f.of)
    ∙ append_assoc old (first ∷ []) (letters (drop (shared 100 before f.name) f.name) ++ type_spelled f.of) in
    subst (λ l. OnOk c.put_type.result (c.put_type.new.output.items ≡ l)) all c.put_type.ensures
