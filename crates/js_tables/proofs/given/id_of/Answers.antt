use Rattle.std.proofs.Common.{◌≡◌, ◌∙◌}
use Rattle.std.proofs.lemmas.Result.{IfOk-weaker}
use Rattle.js_tables.specs.Given.{id_of}
use Rattle.js_tables.proofs.given.id_of.Goals as goal

pub returns : goal.returns
unfolding id_of
returns c =
    let chain : c.encode_lower.result.now ≡ id_of c.args.high c.args.low = cc (c.encode_lower.ensures.text, c.hyphenated.ensures, c.into_uuid-id.ensures, c.from_random_bytes.ensures.value, c.into_bytes-bytes.ensures, c.from_u64_pair.ensures) in
    IfOk-weaker c.from_str.result _ _ (λ t e. e ∙ chain) c.from_str.ensures
