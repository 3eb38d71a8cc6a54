use Rattle.std.proofs.Common.{◌≡◌, ◌++◌, drop}
use Rattle.serde_json.specs.Data.{string}
use Rattle.nb_text.proofs.Steps.{each_tokens}
use Rattle.nb_text.proofs.members.write_texts.Given as goal

abbrev pub invariant-loop-text : goal.invariant-loop-text
invariant-loop-text g l = (g.W.Tokens.written l.out) ++ each_tokens (λ t. string t) (drop l.text-index l.texts) ≡ (g.W.Tokens.written l.initial.out) ++ each_tokens (λ t. string t) l.texts
