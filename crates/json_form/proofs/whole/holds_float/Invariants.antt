use Rattle.std.proofs.Common.{◌≡◌, length}
use Rattle.std.specs.List.{list_any}
use Rattle.json.specs.Lex.{tokens}
use Rattle.json_form.specs.Forms.{token_is_float}
use Rattle.json_form.proofs.whole.holds_float.Given as goal

-- whether a float is among all tokens is whether one is among those that are left
abbrev pub invariant-tokens : goal.invariant-tokens
invariant-tokens l = list_any token_is_float l.reader ≡ list_any token_is_float (tokens l.text)

abbrev pub decreases-tokens : goal.decreases-tokens
decreases-tokens l = length l.reader
