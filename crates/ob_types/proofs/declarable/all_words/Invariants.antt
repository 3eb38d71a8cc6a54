use Rattle.std.proofs.Common.{◌≡◌, drop}
use Rattle.std.specs.List.{list_all}
use Rattle.ob_types.specs.Declarable as spec
use Rattle.ob_types.proofs.declarable.all_words.Given as goal

abbrev pub invariant-loop-name : goal.invariant-loop-name
invariant-loop-name l = list_all spec.is_word l.names ≡ list_all spec.is_word (drop l.name-index l.names)
