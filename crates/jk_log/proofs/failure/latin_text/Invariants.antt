use Rattle.std.proofs.Common.{◌≡◌, flat_map, string_bytes, take}
use Rattle.std.specs.Char.{encode_utf8}
use Rattle.jk_log.proofs.failure.latin_text.Given as goal

abbrev pub invariant-loop-letter : goal.invariant-loop-letter
invariant-loop-letter l = string_bytes l.text ≡ flat_map encode_utf8 (take l.letter-index l.chars)
