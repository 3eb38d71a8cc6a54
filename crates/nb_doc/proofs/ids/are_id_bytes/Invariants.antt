use Rattle.std.proofs.Common.{◌≡◌, drop}
use Rattle.std.specs.List.{list_all}
use Rattle.nb_doc.specs.Ids.{is_id_byte}
use Rattle.nb_doc.proofs.ids.are_id_bytes.Given as goal

-- whether all may stand in an id is whether those that are left may
abbrev pub invariant-loop-byte : goal.invariant-loop-byte
invariant-loop-byte l = list_all is_id_byte (drop l.byte-index l.bytes) ≡ list_all is_id_byte l.bytes
