-- The worked cells, by computing.
use Rattle.std.proofs.Common.{refl}
use Rattle.std.specs.Char.{encode_utf8}
use Rattle.std.specs.Fmt.{digits}
use Rattle.std.specs.Int.{int_wrap}
use Rattle.std.specs.Str.{chars}
use Rattle.ob_inout.specs.Reading.{line_of, int_at, read_int}
use Rattle.ob_inout.specs.Writing.{int_text}
use Rattle.ob_types.specs.InterfaceText.{interface_text}
use Rattle.ob_mean.specs.Programs.{call_at, body_meaning, commands_meaning}
use Rattle.ob_session.specs.Cells.{checked_meaning}
use Rattle.ob_session.specs.Rows.{WorkedRows}

pub worked_rows : WorkedRows
unfolding encode_utf8 digits int_wrap chars line_of int_at read_int int_text interface_text call_at body_meaning commands_meaning checked_meaning
worked_rows = record {
  counts = (refl, refl, refl);
  stands = (refl, refl, refl);
  stands_later = (refl, refl, refl);
  goes_on = (refl, refl, refl);
  replaced = (refl, refl, refl);
  other_key = (refl, refl, refl);
  reached_key = (refl, refl, refl);
  not_loaded = (refl, refl, refl);
  no_command = (refl, refl, refl);
  given_module = (refl, refl, refl);
  asks = (refl, refl, refl);
  given = (refl, refl, refl);
  none = (refl, refl, refl);
}
