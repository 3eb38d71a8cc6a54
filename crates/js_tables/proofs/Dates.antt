-- What a printer of dates writes.
use Rattle.std.proofs.Common.{◌≡◌, ℕ, ◌*◌, List, ◌++◌, pos, false, Some, None, ap, ◌∙◌}
use Rattle.jiff_core.specs.declared.timestamp.Timestamp.{Timestamp}
use Rattle.jiff_fmt.specs.declared.temporal.printer.DateTimePrinter.{DateTimePrinter}
use Rattle.jiff_fmt.specs.Printer.{options, IsTimestampText}
use Rattle.jiff_fmt.specs.Text.{datetime_text, zulu_text}
use Rattle.js_tables.specs.Moments.{IsDate}

-- the options of a printer whose precision was set
pub with_precision : (p q : DateTimePrinter) → options p ≡ (false, 84, None) → options q ≡ (p.lowercase, p.separator, Some 6) → options q ≡ (false, 84, Some 6)
with_precision p q e f = f ∙ ap (λ o. (o.0, o.1, Some 6)) e

pub date_shown : (q : DateTimePrinter) (t : Timestamp) (moment : ℕ) (text : List ℕ) → options q ≡ (false, 84, Some 6) → t.nanosecond ≡ pos (moment * 1000) → IsTimestampText q t text → IsDate moment text
date_shown q t moment text o n h =
    (h.0, h.1 ∙ n, h.2 ∙ ap (λ x. datetime_text x.0 x.1 x.2 h.0 ++ zulu_text x.0) o)
