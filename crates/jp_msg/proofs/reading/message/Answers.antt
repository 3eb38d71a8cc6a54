use Rattle.std.proofs.Common.{rules}
use Rattle.json_form.proofs.Binds.{Fails-bind}
use Rattle.jp_msg.specs.Reading.{message_of}
use Rattle.jp_msg.proofs.reading.message.Goals as goal

pub returns-in_err-content-2 : goal.returns-in_err-content-2
unfolding message_of
returns-in_err-content-2 c =
    rw (← c.in_ok-object_field.ensures.form, c.in_ok-header.ensures, c.in_ok-parent_header.ensures, c.in_ok-metadata.ensures, ← c.in_ok-content.ensures.form, ← c.in_ok-channel.ensures, ← c.in_ok-buffers.ensures)
    (search (rules, Fails-bind))
