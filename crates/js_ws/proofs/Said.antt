-- What is said where a message was read as a form says.
use Rattle.std.proofs.Common.{◌≡◌, Result, Ok, Err, Some, sym, ap, ◌∙◌, refl}
use Rattle.json_form.specs.declared.fault.Bad.{Bad}
use Rattle.json_form.specs.declared.fault.Bad.TheVariants as bad
use Rattle.json_form.specs.declared.fault.Fault.{Fault}
use Rattle.json_form.specs.Forms.{Gives}
use Rattle.jp_msg.specs.declared.message.Message.{Message}
use Rattle.js_ws.specs.Hearing.{HearsRead, HearsSaid, said}
use Rattle.js_ws.specs.declared.hearing.Heard.{Heard}
use Rattle.js_ws.specs.declared.hearing.Heard.TheVariants as heard

pub said_as : (r : Result Message Bad) (form : Result Message Fault) (h : Heard) → HearsRead r h → Gives r form → HearsSaid (said form) h
said_as (Ok m) form (heard.Said w) hears gives = ap said gives ∙ ap Some (sym hears)
said_as (Ok m) form heard.Other hears gives = absurd hears
said_as (Ok m) form heard.Quiet hears gives = absurd hears
said_as (Ok m) form heard.Fault hears gives = tt
said_as (Err e) form (heard.Said w) hears gives = absurd hears
said_as (Err (bad.Fault f)) form heard.Other hears gives = ap said gives
said_as (Err bad.Memory) form heard.Other hears gives = absurd hears
said_as (Err e) form heard.Quiet hears gives = absurd hears
said_as (Err (bad.Fault f)) form heard.Fault hears gives = absurd hears
said_as (Err bad.Memory) form heard.Fault hears gives = tt
