use Rattle.std.proofs.Common.{inl, inr}
use Rattle.js_kernels.proofs.Hosting.{records_of, told_for, waits_for}
use Rattle.js_kernels.proofs.kernels.hosted.Hosted.record.Goals as goal

pub returns-then-not-due-clause-records : goal.returns-then-not-due-clause-records
returns-then-not-due-clause-records g c =
    let read = c.read-scribe in
    let waits = waits_for _ _ _ _ read.result c.waits.result _ c.is_due-due.result c.waits.ensures c.is_due-due.ensures c.as_str.ensures in
    records_of _ _ _ _ _ _ _ c.in-Some.scribe c.waits.result _ _ c.in-Some.ensures.value (read.result, read.ensures.reads, read.ensures.board, inl waits)

pub returns-clause-records : goal.returns-clause-records
returns-clause-records g c =
    let read = c.read-scribe in
    records_of _ _ _ _ _ _ _ c.in-Some.scribe c.tell-scribe.result _ _ c.in-Some.ensures.value (read.result, read.ensures.reads, read.ensures.board, inr (told_for _ _ _ _ _ _ _ read.result c.tell-scribe.result _ _ c.as_str-2.ensures c.tell-scribe.ensures))
