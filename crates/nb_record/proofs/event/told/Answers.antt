use Rattle.std.proofs.Common.{sym, subst}
use Rattle.nb_record.specs.Readable.{IsReadableOutput}
use Rattle.nb_record.proofs.Readable.{stream_readable, error_readable}
use Rattle.nb_record.proofs.event.told.Goals as goal

pub returns-in_ok-stream-in-Stream-clause-readable : goal.returns-in_ok-stream-in-Stream-clause-readable
returns-in_ok-stream-in-Stream-clause-readable c = subst IsReadableOutput (sym c.in_ok-stream-in-Stream.ensures) (stream_readable _ _)

pub returns-in_ok-error-in-Error-clause-readable : goal.returns-in_ok-error-in-Error-clause-readable
returns-in_ok-error-in-Error-clause-readable c = subst IsReadableOutput (sym c.in_ok-error-in-Error.ensures) (error_readable _ _ _)
