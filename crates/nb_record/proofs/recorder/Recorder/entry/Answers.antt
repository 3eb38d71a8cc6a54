use Rattle.std.proofs.Common.{sym, ap}
use Rattle.nb_record.specs.Book.{Shown}
use Rattle.nb_record.proofs.Follow.{told}
use Rattle.nb_record.proofs.recorder.Recorder.entry.Goals as goal

pub returns-clause-ok : goal.returns-clause-ok
returns-clause-ok c = told c.take.result c.in_ok-event.event (Shown c.args.entry.now) c.args.self.now.pages c.self.inside.pages c.take.new.pages (sym c.in_ok-event.ensures.event) (ap (λ s. s.pages) c.self.view_is) c.take.ensures.ok
