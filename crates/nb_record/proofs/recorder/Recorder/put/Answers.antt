use Rattle.std.proofs.Common.{refl, ap}
use Rattle.nb_record.specs.declared.event.Event.TheVariants.{Puts}
use Rattle.nb_record.specs.Book.{Put}
use Rattle.nb_record.proofs.Follow.{told}
use Rattle.nb_record.proofs.Shallow.{readable_from}
use Rattle.nb_record.proofs.recorder.Recorder.put.Goals as goal

pub returns-clause-ok : goal.returns-clause-ok
returns-clause-ok c = told c.take.result (Puts c.args.notebook) (Put c.args.notebook) c.args.self.now.pages c.self.inside.pages c.take.new.pages refl (ap (λ s. s.pages) c.self.view_is) c.take.ensures.ok

pub take-requires-clause-event : goal.take-requires-clause-event
take-requires-clause-event c = readable_from c.args.notebook c.requires.document c.requires.shallow
