use Rattle.nb_record.proofs.Shallow.{document_of, shallow_of}
use Rattle.nb_record.proofs.recorder.Recorder.notebook.Goals as goal

pub returns-clause-document : goal.returns-clause-document
returns-clause-document c = document_of c.self.inside.pages.notebook c.self.invariant

pub returns-clause-shallow : goal.returns-clause-shallow
returns-clause-shallow c = shallow_of c.self.inside.pages.notebook c.self.invariant
