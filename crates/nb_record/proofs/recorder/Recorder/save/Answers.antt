use Rattle.std.proofs.Common.{ap}
use Rattle.nb_record.proofs.Shallow.{saved}
use Rattle.nb_record.proofs.recorder.Recorder.save.Goals as goal

pub returns-clause-reads_back : goal.returns-clause-reads_back
returns-clause-reads_back g c =
    saved c.put.result c.self.inside.pages.notebook c.args.self.now.pages.notebook c.in_ok-text.text.items (ap (λ s. s.pages.notebook) c.self.view_is) c.self.invariant c.in_ok-text.ensures.text c.in_ok-text.ensures.reads_back
