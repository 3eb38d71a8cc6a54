use Rattle.std.proofs.Common.{refl, ap₂, ◌∙◌, subst}
use Rattle.nb_doc.specs.declared.notebook.Notebook.{Notebook}
use Rattle.nb_record.specs.Book.{Put}
use Rattle.nb_record.specs.State.{IsTold}
use Rattle.js_follow.specs.Joining.{joint}
use Rattle.js_follow.proofs.changing.take.Goals as goal

pub returns-clause-ok : goal.returns-clause-ok
returns-clause-ok c =
    let value = c.in_ok-joint.ensures.value ∙ ap₂ (λ known own. joint known own c.args.theirs) c.in_ok-known.ensures c.notebook.ensures.value in
    record {
      kernel = refl;
      path = c.in_ok-put.ensures.path;
      pages = subst (λ (n : Notebook). IsTold (Put n) c.args.recording.now.recorder.pages c.put.new.self.pages) value c.in_ok-put.ensures.ok;
      due = refl;
      known = refl;
      tried = refl;
    }
