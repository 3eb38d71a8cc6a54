use Rattle.std.proofs.Common.{refl, sym, ap}
use Rattle.nb_doc.specs.Ids.{is_among}
use Rattle.nb_record.proofs.Books.{book_nil}
use Rattle.nb_record.proofs.Shallow.{readable_from}
use Rattle.nb_record.proofs.recorder.Recorder.new.Goals as goal

pub returns-clause-stands : goal.returns-clause-stands
returns-clause-stands c = record {
  notebook = sym (book_nil c.args.notebook c.requires.document.distinct);
  executed = λ id. ap (λ s. is_among s id) c.empty.ensures;
  current = refl;
  lasts = refl;
}

pub invariant_of-result : goal.invariant_of-result
invariant_of-result c = readable_from c.args.notebook c.requires.document c.requires.shallow
