use Rattle.nb_doc.proofs.Removed.{taken_is, taken_whole}
use Rattle.nb_doc.proofs.taken.taken_field.Goals as goal

pub returns-in-Object-clause-found : goal.returns-in-Object-clause-found
returns-in-Object-clause-found c = taken_is c.args.value c.in-Object.members c.args.key.now c.remove.result c.in-Object.is c.remove.ensures.value

pub returns-in-Object-clause-whole : goal.returns-in-Object-clause-whole
returns-in-Object-clause-whole c =
    taken_whole c.args.value c.args.key.now c.remove.result c.requires (taken_is c.args.value c.in-Object.members c.args.key.now c.remove.result c.in-Object.is c.remove.ensures.value)
