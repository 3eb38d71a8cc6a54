use Rattle.std.proofs.Common.{rules, true, false, ◌∙◌}
use Rattle.js_shelf.specs.MemoryShelves.{contents_of}
use Rattle.js_shelf.proofs.MoveLemmas.{moved_is}
use Rattle.js_shelf.proofs.RefusalLemmas.{rename_is}
use Rattle.js_shelf.proofs.memory.MemoryShelfShelf.rename.Goals as goal

pub returns-clause-answer : goal.returns-clause-answer
returns-clause-answer c = (
  rename_is (contents_of c.args.self.now) c.args.from.now c.args.to.now false true false (search rules) (search rules) (search rules) (search rules) (search rules),
  λ path. c.in_ok-self.ensures.moved path ∙ moved_is c.args.from.now c.args.to.now c.args.self.now.items.entries c.in_ok-self.ensures.ordered path,
)
