use Rattle.std.proofs.Common.{rules, refl, ◌∙◌}
use Rattle.js_shelf.proofs.NameLemmas.{listing}
use Rattle.js_shelf.proofs.memory.MemoryShelfShelf.list.Goals as goal

pub returns-clause-answer : goal.returns-clause-answer
returns-clause-answer c = (
  search rules,
  rw (c.from.ensures ∙ c.in_ok-names_in.ensures.names) (listing c.args.path.now c.args.self.now.items.entries c.in_ok-names_in.ensures.ordered),
  λ path. refl,
)
