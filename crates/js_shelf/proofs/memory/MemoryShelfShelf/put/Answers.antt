use Rattle.std.proofs.Common.{rules, ap, ◌∙◌, Some}
use Rattle.js_shelf.specs.MemoryShelves.{contents_of}
use Rattle.js_shelf.specs.Shelves.{with_item}
use Rattle.js_shelf.proofs.RefusalLemmas.{put_none}
use Rattle.js_shelf.proofs.memory.MemoryShelfShelf.put.Goals as goal

pub returns-clause-answer : goal.returns-clause-answer
returns-clause-answer c = (
  put_none (contents_of c.args.self.now) c.args.path.now c.args.item (search rules) (search rules) (search rules),
  λ path. c.in_ok-set.ensures.ok path ∙ ap (λ p. with_item (contents_of c.args.self.now) p (Some c.args.item) path) c.in_ok-key.ensures.ok,
)
