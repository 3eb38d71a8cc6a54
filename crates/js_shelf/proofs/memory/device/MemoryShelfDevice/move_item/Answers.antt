use Rattle.std.proofs.Common.{ap, ◌∙◌, List, ℕ}
use Rattle.js_shelf.specs.MemoryShelves.{contents_of}
use Rattle.js_shelf.specs.Shelves.{moved}
use Rattle.js_shelf.proofs.MoveLemmas.{moved_is}
use Rattle.js_shelf.proofs.memory.device.MemoryShelfDevice.move_item.Goals as goal

pub returns : goal.returns
returns c = λ path.
    c.in_ok-self.ensures.moved path ∙ moved_is c.as_str.result.now c.as_str-2.result.now c.args.self.now.items.entries c.in_ok-self.ensures.ordered path
    ∙ ap (λ (from : List ℕ). moved (contents_of c.args.self.now) from c.as_str-2.result.now path) c.as_str.ensures.path
    ∙ ap (λ (to : List ℕ). moved (contents_of c.args.self.now) c.args.from.now to path) c.as_str-2.ensures.path
