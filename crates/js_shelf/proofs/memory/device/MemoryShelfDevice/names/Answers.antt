use Rattle.std.proofs.Common.{refl, ap, ◌∙◌, List, ℕ}
use Rattle.js_shelf.specs.Memory.{names_in}
use Rattle.js_shelf.proofs.NameLemmas.{listing}
use Rattle.js_shelf.proofs.memory.device.MemoryShelfDevice.names.Goals as goal

pub returns : goal.returns
returns c = (
  rw (c.from.ensures ∙ c.in_ok-names_in.ensures.names ∙ ap (λ (folder : List ℕ). names_in folder c.args.self.now.items.entries) c.as_str.ensures.path)
      (listing c.args.place.now c.args.self.now.items.entries c.in_ok-names_in.ensures.ordered),
  λ path. refl,
)
