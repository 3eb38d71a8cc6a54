use Rattle.std.proofs.Common.{ap, ◌∙◌, List, ℕ, None}
use Rattle.std.proofs.lemmas.Map.Text.{btree_map_updates_text}
use Rattle.js_shelf.specs.MemoryShelves.{contents_of}
use Rattle.js_shelf.specs.Shelves.{with_item}
use Rattle.js_shelf.proofs.memory.device.MemoryShelfDevice.remove_file.Goals as goal

pub returns : goal.returns
returns c = λ path.
    btree_map_updates_text c.as_str.result.now c.args.self.now.items c.remove.new.self None c.remove.ensures.updates path
    ∙ ap (λ (place : List ℕ). with_item (contents_of c.args.self.now) place None path) c.as_str.ensures.path
