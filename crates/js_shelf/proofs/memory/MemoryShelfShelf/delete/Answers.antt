use Rattle.std.proofs.Common.{rules, refl, None}
use Rattle.std.proofs.lemmas.Map.Text.{btree_map_updates_text}
use Rattle.js_shelf.specs.Memory.{has_names}
use Rattle.js_shelf.specs.MemoryShelves.{contents_of}
use Rattle.js_shelf.proofs.NameLemmas.{full, empty}
use Rattle.js_shelf.proofs.RefusalLemmas.{delete_none, full_is, empty_is}
use Rattle.js_shelf.proofs.memory.MemoryShelfShelf.delete.Goals as goal

pub returns-then-is_full_folder-clause-answer : goal.returns-then-is_full_folder-clause-answer
returns-then-is_full_folder-clause-answer c =
    let folder = full_is (contents_of c.args.self.now c.args.path.now) (has_names c.args.path.now c.args.self.now.items.entries) (search rules) in
    let there = full c.args.path.now c.args.self.now.items.entries folder.1 in (
      delete_none (contents_of c.args.self.now) c.args.path.now (search rules) (search rules),
      (folder.0, there.0, there.1, there.2),
      λ path. refl,
    )

pub returns-clause-answer : goal.returns-clause-answer
returns-clause-answer c = (
  delete_none (contents_of c.args.self.now) c.args.path.now (search rules) (search rules),
  λ folder.
      empty c.args.path.now c.args.self.now.items.entries
      (empty_is (contents_of c.args.self.now c.args.path.now) (has_names c.args.path.now c.args.self.now.items.entries) (search rules) folder),
  λ path. btree_map_updates_text c.args.path.now c.args.self.now.items c.remove.new.self None c.remove.ensures.updates path,
)
