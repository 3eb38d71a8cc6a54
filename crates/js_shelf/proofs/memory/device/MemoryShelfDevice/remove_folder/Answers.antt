use Rattle.std.proofs.Common.{◌≡◌, refl, sym, ap, ◌∙◌, List, ℕ, None, true, false}
use Rattle.std.proofs.lemmas.Map.Text.{btree_map_updates_text}
use Rattle.js_shelf.specs.Memory.{has_names}
use Rattle.js_shelf.specs.MemoryShelves.{contents_of}
use Rattle.js_shelf.specs.Shelves.{with_item}
use Rattle.js_shelf.proofs.NameLemmas.{full, empty}
use Rattle.js_shelf.proofs.memory.device.MemoryShelfDevice.remove_folder.Goals as goal

pub returns-then-has_names : goal.returns-then-has_names
returns-then-has_names c =
    let has : true ≡ has_names c.args.place.now c.args.self.now.items.entries =
    sym c.if-has_names.true ∙ c.has_names.ensures ∙ ap (λ (folder : List ℕ). has_names folder c.args.self.now.items.entries) c.as_str.ensures.path in
    (full c.args.place.now c.args.self.now.items.entries has, λ path. refl)

pub returns : goal.returns
returns c =
    let none : false ≡ has_names c.args.place.now c.args.self.now.items.entries =
    sym c.if-has_names.false ∙ c.has_names.ensures ∙ ap (λ (folder : List ℕ). has_names folder c.args.self.now.items.entries) c.as_str.ensures.path in (
      empty c.args.place.now c.args.self.now.items.entries none,
      λ path.
          btree_map_updates_text c.as_str-2.result.now c.args.self.now.items c.remove.new.self None c.remove.ensures.updates path
          ∙ ap (λ (place : List ℕ). with_item (contents_of c.args.self.now) place None path) c.as_str-2.ensures.path,
    )
