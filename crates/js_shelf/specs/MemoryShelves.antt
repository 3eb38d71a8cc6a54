-- What a shelf in memory holds.
use Rattle.std.specs.BTreeMap.{get_by_text}
use Rattle.js_shelf.specs.declared.memory.MemoryShelf.{MemoryShelf}
use Rattle.js_shelf.specs.Shelves.{Contents}

-- the item at each path
abbrev pub contents_of : MemoryShelf → Contents
contents_of shelf path = get_by_text shelf.items path
