-- What a read of entries gave.
use Rattle.std.specs.Prelude.{List, [], Result, Ok, Err}
use Rattle.std.specs.declared.alloc.Global.{Global}
use Rattle.std.specs.declared.vec.Vec.{Vec}
use Rattle.jk_log.specs.declared.entry.Entry.{Entry}
use Rattle.jk_board.specs.declared.follower.Refusal.{Refusal}

-- the entries, or none
abbrev pub items_read : Result (Vec Entry Global) Refusal → List Entry
items_read (Ok entries) = entries.items
items_read (Err e) = []
