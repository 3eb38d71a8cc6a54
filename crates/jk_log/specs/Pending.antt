-- To be believed.
-- Lists of entries, joined.
use Rattle.std.specs.Prelude.{List, [], ◌∷◌, ◌++◌}
use Rattle.jk_log.specs.declared.entry.Entry.{Entry}

abbrev pub joined : List (List Entry) → List Entry
joined [] = []
joined (x ∷ xs) = x ++ joined xs
