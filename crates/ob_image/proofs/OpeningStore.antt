-- The variables of all modules as they begin: a row for each, whatever it imports.
use Rattle.std.proofs.Common.{◌≡◌, List, [], ◌∷◌, map, refl, ap}
use Rattle.ob_mean.specs.Programs.{opening_store}
use Rattle.ob_mean.specs.Shapes.{opening_row}
use Rattle.ob_mean.specs.Values.{Value, Nothing, Beside}
use Rattle.ob_session.specs.Session.{Module, loaded, program_of}
use Rattle.ob_gen.proofs.machine.Store.{IsRow}

abbrev pub rows : List Module → Value
rows [] = Nothing
rows (m ∷ ms) = Beside (opening_row m.tree.variables) (rows ms)

rows_in : (all ms : List Module) → opening_store (map (loaded all) ms) ≡ rows ms
rows_in all [] = refl
rows_in all (m ∷ ms) = ap (Beside (opening_row m.tree.variables)) (rows_in all ms)

pub opening-rows : (ms : List Module) → opening_store (program_of ms) ≡ rows ms
opening-rows ms = rows_in ms ms

pub rows-row : (ms : List Module) → IsRow (rows ms)
rows-row [] = tt
rows-row (m ∷ ms) = rows-row ms
