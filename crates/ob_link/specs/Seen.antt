-- The modules as the static rules see them, where none of them reaches the one that is judged.
use Rattle.std.specs.Prelude.{List, [], map}
use Rattle.ob_check_scope.specs.LoadedTree.{LoadedTree}
use Rattle.ob_session.specs.Session.{Module}

abbrev pub seen_alone : Module → LoadedTree
seen_alone m = record { interface = m.interface; reached = [] }

abbrev pub all_seen : List Module → List LoadedTree
all_seen modules = map seen_alone modules
