use Rattle.std.proofs.Common.{◌≡◌, drop}
use Rattle.std.specs.List.{list_any}
use Rattle.ob_link.specs.Reaching.{reaches_in}
use Rattle.ob_link.proofs.modules.Modules.any_reaches.Given as goal

abbrev pub invariant-loop-import : goal.invariant-loop-import
invariant-loop-import l = list_any (reaches_in l.self l.behind l.name) l.imports ≡ list_any (reaches_in l.self l.behind l.name) (drop l.import-index l.imports)
