use Rattle.std.proofs.Common.{◌≡◌, take}
use Rattle.ob_session.specs.Session.{import_places}
use Rattle.ob_link.proofs.modules.Modules.numbers.Given as goal

abbrev pub invariant-loop-import : goal.invariant-loop-import
invariant-loop-import l = l.so_far.items ≡ import_places l.self (take l.import-index l.imports)
