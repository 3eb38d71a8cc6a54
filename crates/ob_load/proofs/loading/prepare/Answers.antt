use Rattle.ob_load.proofs.Loaded.{ends_within}
use Rattle.ob_load.proofs.loading.prepare.Goals as goal

pub loaded_cells-requires-clause-there : goal.loaded_cells-requires-clause-there
loaded_cells-requires-clause-there c =
    ends_within c.args.modules.now c.requires.compiled.0 c.args.code.now c.place_of-number.result _ _ c.requires.compiled.1 (c.bounds-from.ensures c.args.modules.now c.requires.compiled.0 c.requires.compiled.1).1 c.requires.cells
