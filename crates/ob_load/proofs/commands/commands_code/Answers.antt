use Rattle.std.proofs.Common.{List, sym, subst}
use Rattle.ob_mean.specs.declared.face.Face.{Face}
use Rattle.ob_mean.specs.WellFormed.{IsWellFormed}
use Rattle.ob_gen.specs.Generated.{IsGenerated}
use Rattle.ob_load.proofs.Called.{tree_formed, code_of, homes_within}
use Rattle.ob_load.proofs.commands.commands_code.Goals as goal

pub faces_of-requires : goal.faces_of-requires
faces_of-requires c = homes_within c.args.modules.now c.args.known.now c.requires.compiled.0 c.requires.compiled.1 c.args.homes.now c.requires.called.1.run

pub generate-requires : goal.generate-requires
generate-requires c =
    subst (λ (fs : List Face). IsWellFormed fs c.in_ok-tree.tree) (sym c.as_slice.ensures.value)
    (tree_formed c.args.modules.now c.args.known.now c.requires.compiled.0 c.requires.called.0 c.args.homes.now c.args.calls.now c.in_ok-faces.faces.items c.in_ok-tree.tree
    c.requires.compiled.1 c.requires.called.1 c.in_ok-faces.ensures c.in_ok-tree.ensures)

pub returns : goal.returns
returns c = λ cs called.
    code_of c.args.modules.now c.args.known.now c.requires.compiled.0 cs c.args.homes.now c.args.calls.now c.in_ok-faces.faces.items c.in_ok-tree.tree
    c.requires.compiled.1 called c.in_ok-faces.ensures c.in_ok-tree.ensures
    c.in_ok-code.code (subst (λ (fs : List Face). IsGenerated fs c.in_ok-tree.tree c.in_ok-code.code) c.as_slice.ensures.value c.in_ok-code.ensures)
