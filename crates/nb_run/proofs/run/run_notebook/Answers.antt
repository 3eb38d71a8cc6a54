use Rattle.std.proofs.Common.{◌≡◌, ap, ◌∙◌}
use Rattle.nb_run.specs.Runs.{code_cells}
use Rattle.nb_run.proofs.Saved.{is_run}
use Rattle.nb_run.proofs.run.run_notebook.Goals as goal

pub returns : goal.returns
returns g c =
    let ran = c.in_ok-ok.ensures in
    let first = c.in_ok-player.ensures in
    let codes : c.as_slice-2.result.now ≡ code_cells c.args.asked.notebook.cells =
    c.as_slice-2.ensures.value ∙ c.in_ok-codes.ensures ∙ ap code_cells c.as_slice.ensures in (
      ran.2.path ∙ first.path,
      is_run g.L.Language.spoken c.args.asked.all c.in_ok-ok.ok c.args.asked.notebook c.as_slice-2.result.now c.in_ok-player.player
          c.run_cells.new.player ran.0 ran.1 first.kernel first.stands codes ran.2 ran.3 ran.4 c.legal.ensures,
    )
