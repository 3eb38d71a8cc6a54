use Rattle.std.proofs.Common.{◌≡◌, ◌+◌, ◌≤◌, ◌++◌, ◌&&◌, ◌||◌, [], Bool, true, false, ap, sym, ◌∙◌, subst, arith, length}
use Rattle.std.specs.List.{list_any}
use Rattle.nb_run.specs.Runs.{is_done}
use Rattle.nb_run.proofs.Goings.{goes_on, goes_nowhere}
use Rattle.nb_run.proofs.Rounds.{RunsOn, runs_more, runs_stop, runs_end}
use Rattle.nb_run.proofs.run.run_cells.Goals as goal

pub cells-init : goal.cells-init
cells-init g c =
    ([], [], goes_nowhere c.args.player.now, record { rests = c.requires.rests; none = c.requires.none }, λ s t o h. h)

pub returns-then-not-either : goal.returns-then-not-either
returns-then-not-either g c =
    let before = c.cells.invariant in
    let went = c.in_ok-went.ensures in
    let off : c.either.result ≡ false = cc in
    let over : (c.args.all || list_any is_done went.1) ≡ false = ap (λ b. c.args.all || b) (sym went.4) ∙ sym c.either.ensures ∙ off in (
      before.0 ++ went.0,
      before.1 ++ went.1,
      goes_on c.args.player.now c.cells.player c.run_cell.new.self before.0 went.0 before.1 went.1 before.2 went.2,
      runs_stop c.args.all c.args.codes.now c.cells.place c.index-codes-place.result before.0 went.0 before.1 went.1 c.cells.ok c.cells-test.true
          c.index-codes-place.is before.4 went.3 over,
      went.5,
    )

pub cells-preserved : goal.cells-preserved
cells-preserved g c =
    let before = c.cells.invariant in
    let went = c.in_ok-went.ensures in
    let on : c.either.result ≡ true = cc in
    let more : (c.args.all || list_any is_done went.1) ≡ true = ap (λ b. c.args.all || b) (sym went.4) ∙ sym c.either.ensures ∙ on in
    let all_ok : (c.cells.ok && list_any is_done went.1) ≡ c.both-ok.result = ap (λ b. c.cells.ok && b) (sym went.4) ∙ sym c.both-ok.ensures in (
      before.0 ++ went.0,
      before.1 ++ went.1,
      goes_on c.args.player.now c.cells.player c.run_cell.new.self before.0 went.0 before.1 went.1 before.2 went.2,
      went.5,
      subst (λ (b : Bool). RunsOn c.args.all c.args.codes.now (c.cells.place + 1) (before.0 ++ went.0) (before.1 ++ went.1) b) all_ok
          (runs_more c.args.all c.args.codes.now c.cells.place c.index-codes-place.result before.0 went.0 before.1 went.1 c.cells.ok c.cells-test.true
          c.index-codes-place.is before.4 went.3 more),
    )

pub returns : goal.returns
returns g c =
    let before = c.cells.invariant in
    let over : length c.args.codes.now ≤ c.cells.place = grind arith in (
      before.0,
      before.1,
      before.2,
      runs_end c.args.all c.args.codes.now c.cells.place before.0 before.1 c.cells.ok over before.4,
      before.3,
    )
