use Rattle.std.proofs.Common.{◌++◌}
use Rattle.std.proofs.lemmas.Result.{err_from_is_err_and}
use Rattle.jk_replay.proofs.InputLemmas.{none_comes, comes_then, leaves_over}
use Rattle.jk_replay.proofs.input.Input.next_line.Goals as goal

pub pieces-init : goal.pieces-init
pieces-init g c = none_comes (g.R.Read.remaining c.args.reader.now) c.args.self.now

pub returns-in_err-refill : goal.returns-in_err-refill
returns-in_err-refill g c =
    let p = err_from_is_err_and c.from_residual-in_err-refill.result c.from_residual-in_err-refill.ensures.1 in
    let none = rw c.in_default.is at c.in_ok-line.ensures.found in
    let came = c.in_err-refill.ensures in
    rw (p.1, p.2) (
      c.pieces.invariant.0 ++ came.0,
      comes_then _ _ _ _ _ _ _ c.pieces.invariant.0 came.0 none.0 c.pieces.invariant.1 came.1,
      leaves_over (g.R.Read.remaining c.refill.new.reader) _ c.pieces.self c.refill.new.self _ c.pieces.invariant.0 came.0 c.pieces.invariant.2 none.1 came.2,
    )
