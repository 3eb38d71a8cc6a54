-- Cells before a run, and what stays of them after it.
use Rattle.std.proofs.Common.{ℤ, List, [], length, sym, ap, ◌∙◌}
use Rattle.ob_inout.specs.Reading.{opened}
use Rattle.ob_mean.specs.Programs.{opening_store, kept_store}
use Rattle.ob_session.specs.Session.{program_of}
use Rattle.ob_code.specs.Machine.{Memory}
use Rattle.ob_image.specs.Runs.{EachMayBegin, EachKeepsCells}
use Rattle.ob_image.proofs.Refilled.{shape-refilled, image-refilled, refilled_only, many_cells}

pub each_may_begin : EachMayBegin
each_may_begin modules cells fit =
    let opening = opening_store (program_of modules) in
    let memory = λ (l : List ℤ). (let m : Memory = record { cells = l; written = []; input = opened } in m) in
    record { pictured = ap memory (image-refilled opening cells fit); may = shape-refilled opening cells }

pub each_keeps_cells : EachKeepsCells
each_keeps_cells modules t stays =
    let opening = opening_store (program_of modules) in
    let kept = kept_store (program_of modules) t in
    record {
      fits = sym (ap length stays.cells) ∙ many_cells opening kept stays.shapes;
      store = refilled_only opening kept _ stays.shapes stays.cells;
    }
