-- A store is found again from its cells.
use Rattle.ob_mean.specs.Programs.{opening_store}
use Rattle.ob_session.specs.Session.{program_of}
use Rattle.ob_image.specs.Stores.{EachIsFoundAgain}
use Rattle.ob_image.proofs.Refilled.{shape-refilled, image-refilled, refilled_only}

pub each_is_found_again : EachIsFoundAgain
each_is_found_again modules cells fit =
    let opening = opening_store (program_of modules) in
    record {
      shapes = shape-refilled opening cells;
      pictured = image-refilled opening cells fit;
      only = λ s same there. refilled_only opening s cells same there;
    }
