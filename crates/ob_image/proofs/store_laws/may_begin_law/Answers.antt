use Rattle.ob_image.proofs.Runs.{each_may_begin}
use Rattle.ob_image.proofs.store_laws.may_begin_law.Goals as goal

pub returns : goal.returns
returns c = each_may_begin
