use Rattle.ob_image.proofs.Found.{each_is_found_again}
use Rattle.ob_image.proofs.store_laws.found_again_law.Goals as goal

pub returns : goal.returns
returns c = each_is_found_again
