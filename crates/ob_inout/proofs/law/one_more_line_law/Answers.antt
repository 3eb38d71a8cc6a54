use Rattle.ob_inout.proofs.Again.{again_char, again_int, again_string, again_name}
use Rattle.ob_inout.proofs.law.one_more_line_law.Goals as goal

pub returns : goal.returns
returns c = record { of_char = again_char; of_int = again_int; of_string = again_string; of_name = again_name }
