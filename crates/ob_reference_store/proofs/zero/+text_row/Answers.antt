use Rattle.std.proofs.Common.{pos, get_or, ap, ◌∙◌, arith}
use Rattle.ob_reference_store.specs.Kept.{value_in}
use Rattle.ob_mean.specs.Values.{Cell, Beside}
use Rattle.ob_reference_store.proofs.Zeros.{text_front}
use Rattle.ob_reference_store.proofs.Follow.{if_ok}
use Rattle.ob_reference_store.proofs.zero.+text_row.Goals as goal

pub returns-in_ok-rest-in-len1-up : goal.returns-in_ok-rest-in-len1-up
returns-in_ok-rest-in-len1-up t c =
    if_ok c.beside-in-len1-up.result value_in _ _
    (ap (λ v. Beside v (value_in c.in_ok-rest-in-len1-up.rest)) c.character_cell.ensures ∙ ap (λ v. Beside (Cell (pos (get_or c.args.characters.now 0 0))) v) c.in_ok-rest-in-len1-up.ensures
    ∙ text_front c.args.length c.args.characters.now (omega arith) (omega arith))
    c.beside-in-len1-up.ensures
