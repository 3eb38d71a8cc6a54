-- A home may go to another thread, and so may a place, whatever the language.
use denote.Param.Send.{IsSend}
use denote.Param.SendFields.{declared_send}
use denote.RattleType.{RattleType}
use Rattle.std.proofs.Crossing.{Vec-send}
use Rattle.jk_board.proofs.Crossing.{follower_send}
use Rattle.jk_language.specs.declared.language.Language as language
use Rattle.jk_queues.proofs.Crossing.{seat_send}
use Rattle.js_lend.proofs.loan.Lease.TheSendSync as lease
use Rattle.js_lend.proofs.loan.Loan.TheSendSync as loan
use Rattle.js_home.specs.contracts.free.Free as Free
use Rattle.js_home.specs.contracts.home.Home as Home
use Rattle.js_home.specs.contracts.place.Place as Place

pub free_send : (L S T M : RattleType) (g : language.Ghosts L.Denot S.Denot T.Denot M.Denot) → IsSend (Free.the_row L S T M g)
free_send L S T M g = declared_send (Free.the_type L S T M g) (seat_send, (follower_send L S T M g, tt))

pub home_send : (L S T M : RattleType) (g : language.Ghosts L.Denot S.Denot T.Denot M.Denot) → IsSend (Home.the_row L S T M g)
home_send L S T M g =
    let free = free_send L S T M g in
    declared_send (Home.the_type L S T M g) (seat_send, (Vec-send _ free, (Vec-send _ (loan.the_send _ _ free), tt)))

pub place_send : (L S T M : RattleType) (g : language.Ghosts L.Denot S.Denot T.Denot M.Denot) → IsSend (Place.the_row L S T M g)
place_send L S T M g = declared_send (Place.the_type L S T M g) (lease.the_send _ _ (free_send L S T M g), tt)
