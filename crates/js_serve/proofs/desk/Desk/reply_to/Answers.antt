use Rattle.std.proofs.Common.{IfSome, inl, subst, sym}
use Rattle.js_call.specs.Asking.{asks}
use Rattle.js_call.proofs.Answering.{wants_end}
use Rattle.js_serve.proofs.desk.Desk.reply_to.Goals as goal

pub end_later-requires : goal.end_later-requires
end_later-requires g c =
    wants_end c.args.request c.look.new.self.clients.turn
    (subst (λ turn. IfSome turn (asks c.args.request)) (sym c.look.ensures) c.requires) (inl (rw c.request-asked.ensures at c.turn_of.ensures c.in-Join.id c.in-Join.is))
