use Rattle.js_contents.proofs.BookPuts.{book_body_is}
use Rattle.js_contents.proofs.put.put_body.Goals as goal

pub returns-in-Ok : goal.returns-in-Ok
returns-in-Ok c = book_body_is c.args.content.now c.in-Ok.put.notebook c.in-Ok.put.last_modified c.book_body.result c.in-Ok.ensures.put c.book_body.ensures.putting c.book_body.ensures.last_modified
