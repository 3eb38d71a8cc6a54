use Rattle.std.proofs.Common.{◌≤◌, length, arith, ap}
use Rattle.js_ws.specs.Reads.{items_read}
use Rattle.js_ws.proofs.Parts.{few, read_on}
use Rattle.js_ws.proofs.feed.read_next.Goals as goal

pub returns-clause-room : goal.returns-clause-room
returns-clause-room g c =
    let short : length (items_read c.read-read.result.1) ≤ 64 = few c.read-read.result.1 64 _ c.read-read.ensures.next in
    omega (arith, short, c.in-Ok.ensures.ok, ap length c.or_none-entries.ensures, c.or_none-entries.result.ok.0)

pub returns-clause-read : goal.returns-clause-read
returns-clause-read g c = rw c.or_none-entries.ensures (read_on c.read-read.result.1 _ _ c.read-read.ensures.read c.read-read.ensures.refused)
