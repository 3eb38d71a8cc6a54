use Rattle.js_ws.proofs.feed.Feed.take.Goals as goal

pub returns-clause-found : goal.returns-clause-found
returns-clause-found g c = (
  c.read_next-next.result.1.items,
  c.read_next-next.ensures.read,
  rw c.read_next-next.ensures.held at c.take_all-place.ensures.held,
  c.take_all-place.ensures.joined,
  c.take_all-place.ensures.ended,
  c.take_all-place.ensures.busy,
)
