use Rattle.std.proofs.Common.{◌≡◌, ◌+◌, ◌≤◌, ◌++◌, length, vec_len, vec_capacity}
use Rattle.std.specs.Prelude.{◌||◌}
use Rattle.std.specs.Vec.Iter.{into_iter_items}
use Rattle.jk_log.specs.View.{part, has_joined}
use Rattle.js_ws.specs.Shutdowns.{has_last}
use Rattle.js_ws.specs.Statuses.{busy_after}
use Rattle.js_ws.proofs.feed.Place.take_all.Given as goal

abbrev pub invariant-loop-entry : goal.invariant-loop-entry
invariant-loop-entry l =
    (goal.iterator-loop-entry).can_next l.entry-iterator ×
    (goal.iterator-loop-entry).is_finite l.entry-iterator
    × (l.fn.held.items ++ part l.fn.self.joined l.fn.given.items l.fn.self.seat l.fn.self.join ≡ l.held.items ++ part l.self.joined (into_iter_items l.entry-iterator) l.fn.self.seat l.fn.self.join)
    × ((l.fn.self.joined || has_joined l.fn.self.seat l.fn.self.join l.fn.given.items) ≡ (l.self.joined || has_joined l.fn.self.seat l.fn.self.join (into_iter_items l.entry-iterator)))
    × ((l.fn.self.ended || has_last l.fn.given.items) ≡ (l.self.ended || has_last (into_iter_items l.entry-iterator)))
    × (busy_after l.fn.self.busy l.fn.given.items ≡ busy_after l.self.busy (into_iter_items l.entry-iterator))
    × (vec_len l.held + length (into_iter_items l.entry-iterator) ≤ vec_len l.fn.held + vec_len l.fn.given)
    × (vec_capacity l.held ≡ vec_capacity l.fn.held)
    × (l.self.seat ≡ l.fn.self.seat) × (l.self.join ≡ l.fn.self.join)
