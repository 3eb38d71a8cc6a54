use Rattle.std.proofs.Common.{◌≡◌}
use Rattle.form_urlencoded.specs.Parse.{pairs_left}
use Rattle.js_http.specs.Targets.{query_value, last_value, or_else}
use Rattle.js_http.proofs.target.query_value.Given as goal

-- the last value so far, or a later one
abbrev pub invariant-loop-pair : goal.invariant-loop-pair
invariant-loop-pair l = or_else (last_value l.name (pairs_left l.pair-iterator)) l.found ≡ query_value l.query l.name
