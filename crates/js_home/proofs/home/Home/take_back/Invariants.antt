use Rattle.std.proofs.Common.{◌≡◌, length}
use Rattle.js_home.specs.Homes.{IsSame, lent_of}
use Rattle.js_home.proofs.home.Home.take_back.Given as goal

abbrev pub invariant-loop-place : goal.invariant-loop-place
invariant-loop-place g l = record {
  same : IsSame l.fn.self l.self;
  end : l.count ≡ length (lent_of l.fn.self);
}
