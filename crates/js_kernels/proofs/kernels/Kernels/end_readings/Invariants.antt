use Rattle.std.proofs.Common.{◌≡◌, ◌++◌, length, map, take, drop}
use Rattle.js_tables.specs.Tables.{rows}
use Rattle.js_kernels.specs.Hosting.{states_of}
use Rattle.js_kernels.specs.Readings.{if_recorded}
use Rattle.js_kernels.proofs.kernels.Kernels.end_readings.Given as goal

abbrev pub invariant-loop-place : goal.invariant-loop-place
invariant-loop-place g l = record {
  so : states_of l.self-inside.hosted.items ≡ map (if_recorded (rows l.fn.tables)) (take l.place l.fn.self) ++ drop l.place l.fn.self;
  count : length l.self-inside.hosted.items ≡ l.place-end;
  all : length l.fn.self ≡ l.place-end;
}
