use Rattle.std.proofs.Common.{◌≡◌, take}
use Rattle.nb_record.specs.State.{AreTold}
use Rattle.nb_record.proofs.recorder.Recorder.entries.Given as goal

-- it was told all before this place, and its path stays
abbrev pub invariant-loop-count : goal.invariant-loop-count
invariant-loop-count l = record {
  told : AreTold (take l.count l.entries) l.fn.self.pages l.self.pages;
  path : l.self.path ≡ l.fn.self.path;
}
