-- What a machine stands at.
use Rattle.std.specs.Prelude.{◌≡◌, ℕ, ◌-◌, true, false, List, [], length, string_bytes}
use Rattle.jk_language.specs.declared.outcome.Turned.{Turned}
use Rattle.jk_language.specs.MachineState.{MachineState}
use Rattle.jk_language.specs.Runs.{OutcomeIs, tells_end}
use Rattle.test_meaning.specs.Texts.{read, opened, runs, end_of}
use Rattle.test_language.specs.declared.machine.Machine.{Machine}

abbrev pub machine_state : Machine → MachineState ℕ
machine_state m = record {
  goes = runs m.start m.text;
  lines = m.lines.items;
  turns = m.turns;
  shown = length (read m.turns (opened m.start m.text m.lines.items)).output - length (string_bytes m.output);
  asks = m.asks;
  over = m.over;
}

-- a machine before its first turn
pub record IsNew (session : ℕ) (text : List ℕ) (m : MachineState ℕ) : Type 0 where
  pub goes : m.goes ≡ runs session text
  pub lines : m.lines ≡ []
  pub turns : m.turns ≡ 0
  pub shown : m.shown ≡ 0
  pub quiet : m.asks ≡ false
  pub on : m.over ≡ false

-- this answer tells how a text ends
pub record IsEnding (text : List ℕ) (answer : Turned) : Type 0 where
  pub last : tells_end answer ≡ true
  pub outcome : OutcomeIs answer (end_of text)
