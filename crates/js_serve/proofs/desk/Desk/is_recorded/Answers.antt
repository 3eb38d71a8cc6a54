use Rattle.std.proofs.Common.{inl, sym, ap, ◌∙◌}
use Rattle.std.specs.Prelude.{Bool, ◌&&◌}
use Rattle.js_serve.proofs.Ending.{may_go}
use Rattle.js_tables.specs.Tables.{rows}
use Rattle.js_serve.proofs.desk.Desk.is_recorded.Goals as goal

pub returns-then-has_recorder : goal.returns-then-has_recorder
returns-then-has_recorder g c = λ none.
    may_go c.args.id.now (rows c.args.self.now.manager.tables) c.args.self.now.manager.running c.has_recorder.result c.is_there.result c.has_recorder.ensures c.is_there.ensures (ap (λ (b : Bool). b && c.is_there.result) c.if-has_recorder.true ∙ none)

pub returns-else-has_recorder : goal.returns-else-has_recorder
returns-else-has_recorder g c = λ none. inl (sym c.has_recorder.ensures ∙ c.if-has_recorder.false)
