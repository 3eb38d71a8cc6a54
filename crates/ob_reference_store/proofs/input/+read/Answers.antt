use Rattle.std.proofs.Common.{◌≡◌, length, pos, arith, ◌<◌, true, Err, rules, sym, ap, ◌∙◌, subst, option_map}
use Rattle.ob_mean.specs.Values.{Cell, row}
use Rattle.ob_mean.specs.Input.{finds}
use Rattle.ob_mean.specs.declared.outcome.Outcome.TheVariants.{Stopped}
use Rattle.ob_mean.specs.declared.outcome.TurnKind.TheVariants.{LineAsked}
use Rattle.ob_mean.specs.Runs.{Stands}
use Rattle.ob_reference_store.specs.Kept.{value_in}
use Rattle.ob_reference_store.specs.Reads.{Finds, GivesLine}
use Rattle.ob_reference_store.specs.States.{Follows, supply_in, world_in}
use Rattle.ob_reference_store.proofs.Readers.{read_from, count_row, found_read, failed_read, waits_read, fewer_lines}
use Rattle.ob_reference_store.proofs.input.+read.Goals as goal

pub returns-in-Value : goal.returns-in-Value
returns-in-Value t c = λ now e.
    found_read (finds c.args.reader now) c.args.state.now c.find.new.state c.in-Value.found
    (subst (λ a. Finds (finds c.args.reader now) a c.args.state.now c.find.new.state) c.in-Value.is (c.in_ok-found.ensures now e))

pub returns-in-Failed : goal.returns-in-Failed
returns-in-Failed t c = λ now e.
    failed_read (finds c.args.reader now) c.args.state.now c.find.new.state
    (subst (λ a. Finds (finds c.args.reader now) a c.args.state.now c.find.new.state) c.in-Failed.is (c.in_ok-found.ensures now e))

pub returns-in_err-take_turn-in-NeedsLine : goal.returns-in_err-take_turn-in-NeedsLine
returns-in_err-take_turn-in-NeedsLine t c = λ now e.
    let find = finds c.args.reader now in
    let why = c.in_err-take_turn-in-NeedsLine.ensures.err in
    let same : Err c.in_err-take_turn-in-NeedsLine.field-0.0 ≡ c.from_residual-in_err-take_turn-in-NeedsLine.result = search rules in
    subst (λ r. Follows (option_map value_in) r c.take_turn.new.state (read_from find c.args.state.now)) (ap Err (sym why.0) ∙ same)
    (waits_read find c.args.state.now c.find.new.state
    (subst (λ a. Finds find a c.args.state.now c.find.new.state) c.in-NeedsLine.is (c.in_ok-found.ensures now e)) why.1
    ∙ ap (λ s. Stands (Stopped LineAsked) (supply_in s) (world_in s)) (sym why.2))

pub read-requires : goal.read-requires
read-requires t c =
    let find = finds c.args.reader (row c.args.size (Cell (pos 0))) in
    let given : GivesLine true c.take_turn.new.state c.give_line.new.state =
    subst (λ b. GivesLine b c.take_turn.new.state c.give_line.new.state) c.if-branch.true c.in_ok-give_line-in-NeedsLine.ensures in
    let less : length (supply_in c.give_line.new.state).lines < length (supply_in c.args.state.now).lines =
    fewer_lines find c.in_ok-found.field-0 c.args.state.now c.find.new.state c.take_turn.new.state c.give_line.new.state
    (c.in_ok-found.ensures (row c.args.size (Cell (pos 0))) (count_row c.args.size (Cell (pos 0)))) c.in_ok-take_turn-in-NeedsLine.ensures.ok.1 given in
    let h : length (supply_in c.give_line.new.state).lines < t = omega (arith, less, c.decreases) in
    (h, tt)
