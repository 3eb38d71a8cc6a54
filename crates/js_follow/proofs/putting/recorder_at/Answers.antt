use Rattle.std.proofs.Common.{◌≡◌, ℕ, List, Option, Some, ap, ap₂, ◌∙◌}
use Rattle.std.specs.Prelude.{position}
use Rattle.std.specs.Str.{bytes_eq}
use Rattle.js_tables.specs.declared.tables.Kernel.{Kernel}
use Rattle.js_tables.specs.declared.tables.Recording.{Recording}
use Rattle.js_tables.specs.Sessions.{find_by_path}
use Rattle.js_tables.specs.Tables.{rows}
use Rattle.js_follow.specs.Putting.{kernel_recorder}
use Rattle.js_follow.proofs.putting.recorder_at.Goals as goal

pub returns-in-Some-clause-place : goal.returns-in-Some-clause-place
returns-in-Some-clause-place c =
    let kernels = c.args.tables.now.kernels.items in
    let place : List ℕ → List Recording → Option ℕ = λ id cs. position (λ x. bytes_eq x.kernel id) cs in
    let found : Some c.in-Some.kernel.now ≡ find_by_path c.args.path.now kernels = cc (c.in-Some.ensures) in
    c.place_of.ensures ∙ ap₂ place c.as_str.ensures c.deref-in-Some.ensures.value
    ∙ ap (λ (k : Option Kernel). kernel_recorder k (rows c.args.tables.now)) found
