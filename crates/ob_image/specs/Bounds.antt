-- Where the cells of a module lie among those of all.
use Rattle.std.specs.Prelude.{◌≡◌, ℕ, ◌+◌, List}
use Rattle.ob_mean.specs.Programs.{opening_store}
use Rattle.ob_mean.specs.Values.{before, item, size}
use Rattle.ob_session.specs.Session.{Module, program_of}

-- the first cell of the module of this number in the store of the modules, and the first after its own
abbrev pub AreBounds : List Module → ℕ → ℕ → ℕ → Type 0
AreBounds modules i from behind =
    let store = opening_store (program_of modules) in
    (from ≡ before store i) × (behind ≡ before store i + size (item store i))
