-- To be believed.
-- Kernels by their sessions.
use Rattle.std.specs.Prelude.{ℕ, Bool, false, List, Option, Some, None, map, if◌then◌else◌}
use Rattle.std.specs.List.{find}
use Rattle.std.specs.Str.{bytes_eq}
use Rattle.js_tables.specs.declared.tables.Kernel.{Kernel}
use Rattle.js_tables.specs.declared.tables.Session.{Session}

-- the session has that identifier
abbrev pub is_session : List ℕ → Option Session → Bool
is_session id None = false
is_session id (Some s) = bytes_eq s.id id

-- the session has that path
abbrev pub is_at : List ℕ → Option Session → Bool
is_at path None = false
is_at path (Some s) = bytes_eq s.path path

abbrev pub find_by_session : List ℕ → List Kernel → Option Kernel
find_by_session id ks = find (λ k. is_session id k.session) ks

abbrev pub find_by_path : List ℕ → List Kernel → Option Kernel
find_by_path path ks = find (λ k. is_at path k.session) ks

-- a kernel, with this session if it has that identifier
abbrev pub changed : List ℕ → Session → Kernel → Kernel
changed id s k = if bytes_eq k.id id then record k { session = Some s } else k
