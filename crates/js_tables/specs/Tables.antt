-- To be believed.
-- The tables: lists, and a date for each path.
use Rattle.std.specs.Prelude.{ℕ, ◌<◌, Bool, vec_len, vec_capacity, List, [], ◌∷◌, ◌++◌, filter, not, if◌then◌else◌, Option, Some, None}
use Rattle.std.specs.HashMap.{get_by_text, spare}
use Rattle.std.specs.List.{find, list_any}
use Rattle.std.specs.Str.{bytes_eq}
use Rattle.js_tables.specs.declared.tables.Kernel.{Kernel}
use Rattle.js_tables.specs.declared.tables.Recording.{Recording}
use Rattle.js_tables.specs.declared.tables.Tables.{Tables}
use Rattle.js_tables.specs.Sessions.{find_by_path}

-- the date of the last put of the file at each path, if there was one
abbrev pub Dates : Type 0
Dates = List ℕ → Option (List ℕ)

pub record Rows : Type 0 where
  pub start : List ℕ
  pub kernels : List Kernel
  pub dates : List ℕ → Option (List ℕ)
  pub recordings : List Recording

abbrev pub rows : Tables → Rows
rows t = record {
  start = t.start;
  kernels = t.kernels.items;
  dates = λ path. get_by_text t.dates path;
  recordings = t.recordings.items;
}

abbrev pub no_rows : List ℕ → Rows
no_rows start = record { start = start; kernels = []; dates = λ path. None; recordings = [] }

-- there is room for one more row in each table
pub record HasRoom (t : Tables) : Type 0 where
  pub kernels : vec_len t.kernels < vec_capacity t.kernels
  pub dates : 0 < spare t.dates
  pub recordings : vec_len t.recordings < vec_capacity t.recordings

-- ---- kernels

-- the first kernel of that identifier
abbrev pub find_kernel : List ℕ → List Kernel → Option Kernel
find_kernel id ks = find (λ k. bytes_eq k.id id) ks

-- a recorder that came with a new session, if there is one
abbrev pub with_recording : Option Recording → List Recording → List Recording
with_recording None cs = cs
with_recording (Some c) cs = cs ++ c ∷ []

abbrev pub add_kernel : Kernel → Option Recording → Rows → Rows
add_kernel k c r = record r { kernels = r.kernels ++ k ∷ []; recordings = with_recording c r.recordings }

abbrev pub set_kernels : List Kernel → Option Recording → Rows → Rows
set_kernels ks c r = record r { kernels = ks; recordings = with_recording c r.recordings }

-- the rows without that kernel, its session and its recorder
abbrev pub drop_kernel : List ℕ → Rows → Rows
drop_kernel id r = record r {
  kernels = filter (λ k. not (bytes_eq k.id id)) r.kernels;
  recordings = filter (λ c. not (bytes_eq c.kernel id)) r.recordings;
}

-- ---- dates

abbrev pub date_or : List ℕ → Option (List ℕ) → List ℕ
date_or start None = start
date_or start (Some date) = date

-- the date of the last put of the file at a path, or else of the server's start
abbrev pub date_at : List ℕ → Rows → List ℕ
date_at path r = date_or r.start (r.dates path)

-- the dates with this one, or none, at the path, and what they were at every other
abbrev pub with_date : List ℕ → Option (List ℕ) → Dates → Dates
with_date path date dates other = if bytes_eq path other then date else dates other

abbrev pub drop_date : List ℕ → Rows → Rows
drop_date path r = record r { dates = with_date path None r.dates }

-- the rows with that date at the path
abbrev pub set_date : List ℕ → List ℕ → Rows → Rows
set_date path date r = record r { dates = with_date path (Some date) r.dates }

-- ---- recorders

abbrev pub has_recorder : List ℕ → Rows → Bool
has_recorder kernel r = list_any (λ c. bytes_eq c.kernel kernel) r.recordings

-- the recordings without those of a kernel, if there is one
abbrev pub without_recorder : Option Kernel → List Recording → List Recording
without_recorder None cs = cs
without_recorder (Some k) cs = filter (λ c. not (bytes_eq c.kernel k.id)) cs

-- the rows without the file at a path: its date and the recorder of the session there
abbrev pub drop_file : List ℕ → Rows → Rows
drop_file path r = record (drop_date path r) { recordings = without_recorder (find_by_path path r.kernels) r.recordings }
