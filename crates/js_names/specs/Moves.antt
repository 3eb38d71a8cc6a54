-- To be believed.
-- PATCH of contents: a thing goes to another path, and what is known of it goes with it.
use Rattle.std.specs.Prelude.{◌≡◌, ℕ, Bool, true, false, List, [], ◌∷◌, ◌++◌, map, Option, Some, None, is_some, IsSome, Result, Ok, Err, if◌then◌else◌, codes}
use Rattle.js_http.specs.declared.response.ErrorStatus.{ErrorStatus}
use Rattle.js_http.specs.declared.response.ErrorStatus.TheVariants.{Conflict}
use Rattle.js_http.specs.declared.response.Response.TheVariants.{Success}
use Rattle.js_shelf.specs.Paths.{following}
use Rattle.js_shelf.specs.Paths as paths
use Rattle.js_shelf.specs.Shelves.{Contents, Same}
use Rattle.js_tables.specs.declared.plan.Answer.{Answer}
use Rattle.js_tables.specs.declared.plan.Answer.TheVariants.{Reply}
use Rattle.js_tables.specs.declared.plan.Change.TheVariants as change
use Rattle.js_tables.specs.declared.plan.Plan.{Plan}
use Rattle.js_tables.specs.declared.refusal.Refusal.{Refusal}
use Rattle.js_tables.specs.declared.refusal.Refusal.TheVariants.{Failed}
use Rattle.js_tables.specs.declared.tables.Kernel.{Kernel}
use Rattle.js_tables.specs.declared.tables.Session.{Session}
use Rattle.js_tables.specs.Bodies.{body_of, text_in}
use Rattle.js_tables.specs.Forms.{body_text}
use Rattle.js_tables.specs.Plans.{◌>>=◌, Gives, updated}
use Rattle.js_tables.specs.Sessions.{find_by_path}
use Rattle.js_tables.specs.Tables.{Dates, Rows, date_at}
use Rattle.js_names.specs.declared.moves.Moving.{Moving}
use Rattle.js_contents.specs.declared.place.Place.{Place}
use Rattle.js_contents.specs.Forms.{bare_form}
use Rattle.js_contents.specs.Kinds.{about_at}
use Rattle.js_contents.specs.Looks.{has_folder}
use Rattle.js_contents.specs.Places.{named_place, place_of}

abbrev pub goes_down : List ℕ → Bool
goes_down text = paths.goes_down text

-- ---- where a path goes: what is `from`, or stands below it, goes to `to` or below that

abbrev pub moved_by : List ℕ → List ℕ → Option (List ℕ) → List ℕ
moved_by to path None = path
moved_by to path (Some rest) = to ++ rest

abbrev pub moved_path : List ℕ → List ℕ → List ℕ → List ℕ
moved_path from to path = moved_by to path (following from path)

-- The dates before and after a move.
pub record HasMoved (from to : List ℕ) (before after : Dates) : Type 0 where
  -- At the new path and below it each date is that of the path it came from. What stood there before is gone, and its date too.
  pub there : (rest : List ℕ) → goes_down rest ≡ true → after (to ++ rest) ≡ before (from ++ rest)
  -- no other is left at the old path, or below it
  pub left : (path : List ℕ) → following to path ≡ None → IsSome (following from path) → after path ≡ None
  -- every other path keeps its own
  pub others : (path : List ℕ) → following to path ≡ None → following from path ≡ None → after path ≡ before path

abbrev pub moved_session : List ℕ → List ℕ → Option Session → Option Session
moved_session from to None = None
moved_session from to (Some s) = Some (record s { path = moved_path from to s.path })

abbrev pub moved_kernel : List ℕ → List ℕ → Kernel → Kernel
moved_kernel from to k = record k { session = moved_session from to k.session }

-- ---- no session gets the path of one that stays

abbrev pub stays_by : Option (List ℕ) → Bool → Bool
stays_by (Some rest) is_there = false
stays_by None is_there = is_there

-- a session stays at that path
abbrev pub stays_at : List Kernel → List ℕ → List ℕ → Bool
stays_at ks from path = stays_by (following from path) (is_some (find_by_path path ks))

abbrev pub target_checked : List Kernel → List ℕ → List ℕ → Option (List ℕ) → Result (Unit {0}) ErrorStatus
target_checked ks from to None = Ok tt
target_checked ks from to (Some rest) = if stays_at ks from (to ++ rest) then Err Conflict else Ok tt

abbrev pub session_checked : List ℕ → List ℕ → List Kernel → Option Session → Result (Unit {0}) ErrorStatus
session_checked from to ks None = Ok tt
session_checked from to ks (Some s) = target_checked ks from to (following from s.path)

abbrev pub sessions_checked : List ℕ → List ℕ → List Kernel → List Kernel → Result (Unit {0}) ErrorStatus
sessions_checked from to all [] = Ok tt
sessions_checked from to all (k ∷ ks) = session_checked from to all k.session >>= λ _. sessions_checked from to all ks

-- ---- the plan

abbrev pub moving : List ℕ → List (List ℕ) → Rows → Result Moving ErrorStatus
moving body segments r =
    body_of body >>= λ d.
    (text_in (codes "path") d >>= λ path.
    (named_place path >>= λ to.
    (place_of segments >>= λ from.
    (sessions_checked from.path to.path r.kernels r.kernels >>= λ _. Ok (record { from = from; to = to })))))

-- the thing at its new path, with the date that it had
abbrev pub shown_moved : Rows → List ℕ → Place → Bool → Answer
shown_moved r from to is_folder = Reply (Success (body_text (bare_form (about_at to is_folder (date_at from r)))))

-- what the rows become: sessions and dates go with their paths
pub record HaveMoved (v : Moving) (r s : Rows) : Type 0 where
  pub start : s.start ≡ r.start
  pub kernels : s.kernels ≡ map (moved_kernel v.from.path v.to.path) r.kernels
  pub dates : HasMoved v.from.path v.to.path r.dates s.dates
  pub recordings : s.recordings ≡ r.recordings

pub record IsRenamingPlan (r : Rows) (v : Moving) (is_folder : Bool) (plan : Plan) : Type 0 where
  pub change : plan.change ≡ change.Rename v.from.path v.to.path
  pub update : HaveMoved v r (updated plan.update r)
  pub answer : plan.answer ≡ shown_moved r v.from.path v.to is_folder

-- a move that was read has a plan, unless memory or the device fails
abbrev pub IsRenaming : Rows → Moving → Bool → Result Plan Refusal → Type 0
IsRenaming r v is_folder (Ok plan) = IsRenamingPlan r v is_folder plan
IsRenaming r v is_folder (Err e) = e ≡ Failed

abbrev pub IsRenamedAt : Contents → Rows → Moving → Result Plan Refusal → Type 0
IsRenamedAt m r v found = IsRenaming r v (has_folder m v.from.path) found

abbrev pub IsRenamedOf : Contents → Rows → Result Moving Refusal → Result Plan Refusal → Type 0
IsRenamedOf m r (Err e) found = found ≡ Err e
IsRenamedOf m r (Ok v) found = IsRenamedAt m r v found

-- PATCH /api/contents/{path}
abbrev pub IsRenamePlan : Contents → Rows → List ℕ → List (List ℕ) → Result Plan Refusal → Type 0
IsRenamePlan m r body segments found = (v : Result Moving Refusal) × Gives v (moving body segments r) × IsRenamedOf m r v found

abbrev pub RenamesAt : Rows → Moving → Result Plan Refusal → Contents → Contents → Type 0
RenamesAt r v result m n = Same m n × IsRenamedAt m r v result

abbrev pub Renames : Rows → List ℕ → List (List ℕ) → Result Plan Refusal → Contents → Contents → Type 0
Renames r body segments result m n = Same m n × IsRenamePlan m r body segments result
