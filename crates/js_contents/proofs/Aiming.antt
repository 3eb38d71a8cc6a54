-- What a GET comes to: a plan, or a file that is still to be shown.
use Rattle.std.proofs.Common.{◌≡◌, ℕ, List, Option, Result, Ok, Err, inl, inr, refl, ap, sym, subst, ◌∙◌}
use Rattle.js_http.specs.declared.request.Request.{Request}
use Rattle.js_http.specs.declared.response.ErrorStatus.{ErrorStatus}
use Rattle.js_shelf.specs.declared.item.Item.{Item}
use Rattle.js_shelf.specs.declared.item.Item.TheVariants as item
use Rattle.js_shelf.specs.declared.opened.Opening.{Opening}
use Rattle.js_shelf.specs.declared.opened.Opening.TheVariants.{File, Folder}
use Rattle.js_shelf.specs.Openings.{MayGive, IsOpening}
use Rattle.js_shelf.specs.Shelves.{Contents, Tells}
use Rattle.js_tables.specs.declared.forms.About.{About}
use Rattle.js_tables.specs.declared.plan.Plan.{Plan}
use Rattle.js_tables.specs.declared.refusal.Refusal.{Refusal}
use Rattle.js_tables.specs.declared.refusal.Refusal.TheVariants.{Status, Failed}
use Rattle.js_tables.specs.Plans.{◌>>=◌, Fails, Gives}
use Rattle.js_tables.specs.Tables.{Rows}
use Rattle.js_contents.specs.declared.read.Aim.{Aim}
use Rattle.js_contents.specs.declared.read.Aim.TheVariants as aim
use Rattle.js_contents.specs.declared.read.Seen.{Seen}
use Rattle.js_contents.specs.Looks.{item_at, OpensAt}
use Rattle.js_contents.specs.Reads.{item_plan, read_file, IsOpenedPlan, IsFolderPlan, IsSeenPlan, IsReadPlan, planned, Comes, Sees, ShowsFolder, AimsAtFile, AimsAtFolder, AimsAtSeen, AimsAt}
use Rattle.js_contents.proofs.Telling.{tells_weaker, same_is}

-- ---- what is to be done, and conditions on what is found

pub comes_planned : (P : Result Plan Refusal → Type 0) (found : Result Plan Refusal) (done : Result Aim Refusal) → done ≡ planned found → P found → Comes P done
comes_planned P (Ok plan) done e h = subst (Comes P) (sym e) h
comes_planned P (Err refusal) done e h = subst (Comes P) (sym e) h

pub comes_weaker : (P Q : Result Plan Refusal → Type 0) (done : Result Aim Refusal) → ((found : Result Plan Refusal) → P found → Q found) → Comes P done → Comes Q done
comes_weaker P Q (Ok (aim.Plan plan)) f h = f (Ok plan) h
comes_weaker P Q (Ok (aim.File about opening)) f h = λ found g. f found (h found g)
comes_weaker P Q (Err refusal) f h = f (Err refusal) h

-- ---- a file

later : {X Y : Type 0} (e : Refusal) (form : Result X ErrorStatus) (f : X → Result Y ErrorStatus) → Fails e form → Fails e (form >>= f)
later (Status s) form f h = ap (λ r. r >>= f) h
later Failed form f h = tt

-- a reading gives what was opened
read_is : (opening : Opening) (x read : Item) → IsOpening opening x → MayGive opening read → read ≡ x
read_is (File opened) (item.File bytes) (item.File read) h g = ap item.File (h read g)
read_is (File opened) (item.File bytes) item.Folder h g = absurd g
read_is (File opened) item.Folder read h g = absurd h
read_is Folder (item.File bytes) read h g = absurd h
read_is Folder item.Folder (item.File read) h g = absurd g
read_is Folder item.Folder item.Folder h g = refl

-- what comes of a file that was opened is what is shown of what stands there
opened_is : (m : Contents) (about : About) (opening : Opening) (x : Item) (found : Result Plan Refusal) → item_at m about.path ≡ Ok x → IsOpening opening x
    → IsOpenedPlan about opening found → Gives found (read_file m about)
opened_is m about opening x found e h (inl failed) = subst (λ (f : Result Plan Refusal). Gives f (read_file m about)) (sym failed) tt
opened_is m about opening x found e h (inr g) =
    let form : read_file m about ≡ item_plan about g.0 = ap (λ (r : Result Item ErrorStatus). r >>= item_plan about) (e ∙ ap Ok (sym (read_is opening x g.0 h g.1))) in
    subst (Gives found) (sym form) g.2

pub file_aimed : (c d : Option Contents) (about : About) (path : List ℕ) (opening : Opening) → path ≡ about.path → Tells c d (OpensAt path (Ok opening))
    → Tells c d (AimsAtFile about (Ok (aim.File about opening)))
file_aimed c d about path opening same h =
    tells_weaker c d (OpensAt path (Ok opening)) (AimsAtFile about (Ok (aim.File about opening)))
    (λ m n j. (j.0, (λ found g. opened_is m about opening j.1.0 found (ap (item_at m) (sym same) ∙ j.1.1) j.1.2 g))) h

pub file_refused : (c d : Option Contents) (about : About) (path : List ℕ) (e : Refusal) → path ≡ about.path → Tells c d (OpensAt path (Err e)) → Tells c d (AimsAtFile about (Err e))
file_refused c d about path e same h =
    tells_weaker c d (OpensAt path (Err e)) (AimsAtFile about (Err e))
    (λ m n j. (j.0, later e (item_at m about.path) (item_plan about) (subst (λ p. Fails e (item_at m p)) same j.1))) h

-- ---- a folder, and all that may be seen

pub folder_aimed : (c d : Option Contents) (r : Rows) (about : About) (found : Result Plan Refusal) (done : Result Aim Refusal) → done ≡ planned found
    → Tells c d (ShowsFolder r about found) → Tells c d (AimsAtFolder r about done)
folder_aimed c d r about found done e h =
    tells_weaker c d (ShowsFolder r about found) (AimsAtFolder r about done) (λ m n j. (j.0, comes_planned (IsFolderPlan m r about) found done e j.1)) h

pub aim_ok : (r : Rows) (request : Request) (segments : List (List ℕ)) (seen : Seen) (done : Result Aim Refusal) (m k n : Contents)
    → Sees r request segments (Ok seen) m k → AimsAtSeen r seen done k n → AimsAt r request segments done m n
aim_ok r request segments seen done m k n h j =
    let moved : AimsAtSeen r seen done m n = subst (λ x. AimsAtSeen r seen done x n) (same_is m k h.0) j in
    (moved.0, comes_weaker (IsSeenPlan m r seen) (IsReadPlan m r request segments) done (λ found p. (Ok seen, h.1, p)) moved.1)
