-- Steps over a shelf that is only read.
use Rattle.std.proofs.Common.{ℕ, List, Bool, Some, None, Result, Ok, Err, refl, subst}
use Rattle.js_shelf.specs.Shelves.{Contents}
use Rattle.js_contents.specs.Looks.{HasNames, HasFolder}
use Rattle.js_tables.specs.declared.given.Given.{Given}
use Rattle.js_tables.specs.declared.plan.Plan.{Plan}
use Rattle.js_tables.specs.declared.refusal.Refusal.{Refusal}
use Rattle.js_tables.specs.declared.refusal.Refusal.TheVariants.{Failed}
use Rattle.js_tables.specs.Plans.{Gives}
use Rattle.js_tables.specs.Tables.{Rows}
use Rattle.js_names.specs.declared.untitled.Making.{Making}
use Rattle.js_names.specs.declared.moves.Moving.{Moving}
use Rattle.js_names.specs.Untitled.{made, making, Makes, MakesUntitled}
use Rattle.js_names.specs.Moves.{moving, IsRenaming, RenamesAt, Renames}

pub made_after : (r : Rows) (given : Given) (v : Making) (names : List (List ℕ)) (found : Result Plan Refusal) → Gives found (made r given v names)
    → (m n : Contents) → HasNames v.folder (Ok names) m n → Makes r given v found m n
made_after r given v names found h m n j = (j.0, (Ok names, j.1, h))

pub none_made : (r : Rows) (given : Given) (v : Making) (refusal : Refusal) (m n : Contents) → HasNames v.folder (Err refusal) m n → Makes r given v (Err refusal) m n
none_made r given v refusal m n j = (j.0, (Err refusal, j.1, refl))

pub untitled_after : (r : Rows) (given : Given) (body : List ℕ) (segments : List (List ℕ)) (v : Making) (found : Result Plan Refusal) → Gives (Ok v) (making body segments)
    → (m n : Contents) → Makes r given v found m n → MakesUntitled r given body segments found m n
untitled_after r given body segments v found h m n j = (j.0, (Ok v, h, j.1))

pub renames_after : (r : Rows) (v : Moving) (found : Result Plan Refusal) (is_folder : Bool) → IsRenaming r v is_folder found
    → (m n : Contents) → HasFolder v.from.path (Some is_folder) m n → RenamesAt r v found m n
renames_after r v found is_folder h m n j = (j.0, subst (λ b. IsRenaming r v b found) j.1 h)

-- there was no look
pub none_renamed : (r : Rows) (v : Moving) (m n : Contents) → HasFolder v.from.path None m n → RenamesAt r v (Err Failed) m n
none_renamed r v m n j = (j.0, refl)

pub rename_after : (r : Rows) (body : List ℕ) (segments : List (List ℕ)) (v : Moving) (found : Result Plan Refusal) → Gives (Ok v) (moving body segments r)
    → (m n : Contents) → RenamesAt r v found m n → Renames r body segments found m n
rename_after r body segments v found h m n j = (j.0, (Ok v, h, j.1))
