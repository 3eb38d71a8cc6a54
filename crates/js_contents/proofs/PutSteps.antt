-- The steps of a PUT.
use Rattle.std.proofs.Common.{◌≡◌, ℕ, List, Bool, Option, Result, Ok, Err, ap, ◌∙◌, sym, subst}
use Rattle.std.specs.Prelude.{is_some}
use Rattle.js_http.specs.declared.response.ErrorStatus.{ErrorStatus}
use Rattle.js_shelf.specs.declared.item.ItemKind.{ItemKind}
use Rattle.js_shelf.specs.Shelves.{Contents}
use Rattle.js_tables.specs.declared.given.Given.{Given}
use Rattle.js_tables.specs.declared.plan.Plan.{Plan}
use Rattle.js_tables.specs.declared.refusal.Refusal.{Refusal}
use Rattle.js_tables.specs.declared.refusal.Refusal.TheVariants.{Status, Failed}
use Rattle.js_tables.specs.Plans.{◌>>=◌, Fails, Gives}
use Rattle.js_tables.specs.Tables.{Rows}
use Rattle.js_contents.specs.declared.place.Place.{Place}
use Rattle.js_contents.specs.declared.put.Putting.{Putting}
use Rattle.js_contents.specs.declared.put.PutBody.{PutBody}
use Rattle.js_contents.specs.declared.put.Ready.{Ready}
use Rattle.js_contents.specs.Looks.{present_at, Presents}
use Rattle.js_contents.specs.Places.{place_of}
use Rattle.js_contents.specs.Puts.{put_body, fitted, ready_put}
use Rattle.js_contents.specs.Stores.{put_over, put_at, PutsAt}

-- the same body with what fits the path
abbrev pub with_putting : PutBody → Putting → PutBody
with_putting body p = record { putting = p; last_modified = body.last_modified }

abbrev pub ready_with : Place → PutBody → Putting → Result Ready ErrorStatus
ready_with place body p = Ok (record { place = place; body = with_putting body p })

pub ready_found : (text : List ℕ) (segments : List (List ℕ)) (b : PutBody) (q p : Putting) (place : Place) (name : List ℕ)
    → put_body text ≡ Ok b → place_of segments ≡ Ok place → name ≡ place.name → fitted name b.putting ≡ Ok q → p ≡ q → ready_put text segments ≡ ready_with place b p
ready_found text segments b q p place name e f same h w =
    ap (λ (x : Result PutBody ErrorStatus). x >>= λ b. (place_of segments >>= λ place. (fitted place.name b.putting >>= λ q. ready_with place b q))) e
    ∙ ap (λ (x : Result Place ErrorStatus). x >>= λ place. (fitted place.name b.putting >>= λ q. ready_with place b q)) f
    ∙ ap (λ (x : Result Putting ErrorStatus). x >>= λ q. ready_with place b q) (ap (λ t. fitted t b.putting) (sym same) ∙ h)
    ∙ ap (ready_with place b) (sym w)

-- a put after a look at its place
present_steps : (m : Contents) (r : Rows) (given : Given) (body : PutBody) (place : Place) (item : Option ItemKind)
    → present_at m place.path ≡ Ok item → put_at m r given body place ≡ put_over r given body place (is_some item)
present_steps m r given body place item e =
    ap (λ (x : Result (Option ItemKind) ErrorStatus). x >>= λ item. put_over r given body place (is_some item)) e

pub puts_at_after : (r : Rows) (given : Given) (body : PutBody) (place : Place) (path : List ℕ) (item : Option ItemKind) (is_there : Bool) (found : Result Plan Refusal)
    → path ≡ place.path → is_there ≡ is_some item → Gives found (put_over r given body place is_there)
    → (m n : Contents) → Presents path (Ok item) m n → PutsAt r given body place found m n
puts_at_after r given body place path item is_there found same there h m n j = (
  j.0,
  subst (Gives found) (ap (put_over r given body place) there ∙ sym (present_steps m r given body place item (ap (present_at m) (sym same) ∙ j.1))) h,
)

-- a refusal of one step is the refusal of all
refuses_later : {X Y : Type 0} (e : Refusal) (form : Result X ErrorStatus) (f : X → Result Y ErrorStatus) → Fails e form → Fails e (form >>= f)
refuses_later (Status s) form f h = ap (λ r. r >>= f) h
refuses_later Failed form f h = tt

pub puts_at_refused : (r : Rows) (given : Given) (body : PutBody) (place : Place) (path : List ℕ) (e : Refusal) → path ≡ place.path
    → (m n : Contents) → Presents path (Err e) m n → PutsAt r given body place (Err e) m n
puts_at_refused r given body place path e same m n j =
    (j.0, refuses_later e (present_at m place.path) (λ item. put_over r given body place (is_some item)) (subst (λ p. Fails e (present_at m p)) same j.1))
