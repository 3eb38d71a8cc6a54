-- To be believed.
-- The path that a request on contents is about.
use Rattle.std.specs.Prelude.{ℕ, ◌-◌, nat_eq, Bool, List, [], ◌∷◌, ◌++◌, length, take, drop, get_or, Option, Some, None, Result, Ok, Err, if◌then◌else◌}
use Rattle.std.specs.List.{list_any}
use Rattle.std.specs.Str.{is_utf8}
use Rattle.js_http.specs.declared.response.ErrorStatus.{ErrorStatus}
use Rattle.js_http.specs.declared.response.ErrorStatus.TheVariants.{BadRequest}
use Rattle.js_shelf.specs.Paths.{is_path, is_slash}
use Rattle.js_contents.specs.declared.place.Place.{Place}
use Rattle.js_tables.specs.Plans.{◌>>=◌}

-- a segment that was sent is text, is not empty, and has no slash
abbrev pub part_text : List ℕ → Option (List ℕ)
part_text part =
    if is_utf8 part then (if nat_eq (length part) 0 then None else (if list_any is_slash part then None else Some part)) else None

abbrev pub or_none : Option (List ℕ) → Result (List ℕ) ErrorStatus
or_none None = Err BadRequest
or_none (Some text) = Ok text

abbrev pub root : Place
root = record { path = []; name = [] }

-- a segment below a place
abbrev pub below : Place → List ℕ → Place
below place part = record {
  path = (if nat_eq (length place.path) 0 then place.path else place.path ++ 47 ∷ []) ++ part;
  name = part;
}

-- the place of these segments below a place
abbrev pub joined : Place → List (List ℕ) → Result Place ErrorStatus
joined place [] = Ok place
joined place (part ∷ parts) = or_none (part_text part) >>= λ text. joined (below place text) parts

-- the last segment is empty, as it is after a slash at the end
abbrev pub ends_empty : List (List ℕ) → Bool
ends_empty parts = nat_eq (length (get_or parts (length parts - 1) (47 ∷ []))) 0

abbrev pub trimmed : List (List ℕ) → List (List ℕ)
trimmed parts = if ends_empty parts then take (length parts - 1) parts else parts

-- what follows `/api/contents`
abbrev pub below_contents : List (List ℕ) → List (List ℕ)
below_contents segments = drop 3 segments

-- what stands in a folder under a name
abbrev pub child : List ℕ → List ℕ → Place
child folder name = below (record { path = folder; name = [] }) name

-- a place has a path of at most 16 good segments
abbrev pub if_path : Place → Result Place ErrorStatus
if_path place = if is_path place.path then Ok place else Err BadRequest

abbrev pub place_of : List (List ℕ) → Result Place ErrorStatus
place_of segments = joined root (trimmed (below_contents segments)) >>= if_path

-- what follows the last slash of a path, or all of it
abbrev pub name_of : List ℕ → List ℕ
name_of [] = []
name_of (byte ∷ bytes) = if list_any is_slash (byte ∷ bytes) then name_of bytes else byte ∷ bytes

-- the place of a path that a body names
abbrev pub named_place : List ℕ → Result Place ErrorStatus
named_place path = if_path (record { path = path; name = name_of path })
