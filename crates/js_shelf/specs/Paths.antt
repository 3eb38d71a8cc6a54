-- To be believed.
-- Paths: texts of segments with a slash between two. The empty text is the root.
use Rattle.std.specs.Prelude.{ℕ, ◌==◌, nat_le, Bool, true, false, not, ◌&&◌, List, [], ◌∷◌, ◌++◌, length, if◌then◌else◌, Option, Some, None, codes}
use Rattle.std.specs.List.{list_all, list_any, slice_split}
use Rattle.std.specs.Str.{bytes_eq}

-- the slash
abbrev pub is_slash : ℕ → Bool
is_slash byte = byte == 47

-- the segments of a path that is not the root
abbrev pub segments : List ℕ → List (List ℕ)
segments path = slice_split is_slash path

-- a byte of a segment: no backslash, and of no character below U+0020
abbrev pub is_plain : ℕ → Bool
is_plain byte = nat_le 32 byte && not (byte == 92)

-- a segment: 1 to 255 plain bytes, and neither `.` nor `..`
abbrev pub is_segment : List ℕ → Bool
is_segment segment =
    nat_le 1 (length segment) && nat_le (length segment) 255 && list_all is_plain segment
    && not (bytes_eq segment (codes ".")) && not (bytes_eq segment (codes ".."))

-- the root, or at most 16 segments
abbrev pub is_path : List ℕ → Bool
is_path [] = true
is_path (byte ∷ bytes) =
    nat_le (length (segments (byte ∷ bytes))) 16 && list_all is_segment (segments (byte ∷ bytes))

abbrev pub is_root : List ℕ → Bool
is_root [] = true
is_root (byte ∷ bytes) = false

-- the path of the folder that a path stands in: what stands before its last slash, or the root
abbrev pub parent_of : List ℕ → List ℕ
parent_of [] = []
parent_of (byte ∷ bytes) = if list_any is_slash bytes then byte ∷ parent_of bytes else []

-- what follows a front of a text
abbrev pub behind : List ℕ → List ℕ → Option (List ℕ)
behind [] text = Some text
behind (byte ∷ front) [] = None
behind (byte ∷ front) (c ∷ text) = if byte == c then behind front text else None

-- nothing, or a slash and more
abbrev pub goes_down : List ℕ → Bool
goes_down [] = true
goes_down (byte ∷ bytes) = is_slash byte

abbrev pub only_if : (List ℕ → Bool) → Option (List ℕ) → Option (List ℕ)
only_if test None = None
only_if test (Some text) = if test text then Some text else None

-- what follows the path `top` in a path that is `top` or stands below it
abbrev pub following : List ℕ → List ℕ → Option (List ℕ)
following top path = only_if goes_down (behind top path)

-- where a path goes when `from`, and what stands below it, goes to `to`, by what follows `from` and `to` in it:
-- what stood at `to` or below it goes nowhere, and all else stays
abbrev pub goes_by : List ℕ → List ℕ → Option (List ℕ) → Option (List ℕ) → Option (List ℕ)
goes_by to path (Some rest) other = Some (to ++ rest)
goes_by to path None (Some rest) = None
goes_by to path None None = Some path

abbrev pub goes : List ℕ → List ℕ → List ℕ → Option (List ℕ)
goes from to path = goes_by to path (following from path) (following to path)

-- a name has no slash, and is not empty
abbrev pub is_name : List ℕ → Bool
is_name [] = false
is_name (byte ∷ bytes) = not (list_any is_slash (byte ∷ bytes))

-- what follows a slash
abbrev pub after_slash : Option (List ℕ) → Option (List ℕ)
after_slash None = None
after_slash (Some text) = behind (47 ∷ []) text

-- the name of a path that stands directly in that folder
abbrev pub name_in : List ℕ → List ℕ → Option (List ℕ)
name_in [] path = only_if is_name (Some path)
name_in (byte ∷ folder) path = only_if is_name (after_slash (behind (byte ∷ folder) path))
