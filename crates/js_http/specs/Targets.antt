-- To be believed.
-- The parts of a request target: the segments of its path (RFC 3986, section 3.3) and the fields of its query
-- (the form that browsers send, `application/x-www-form-urlencoded` of the URL Standard).
use Rattle.std.specs.Prelude.{ℕ, ◌==◌, List, [], ◌∷◌, Option, Some, None, map, if◌then◌else◌}
use Rattle.std.specs.List.{slice_split}
use Rattle.std.specs.Str.{bytes_eq}
use Rattle.std.specs.Str.Lossy.{utf8_lossy}
use Rattle.percent_encoding.specs.Percent.{percent_decode}
use Rattle.form_urlencoded.specs.Form.{raw_pairs, decode}

-- the pieces of a path between its slashes, each with its escapes read; there is one at least
abbrev pub segments_of : List ℕ → List (List ℕ)
segments_of path = map percent_decode (slice_split (λ byte. byte == 47) path)

-- the text that a name or a value of a query stands for
abbrev pub query_text : List ℕ → List ℕ
query_text bytes = utf8_lossy (decode bytes)

-- the first value, or else the second
abbrev pub or_else : Option (List ℕ) → Option (List ℕ) → Option (List ℕ)
or_else None y = y
or_else (Some x) y = Some x

-- the value of the last of the pairs whose name is that text
abbrev pub last_value : List ℕ → List (List ℕ × List ℕ) → Option (List ℕ)
last_value name [] = None
last_value name (pair ∷ pairs) =
    or_else (last_value name pairs) (if bytes_eq (query_text pair.0) name then Some (query_text pair.1) else None)

-- the value that a query gives to a name
abbrev pub query_value : List ℕ → List ℕ → Option (List ℕ)
query_value query name = last_value name (raw_pairs query)
