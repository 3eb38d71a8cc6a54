-- The data that a JSON value stands for whose texts are those of the text that it was read of (the kit's json). A number that is
-- none is a float here, so that each value stands for some data.
use Rattle.std.specs.Prelude.{ℕ, List, Bool, true, ◌&&◌, if◌then◌else◌, Option, Some, None, is_some, unwrap_or}
use Rattle.json.specs.Json as json
use Rattle.json.specs.Value.{value_view, items_view, members_view}
use Rattle.json.specs.declared.value.Value.{Value}
use Rattle.std.specs.declared.alloc.Global.{Global}
use Rattle.std.specs.Borrow.{Bor}
use Rattle.serde_json.specs.Data.{Num, unsigned, float, Data, null, boolean, number, string, array, object, Items, no_items, item, Members, no_members, put}
use Rattle.serde_json.specs.Find.{is_float, to_float}
use Rattle.serde_json.specs.Read.{number_of}

abbrev pub no_number : Num
no_number = float (to_float (unsigned 0))

abbrev pub num_of : List ℕ → Num
num_of s = unwrap_or (number_of s) no_number

-- the members go in one after another, so the last value of a key stays
abbrev mutual
  pub data_of : json.Json → Data
  data_of json.null = null
  data_of (json.boolean b) = boolean b
  data_of (json.number s) = number (num_of s)
  data_of (json.string s) = string s
  data_of (json.array js) = array (items_of js)
  data_of (json.object ms) = object (members_of ms no_members)

  pub items_of : json.Items → Items
  items_of json.no_items = no_items
  items_of (json.item j js) = item (data_of j) (items_of js)

  pub members_of : json.Members → Members → Members
  members_of json.no_members found = found
  members_of (json.member k j ms) found = members_of ms (put k (data_of j) found)

-- a number that is whole
abbrev pub whole_number : Option Num → Option Num
whole_number None = None
whole_number (Some n) = if is_float n then None else Some n

-- whether each number that stands there is whole
abbrev mutual
  pub is_whole : json.Json → Bool
  is_whole json.null = true
  is_whole (json.boolean b) = true
  is_whole (json.number s) = is_some (whole_number (number_of s))
  is_whole (json.string s) = true
  is_whole (json.array js) = are_whole js
  is_whole (json.object ms) = have_whole ms

  pub are_whole : json.Items → Bool
  are_whole json.no_items = true
  are_whole (json.item j js) = is_whole j && are_whole js

  pub have_whole : json.Members → Bool
  have_whole json.no_members = true
  have_whole (json.member k j ms) = is_whole j && have_whole ms

abbrev pub data_view : Value Global → Data
data_view v = data_of (value_view v)

abbrev pub items_data : List (Value Global) → Items
items_data vs = items_of (items_view vs)

abbrev pub members_data : List (Bor (List ℕ) × Value Global) → Members → Members
members_data ms found = members_of (members_view ms) found
