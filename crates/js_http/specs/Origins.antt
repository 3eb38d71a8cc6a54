-- To be believed.
-- Whose requests are answered: those that name this machine, and that come from no page or from one of this server's.
-- Addresses that begin with 127 are this machine's (RFC 1122, section 3.2.1.3), and so are names in localhost (RFC 6761,
-- section 6.3). What stands elsewhere has a name with a dot, also where somebody leads that name to this machine.
use Rattle.std.specs.Prelude.{ℕ, ◌-◌, ◌==◌, List, [], ◌∷◌, ◌++◌, Bool, true, false, ◌&&◌, ◌||◌, nat_le, Option, Some, None, length, take, drop, codes}
use Rattle.std.specs.List.{list_all, before_first, after_first}
use Rattle.std.specs.Char.{is_ascii_alphanumeric, is_ascii_digit}
use Rattle.std.specs.Str.{bytes_eq}
use Rattle.std.specs.Str.Parse.{digits_value}
use Rattle.js_http.specs.declared.header.Header.{Header}
use Rattle.js_http.specs.Framing.{is_number}
use Rattle.js_http.specs.Headers.{is_same_name, values_of, first_of}

abbrev pub is_dot : ℕ → Bool
is_dot byte = byte == 46

abbrev pub is_colon : ℕ → Bool
is_colon byte = byte == 58

-- a number from 0 to 255
abbrev pub is_octet : List ℕ → Bool
is_octet text = is_number text && nat_le (digits_value 10 text) 255

-- two of them with a dot between, and three
abbrev pub are_two_octets : List ℕ → Bool
are_two_octets text = is_octet (before_first is_dot text) && is_octet (after_first is_dot text)

abbrev pub are_three_octets : List ℕ → Bool
are_three_octets text = is_octet (before_first is_dot text) && are_two_octets (after_first is_dot text)

-- an address of four numbers, of which the first is 127
abbrev pub is_loopback : List ℕ → Bool
is_loopback name = bytes_eq (before_first is_dot name) (codes "127") && are_three_octets (after_first is_dot name)

-- a letter, a digit, - or _
abbrev pub is_name_byte : ℕ → Bool
is_name_byte byte = is_ascii_alphanumeric byte || (byte == 45 || byte == 95)

-- a name without a dot, or nothing
abbrev pub is_short_name : List ℕ → Bool
is_short_name name = list_all is_name_byte name

-- a name in localhost, in any case of letters
abbrev pub is_in_localhost : List ℕ → Bool
is_in_localhost name = is_same_name (drop (length name - 10) name) (codes ".localhost")

abbrev pub is_own_name : List ℕ → Bool
is_own_name name = is_short_name name || (is_loopback name || is_in_localhost name)

-- nothing, or a colon and a number
abbrev pub is_port : List ℕ → Bool
is_port [] = true
is_port (byte ∷ digits) = is_colon byte && list_all is_ascii_digit digits

-- a name of this machine, or its address of four numbers, and then a port or none
abbrev pub is_named_host : List ℕ → Bool
is_named_host host =
    is_own_name (before_first is_colon host) && list_all is_ascii_digit (after_first is_colon host)

-- its other address in brackets, and then a port or none
abbrev pub is_bracketed_host : List ℕ → Bool
is_bracketed_host host = bytes_eq (take 5 host) (codes "[::1]") && is_port (drop 5 host)

-- a value of Host that names this machine
abbrev pub is_own_host : List ℕ → Bool
is_own_host host = is_named_host host || is_bracketed_host host

-- a value of Origin for a page that came from that host of this server
abbrev pub is_own_origin : Option (List ℕ) → List ℕ → Bool
is_own_origin None origin = false
is_own_origin (Some host) origin = bytes_eq origin (codes "http://" ++ host)

-- there is no first value, or it passes and the others are the same
abbrev pub passes : (List ℕ → Bool) → Option (List ℕ) → List (List ℕ) → Bool
passes test None values = true
passes test (Some first) values = test first && list_all (λ value. bytes_eq value first) values

-- the header lines are those of a request that is answered
unfoldable pub is_own : List Header → Bool
is_own lines =
    let hosts = values_of (codes "host") lines in
    let origins = values_of (codes "origin") lines in
    passes is_own_host (first_of hosts) hosts && passes (is_own_origin (first_of hosts)) (first_of origins) origins
