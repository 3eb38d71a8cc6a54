-- To be believed.
-- What a connection is sent of the entries.
use Rattle.std.specs.Prelude.{Bool, true, false, ◌&&◌, ◌||◌, ◌==◌, ℕ, if◌then◌else◌, List, [], ◌∷◌, filter}
use Rattle.jk_log.specs.declared.entry.Entry.{Entry}
use Rattle.jk_log.specs.declared.entry.Told.{Told}
use Rattle.jk_log.specs.declared.entry.Told.TheVariants.{Joined}
use Rattle.jk_log.specs.declared.entry.To.{To}
use Rattle.jk_log.specs.declared.entry.To.TheVariants.{All, Seat, Nobody}

abbrev pub tells_join : ℕ → ℕ → Told → Bool
tells_join seat number (Joined s n) = s == seat && n == number
tells_join seat number other = false

-- the entry is that seat's Join of that number
abbrev pub is_join : ℕ → ℕ → Entry → Bool
is_join seat number e = tells_join seat number e.content

-- whether the Join stands among the entries
abbrev pub has_joined : ℕ → ℕ → List Entry → Bool
has_joined seat number [] = false
has_joined seat number (e ∷ es) = is_join seat number e || has_joined seat number es

-- the entries after the Join
abbrev pub after_join : ℕ → ℕ → List Entry → List Entry
after_join seat number [] = []
after_join seat number (e ∷ es) = if is_join seat number e then es else after_join seat number es

abbrev pub goes_to : ℕ → To → Bool
goes_to seat All = true
goes_to seat (Seat s) = s == seat
goes_to seat Nobody = false

-- those that go to all or to a seat
abbrev pub for_seat : ℕ → List Entry → List Entry
for_seat seat entries = filter (λ (e : Entry). goes_to seat e.to) entries

-- the entries after that seat's Join of that number that go to all or to it
abbrev pub view : List Entry → ℕ → ℕ → List Entry
view entries seat number = for_seat seat (after_join seat number entries)

-- the part that more entries give, by whether the Join stands before them
abbrev pub part : Bool → List Entry → ℕ → ℕ → List Entry
part joined more seat number = if joined then for_seat seat more else view more seat number
