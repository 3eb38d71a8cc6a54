-- Of two lists of arrivals, and of two lists of entries, there is one proof at most that they are equal.
use Rattle.std.specs.Prelude.{◌≡◌, List}
use Rattle.std.specs.Coded.{Coded-set, coded_list}
use Rattle.jk_log.specs.declared.arrival.Arrival.{Arrival}
use Rattle.jk_log.specs.declared.entry.Entry.{Entry}
use Rattle.jk_log.specs.contracts.arrival.Arrival as arrival
use Rattle.jk_log.specs.contracts.entry.Entry as entry

abbrev pub same_arrivals : (xs ys : List Arrival) → IsProp (xs ≡ ys)
same_arrivals xs ys = Coded-set (coded_list arrival.the_row.coded) xs ys

abbrev pub same_entries : (xs ys : List Entry) → IsProp (xs ≡ ys)
same_entries xs ys = Coded-set (coded_list entry.the_row.coded) xs ys
