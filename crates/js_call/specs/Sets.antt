-- Of two lists of requests there is one proof at most that they are equal.
use Rattle.std.specs.Prelude.{◌≡◌, List}
use Rattle.std.specs.Coded.{Coded-set, coded_list}
use Rattle.js_http.specs.contracts.request.Request as request
use Rattle.js_http.specs.declared.request.Request.{Request}

abbrev pub same_requests : (xs ys : List Request) → IsProp (xs ≡ ys)
same_requests xs ys = Coded-set (coded_list request.the_row.coded) xs ys
