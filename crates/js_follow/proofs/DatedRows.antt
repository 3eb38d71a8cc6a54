-- What a save does to the date of its file, and that it was tried.
use Rattle.std.proofs.Common.{◌≡◌, ℕ, List, Result, Ok, Err, true, false, refl}
use Rattle.std.specs.Result.{is_ok}
use Rattle.js_shelf.specs.declared.item.ShelfRefusal.{ShelfRefusal}
use Rattle.js_tables.specs.Tables.{Rows, set_date}
use Rattle.js_follow.specs.Following.{dated, was_tried}

pub dated_where_saved : (result : Result (Unit {0}) ShelfRefusal) (path date : List ℕ) (r : Rows) → is_ok result ≡ true → dated result path date r ≡ set_date path date r
dated_where_saved (Ok done) path date r h = refl
dated_where_saved (Err e) path date r h = cc

pub undated_where_refused : (result : Result (Unit {0}) ShelfRefusal) (path date : List ℕ) (r : Rows) → is_ok result ≡ false → dated result path date r ≡ r
undated_where_refused (Ok done) path date r h = cc
undated_where_refused (Err e) path date r h = refl

pub tried_where_saved : (result : Result (Unit {0}) ShelfRefusal) → is_ok result ≡ true → true ≡ was_tried result
tried_where_saved (Ok done) h = refl
tried_where_saved (Err e) h = cc
