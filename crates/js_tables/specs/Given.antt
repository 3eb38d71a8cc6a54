-- To be believed.
-- Identifiers and the date from what is handed in.
use Rattle.std.specs.Prelude.{◌≡◌, ℕ, ◌+◌, ◌*◌, ◌^◌, List}
use Rattle.std.specs.Int.{w128, to_be_bytes}
use Rattle.uuid.specs.Text.{hyphenated_text, lower}
use Rattle.uuid.specs.Parts.{with_version, with_variant}
use Rattle.uuid.specs.declared.Variant.TheVariants.{RFC4122}
use Rattle.uuid.specs.declared.Version.TheVariants.{Random}
use Rattle.js_tables.specs.declared.given.Given.{Given}
use Rattle.js_tables.specs.Moments.{IsDate}

-- the identifier of version 4 from two random words (RFC 9562)
unfoldable pub id_of : ℕ → ℕ → List ℕ
id_of high low =
    hyphenated_text lower (with_version (with_variant (to_be_bytes w128 (high * 2 ^ 64 + low)) RFC4122) Random)

abbrev pub first_id : Given → List ℕ
first_id given = id_of given.first given.second

abbrev pub second_id : Given → List ℕ
second_id given = id_of given.third given.fourth

-- the date of that moment, and those words
pub record IsGiven (moment first second third fourth : ℕ) (given : Given) : Type 0 where
  pub date : IsDate moment given.date
  pub first_is : given.first ≡ first
  pub second_is : given.second ≡ second
  pub third_is : given.third ≡ third
  pub fourth_is : given.fourth ≡ fourth
