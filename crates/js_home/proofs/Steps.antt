-- What several steps of a home come to.
use Rattle.std.proofs.Common.{◌<◌, ℕ, List, [], ◌∷◌, ◌++◌, length, slice_index_or, sym, ap, ◌∙◌, subst}
use Rattle.std.specs.List.{remove}
use Rattle.js_home.specs.Homes.{IsSame, TakesBackAt, lent_of}
use Rattle.js_home.specs.declared.free.Free.{Free}
use Rattle.js_home.specs.declared.home.Home.{Home}

module _ {L S T M : Type 0} where
  pub same_on : (old mid new : Home L S T M) → IsSame old mid → IsSame mid new → IsSame old new
  same_on old mid new a b = (b.0 ∙ a.0, (b.1.0 ∙ a.1.0, b.1.1 ∙ a.1.1))

  pub low_in : (old mid : Home L S T M) (place : ℕ) → IsSame old mid → place < length (lent_of old) → place < length (lent_of mid)
  low_in old mid place same low = subst (λ (l : List (Free L S T M)). place < length l) (sym same.1.1) low

  pub taken_after : (old mid new : Home L S T M) (place : ℕ) → IsSame old mid → TakesBackAt place mid new → TakesBackAt place old new
  taken_after old mid new place same t = record {
    was = t.was;
    now = t.now;
    low = subst (λ (l : List (Free L S T M)). place < length l) same.1.1 t.low;
    lent = t.lent ∙ ap (λ (l : List (Free L S T M)). slice_index_or l place t.was) same.1.1;
    served = t.served;
    free = t.free ∙ ap (λ (l : List (Free L S T M)). l ++ t.now ∷ []) same.1.0;
    others = t.others ∙ ap (λ (l : List (Free L S T M)). remove l place) same.1.1;
    zero = t.zero ∙ same.0;
  }
