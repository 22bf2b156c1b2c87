-- A text outside a grammar has no value.
use Rattle.std.proofs.Common.{◌≡◌, ℕ, List, Option, Some, None, refl}
use Rattle.cal_moment.specs.BadPlace.{IsIn, IsBadAt}
use Rattle.cal_model.specs.Values.BadValues.{Reads}

by_value : {V : Type 0} (read : List ℕ → Option V) (text : List ℕ) (found : Option V) → read text ≡ found → ¬ IsIn (Reads read) text → found ≡ None
by_value read text None is outside = refl
by_value read text (Some value) is outside = absurd (outside (value, is))

pub not_read : {V : Type 0} (read : List ℕ → Option V) (text : List ℕ) (place : ℕ) → IsBadAt (Reads read) text place → read text ≡ None
not_read read text place bad = by_value read text (read text) refl bad.outside
