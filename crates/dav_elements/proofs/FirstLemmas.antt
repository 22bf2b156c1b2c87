-- The first of some elements, lent if there is one.
use Rattle.std.proofs.Common.{◌≡◌, Bool, true, false, not, List, [], ◌∷◌, take, Option, Some, None, is_none, refl, sym, ap}
use Rattle.std.specs.Borrow.{Bor}
use Rattle.std.specs.Option.{option_copied, option_to_list}
use Rattle.cal_model.specs.Words.Lists.{is_empty}
use Rattle.cal_model.proofs.Bodies.SoundReportLaws.{some_not_empty}

pub some_from_first : {X : Type 0} (x : X) (xs : List X) → (x ∷ []) ≡ take 1 xs → not (is_empty xs) ≡ true
some_from_first x [] e = absurd cc
some_from_first x (y ∷ ys) e = some_not_empty y ys

pub none_from_first : {X : Type 0} (xs : List X) → [] ≡ take 1 xs → xs ≡ []
none_from_first [] e = refl
none_from_first (y ∷ ys) e = absurd cc

pub is_none_first : {X : Type 0} (found : Option (Bor X)) (xs : List X) → option_to_list (option_copied found) ≡ take 1 xs → is_none found ≡ is_empty xs
is_none_first None xs e = sym (ap is_empty (none_from_first xs e))
is_none_first (Some x) xs e = turned (is_empty xs) (some_from_first x.now xs e)
  where
    turned : (b : Bool) → not b ≡ true → false ≡ b
    turned true h = absurd cc
    turned false h = refl
