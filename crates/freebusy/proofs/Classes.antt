-- The class of a second among the times of two lists is the greatest of both.
use Rattle.std.proofs.Common.{◌≡◌, List, [], ◌∷◌, ◌++◌, Option, Some, None, refl, sym, ap, ◌∙◌, ℤ}
use Rattle.std.specs.Prelude.{filter}
use Rattle.std.proofs.lemmas.List.Elements.{filter-append}
use Rattle.cal_model.specs.declared.object.Class.{Class}
use Rattle.cal_model.specs.declared.object.Class.TheVariants.{Busy, Unavailable, Tentative}
use Rattle.cal_model.specs.Busy.BusyTimes.{BusyTime}
use Rattle.cal_model.specs.Busy.BusyRuns.{class_at, covers, greater, greatest_class}

-- the greatest of two
abbrev pub join : Option Class → Option Class → Option Class
join None other = other
join (Some class) other = Some (greater class other)

greater_twice : (a b : Class) (c : Option Class) → greater a (Some (greater b c)) ≡ greater (greater a (Some b)) c
greater_twice Busy b c = refl
greater_twice Unavailable Busy c = refl
greater_twice Unavailable Unavailable None = refl
greater_twice Unavailable Unavailable (Some Busy) = refl
greater_twice Unavailable Unavailable (Some Unavailable) = refl
greater_twice Unavailable Unavailable (Some Tentative) = refl
greater_twice Unavailable Tentative None = refl
greater_twice Unavailable Tentative (Some Busy) = refl
greater_twice Unavailable Tentative (Some Unavailable) = refl
greater_twice Unavailable Tentative (Some Tentative) = refl
greater_twice Tentative b c = refl

greater_turned : (a b : Class) → greater a (Some b) ≡ greater b (Some a)
greater_turned Busy Busy = refl
greater_turned Busy Unavailable = refl
greater_turned Busy Tentative = refl
greater_turned Unavailable Busy = refl
greater_turned Unavailable Unavailable = refl
greater_turned Unavailable Tentative = refl
greater_turned Tentative Busy = refl
greater_turned Tentative Unavailable = refl
greater_turned Tentative Tentative = refl

join_twice : (a b c : Option Class) → join a (join b c) ≡ join (join a b) c
join_twice None b c = refl
join_twice (Some a) None c = by_class a c where
  by_class : (a : Class) (c : Option Class) → Some (greater a c) ≡ Some (greater (greater a None) c)
  by_class Busy c = refl
  by_class Unavailable c = refl
  by_class Tentative c = refl
join_twice (Some a) (Some b) c = ap (λ class. Some class) (greater_twice a b c)

join_turned : (a b : Option Class) → join a b ≡ join b a
join_turned None None = refl
join_turned None (Some b) = by_class b where
  by_class : (b : Class) → Some b ≡ Some (greater b None)
  by_class Busy = refl
  by_class Unavailable = refl
  by_class Tentative = refl
join_turned (Some a) None = sym (by_class a) where
  by_class : (a : Class) → Some a ≡ Some (greater a None)
  by_class Busy = refl
  by_class Unavailable = refl
  by_class Tentative = refl
join_turned (Some a) (Some b) = ap (λ class. Some class) (greater_turned a b)

pub join_swapped : (a b c : Option Class) → join a (join b c) ≡ join b (join a c)
join_swapped a b c = join_twice a b c ∙ ap (λ o. join o c) (join_turned a b) ∙ sym (join_twice b a c)

greatest-append : (xs ys : List BusyTime) → greatest_class (xs ++ ys) ≡ join (greatest_class xs) (greatest_class ys)
greatest-append [] ys = refl
greatest-append (x ∷ xs) ys = ap (λ o. Some (greater x.class o)) (greatest-append xs ys) ∙ join_twice (Some x.class) (greatest_class xs) (greatest_class ys)

pub class_at-append : (xs ys : List BusyTime) (t : ℤ) → class_at (xs ++ ys) t ≡ join (class_at xs t) (class_at ys t)
class_at-append xs ys t = ap greatest_class (filter-append (covers t) xs ys) ∙ greatest-append (filter (covers t) xs) (filter (covers t) ys)
