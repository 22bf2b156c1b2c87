-- What is put behind others item by item, and what is found in a list that is made of two or of items that are made alike.
use Rattle.std.proofs.Common.{◌≡◌, Bool, true, false, List, [], ◌∷◌, ◌++◌, map, refl, ap, ◌∙◌, append_assoc}
use Rattle.std.specs.Prelude.{if◌then◌else◌, find, Option, Some, None, option_map}
use Rattle.cal_base.specs.Lines.ComponentTrees.{or_else}

-- of what was put behind others, and what is still to come
pub gathered : {Y : Type 0} (before after now rest whole : List Y) → after ≡ before ++ now → before ++ (now ++ rest) ≡ whole → after ++ rest ≡ whole
gathered before after now rest whole more is = ap (λ ys. ys ++ rest) more ∙ (append_assoc before now rest ∙ is)

-- what is found

pub or_else_assoc : {X : Type 0} (a b c : Option X) → or_else (or_else a b) c ≡ or_else a (or_else b c)
or_else_assoc None b c = refl
or_else_assoc (Some x) b c = refl

append_step : {X : Type 0} (p : X → Bool) (x : X) (xs ys : List X) (b : Bool) → find p (xs ++ ys) ≡ or_else (find p xs) (find p ys) →
    (if b then Some x else find p (xs ++ ys)) ≡ or_else (if b then Some x else find p xs) (find p ys)
append_step p x xs ys true on = refl
append_step p x xs ys false on = on

pub find-append : {X : Type 0} (p : X → Bool) (xs ys : List X) → find p (xs ++ ys) ≡ or_else (find p xs) (find p ys)
find-append p [] ys = refl
find-append p (x ∷ xs) ys = append_step p x xs ys (p x) (find-append p xs ys)

map_step : {X Y : Type 0} (p : Y → Bool) (q : X → Bool) (f : X → Y) (x : X) (xs : List X) (b : Bool) → find p (map f xs) ≡ option_map f (find q xs) →
    (if b then Some (f x) else find p (map f xs)) ≡ option_map f (if b then Some x else find q xs)
map_step p q f x xs true on = refl
map_step p q f x xs false on = on

-- of items that are made alike
pub find-map : {X Y : Type 0} (p : Y → Bool) (q : X → Bool) (f : X → Y) → ((x : X) → p (f x) ≡ q x) → (xs : List X) → find p (map f xs) ≡ option_map f (find q xs)
find-map p q f same [] = refl
find-map p q f same (x ∷ xs) = ap (λ b. if b then Some (f x) else find p (map f xs)) (same x) ∙ map_step p q f x xs (q x) (find-map p q f same xs)
