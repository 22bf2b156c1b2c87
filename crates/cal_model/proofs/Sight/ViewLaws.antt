-- A view holds no more and no less than what two states that look alike have in common.
use Rattle.std.proofs.Common.{◌≡◌, ℕ, ◌+◌, Bool, true, false, List, [], ◌∷◌, map, Option, Some, None, refl, sym, ap, ◌∙◌, arith}
use Rattle.std.specs.Prelude.{ℤ, ◌≤ℤ◌, int_le, unwrap_or, is_some}
use Rattle.std.specs.List.{AllZip, enumerate_from}
use Rattle.std.proofs.lemmas.Bool.{false≢true, and_from}
use Rattle.std.proofs.lemmas.Int.{ints}
use Rattle.cal_base.specs.Lists.NameMap.{Named}
use Rattle.cal_model.specs.Words.Limits.{first_date, last_date}
use Rattle.cal_model.specs.Access.Privileges.{has_all, read, read_acl, read_free_busy}
use Rattle.cal_model.specs.State.ServerState.{Directory, Calendar, Home, ServerState}
use Rattle.cal_model.specs.Sight.Views.{contents_of, busy_class, is_served, served_class, Sight, only_where, sight_of, visible_calendars, home_by, seen_by}
use Rattle.cal_model.specs.Sight.LookingAlike.{CalendarsLookAlike, EntriesLookAlike, HomesLookAlike, LookAlike}
use Rattle.cal_model.specs.Sight.SightLaws.{ViewsDecide}
use Rattle.cal_model.proofs.Sight.LookingAlikeLaws.{seen_by-LookAlike}

is_there : {X : Type 0} (x : X) → Some x ≡ None → ⊥
is_there x e = false≢true (sym (ap is_some e))

value_or : {X : Type 0} → X → Option X → X
value_or other o = unwrap_or o other

-- what is shown in both is the same
shown-same : {X : Type 0} (shown shown' : Bool) (x y : X) → shown ≡ shown' → only_where shown x ≡ only_where shown' y → shown ≡ true → x ≡ y
unfolding value_or
shown-same true true x y s e t = ap (value_or x) e
shown-same true false x y s e t = absurd (is_there x e)
shown-same false shown' x y s e t = absurd (false≢true t)

is_served-true : (t : ℤ) → first_date ≤ℤ t → t ≤ℤ last_date → is_served t ≡ true
is_served-true t a b = and_from (int_le first_date t) (int_le t last_date) (grind (arith, ints)) (grind (arith, ints))

pub class_served : (calendar : Calendar) (t : ℤ) → first_date ≤ℤ t → t ≤ℤ last_date → served_class calendar t ≡ busy_class calendar t
class_served calendar t a b = rw (is_served-true t a b) refl

sights-alike : (directory : Directory) (owner who : ℕ) (a b : Calendar) → sight_of directory owner who a ≡ sight_of directory owner who b → CalendarsLookAlike directory owner who a b
sights-alike directory owner who a b e =
    let held = ap (λ (s : Sight). s.held) e in record {
      held = held;
      contents = λ shown. shown-same _ _ (contents_of a) (contents_of b) (ap (λ h. has_all h read) held) (ap (λ (s : Sight). s.contents) e) shown;
      grants = λ shown. shown-same _ _ a.grants b.grants (ap (λ h. has_all h read_acl) held) (ap (λ (s : Sight). s.grants) e) shown;
      busy = λ shown hidden t from to. sym (class_served a t from to)
          ∙ ap (λ class. class t) (shown-same _ _ (served_class a) (served_class b) (ap (λ h. has_all h read_free_busy) held) (ap (λ (s : Sight). s.busy) e) shown)
          ∙ class_served b t from to;
    }

-- lists that are equal are so item by item

head_or : {X : Type 0} → X → List X → X
head_or other [] = other
head_or other (x ∷ xs) = x

tail : {X : Type 0} → List X → List X
tail [] = []
tail (x ∷ xs) = xs

some_item : {X : Type 0} → List X → Bool
some_item [] = false
some_item (x ∷ xs) = true

abbrev seen_entry : Directory → ℕ → ℕ → List ℕ × Calendar → List ℕ × Sight
seen_entry directory owner who entry = (entry.0, sight_of directory owner who entry.1)

calendars-alike : (directory : Directory) (owner who : ℕ) (xs ys : Named Calendar)
    → map (seen_entry directory owner who) xs ≡ map (seen_entry directory owner who) ys
    → AllZip (EntriesLookAlike directory owner who) xs ys
unfolding head_or tail some_item
calendars-alike directory owner who [] [] e = tt
calendars-alike directory owner who [] (y ∷ ys) e = absurd (false≢true (ap some_item e))
calendars-alike directory owner who (x ∷ xs) [] e = absurd (false≢true (sym (ap some_item e)))
calendars-alike directory owner who (x ∷ xs) (y ∷ ys) e =
    let first = ap (head_or (x.0, sight_of directory owner who x.1)) e in (
      (ap (λ (entry : List ℕ × Sight). entry.0) first, sights-alike directory owner who x.1 y.1 (ap (λ (entry : List ℕ × Sight). entry.1) first)),
      calendars-alike directory owner who xs ys (ap tail e),
    )

homes-alike : (directory : Directory) (who n : ℕ) (xs ys : List Home)
    → map (home_by sight_of directory who) (enumerate_from n xs) ≡ map (home_by sight_of directory who) (enumerate_from n ys)
    → AllZip (HomesLookAlike directory who) (enumerate_from n xs) (enumerate_from n ys)
unfolding head_or tail some_item
homes-alike directory who n [] [] e = tt
homes-alike directory who n [] (b ∷ ys) e = absurd (false≢true (ap some_item e))
homes-alike directory who n (a ∷ xs) [] e = absurd (false≢true (sym (ap some_item e)))
homes-alike directory who n (a ∷ xs) (b ∷ ys) e = (
  (refl, calendars-alike directory n who (visible_calendars directory n who a) (visible_calendars directory n who b) (ap (head_or (home_by sight_of directory who (n, a))) e)),
  homes-alike directory who (n + 1) xs ys (ap tail e),
)

-- States that are seen alike look alike.
pub LookAlike-seen_by : (directory : Directory) (a b : ServerState) (who : ℕ) → seen_by directory a who ≡ seen_by directory b who → LookAlike directory a b who
LookAlike-seen_by directory a b who e = homes-alike directory who 0 a.homes b.homes e

pub views_decide : ViewsDecide
views_decide = record { alike = seen_by-LookAlike; seen = LookAlike-seen_by }
