-- The moments from which alarms count: how they are gathered from rows, and that those of each component stand at its number.
use Rattle.std.proofs.Common.{◌≡◌, ℕ, zero, suc, ◌+◌, Bool, true, false, cond, List, [], ◌∷◌, ◌++◌, length, drop, refl, sym, ap, subst, ◌∙◌, arith, append_assoc, ◌⊎◌, inl, inr, Option, None, Some}
use Rattle.std.specs.Prelude.{ℤ, filter, filter_map, IfSome, option_to_list}
use Rattle.std.specs.Borrow.{Bor}
use Rattle.std.specs.List.{cons_option, slice_get}
use Rattle.std.specs.Option.{option_and_then, option_copied}
use Rattle.std.proofs.lemmas.Option.{same_Some}
use Rattle.cal_model.specs.declared.object.Component.{Component}
use Rattle.cal_model.specs.declared.object.Related.{Related}
use Rattle.cal_model.specs.declared.object.Related.TheVariants.{Start, End}
use Rattle.cal_model.specs.declared.row.Row.{Row}
use Rattle.cal_model.specs.Filters.ComponentRanges.{Matched}
use Rattle.cal_model.specs.Instances.Rows.{Numbered}
use Rattle.filter_eval.specs.declared.moments.AlarmMoments.{AlarmMoments}
use Rattle.filter_eval.specs.AlarmMoments.{moments_of, ordered_by, AreInOrder, AreMomentsOf, AreAllMoments}
use Rattle.filter_eval.proofs.SkippedItems.{begins}

-- one row more

kept : (o : Option ℤ) (xs : List ℤ) → cons_option o xs ≡ option_to_list o ++ xs
kept None xs = refl
kept (Some x) xs = refl

one_row : (f : Row → Option ℤ) (q : Row → Bool) (row : Row) (rest : List Row) → filter_map f (filter q (row ∷ rest)) ≡ option_to_list (cond (q row) (f row) None) ++ filter_map f (filter q rest)
one_row f q row rest = by_test (q row)
  where
    by_test : (b : Bool) → filter_map f (cond b (row ∷ filter q rest) (filter q rest)) ≡ option_to_list (cond b (f row) None) ++ filter_map f (filter q rest)
    by_test true = kept (f row) (filter_map f (filter q rest))
    by_test false = refl

pub gathered : (f : Row → Option ℤ) (q : Row → Bool) (rows : List Row) (place : ℕ) (row : Row) (before after all : List ℤ) → slice_get rows place ≡ Some row
    → after ≡ before ++ option_to_list (cond (q row) (f row) None) → before ++ filter_map f (filter q (drop place rows)) ≡ all → after ++ filter_map f (filter q (drop (place + 1) rows)) ≡ all
gathered f q rows place row before after all here is whole =
    let rest : List ℤ = filter_map f (filter q (drop (place + 1) rows)) in
    ap (λ (xs : List ℤ). xs ++ rest) is
    ∙ (append_assoc before (option_to_list (cond (q row) (f row) None)) rest
    ∙ (ap (λ (xs : List ℤ). before ++ xs) (sym (one_row f q row (drop (place + 1) rows)) ∙ ap (λ (ys : List Row). filter_map f (filter q ys)) (sym (begins rows place row here)))
    ∙ whole))

-- those of one component

pub both_ends : (matched : Matched) (n : Numbered) (starts ends : Option (List ℤ)) → IfSome starts (AreInOrder (moments_of matched n Start)) → IfSome ends (AreInOrder (moments_of matched n End))
    → AreMomentsOf matched n (record { starts = starts; ends = ends })
both_ends matched n starts ends first second = by_end
  where
    by_end : (related : Related) → IfSome (ordered_by (record { starts = starts; ends = ends }) related) (AreInOrder (moments_of matched n related))
    by_end Start = first
    by_end End = second

-- those of all

pushed : {X : Type 0} (xs : List X) (x : X) (k : ℕ) (y : X) → slice_get (xs ++ x ∷ []) k ≡ Some y → (slice_get xs k ≡ Some y) ⊎ ((k ≡ length xs) × (y ≡ x))
pushed [] x zero y is = inr (refl, cc)
pushed [] x (suc k) y is = absurd cc
pushed (z ∷ zs) x zero y is = inl is
pushed (z ∷ zs) x (suc k) y is = elim (pushed zs x k y is) [
  | inl before ↦ inl before
  | inr last ↦ inr (omega (arith, last.0), last.1)
]

pub all_none : (matched : Matched) → AreAllMoments matched []
all_none matched = λ number component moments there here. absurd cc

pub all_more : (matched : Matched) (all : List AlarmMoments) (component : Component) (moments : AlarmMoments) → slice_get matched.object.components (length all) ≡ Some component
    → AreAllMoments matched all → AreMomentsOf matched (record { number = length all; component = component }) moments → AreAllMoments matched (all ++ moments ∷ [])
all_more matched all component moments at before made = λ number other found there here.
    elim (pushed all moments number found here) [
      | inl earlier ↦ before number other found there earlier
      | inr last ↦ (
          let same : component ≡ other = same_Some component other (sym at ∙ (ap (slice_get matched.object.components) (sym last.0) ∙ there)) in
          subst (λ (m : AlarmMoments). AreMomentsOf matched (record { number = number; component = other }) m) (sym last.1)
          (subst (λ (k : ℕ). AreMomentsOf matched (record { number = k; component = other }) moments) (sym last.0)
          (subst (λ (c : Component). AreMomentsOf matched (record { number = length all; component = c }) moments) same made)))
    ]

-- those that are found

copied_some : (found : Option (Bor (List ℤ))) (o : Option (List ℤ)) (Q : List ℤ → Type 0) → option_copied found ≡ o → IfSome o Q → IfSome found (λ moments. Q moments.now)
copied_some None o Q is holds = tt
copied_some (Some moments) o Q is holds = subst (λ (p : Option (List ℤ)). IfSome p Q) (sym is) holds

pub ready_at : (matched : Matched) (all : List AlarmMoments) (number : ℕ) (related : Related) (found : Option (Bor (List ℤ))) → AreAllMoments matched all
    → option_copied found ≡ option_and_then (λ (moments : AlarmMoments). ordered_by moments related) (slice_get all number) → (component : Component) → slice_get matched.object.components number ≡ Some component
    → IfSome found (λ moments. AreInOrder (moments_of matched (record { number = number; component = component }) related) moments.now)
ready_at matched all number related found each is component there = by_place (slice_get all number) refl
  where
    by_place : (o : Option AlarmMoments) → slice_get all number ≡ o → IfSome found (λ moments. AreInOrder (moments_of matched (record { number = number; component = component }) related) moments.now)
    by_place None none = copied_some found None (AreInOrder (moments_of matched (record { number = number; component = component }) related)) (is ∙ ap (option_and_then (λ (moments : AlarmMoments). ordered_by moments related)) none) tt
    by_place (Some moments) here = copied_some found (ordered_by moments related) (AreInOrder (moments_of matched (record { number = number; component = component }) related))
        (is ∙ ap (option_and_then (λ (m : AlarmMoments). ordered_by m related)) here) (each number component moments there here related)
