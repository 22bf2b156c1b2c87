-- What a scene has of a calendar is what a store's look-ups give: the calendar of that name, where some privilege is held on it, as it is looked at.
-- The names of the calendars of each home have to be in order, as in each state that is reached.
use Rattle.std.proofs.Common.{◌≡◌, ℕ, suc, ◌+◌, ◌<◌, ◌≤◌, Bool, true, false, not, ◌||◌, List, [], ◌∷◌, length, Option, Some, None, refl, sym, ap, ◌∙◌, arith, ◌⊎◌, inl, inr}
use Rattle.std.specs.Prelude.{◌==◌, slice_get, option_map, option_and_then, if◌then◌else◌, get_or}
use Rattle.std.specs.List.{enumerate_from}
use Rattle.std.specs.Ordering.{eq_by_cmp}
use Rattle.std.specs.Map.{keys_of}
use Rattle.std.proofs.lemmas.Bool.{eqb-true}
use Rattle.std.proofs.lemmas.Cmp.{nat_list_cmp_total, eq_by_cmp_equiv}
use Rattle.std.proofs.lemmas.List.FromFn.{get_or-enumerate_from, length-enumerate_from}
use Rattle.std.proofs.lemmas.Map.Entries.{option_filter, lookup-filter-values}
use Rattle.std.proofs.lemmas.Map.Keys.{IsDistinct-from_sorted}
use Rattle.std.proofs.lemmas.Map.Made.{lookup-map_values}
use Rattle.std.proofs.lemmas.Option.{slice_get-get_or, slice_get_cases, slice_get_past, slice_get-map}
use Rattle.cal_base.specs.Lists.NameMap.{Named, name_order, IsInOrder, value_at}
use Rattle.cal_model.specs.Words.Lists.{is_empty}
use Rattle.cal_model.specs.State.ServerState.{Directory, Calendar, Home, ServerState, home_at, calendar_at}
use Rattle.cal_model.specs.Sight.Views.{Sight, Look, held_on, visible_calendars, home_by, view_by}
use Rattle.cal_model.specs.Sight.Scenes.{visible_home, at_both}

-- the items of a numbered list
slice_get-numbered : {X : Type 0} (xs : List X) (n : ℕ) → slice_get (enumerate_from 0 xs) n ≡ option_map (λ x. (n, x)) (slice_get xs n)
slice_get-numbered xs n = by_place xs n (slice_get_cases xs n).1 where
  by_place : {X : Type 0} (xs : List X) (n : ℕ) → ((x : X) × (n < length xs) × (slice_get xs n ≡ Some x) × (get_or xs n x ≡ x)) ⊎ ((length xs ≤ n) × (slice_get xs n ≡ None))
      → slice_get (enumerate_from 0 xs) n ≡ option_map (λ x. (n, x)) (slice_get xs n)
  by_place xs n (inl there) =
      slice_get-get_or (enumerate_from 0 xs) n (0, there.0) (omega (arith, there.1, length-enumerate_from 0 xs))
      ∙ ap Some (get_or-enumerate_from 0 xs n (0, there.0) there.1 ∙ (λ i. ((let same : 0 + n ≡ n = omega arith in same) i, there.3 i)))
      ∙ ap (option_map (λ x. (n, x))) (sym there.2)
  by_place xs n (inr past) =
      slice_get_past (enumerate_from 0 xs) n (omega (arith, past.0, length-enumerate_from 0 xs)) ∙ ap (option_map (λ x. (n, x))) (sym past.1)

-- some privilege is held
abbrev pub holds_some : Directory → ℕ → ℕ → Calendar → Bool
holds_some directory owner who calendar = not (held_on directory owner who calendar == 0)

-- a look-up among the visible calendars is one among all, as far as some privilege is held
pub value_at-visible : (look : Look) (directory : Directory) (owner who : ℕ) (home : Home) (name : List ℕ) → IsInOrder home.calendars
    → value_at (home_by look directory who (owner, home)) name ≡ option_map (look directory owner who) (option_filter (holds_some directory owner who) (value_at home.calendars name))
value_at-visible look directory owner who home name in_order =
    lookup-map_values (look directory owner who) (eq_by_cmp name_order name) (visible_calendars directory owner who home)
    ∙ ap (option_map (look directory owner who))
    (lookup-filter-values (eq_by_cmp_equiv nat_list_cmp_total) (holds_some directory owner who) name home.calendars
    (IsDistinct-from_sorted name_order (keys_of home.calendars) in_order))

-- a home in a view
pub home_in-view : (look : Look) (directory : Directory) (state : ServerState) (who owner : ℕ)
    → slice_get (view_by look directory state who) owner ≡ option_map (λ home. home_by look directory who (owner, home)) (home_at state owner)
home_in-view look directory state who owner =
    slice_get-map (home_by look directory who) (enumerate_from 0 state.homes) owner
    ∙ ap (option_map (home_by look directory who)) (slice_get-numbered state.homes owner)
    ∙ twice (slice_get state.homes owner) where
      twice : (o : Option Home) → option_map (home_by look directory who) (option_map (λ h. (owner, h)) o) ≡ option_map (λ home. home_by look directory who (owner, home)) o
      twice None = refl
      twice (Some h) = refl

not_none : (n : ℕ) (test : Bool) → (suc n == 0) ≡ test → test ≡ false
not_none n true e = absurd (omega (arith, eqb-true (suc n) 0 e))
not_none n false e = refl

is_empty-cons : {X : Type 0} (x : X) (xs : List X) → is_empty (x ∷ xs) ≡ false
is_empty-cons x xs = not_none (length xs) (suc (length xs) == 0) refl

-- a home that isn't shown has no calendar that is
shown_home : {X : Type 0} (own : Bool) (calendars : Named X) (name : List ℕ)
    → at_both (if own || not (is_empty calendars) then Some calendars else None) (Some name) ≡ value_at calendars name
shown_home true calendars name = refl
shown_home false [] name = refl
shown_home false (c ∷ calendars) name = ap (λ empty. at_both (if false || not empty then Some (c ∷ calendars) else None) (Some name)) (is_empty-cons c calendars)

-- The calendar of a path, as it is looked at, is the one of the state, where some privilege is held on it.
pub calendar_in-scene : (look : Look) (directory : Directory) (state : ServerState) (who owner : ℕ) (home : Home) (name : List ℕ)
    → home_at state owner ≡ Some home → IsInOrder home.calendars
    → at_both (visible_home (view_by look directory state who) who owner) (Some name) ≡ option_map (look directory owner who) (option_filter (holds_some directory owner who) (calendar_at state owner name))
calendar_in-scene look directory state who owner home name found in_order =
    ap (λ o. at_both (option_and_then (λ (calendars : Named Sight). if (owner == who) || not (is_empty calendars) then Some calendars else None) o) (Some name))
    (home_in-view look directory state who owner ∙ ap (option_map (λ (h : Home). home_by look directory who (owner, h))) found)
    ∙ shown_home (owner == who) (home_by look directory who (owner, home)) name
    ∙ value_at-visible look directory owner who home name in_order
    ∙ ap (λ (o : Option Home). option_map (look directory owner who) (option_filter (holds_some directory owner who) (option_and_then (λ (h : Home). value_at h.calendars name) o))) (sym found)
