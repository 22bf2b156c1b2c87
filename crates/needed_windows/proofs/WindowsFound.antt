-- The windows that are found are those that ranges need.
use Rattle.std.proofs.Common.{◌≡◌, ℕ, zero, suc, ◌+◌, ◌<◌, Bool, true, false, List, [], ◌∷◌, length, map, Option, Some, None, refl, sym, ap, ◌∙◌, arith, ℤ, inl, inr}
use Rattle.std.specs.Prelude.{All, ◌==◌, ◌&&◌, ◌||◌, not, filter, filter_map, flat_map, is_some, option_to_list, if◌then◌else◌}
use Rattle.std.specs.List.{list_any}
use Rattle.std.specs.List.Sorted.{IsPermutation}
use Rattle.std.proofs.lemmas.Bool.{cases_Bool, eqb-true, false≢true, or_parts}
use Rattle.std.proofs.lemmas.List.Elements.{All-nil}
use Rattle.std.proofs.lemmas.List.Sorted.{list_any-IsPermutation, All-permutation}
use Rattle.cal_moment.specs.declared.stamp.Stamp.{Stamp}
use Rattle.cal_model.specs.declared.object.Component.{Component}
use Rattle.cal_model.specs.declared.object.Object.{Object}
use Rattle.cal_model.specs.declared.row.Range.{Range}
use Rattle.cal_model.specs.declared.zone.ZoneTable.{ZoneTable}
use Rattle.cal_model.specs.Instances.HappensOnce.{window_of_start}
use Rattle.cal_model.specs.Instances.Rows.{has_id, numbered_from, overrides}
use Rattle.cal_model.specs.Instances.Starts.{own_start}
use Rattle.cal_model.specs.Ranges.Cost.{margin, window_meets}
use Rattle.cal_model.specs.Reports.NeededWindows.{counts, meets_some, stated_windows, window_of_override, override_windows as windows_of_overrides}
use Rattle.cal_model.specs.Words.Integers.{same_int}
use Rattle.cal_model.specs.Words.Lists.{is_empty}
use Rattle.needed_windows.specs.declared.windows.Stretch.{Stretch}
use Rattle.needed_windows.specs.Stretches.{IsStretch, Puts, override_windows, places, places_in, some_holds, holds, window_of_place, windows_at}
use Rattle.needed_windows.proofs.StretchLemmas.{or_false, windows-tested}

-- Overrides

-- a component that is none has no window, and neither has one without a start
pub no_override : (zones : List ZoneTable) (c : Component) → is_some c.recurrence_id ≡ false → override_windows zones c ≡ []
no_override zones c e = rw e refl

pub no_start : (zones : List ZoneTable) (c : Component) → own_start c ≡ None → override_windows zones c ≡ []
no_start zones c e = ap (λ own. if is_some c.recurrence_id then map (window_of_start zones) (option_to_list own) else []) e ∙ either (is_some c.recurrence_id)
  where
    either : (b : Bool) → (if b then map (window_of_start zones) (option_to_list None) else []) ≡ []
    either true = refl
    either false = refl

pub one_override : (zones : List ZoneTable) (c : Component) (s : Stamp) → is_some c.recurrence_id ≡ true → own_start c ≡ Some s → override_windows zones c ≡ window_of_start zones s ∷ []
one_override zones c s e f = (λ i. if e i then map (window_of_start zones) (option_to_list (f i)) else [])

abbrev of_numbered : Object → ℕ → List Component → List ℤ
of_numbered object k cs = filter_map (window_of_override object) (filter has_id (numbered_from k cs))

numbered_more : (object : Object) (k : ℕ) (c : Component) (cs : List Component) (named : Bool) (own : Option Stamp) → is_some c.recurrence_id ≡ named → own_start c ≡ own
    → of_numbered object (k + 1) cs ≡ flat_map (override_windows object.zones) cs → of_numbered object k (c ∷ cs) ≡ flat_map (override_windows object.zones) (c ∷ cs)
numbered_more object k c cs true (Some s) e f rest = rw (e, f) (ap (λ ws. window_of_start object.zones s ∷ ws) rest)
numbered_more object k c cs true None e f rest = rw (e, f) rest
numbered_more object k c cs false own e f rest = rw e rest

overrides_from : (object : Object) (k : ℕ) (cs : List Component) → of_numbered object k cs ≡ flat_map (override_windows object.zones) cs
overrides_from object k [] = refl
overrides_from object k (c ∷ cs) = numbered_more object k c cs (is_some c.recurrence_id) (own_start c) refl refl (overrides_from object (k + 1) cs)

windows_of-components : (object : Object) → windows_of_overrides object ≡ flat_map (override_windows object.zones) object.components
windows_of-components object = overrides_from object 0 object.components

-- All windows

-- no range needs any
pub none_needed : (object : Object) (ranges : List Range) → length ranges ≡ 0 → filter (counts object ranges) stated_windows ≡ []
none_needed object ranges none = nothing (not (is_empty ranges)) (λ w. meets_some object ranges w || list_any (same_int w) (windows_of_overrides object)) (rw none refl) stated_windows
  where
    never : (p : ℤ → Bool) (ws : List ℤ) → filter (λ w. false && p w) ws ≡ []
    never p [] = refl
    never p (w ∷ ws) = never p ws

    nothing : (some : Bool) (p : ℤ → Bool) → some ≡ false → (ws : List ℤ) → filter (λ w. some && p w) ws ≡ []
    nothing some p e ws = ap (λ b. filter (λ w. b && p w) ws) e ∙ never p ws

some_range : (ranges : List Range) → 0 < length ranges → is_empty ranges ≡ false
some_range ranges some = elim (cases_Bool (is_empty ranges)) [
  | inl t ↦ (let none = eqb-true (length ranges) 0 t in absurd (omega (arith, some, none)))
  | inr f ↦ f
]

pub positive : (n : ℕ) → false ≡ (n == 0) → 0 < n
positive zero e = absurd (false≢true e)
positive (suc n) e = omega arith

-- The stretches of the ranges and those of the overrides have the windows that count.
pub windows_found : (object : Object) (ranges : List Range) (old one two sorted : List Stretch) → 0 < length ranges → old ≡ []
    → Puts (λ place. list_any (λ (range : Range). window_meets (margin object) range (window_of_place place)) ranges) old one
    → Puts (λ place. list_any (same_int (window_of_place place)) (flat_map (override_windows object.zones) object.components)) one two
    → IsPermutation two sorted → windows_at (places_in sorted) ≡ filter (counts object ranges) stated_windows
windows_found object ranges old one two sorted some none by_range by_override moved = windows-tested (some_holds sorted) (counts object ranges) same
  where
    same : (place : ℕ) → place < places → some_holds sorted place ≡ counts object ranges (window_of_place place)
    same place below =
        let w = window_of_place place in
        sym (list_any-IsPermutation (holds place) two sorted moved)
        ∙ by_override.covered place below
        ∙ ap (λ t. t || list_any (same_int w) (flat_map (override_windows object.zones) object.components)) (by_range.covered place below ∙ ap (λ ss. some_holds ss place || meets_some object ranges w) none)
        ∙ ap (λ ws. meets_some object ranges w || list_any (same_int w) ws) (sym (windows_of-components object))
        ∙ ap (λ b. not b && (meets_some object ranges w || list_any (same_int w) (windows_of_overrides object))) (sym (some_range ranges some))

pub stretches_found : (tests others : ℕ → Bool) (old one two sorted : List Stretch) → old ≡ [] → Puts tests old one → Puts others one two → IsPermutation two sorted → All IsStretch sorted
stretches_found tests others old one two sorted none first second moved = All-permutation IsStretch two sorted moved (second.each (first.each (rw none (All-nil IsStretch))))

-- Objects without overrides

overrides_none : (k : ℕ) (cs : List Component) → list_any (λ (c : Component). is_some c.recurrence_id) cs ≡ false → filter has_id (numbered_from k cs) ≡ []
overrides_none k [] e = refl
overrides_none k (c ∷ cs) e =
    let both = or_parts (is_some c.recurrence_id) (list_any (λ (x : Component). is_some x.recurrence_id) cs) e in
    rw both.0 (overrides_none (k + 1) cs both.1)

pub no_overrides : (object : Object) → list_any (λ (c : Component). is_some c.recurrence_id) object.components ≡ false → overrides object ≡ []
no_overrides object e = overrides_none 0 object.components e

-- only what meets a range counts
pub counts_alone : (object : Object) (ranges : List Range) (window : ℤ) → overrides object ≡ [] → meets_some object ranges window ≡ counts object ranges window
counts_alone object [] window none = refl
counts_alone object (range ∷ ranges) window none =
    let meets = meets_some object (range ∷ ranges) window in
    sym (or_false meets)
    ∙ ap (λ ns. meets || list_any (same_int window) (filter_map (window_of_override object) ns)) (sym none)
    ∙ ap (λ b. not b && (meets || list_any (same_int window) (windows_of_overrides object))) (sym (some_range (range ∷ ranges) (omega arith)))

pub counts_one : (object : Object) (ranges more : List Range) (range : Range) (window : ℤ) → ranges ≡ range ∷ more → more ≡ [] → overrides object ≡ [] → window_meets (margin object) range window ≡ counts object ranges window
counts_one object ranges more range window first last none =
    sym (or_false (window_meets (margin object) range window))
    ∙ counts_alone object (range ∷ []) window none
    ∙ ap (λ rs. counts object rs window) (sym (first ∙ ap (λ rs. range ∷ rs) last))

-- one stretch has all windows that count
pub one_found : (object : Object) (ranges : List Range) (stretch : Stretch) → ((place : ℕ) → place < places → holds place stretch ≡ counts object ranges (window_of_place place))
    → windows_at (places_in (stretch ∷ [])) ≡ filter (counts object ranges) stated_windows
one_found object ranges stretch same = windows-tested (some_holds (stretch ∷ [])) (counts object ranges) (λ place below. or_false (holds place stretch) ∙ same place below)
