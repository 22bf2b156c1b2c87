-- Stretches that are put to others, one after the other, and the windows that several have.
use Rattle.std.proofs.Common.{◌≡◌, ℕ, ◌+◌, ◌-◌, ◌<◌, ◌≤◌, Bool, true, false, ◌||◌, ◌⊎◌, inl, inr, suc, append_assoc, Less, List, [], ◌∷◌, ◌++◌, refl, sym, ap, ◌∙◌, arith, max, get_or, ℤ, pos, ◌+ℤ◌, ◌-ℤ◌, ◌*ℤ◌, ◌<ℤ◌, ◌≤ℤ◌}
use Rattle.std.specs.Prelude.{◌&&◌, All, AllPairs, filter, nat_le, int_le, int_lt}
use Rattle.std.specs.Cmp.{nat_cmp_is}
use Rattle.std.specs.Ordering.{is_lt, nat_cmp}
use Rattle.std.specs.List.Sorted.{IsSortedByKey}
use Rattle.std.proofs.lemmas.Cmp.{nat_cmp_total}
use Rattle.std.proofs.lemmas.List.Sorted.{sorted_far, ranks_by}
use Rattle.std.proofs.lemmas.Bool.{and_parts, cases_Bool}
use Rattle.std.proofs.lemmas.Int.{ints}
use Rattle.std.proofs.lemmas.Bool.Decides.{nat_tests}
use Rattle.std.proofs.lemmas.List.{append-nil, map-append}
use Rattle.std.proofs.lemmas.List.Folds.{list_any-append}
use Rattle.std.proofs.lemmas.List.Elements.{All-append, All-cons, All-nil, All-head, All-tail, All-weaker, filter-append}
use Rattle.std.specs.Int.{int_div_euclid}
use Rattle.cal_model.specs.Instances.Rows.{window_at, window_seconds}
use Rattle.cal_model.specs.Words.Integers.{same_int}
use Rattle.cal_model.specs.Words.Lists.{numbers_between, counted_from}
use Rattle.cal_model.proofs.Instances.RisingLists.{AllPairs-head}
use Rattle.cal_model.proofs.Ranges.NearRanges.{window-holds}
use Rattle.cal_model.proofs.Recurrence.SetStretches.{All-between}
use Rattle.cal_model.proofs.Words.CountedLemmas.{numbers_between-cut, filter-none}
use Rattle.cal_model.proofs.Words.IntegerLemmas.{same_int-self, same_int-true}
use Rattle.cal_model.proofs.Words.ListTests.{or_left}
use Rattle.needed_windows.specs.declared.windows.Stretch.{Stretch}
use Rattle.needed_windows.specs.Stretches.{IsStretch, Puts, StartsNoLater, holds, places, places_in, some_holds, window_of_place, windows_at}

pub or_false : (s : Bool) → (s || false) ≡ s
or_false true = refl
or_false false = refl

or_assoc : (s t u : Bool) → ((s || t) || u) ≡ (s || (t || u))
or_assoc true t u = refl
or_assoc false t u = refl

-- Putting

-- one stretch more
pub Puts-one : (test : ℕ → Bool) (old new : List Stretch) (stretch : Stretch) → new ≡ old ++ stretch ∷ [] → IsStretch stretch
    → ((place : ℕ) → place < places → holds place stretch ≡ test place) → Puts test old new
Puts-one test old new stretch e is same = record {
  covered = λ place below. ap (λ xs. some_holds xs place) e ∙ list_any-append (holds place) old (stretch ∷ [])
      ∙ ap (λ t. some_holds old place || t) (or_false (holds place stretch) ∙ same place below);
  each = λ all. rw e (All-append IsStretch old (stretch ∷ []) all (All-cons IsStretch stretch [] is (All-nil IsStretch)));
}

-- none, where the test holds for none
pub Puts-none : (test : ℕ → Bool) (old : List Stretch) → ((place : ℕ) → place < places → test place ≡ false) → Puts test old old
Puts-none test old none = record {
  covered = λ place below. sym (ap (λ t. some_holds old place || t) (none place below) ∙ or_false (some_holds old place));
  each = λ all. all;
}

-- so far: what is left is still to be put
pub record IsPutting (rest all : ℕ → Bool) (old now : List Stretch) : Type 0 where
  pub covered : (place : ℕ) → place < places → (some_holds now place || rest place) ≡ (some_holds old place || all place)
  pub each : All IsStretch old → All IsStretch now

pub IsPutting-start : (all : ℕ → Bool) (old : List Stretch) → IsPutting all all old old
IsPutting-start all old = record { covered = λ place below. refl; each = λ h. h }

pub IsPutting-more : (test rest later all : ℕ → Bool) (old now new : List Stretch) → ((place : ℕ) → rest place ≡ (test place || later place))
    → IsPutting rest all old now → Puts test now new → IsPutting later all old new
IsPutting-more test rest later all old now new parts so_far step = record {
  covered = λ place below. ap (λ t. t || later place) (step.covered place below) ∙ or_assoc (some_holds now place) (test place) (later place)
      ∙ ap (λ t. some_holds now place || t) (sym (parts place)) ∙ so_far.covered place below;
  each = λ all. step.each (so_far.each all);
}

pub IsPutting-end : (rest all : ℕ → Bool) (old now : List Stretch) → ((place : ℕ) → rest place ≡ false) → IsPutting rest all old now → Puts all old now
IsPutting-end rest all old now none so_far = record {
  covered = λ place below. sym (ap (λ t. some_holds now place || t) (none place) ∙ or_false (some_holds now place)) ∙ so_far.covered place below;
  each = so_far.each;
}

-- Numbers in a row

pub none_between : (a b : ℕ) → b ≤ a → numbers_between a b ≡ []
unfolding counted_from
none_between a b h =
    let none : b - a ≡ 0 = omega arith in
    ap (counted_from a) none

all_pass : (p : ℕ → Bool) (xs : List ℕ) → All (λ n. p n ≡ true) xs → filter p xs ≡ xs
all_pass p [] h = refl
all_pass p (x ∷ xs) h = rw (All-head (λ n. p n ≡ true) x xs h) (ap (λ ys. x ∷ ys) (all_pass p xs (All-tail (λ n. p n ≡ true) x xs h)))

filter-all : (p : ℕ → Bool) (a b : ℕ) → ((m : ℕ) → a ≤ m → m < b → p m ≡ true) → filter p (numbers_between a b) ≡ numbers_between a b
filter-all p a b h = all_pass p (numbers_between a b) (All-between (λ m. p m ≡ true) a b h)

le_or_lt : (a b : ℕ) → (a ≤ b) ⊎ (b < a)
le_or_lt a b = elim (cases_Bool (nat_le a b)) [ inl v ↦ inl (grind (arith, nat_tests)) | inr v ↦ inr (grind (arith, nat_tests)) ]

-- up to an end, those from a first one on pass
filter-from : (p : ℕ → Bool) (first next end : ℕ) → next ≤ end → ((m : ℕ) → next ≤ m → m < end → m < first → p m ≡ false)
    → ((m : ℕ) → next ≤ m → m < end → first ≤ m → p m ≡ true) → filter p (numbers_between next end) ≡ numbers_between (max first next) end
filter-from p first next end order before from = elim (le_or_lt first next) [
  | inl low ↦ (let same : max first next ≡ next = omega arith in rw same (filter-all p next end (λ m l h. from m l h (omega arith))))
  | inr high ↦ elim (le_or_lt first end) [
    | inl within ↦ (
        let same : max first next ≡ first = omega arith in
        rw (same, numbers_between-cut next first end (omega arith) within, filter-append, filter-none p next first (λ m l h. before m l (omega arith) h))
        (filter-all p first end (λ m l h. from m (omega arith) h l)))
    | inr behind ↦ filter-none p next end (λ m l h. before m l h (omega arith)) ∙ sym (none_between (max first next) end (omega arith))
  ]
]

-- one after another
pub put_more : (out all : List ℤ) (place end : ℕ) → place < end → out ++ windows_at (numbers_between place end) ≡ all → (out ++ window_of_place place ∷ []) ++ windows_at (numbers_between (place + 1) end) ≡ all
unfolding counted_from
put_more out all place end below so_far =
    let some : end - place ≡ suc (end - (place + 1)) = omega arith in
    append_assoc out (window_of_place place ∷ []) (windows_at (numbers_between (place + 1) end))
    ∙ sym (ap (λ n. out ++ windows_at (counted_from place n)) some) ∙ so_far

pub put_end : (out all : List ℤ) (place end : ℕ) → end ≤ place → out ++ windows_at (numbers_between place end) ≡ all → out ≡ all
put_end out all place end behind so_far = sym (ap (λ ns. out ++ windows_at ns) (none_between place end behind) ∙ append-nil out) ∙ so_far

-- Stretches by their first places

no_later : (x y : ℕ) → is_lt (nat_cmp y x) ≡ false → x ≤ y
no_later x y h = elim (le_or_lt x y) [
  | inl le ↦ le
  | inr lt ↦ (let less = nat_cmp_is y x Less lt in absurd (let e = rw (sym less) at h in cc))
]

pub rising_by_first : (stretches : List Stretch) → IsSortedByKey (λ (s : Stretch). s.first) nat_cmp stretches → AllPairs StartsNoLater stretches
rising_by_first stretches sorted i j d lt below =
    no_later (get_or stretches i d).first (get_or stretches j d).first
    (sorted_far (λ (a b : Stretch). is_lt (nat_cmp a.first b.first)) (ranks_by nat_cmp_total (λ (s : Stretch). s.first)) stretches sorted i j d (omega (arith, lt)) below)

-- Sweeping over stretches that come by their first places

-- no stretch holds a place before all their first ones
none_before : (place : ℕ) (stretches : List Stretch) → All (λ (s : Stretch). place < s.first) stretches → some_holds stretches place ≡ false
none_before place [] before = refl
none_before place (s ∷ stretches) before =
    let here : place < s.first = All-head (λ (t : Stretch). place < t.first) s stretches before in
    let not_here : holds place s ≡ false = grind (arith, nat_tests) in
    rw not_here (none_before place stretches (All-tail (λ (t : Stretch). place < t.first) s stretches before))

-- The windows so far are those of all places before the next one. What is left holds each place from there on that is held at all, and each place before it that a stretch left may hold is known to be held.
pub record IsSwept (all rest : List Stretch) (next : ℕ) (windows : List ℤ) : Type 0 where
  pub done : windows ≡ windows_at (filter (some_holds all) (numbers_between 0 next))
  pub later : (place : ℕ) → next ≤ place → some_holds all place ≡ some_holds rest place
  pub within : All (λ (s : Stretch). (place : ℕ) → s.first ≤ place → place < next → some_holds all place ≡ true) rest

pub IsSwept-start : (all : List Stretch) → IsSwept all all 0 []
unfolding counted_from
IsSwept-start all = record {
  done = refl;
  later = λ place l. refl;
  within = λ i d below place l h. absurd (omega (arith, h));
}

-- of the first stretch that is left
before_first : (all rest : List Stretch) (s : Stretch) (next : ℕ) (windows : List ℤ) → AllPairs StartsNoLater (s ∷ rest) → IsSwept all (s ∷ rest) next windows
    → (place : ℕ) → next ≤ place → place < s.first → some_holds all place ≡ false
before_first all rest s next windows rising so_far place l before =
    so_far.later place l
    ∙ none_before place (s ∷ rest)
    (All-cons (λ (t : Stretch). place < t.first) s rest before
    (All-weaker (StartsNoLater s) (λ (t : Stretch). place < t.first) (λ t h. omega (arith, h, before)) rest (AllPairs-head StartsNoLater s rest rising)))

from_first : (all rest : List Stretch) (s : Stretch) (next : ℕ) (windows : List ℤ) → IsSwept all (s ∷ rest) next windows
    → (place : ℕ) → next ≤ place → s.first ≤ place → place < s.end → some_holds all place ≡ true
from_first all rest s next windows so_far place l low high =
    let here : holds place s ≡ true = grind (arith, nat_tests) in
    so_far.later place l ∙ or_left (holds place s) (some_holds rest place) here

behind_first : (all rest : List Stretch) (s : Stretch) (next : ℕ) (windows : List ℤ) → IsSwept all (s ∷ rest) next windows
    → (place : ℕ) → next ≤ place → s.end ≤ place → some_holds all place ≡ some_holds rest place
behind_first all rest s next windows so_far place l behind =
    let not_here : holds place s ≡ false = grind (arith, nat_tests) in
    so_far.later place l ∙ ap (λ t. t || some_holds rest place) not_here

found_more : (all rest : List Stretch) (s : Stretch) (next : ℕ) (windows : List ℤ) → AllPairs StartsNoLater (s ∷ rest) → IsSwept all (s ∷ rest) next windows
    → filter (some_holds all) (numbers_between 0 next) ++ numbers_between (max s.first next) s.end ≡ filter (some_holds all) (numbers_between 0 (max s.end next))
found_more all rest s next windows rising so_far = elim (le_or_lt s.end next) [
  | inl short ↦ (
      let same : max s.end next ≡ next = omega arith in
      rw (none_between (max s.first next) s.end (omega arith), append-nil, same) refl)
  | inr long ↦ (
      let same : max s.end next ≡ s.end = omega arith in
      rw (
        same,
        numbers_between-cut 0 next s.end (omega arith) (omega arith),
        filter-append,
        filter-from (some_holds all) s.first next s.end (omega arith) (λ m l h b. before_first all rest s next windows rising so_far m l b) (λ m l h f. from_first all rest s next windows so_far m l f h),
      ) refl)
]

pub IsSwept-more : (all rest : List Stretch) (s : Stretch) (next : ℕ) (windows new : List ℤ) → AllPairs StartsNoLater (s ∷ rest) → IsSwept all (s ∷ rest) next windows
    → new ≡ windows ++ windows_at (numbers_between (max s.first next) s.end) → IsSwept all rest (max s.end next) new
IsSwept-more all rest s next windows new rising so_far e = record {
  done = e ∙ ap (λ ws. ws ++ windows_at (numbers_between (max s.first next) s.end)) so_far.done
      ∙ sym (map-append window_of_place (filter (some_holds all) (numbers_between 0 next)) (numbers_between (max s.first next) s.end))
      ∙ ap windows_at (found_more all rest s next windows rising so_far);
  later = λ place l. behind_first all rest s next windows so_far place (omega arith) (omega arith);
  within = λ i d below place l h.
      let first : s.first ≤ (get_or rest i d).first = AllPairs-head StartsNoLater s rest rising i d below in
      elim (le_or_lt next place) [
        | inl from ↦ from_first all rest s next windows so_far place from (omega (arith, first, l)) (omega arith)
        | inr before ↦ All-tail (λ (t : Stretch). (place : ℕ) → t.first ≤ place → place < next → some_holds all place ≡ true) s rest so_far.within i d below place l before
      ];
}

pub IsSwept-end : (all rest : List Stretch) (next : ℕ) (windows : List ℤ) → rest ≡ [] → next ≤ places → IsSwept all rest next windows → windows ≡ windows_at (places_in all)
IsSwept-end all rest next windows none bound so_far =
    let behind = filter-none (some_holds all) next places (λ m l h. so_far.later m l ∙ ap (λ xs. some_holds xs m) none) in
    so_far.done ∙ ap windows_at (sym (rw (numbers_between-cut 0 next places (omega arith) bound, filter-append, behind, append-nil) refl))

-- A test of all places

tested_more : (p : ℕ → Bool) (q : ℤ → Bool) (n : ℕ) (ns : List ℕ) (test : Bool) → p n ≡ test → q (window_of_place n) ≡ test → windows_at (filter p ns) ≡ filter q (windows_at ns)
    → windows_at (filter p (n ∷ ns)) ≡ filter q (windows_at (n ∷ ns))
tested_more p q n ns true e f rest = rw (e, f) (ap (λ ws. window_of_place n ∷ ws) rest)
tested_more p q n ns false e f rest = rw (e, f) rest

tested : (p : ℕ → Bool) (q : ℤ → Bool) (ns : List ℕ) → All (λ n. p n ≡ q (window_of_place n)) ns → windows_at (filter p ns) ≡ filter q (windows_at ns)
tested p q [] all = refl
tested p q (n ∷ ns) all =
    tested_more p q n ns (p n) refl (sym (All-head (λ n. p n ≡ q (window_of_place n)) n ns all)) (tested p q ns (All-tail (λ n. p n ≡ q (window_of_place n)) n ns all))

-- the windows of the places that a test holds for
pub windows-tested : (p : ℕ → Bool) (q : ℤ → Bool) → ((place : ℕ) → place < places → p place ≡ q (window_of_place place)) → windows_at (filter p (numbers_between 0 places)) ≡ filter q (windows_at (numbers_between 0 places))
windows-tested p q same = tested p q (numbers_between 0 places) (All-between (λ n. p n ≡ q (window_of_place n)) 0 places (λ m l h. same m h))

-- Windows and seconds

-- from a window on: those that end behind a second
pub from_window : (n w : ℤ) → int_le (int_div_euclid n window_seconds) w ≡ int_lt n ((w +ℤ pos 1) *ℤ window_seconds)
from_window n w = elim (cases_Bool (int_le (int_div_euclid n window_seconds) w)) [
  | inl t ↦ (
      let below : int_div_euclid n window_seconds ≤ℤ w = grind (arith, ints, t) in
      let lies = window-holds n in
      let there : n <ℤ ((w +ℤ pos 1) *ℤ window_seconds) = omega (arith, ints, below, lies) in
      let v : int_lt n ((w +ℤ pos 1) *ℤ window_seconds) ≡ true = grind (arith, ints, there) in
      rw (t, v) refl)
  | inr t ↦ (
      let above : w <ℤ int_div_euclid n window_seconds = grind (arith, ints, t) in
      let lies = window-holds n in
      let there : ((w +ℤ pos 1) *ℤ window_seconds) ≤ℤ n = omega (arith, ints, above, lies) in
      let v : int_lt n ((w +ℤ pos 1) *ℤ window_seconds) ≡ false = grind (arith, ints, there) in
      rw (t, v) refl)
]

-- before a window: those that begin before a second
pub before_window : (n w : ℤ) → int_lt w (int_div_euclid (n -ℤ pos 1) window_seconds +ℤ pos 1) ≡ int_lt (w *ℤ window_seconds) n
before_window n w = elim (cases_Bool (int_lt w (int_div_euclid (n -ℤ pos 1) window_seconds +ℤ pos 1))) [
  | inl t ↦ (
      let below : w ≤ℤ int_div_euclid (n -ℤ pos 1) window_seconds = grind (arith, ints, t) in
      let lies = window-holds (n -ℤ pos 1) in
      let there : (w *ℤ window_seconds) <ℤ n = omega (arith, ints, below, lies) in
      let v : int_lt (w *ℤ window_seconds) n ≡ true = grind (arith, ints, there) in
      rw (t, v) refl)
  | inr t ↦ (
      let above : int_div_euclid (n -ℤ pos 1) window_seconds <ℤ w = grind (arith, ints, t) in
      let lies = window-holds (n -ℤ pos 1) in
      let there : n ≤ℤ (w *ℤ window_seconds) = omega (arith, ints, above, lies) in
      let v : int_lt (w *ℤ window_seconds) n ≡ false = grind (arith, ints, there) in
      rw (t, v) refl)
]

-- the windows that have one second: the one that holds it
pub at_second : (n w : ℤ) → (int_lt n ((w +ℤ pos 1) *ℤ window_seconds) && int_lt (w *ℤ window_seconds) (n +ℤ pos 1)) ≡ same_int w (window_at n)
at_second n w = elim (cases_Bool (same_int w (window_at n))) [
  | inl t ↦ (
      let same = same_int-true w (window_at n) t in
      let lies = window-holds n in
      let low : n <ℤ ((w +ℤ pos 1) *ℤ window_seconds) = omega (arith, ints, same, lies) in
      let high : (w *ℤ window_seconds) <ℤ (n +ℤ pos 1) = omega (arith, ints, same, lies) in
      let a : int_lt n ((w +ℤ pos 1) *ℤ window_seconds) ≡ true = grind (arith, ints, low) in
      let b : int_lt (w *ℤ window_seconds) (n +ℤ pos 1) ≡ true = grind (arith, ints, high) in
      rw (t, a, b) refl)
  | inr t ↦ elim (cases_Bool (int_lt n ((w +ℤ pos 1) *ℤ window_seconds) && int_lt (w *ℤ window_seconds) (n +ℤ pos 1))) [
    | inl both ↦ (
        let parts = and_parts (int_lt n ((w +ℤ pos 1) *ℤ window_seconds)) (int_lt (w *ℤ window_seconds) (n +ℤ pos 1)) both in
        let low : n <ℤ ((w +ℤ pos 1) *ℤ window_seconds) = grind (arith, ints, parts.0) in
        let high : (w *ℤ window_seconds) <ℤ (n +ℤ pos 1) = grind (arith, ints, parts.1) in
        let lies = window-holds n in
        let same : w ≡ window_at n = omega (arith, ints, low, high, lies) in
        absurd (let self = same_int-self w in let e = rw (sym same) at t in cc))
    | inr none ↦ rw (t, none) refl
  ]
]

-- a window begins where the one before it ends
pub window_next : (w : ℤ) → (w *ℤ pos 5_529_600) +ℤ pos 5_529_600 ≡ (w +ℤ pos 1) *ℤ window_seconds
window_next w = omega (arith, ints)
