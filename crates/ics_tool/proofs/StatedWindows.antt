-- The windows of the dates that are served: they rise, and which of them a test leaves.
use Rattle.std.proofs.Common.{◌≡◌, ℕ, zero, suc, ◌+◌, ◌-◌, ◌<◌, ◌≤◌, Bool, true, ap, ◌∙◌, arith, ℤ, ◌-ℤ◌, ◌≤ℤ◌, get_or}
use Rattle.std.specs.Prelude.{◌&&◌, filter, nat_abs, AllPairs, int_le}
use Rattle.std.specs.List.{Contains, list_any}
use Rattle.std.proofs.lemmas.Bool.{and_from, and_parts}
use Rattle.std.proofs.lemmas.Int.{ints}
use Rattle.std.proofs.lemmas.List.Elements.{All-contains, All-map, All-weaker, Contains-append_right}
use Rattle.std.proofs.lemmas.List.Folds.{Any-from_list_any}
use Rattle.std.proofs.lemmas.List.Kept.{AllPairs-cons, AllPairs-filter}
use Rattle.cal_model.specs.Reports.NeededWindows.{first_window, last_window, is_stated_window, stated_windows}
use Rattle.cal_model.specs.Words.Integers.{same_int}
use Rattle.cal_model.specs.Words.Lists.{counted_from, numbers_between}
use Rattle.cal_model.proofs.Instances.RisingLists.{Contains-here, IsBelow}
use Rattle.cal_model.proofs.Recurrence.SetStretches.{All-between}
use Rattle.cal_model.proofs.Words.CountedLemmas.{numbers_between-cut}
use Rattle.cal_model.proofs.Words.IntegerLemmas.{same_int-self, same_int-true}
use Rattle.cal_model.proofs.Words.ListTests.{any_filter, any_from, any_map, same_bool}
use Rattle.needed_windows.specs.Stretches.{places, window_of_place, windows_at}

has_number : (a n b : ℕ) → a ≤ n → n < b → Contains (numbers_between a b) n
unfolding counted_from
has_number a n b low high =
    let some : b - n ≡ suc (b - (n + 1)) = omega arith in
    let first : Contains (numbers_between n b) n = rw some (Contains-here n (counted_from (n + 1) (b - (n + 1)))) in
    rw (numbers_between-cut a n b low (omega arith)) (Contains-append_right (numbers_between a n) (numbers_between n b) n first)

place_stated : (n : ℕ) → n < places → is_stated_window (window_of_place n) ≡ true
place_stated n below = and_from (int_le first_window (window_of_place n)) (int_le (window_of_place n) last_window) (grind (arith, ints)) (grind (arith, ints))

place_of : (w : ℤ) → is_stated_window w ≡ true → (n : ℕ) × (n < places) × (window_of_place n ≡ w)
place_of w e =
    let both = and_parts (int_le first_window w) (int_le w last_window) e in
    let low : first_window ≤ℤ w = grind (arith, ints, both.0) in
    let high : w ≤ℤ last_window = grind (arith, ints, both.1) in
    (nat_abs (w -ℤ first_window), omega (arith, ints, low, high), omega (arith, ints, low))

-- one of those that a test holds for
pub among_stated : (p : ℤ → Bool) (w : ℤ) → list_any (same_int w) (filter p stated_windows) ≡ (is_stated_window w && p w)
among_stated p w =
    let numbers = numbers_between 0 places in
    let test : ℕ → Bool = λ n. p (window_of_place n) && same_int w (window_of_place n) in
    let as_numbers : list_any (same_int w) (filter p stated_windows) ≡ list_any test numbers =
    any_filter (same_int w) p (windows_at numbers) ∙ any_map (λ x. p x && same_int w x) window_of_place numbers in
    as_numbers ∙ same_bool (list_any test numbers) (is_stated_window w && p w)
    (λ some. let found = Any-from_list_any test numbers some in
    let both = and_parts (p (window_of_place found.1)) (same_int w (window_of_place found.1)) found.4 in
    let same = same_int-true w (window_of_place found.1) both.1 in
    let below : found.1 < places = All-contains (λ n. n < places) numbers found.1 (All-between (λ n. n < places) 0 places (λ n l h. h)) (found.0, found.2, found.3) in
    and_from (is_stated_window w) (p w) (ap is_stated_window same ∙ place_stated found.1 below) (ap p same ∙ both.0))
    (λ holds. let both = and_parts (is_stated_window w) (p w) holds in
    let at = place_of w both.0 in
    any_from test numbers at.0 (has_number 0 at.0 places (omega arith) at.1)
    (and_from (p (window_of_place at.0)) (same_int w (window_of_place at.0)) (ap p at.2 ∙ both.1) (ap (same_int w) at.2 ∙ same_int-self w)))

-- they rise
rising_from : (first n : ℕ) → AllPairs IsBelow (windows_at (counted_from first n))
unfolding counted_from
rising_from first zero = λ i j d lt below. absurd (omega (arith, below))
rising_from first (suc n) =
    let later = All-between (λ m. first < m) (first + 1) (first + 1 + n) (λ m l h. omega (arith, l)) in
    let size : (first + 1 + n) - (first + 1) ≡ n = omega arith in
    AllPairs-cons IsBelow (window_of_place first) (windows_at (counted_from (first + 1) n))
    (All-map (IsBelow (window_of_place first)) window_of_place (counted_from (first + 1) n)
    (All-weaker (λ m. first < m) (λ m. IsBelow (window_of_place first) (window_of_place m)) (λ m h. omega (arith, ints, h)) (counted_from (first + 1) n) (rw size at later)))
    (rising_from (first + 1) n)

-- and no two of those that a test holds for are one
pub apart_stated : (p : ℤ → Bool) → AllPairs (λ (a b : ℤ). (a ≡ b) → ⊥) (filter p stated_windows)
apart_stated p i j d lt below same =
    let less : IsBelow (get_or (filter p stated_windows) i d) (get_or (filter p stated_windows) j d) = AllPairs-filter IsBelow p stated_windows (rising_from 0 places) i j d lt below in
    omega (arith, ints, less, same)
