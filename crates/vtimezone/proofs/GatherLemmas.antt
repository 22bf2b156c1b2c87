-- What a part gathers, some moments and one rule more.
use Rattle.std.proofs.Common.{◌≡◌, ℕ, ◌+◌, ◌-◌, ◌*◌, ◌<◌, ◌≤◌, List, [], ◌∷◌, ◌++◌, length, map, append_assoc, refl, sym, ap, ◌∙◌, arith, Bool, true, nat_lt}
use Rattle.std.specs.Prelude.{All, filter, nat_le, ◌&&◌, Option, None, Some}
use Rattle.std.proofs.lemmas.List.{map-append, append-nil}
use Rattle.std.proofs.lemmas.List.Elements.{All-head, All-tail, All-filter, All-take, filter-append, filter_passes}
use Rattle.std.proofs.lemmas.List.Sums.{sum_by-cons}
use Rattle.cal_model.specs.declared.rule.Rule.{Rule}
use Rattle.cal_model.specs.declared.zone.ZonePart.{ZonePart}
use Rattle.cal_model.specs.Recurrence.NextPassing.{end_day}
use Rattle.cal_model.specs.Recurrence.RecurrenceSet.{Reading, every_moment, first_moment, first_counted, later_moments, last_written, found_moments, at_places, until_passes}
use Rattle.cal_model.specs.TimeZones.ZoneOnsets as zone
use Rattle.cal_model.proofs.Recurrence.SetStretches.{later_moments-All, All-between}
use Rattle.vtimezone.specs.Gathered.{change_at, changes_at, count_of_rules}

filter_all : {X : Type 0} (p : X → Bool) (xs : List X) → All (λ x. p x ≡ true) xs → filter p xs ≡ xs
filter_all p [] all = refl
filter_all p (x ∷ xs) all = let here = All-head (λ x. p x ≡ true) x xs all in rw here (ap (λ ys. x ∷ ys) (filter_all p xs (All-tail (λ x. p x ≡ true) x xs all)))

All-both : {X : Type 0} (P Q R : X → Type 0) → ((x : X) → P x → Q x → R x) → (xs : List X) → All P xs → All Q xs → All R xs
All-both P Q R h xs p q = λ k d lt. h _ (p k d lt) (q k d lt)

-- each moment of a set but the start is up to UNTIL
by_until : (rule : Rule) (start : ℕ) (reading : Reading) (moments : List ℕ) → All (λ m. until_passes reading rule.until m ≡ true) (later_moments rule start reading moments)
by_until rule start reading moments =
    All-filter (λ m. nat_le m last_written) (λ m. until_passes reading rule.until m ≡ true) _
    (counted rule.count _ (filter_passes (until_passes reading rule.until) (filter (λ m. nat_lt start m) (at_places rule (found_moments rule start reading moments)))))
  where
    counted : (count : Option ℕ) (xs : List ℕ) → All (λ m. until_passes reading rule.until m ≡ true) xs → All (λ m. until_passes reading rule.until m ≡ true) (first_counted count xs)
    counted None xs h = h
    counted (Some c) xs h = All-take (λ m. until_passes reading rule.until m ≡ true) (c - 1) xs h

-- a range that ends where UNTIL lets no more pass leaves nothing out
pub whole_set : (rule : Rule) (start : ℕ) (reading : Reading) (high : ℕ) →
    ((m : ℕ) → m < 86_400 * end_day → until_passes reading rule.until m ≡ true → m < high) →
    filter (λ m. nat_le first_moment m && nat_lt m high) (later_moments rule start reading every_moment) ≡ later_moments rule start reading every_moment
unfolding every_moment
whole_set rule start reading high before =
    filter_all (λ m. nat_le first_moment m && nat_lt m high) (later_moments rule start reading every_moment)
    (All-both (λ m. (first_moment ≤ m) × (m < 86_400 * end_day)) (λ m. until_passes reading rule.until m ≡ true) (λ m. (nat_le first_moment m && nat_lt m high) ≡ true)
    (λ m bounds until. let low = bounds.0 in let lt = before m bounds.1 until in
    let a : nat_le first_moment m ≡ true = grind (arith, low) in let b : nat_lt m high ≡ true = grind (arith, lt) in rw (a, b) refl)
    (later_moments rule start reading every_moment)
    (later_moments-All (λ m. (first_moment ≤ m) × (m < 86_400 * end_day)) rule start reading every_moment
    (All-between (λ m. (first_moment ≤ m) × (m < 86_400 * end_day)) first_moment (86_400 * end_day) (λ m low high. (low, high))))
    (by_until rule start reading every_moment))

changes_at-append : (part : ZonePart) (xs ys : List ℕ) → changes_at part (xs ++ ys) ≡ changes_at part xs ++ changes_at part ys
changes_at-append part xs ys =
    ap (map (change_at part)) (filter-append (λ m. nat_lt m (86_400 * end_day)) xs ys)
    ∙ map-append (change_at part) (filter (λ m. nat_lt m (86_400 * end_day)) xs) (filter (λ m. nat_lt m (86_400 * end_day)) ys)

-- what is gathered and what is still to come
pub gathered_more : (part : ZonePart) (before after whole : List zone.Change) (xs ys : List ℕ) →
    after ≡ before ++ changes_at part xs → before ++ changes_at part (xs ++ ys) ≡ whole → after ++ changes_at part ys ≡ whole
gathered_more part before after whole xs ys more is =
    ap (λ cs. cs ++ changes_at part ys) more
    ∙ (append_assoc before (changes_at part xs) (changes_at part ys)
    ∙ (sym (ap (λ cs. before ++ cs) (changes_at-append part xs ys)) ∙ is))

pub gathered_all : (part : ZonePart) (cs whole : List zone.Change) (xs : List ℕ) → cs ++ changes_at part xs ≡ whole → xs ≡ [] → cs ≡ whole
gathered_all part cs whole xs is none =
    sym (append-nil cs) ∙ (sym (ap (λ ms. cs ++ changes_at part ms) none) ∙ is)

pub count_of_rules-cons : (part : ZonePart) (rule : Rule) (rules : List Rule) →
    count_of_rules part (rule ∷ rules) ≡ length (zone.rule_moments every_moment part rule) + count_of_rules part rules
count_of_rules-cons part rule rules =
    sum_by-cons (λ n. n) (length (zone.rule_moments every_moment part rule)) (map (λ r. length (zone.rule_moments every_moment part r)) rules)

pub table_count-cons : (part : ZonePart) (parts : List ZonePart) → zone.table_count (part ∷ parts) ≡ zone.count_of_part every_moment part + zone.table_count parts
table_count-cons part parts = sum_by-cons (λ n. n) (zone.count_of_part every_moment part) (map (zone.count_of_part every_moment) parts)
