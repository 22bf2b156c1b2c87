-- Each moment that is taken is one less to take.
use Rattle.std.proofs.Common.{◌≡◌, ℕ, suc, ◌+◌, ◌-◌, ◌*◌, ◌<◌, ◌≤◌, List, [], ◌∷◌, ◌++◌, refl, sym, ap, ◌∙◌, arith, Bool, true, false, inl, inr, cond}
use Rattle.std.specs.Prelude.{count_by, nat_le, if◌then◌else◌, ◌&&◌}
use Rattle.std.proofs.lemmas.Bool.{cases_Bool, leb-true}
use Rattle.std.proofs.lemmas.List.Sums.{sum_by-append}
use Rattle.cal_model.specs.declared.rule.Rule.{Rule}
use Rattle.cal_model.specs.Words.Lists.{numbers_between, counted_from}
use Rattle.cal_model.specs.Recurrence.NextPassing.{IsNextPassing, end_day}
use Rattle.cal_model.specs.Recurrence.Passing.{passes}
use Rattle.cal_model.specs.Recurrence.RecurrenceSet.{every_moment, first_moment}
use Rattle.cal_model.proofs.Words.CountedLemmas.{numbers_between-cut}
use Rattle.cal_model.proofs.Recurrence.Periods.{count_one, count_zero}
use Rattle.cal_model.proofs.Recurrence.Rising.{period_number-le}
use Rattle.cal_model.specs.Walks.KeptMoments.{number_of}
use Rattle.cal_model.specs.Walks.Budgets.{passes_by, last_period, budget}
use Rattle.cal_moment.specs.declared.stamp.Stamp.{Stamp}
use Rattle.cal_model.specs.Instances.Alignment.{written_moment}
use Rattle.cal_model.specs.Instances.Starts.{is_date}
use Rattle.cal_model.specs.Ranges.Cost.{passing_up_to}

count_append : (p : ℕ → Bool) (xs ys : List ℕ) → count_by p (xs ++ ys) ≡ count_by p xs + count_by p ys
count_append p xs ys = sum_by-append (λ x. cond (p x) 1 0) xs ys

count_from : (p : ℕ → Bool) (a b c : ℕ) → a ≤ b → b ≤ c → count_by p (numbers_between b c) ≤ count_by p (numbers_between a c)
count_from p a b c le end =
    let cut = ap (count_by p) (numbers_between-cut a b c le end) ∙ count_append p (numbers_between a b) (numbers_between b c) in
    omega (arith, cut)

count_here : (p : ℕ → Bool) (m c : ℕ) → m < c → p m ≡ true → count_by p (numbers_between m c) ≡ 1 + count_by p (numbers_between (m + 1) c)
unfolding counted_from
count_here p m c lt holds =
    let some : c - m ≡ suc (c - (m + 1)) = omega arith in
    rw some (count_one p m (numbers_between (m + 1) c) holds)

module _ (rule : Rule) (start : ℕ) (dated : Bool) (last : ℕ) where
  pub taken_one : (p m : ℕ) → IsNextPassing rule start dated p m → number_of rule (p - 1) ≤ last → 1 + budget rule start dated last (m + 1) ≤ budget rule start dated last p
  unfolding budget
  taken_one p m next before =
      let from = next.from in
      let below = next.before_end in
      let back : m + 1 - 1 ≡ m = omega arith in
      let allowed : nat_le (number_of rule (p - 1)) last ≡ true = grind (arith, before) in
      let up = count_from (passes_by rule start dated last) p m (86400 * end_day) from (omega (arith, below)) in
      let rest = count_from (passes_by rule start dated last) m (m + 1) (86400 * end_day) (omega arith) (omega (arith, below)) in
      elim (cases_Bool (nat_le (number_of rule m) last)) [
        | inl w ↦ (let passing = next.passing in
            let holds : passes_by rule start dated last m ≡ true = rw (passing, w) refl in
            let here = count_here (passes_by rule start dated last) m (86400 * end_day) below holds in
            rw (back, allowed, w) (omega (arith, up, here)))
        | inr w ↦ rw (back, allowed, w) (omega (arith, up, rest))
      ]

  pub taken_none : (p q : ℕ) → q ≡ 86400 * end_day → p ≤ q → number_of rule (p - 1) ≤ last → budget rule start dated last q ≤ budget rule start dated last p
  unfolding budget
  taken_none p q end le before =
      let allowed : nat_le (number_of rule (p - 1)) last ≡ true = grind (arith, before) in
      let up = count_from (passes_by rule start dated last) p (86400 * end_day) (86400 * end_day) (omega (arith, end, le)) (omega arith) in
      rw (end, allowed) (cases (nat_le (number_of rule (86400 * end_day - 1)) last) up)
    where
      cases : (b : Bool) → count_by (passes_by rule start dated last) (numbers_between (86400 * end_day) (86400 * end_day)) ≤ count_by (passes_by rule start dated last) (numbers_between p (86400 * end_day)) →
          count_by (passes_by rule start dated last) (numbers_between (86400 * end_day) (86400 * end_day)) + (if b then 1 else 0) ≤ count_by (passes_by rule start dated last) (numbers_between p (86400 * end_day)) + 1
      cases true up = omega (arith, up)
      cases false up = omega (arith, up)

  -- from any place on, no more than all such moments, and one
  pub budget_all : (p : ℕ) → first_moment ≤ p → p ≤ 86400 * end_day → budget rule start dated last p ≤ 1 + count_by (passes_by rule start dated last) every_moment
  unfolding budget every_moment
  budget_all p from to =
      let up = count_from (passes_by rule start dated last) first_moment p (86400 * end_day) from to in
      elim (cases_Bool (nat_le (number_of rule (p - 1)) last)) [
        | inl w ↦ rw w (omega (arith, up))
        | inr w ↦ rw w (omega (arith, up))
      ]

module _ (rule : Rule) (start : ℕ) (dated : Bool) (last : ℕ) where
  -- a place further on leaves no more to take
  pub budget-further : (p q : ℕ) → p ≤ q → q ≤ 86400 * end_day → budget rule start dated last q ≤ budget rule start dated last p
  unfolding budget
  budget-further p q le end =
      let up = count_from (passes_by rule start dated last) p q (86400 * end_day) le end in
      let rises = period_number-le rule.freq rule.week_start (p - 1) (q - 1) (omega (arith, le)) in
      elim (cases_Bool (nat_le (number_of rule (q - 1)) last)) [
        | inl w ↦ (let within = leb-true _ _ w in let allowed : nat_le (number_of rule (p - 1)) last ≡ true = grind (arith, rises, within) in rw (w, allowed) (omega (arith, up)))
        | inr w ↦ rw w (omega (arith, up))
      ]

-- What a walk up to the end of a day may take is what the cost counts of its rule, less one.

count_same : (p q : ℕ → Bool) → ((m : ℕ) → p m ≡ q m) → (xs : List ℕ) → count_by p xs ≡ count_by q xs
count_same p q same [] = refl
count_same p q same (x ∷ xs) = elim (cases_Bool (p x)) [
  | inl w ↦ (let v : q x ≡ true = sym (same x) ∙ w in count_one p x xs w ∙ (ap (λ n. 1 + n) (count_same p q same xs) ∙ sym (count_one q x xs v)))
  | inr w ↦ (let v : q x ≡ false = sym (same x) ∙ w in count_zero p x xs w ∙ (count_same p q same xs ∙ sym (count_zero q x xs v)))
]

swapped : (a b : Bool) → (a && b) ≡ (if b then a else false)
swapped true true = refl
swapped true false = refl
swapped false true = refl
swapped false false = refl

pub passing_up_to-counted : (moments : List ℕ) (rule : Rule) (s : Stamp) (day : ℕ) → count_by (passes_by rule (written_moment s) (is_date s) (last_period rule (86400 * (day + 1)))) moments ≡ passing_up_to moments rule s day
passing_up_to-counted moments rule s day =
    let last : 86400 * (day + 1) - 1 ≡ 86400 * day + 86399 = omega arith in
    rw last (count_same (passes_by rule (written_moment s) (is_date s) (number_of rule (86400 * day + 86399))) (λ m. if nat_le (number_of rule m) (number_of rule (86400 * day + 86399)) then passes rule (written_moment s) (is_date s) m else false)
    (λ m. swapped (passes rule (written_moment s) (is_date s) m) (nat_le (number_of rule m) (number_of rule (86400 * day + 86399)))) moments)
