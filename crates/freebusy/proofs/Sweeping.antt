-- The state of a sweep that goes from the end of a range to its start: what was found are the runs from the moment that it has come to.
use Rattle.std.proofs.Common.{◌≡◌, ◌<◌, List, [], Option, sym, ap, ◌∙◌, ◌⊎◌, inl, inr, arith}
use Rattle.std.specs.Prelude.{ℤ, ◌≤ℤ◌, ◌<ℤ◌}
use Rattle.std.proofs.lemmas.Int.{ints}
use Rattle.cal_model.specs.declared.object.Class.{Class}
use Rattle.cal_model.specs.Busy.BusyTimes.{BusyTime}
use Rattle.freebusy.specs.Sweep.{with_stretch}
use Rattle.freebusy.proofs.Stretches.{runs_between, runs_between-none, seconds_between, seconds-is, no_stretch, with_stretch-runs}

pub record IsSwept (f : ℤ → Option Class) (low high upper : ℤ) (found : List BusyTime) : Type 0 where
  pub below : upper ≤ℤ high
  pub edge : (low ≤ℤ upper) ⊎ (upper ≡ high)
  pub runs : found ≡ runs_between f upper high

pub swept_first : (f : ℤ → Option Class) (low high upper : ℤ) (found : List BusyTime) → upper ≡ high → found ≡ [] → IsSwept f low high upper found
swept_first f low high upper found same none = record {
  below = omega (arith, ints, same);
  edge = inr same;
  runs = none ∙ runs_between-none f upper ∙ ap (λ (z : ℤ). runs_between f upper z) same;
}

pub swept_next : (f : ℤ → Option Class) (low high from upper : ℤ) (o : Option Class) (found longer : List BusyTime) → IsSwept f low high upper found → low ≤ℤ from → from <ℤ upper
    → ((t : ℤ) → from ≤ℤ t → t <ℤ upper → f t ≡ o) → longer ≡ with_stretch o from upper found → IsSwept f low high from longer
swept_next f low high from upper o found longer swept later before steady is =
    let here : f from ≡ o = steady from (omega (arith, ints)) before in
    record {
      below = omega (arith, ints, swept.below, before);
      edge = inl later;
      runs = is ∙ ap (with_stretch o from upper) swept.runs ∙ ap (λ (c : Option Class). with_stretch c from upper (runs_between f upper high)) (sym here)
          ∙ with_stretch-runs f from upper high swept.below (inl (omega (arith, ints, before))) (λ t above below. steady t above below ∙ sym here);
    }

pub swept_last : (f : ℤ → Option Class) (low high upper : ℤ) (found : List BusyTime) → IsSwept f low high upper found → upper ≤ℤ low → found ≡ runs_between f low high
swept_last f low high upper found swept past = swept.runs ∙ no_stretch f low upper high past swept.below swept.edge

-- each stretch leaves fewer seconds
pub fewer_seconds : (low from upper : ℤ) → low ≤ℤ from → from <ℤ upper → seconds_between low from < seconds_between low upper
fewer_seconds low from upper later before = omega (arith, ints, before, seconds-is low from later, seconds-is low upper (omega (arith, ints, later, before)))
