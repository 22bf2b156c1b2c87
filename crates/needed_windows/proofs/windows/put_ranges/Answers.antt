use Rattle.std.proofs.Common.{ℕ, Bool, List, ◌∷◌, refl, ap}
use Rattle.std.specs.List.{list_any}
use Rattle.std.proofs.lemmas.List.{nil_from_length}
use Rattle.cal_model.specs.declared.row.Range.{Range}
use Rattle.cal_model.specs.Ranges.Cost.{window_meets}
use Rattle.needed_windows.specs.Stretches.{window_of_place}
use Rattle.needed_windows.proofs.StretchLemmas.{IsPutting-end, IsPutting-more, IsPutting-start}
use Rattle.needed_windows.proofs.windows.put_ranges.Goals as goal

pub widening-init : goal.widening-init
widening-init c = IsPutting-start (λ place. list_any (λ (range : Range). window_meets c.args.by range (window_of_place place)) c.args.ranges.now) c.args.out.now

pub widening-preserved : goal.widening-preserved
widening-preserved c =
    let meets : List Range → ℕ → Bool = λ ranges place. list_any (λ (range : Range). window_meets c.args.by range (window_of_place place)) ranges in
    IsPutting-more (λ place. window_meets c.args.by c.in-Some.range.now (window_of_place place)) (meets (c.in-Some.range.now ∷ c.in-Some.behind.now)) (meets c.in-Some.behind.now) (meets c.args.ranges.now)
    c.args.out.now c.widening.out c.put_range.new.out (λ place. refl) (rw c.in-Some.ensures.cases.0 at c.widening.invariant) c.in_ok-put_range.ensures

pub returns : goal.returns
returns c =
    let meets : List Range → ℕ → Bool = λ ranges place. list_any (λ (range : Range). window_meets c.args.by range (window_of_place place)) ranges in
    IsPutting-end (meets c.widening.rest.now) (meets c.args.ranges.now) c.args.out.now c.widening.out (λ place. ap (λ ranges. meets ranges place) (nil_from_length c.widening.rest.now c.in_default.ensures.cases)) c.widening.invariant
