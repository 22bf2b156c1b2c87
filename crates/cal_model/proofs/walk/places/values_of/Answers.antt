use Rattle.std.proofs.Common.{◌≡◌, ◌∙◌, sym, arith, true}
use Rattle.std.proofs.lemmas.Bool.{eqb-true}
use Rattle.cal_model.specs.Words.Lists.{is_empty}
use Rattle.cal_model.specs.Recurrence.Passing.{part_passes}
use Rattle.cal_model.proofs.Words.CountedRuns.{count_in-one}
use Rattle.cal_model.proofs.walk.places.values_of.Goals as goal

pub returns-then-is_empty-clause-most : goal.returns-then-is_empty-clause-most
returns-then-is_empty-clause-most c = λ of_start.
    let none : is_empty c.args.part.now ≡ true = sym c.is_empty.ensures ∙ c.if-is_empty.true in
    count_in-one (part_passes c.args.part.now of_start) of_start 0 c.args.bound (omega arith) (λ m w. let same = rw none at w in eqb-true _ _ same)
