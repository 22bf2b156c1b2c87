use Rattle.std.proofs.Common.{◌≡◌, ◌∙◌, refl, sym, Bool, true, false}
use Rattle.std.specs.Prelude.{not}
use Rattle.std.specs.List.{list_any}
use Rattle.cal_model.specs.Words.Lists.{is_empty}
use Rattle.cal_model.specs.Walks.Places.{is_place_within}
use Rattle.cal_model.proofs.Walks.PlaceLemmas.{none_picked}
use Rattle.cal_model.proofs.walk.places.picks_nothing.Goals as goal

none_of : (b : Bool) → not b ≡ true → b ≡ false
none_of false h = refl
none_of true h = absurd cc

pub returns-then-not-is_empty : goal.returns-then-not-is_empty
returns-then-not-is_empty c = λ nothing.
    let some : is_empty c.args.rule.now.by_set_pos ≡ false = sym c.is_empty.ensures ∙ c.if-not-is_empty.true in
    let none : list_any (is_place_within c.most_in_period.result) c.args.rule.now.by_set_pos ≡ false = sym c.some_within.ensures ∙ none_of c.some_within.result nothing in
    none_picked c.args.rule.now c.most_in_period.result c.most_in_period.ensures some none
