use Rattle.std.proofs.Common.{◌≡◌, ◌||◌, length, get_or, take, refl, sym, ap, ◌∙◌, arith, rules, false, to_z, of_z}
use Rattle.std.specs.Int.{w16}
use Rattle.std.specs.List.{list_any}
use Rattle.std.proofs.lemmas.List.{take_all}
use Rattle.std.proofs.lemmas.List.Folds.{list_any_more}
use Rattle.cal_model.specs.Walks.Places.{is_place_within}
use Rattle.cal_model.proofs.walk.set_places.least_needed.Goals as goal

pub loop-k-init : goal.loop-k-init
loop-k-init c = λ most few. refl

pub loop-k-preserved : goal.loop-k-preserved
loop-k-preserved c = λ most few.
    let less = c.min-least.ensures in
    let before = c.loop-k.invariant most (omega (arith, few, less)) in
    let same : to_z w16 (of_z w16 c.index-number.result.now) ≡ c.index-number.result.now = search rules in
    let fails : is_place_within most c.index-number.result.now ≡ false = rw same at (c.needed.ensures most (omega (arith, few, less))) in
    list_any_more (is_place_within most) c.args.numbers.now c.loop-k.k c.index-number.result.now (omega arith)
    ∙ (ap (λ b. b || is_place_within most (get_or c.args.numbers.now c.loop-k.k c.index-number.result.now)) before
    ∙ (ap (is_place_within most) (sym c.index-number.ensures) ∙ fails))

pub returns : goal.returns
returns c = λ most few.
    let end : c.loop-k.k ≡ length c.args.numbers.now = omega (arith, c.loop-k-test.false, c.len-size.ensures) in
    let all = take_all c.loop-k.k c.args.numbers.now (omega (arith, end)) in
    ap (list_any (is_place_within most)) (sym all) ∙ c.loop-k.invariant most few
