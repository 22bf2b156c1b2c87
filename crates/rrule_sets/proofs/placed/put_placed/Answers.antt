use Rattle.std.proofs.Common.{◌≡◌, ◌∙◌, ◌++◌, ◌∷◌, [], sym, false, true, rules, FitsSigned, w64, to_z-of_z}
use Rattle.cal_model.specs.Instances.Rows.{is_dated}
use Rattle.rrule_sets.proofs.PlacedLemmas.{one_placed, placed_none, undated_placed}
use Rattle.rrule_sets.proofs.placed.put_placed.Goals as goal

pub returns-in_default : goal.returns-in_default
returns-in_default c = λ window. rw c.in_default.is (placed_none window c.args.out.now)

pub returns-then-not-is_dated : goal.returns-then-not-is_dated
returns-then-not-is_dated c = λ window.
    let undated : is_dated c.in-Some.row ≡ false = sym c.is_dated.ensures ∙ c.if-not-is_dated.true in
    rw c.in-Some.is (undated_placed c.args.object.now window c.args.out.now c.in-Some.row undated)

pub returns : goal.returns
returns c = λ window.
    let dated : is_dated c.in-Some.row ≡ true = sym c.is_dated.ensures ∙ c.if-not-is_dated.false in
    let fits : FitsSigned w64 c.window_of-window.result = search (rules, c.window_of-window.type_inv) in
    let pushed : c.push.new.self ≡ c.args.out.now ++ record { window = c.window_of-window.result; row = c.in-Some.row } ∷ [] = simp to_z-of_z at c.in_ok-push.ensures.ok in
    rw (c.in-Some.is, pushed) (one_placed c.args.object.now window c.args.out.now c.in-Some.row c.window_of-window.result dated c.window_of-window.ensures)
