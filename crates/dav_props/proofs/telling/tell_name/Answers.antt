use Rattle.std.proofs.Common.{List, ℕ, [], ◌∷◌, refl, sym, subst}
use Rattle.cal_model.specs.Properties.PropertyReplies.{property_element}
use Rattle.cal_model.specs.Properties.PropertyTable.{without_value}
use Rattle.multistatus.specs.Answered.{IsAnswered}
use Rattle.dav_props.specs.Rows.{asked_name}
use Rattle.dav_props.proofs.TellingLemmas.{appended_at, on_ok_told}
use Rattle.dav_props.proofs.telling.tell_name.Goals as goal

pub returns : goal.returns
returns c =
    let a = without_value (asked_name c.args.asked.now) 200 in
    let here = appended_at c.args.out.now c.push_empty.new.out (property_element a) c.len-place.result c.len-place.ensures (c.in_ok-push_empty.ensures.element 200) in
    on_ok_told c.take_in.result c.args.response.now c.args.out.now c.take_in.new.self c.take_in.new.out (a ∷ [])
    (λ front href before so_far. c.take_in.ensures.answered front href before a (subst (λ (written : List ℕ). IsAnswered front href before c.args.response.now written) (sym here.0) so_far) here.1 refl)
