use Rattle.std.proofs.Common.{◌≡◌, true, refl, sym, ◌∙◌, arith, ap}
use Rattle.std.specs.Prelude.{◌==◌}
use Rattle.std.proofs.lemmas.Bool.Decides.{nat_tests}
use Rattle.cal_model.specs.Properties.PropertyReplies.{property_element}
use Rattle.cal_model.specs.Properties.PropertyTable.{without_value}
use Rattle.dav_reports.proofs.ShownLemmas.{front_kept}
use Rattle.dav_reports.proofs.shown_response.keep_name.Goals as goal

pub returns : goal.returns
returns c front href said a is name status =
    let found : a.status ≡ 200 = omega (arith, status) in
    let test : (a.status == 200) ≡ true = grind (arith, nat_tests, found) in
    let kept = front_kept c.args.place c.args.out.now c.truncate.new.self (property_element (without_value c.args.name.now 200)) c.push_empty_property.new.out c.requires c.truncate.ensures (c.in_ok-push_empty_property.ensures.element 200) in
    rw test (c.take_in.ensures.answered front href said (without_value a.name 200) (rw kept.0 is) (kept.1 ∙ ap (λ n. property_element (without_value n 200)) (sym name)) refl)
