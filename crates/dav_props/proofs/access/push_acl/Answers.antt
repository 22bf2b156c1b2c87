use Rattle.std.proofs.Common.{◌++◌, ap, ◌∙◌}
use Rattle.std.specs.Prelude.{flat_map}
use Rattle.cal_model.specs.Properties.PropertyValues.{owner_ace, grant_element}
use Rattle.dav_write.proofs.Appending.{then_more, on_ok_then}
use Rattle.multistatus.proofs.TagLemmas.{behind_front}
use Rattle.dav_props.proofs.access.push_acl.Goals as goal

pub returns-clause-text : goal.returns-clause-text
returns-clause-text g c =
    let aces = flat_map (grant_element (g.V.View.directory c.args.seen.now.view.now)) in
    on_ok_then c.push_grants.result
    (λ written. then_more c.args.out.now owner_ace _ c.in_ok-extend_from_slice.ensures.ok (written ∙ ap (λ grants. c.extend_from_slice.new.self ++ aces grants) c.as_slice.ensures))
    c.push_grants.ensures.text

pub returns-clause-front : goal.returns-clause-front
returns-clause-front g c = behind_front c.args.out.now owner_ace _ _ c.in_ok-extend_from_slice.ensures.ok c.push_grants.ensures.front
