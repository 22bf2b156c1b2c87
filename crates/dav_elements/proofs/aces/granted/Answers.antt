use Rattle.std.proofs.Common.{ap, map, false, ◌∙◌}
use Rattle.std.specs.Prelude.{filter, flat_map, codes}
use Rattle.cal_model.specs.Words.Namespaces.{dav}
use Rattle.cal_model.specs.Bodies.ElementParts.{children, has_name, item_elements}
use Rattle.dav_elements.specs.AceAnswers.{with_sets}
use Rattle.dav_elements.proofs.AceLemmas.{set_of, granted_bits, granted_nothing}
use Rattle.dav_elements.proofs.aces.granted.Goals as goal

pub returns-in-Some-clause-bits : goal.returns-in-Some-clause-bits
returns-in-Some-clause-bits c =
    (granted_bits c.args.ace.now c.in-Some.grant.now c.granted_by_each.result c.in-Some.ensures
    (c.granted_by_each.ensures ∙ ap (λ items. with_sets (record { bits = 0; unknown = false }) (map set_of (flat_map children (filter (has_name dav (codes "privilege")) (flat_map item_elements items))))) c.as_slice.ensures)).0

pub returns-in-Some-clause-unknown : goal.returns-in-Some-clause-unknown
returns-in-Some-clause-unknown c =
    (granted_bits c.args.ace.now c.in-Some.grant.now c.granted_by_each.result c.in-Some.ensures
    (c.granted_by_each.ensures ∙ ap (λ items. with_sets (record { bits = 0; unknown = false }) (map set_of (flat_map children (filter (has_name dav (codes "privilege")) (flat_map item_elements items))))) c.as_slice.ensures)).1

pub returns-in-None-clause-bits : goal.returns-in-None-clause-bits
returns-in-None-clause-bits c = (granted_nothing c.args.ace.now c.in-None.ensures).0

pub returns-in-None-clause-unknown : goal.returns-in-None-clause-unknown
returns-in-None-clause-unknown c = (granted_nothing c.args.ace.now c.in-None.ensures).1
