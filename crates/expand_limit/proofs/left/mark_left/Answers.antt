use Rattle.std.proofs.Common.{[], length, subst}
use Rattle.std.specs.Prelude.{All, option_to_list}
use Rattle.std.proofs.lemmas.List.Elements.{All-head}
use Rattle.cal_model.specs.Objects.ObjectFacts.{IsServed}
use Rattle.override_merge.specs.Conversions.{IsConvertible}
use Rattle.expand_limit.proofs.ShownRows.{served_id}
use Rattle.expand_limit.proofs.left.mark_left.Goals as goal

pub goes-requires-clause-name : goal.goes-requires-clause-name
goes-requires-clause-name c =
    All-head (IsConvertible (length c.args.zones.now)) c.in-Some.name [] (subst (λ o. All (IsConvertible (length c.args.zones.now)) (option_to_list o)) c.in-Some.is c.requires.row.id)

pub goes-requires-clause-served : goal.goes-requires-clause-served
goes-requires-clause-served c = All-head IsServed c.in-Some.name [] (subst (λ o. All IsServed (option_to_list o)) c.in-Some.is (served_id c.args.limit.now.object.now c.args.component.now c.requires.component))
