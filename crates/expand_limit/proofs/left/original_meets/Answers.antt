use Rattle.std.proofs.Common.{[], length, sym, ap, subst, ◌∙◌}
use Rattle.std.specs.Prelude.{All, option_to_list}
use Rattle.std.specs.List.{list_any}
use Rattle.std.proofs.lemmas.List.Elements.{All-head}
use Rattle.override_merge.specs.Conversions.{IsConvertible}
use Rattle.expand_limit.specs.SeenRows.{IsMaster, meets, originals}
use Rattle.expand_limit.proofs.SeenParts.{originals-none}
use Rattle.expand_limit.proofs.left.original_meets.Goals as goal

pub master_meets-requires-clause-ids : goal.master_meets-requires-clause-ids
master_meets-requires-clause-ids c =
    All-head (IsConvertible (length c.args.zones.now)) c.in-Some.ids [] (subst (λ o. All (IsConvertible (length c.args.zones.now)) (option_to_list o)) c.in-Some.is c.requires.ids)

pub returns-in-None : goal.returns-in-None
returns-in-None c =
    let limit = c.args.limit.now in
    sym (ap (λ o. list_any (meets limit) (originals limit o c.args.name c.args.seen)) c.in-Some.is
    ∙ originals-none limit c.in-Some.ids c.args.name c.args.seen (subst (IsMaster limit.object.now) c.in-None.is c.requires.master))
