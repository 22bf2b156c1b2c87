use Rattle.std.proofs.Common.{sym, ap, ◌∙◌}
use Rattle.std.specs.List.{list_any}
use Rattle.cal_model.specs.Refusals.SharedRefusals.{tags_fit}
use Rattle.request_checks.specs.SharedReplies.{fits_etag}
use Rattle.request_checks.proofs.conditions.tags_fit.Goals as goal

pub returns-in-Listed : goal.returns-in-Listed
returns-in-Listed c =
    c.any_fits.ensures
    ∙ (λ i. list_any (fits_etag c.args.weakly (c.tag_of.ensures i)) (c.as_slice.ensures i))
    ∙ ap (λ tags. tags_fit c.args.weakly tags c.args.stored.now.octets) (sym c.in-Listed.is)
