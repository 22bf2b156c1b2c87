use Rattle.std.proofs.Common.{◌≡◌, ◌∙◌, refl, rules}
use Rattle.std.proofs.lemmas.Result.{IfOk-weaker}
use Rattle.collections.specs.Homes.{empty_calendar, first_name}
use Rattle.collections.proofs.OpeningLemmas.{first_made}
use Rattle.collections.proofs.home.first_calendar.Goals as goal

pub returns : goal.returns
returns c =
    let named : c.in_ok-name.name ≡ first_name = search rules in
    let made = first_made c.args.number c.in_ok-name.name (empty_calendar c.args.number c.in_ok-name.name) c.as_slice.result.now refl (c.as_slice.ensures ∙ c.in_ok-sets.ensures) named in
    IfOk-weaker c.with_settings.result _ _ (λ kept is. is ∙ made) c.with_settings.ensures
