use Rattle.std.proofs.Common.{◌≡◌, ◌∷◌, ◌++◌, [], All, ap, subst, sym, ◌∙◌}
use Rattle.std.proofs.lemmas.List.Elements.{All-nil, All-cons}
use Rattle.cal_model.specs.TimeZones.TableBounds.{IsPart}
use Rattle.bench.proofs.rules.new_york.Goals as goal

pub returns-clause-parts : goal.returns-clause-parts
returns-clause-parts c =
    let first = c.in_ok-daylight.daylight in
    let second = c.in_ok-standard.standard in
    let made : c.push-2.new.self ≡ first ∷ second ∷ [] =
    c.in_ok-push-2.ensures.ok ∙ ap (λ ps. ps ++ second ∷ []) (c.in_ok-push.ensures.ok ∙ ap (λ ps. ps ++ first ∷ []) c.new-parts.ensures) in
    subst (All IsPart) (sym made) (All-cons IsPart first (second ∷ []) c.in_ok-daylight.ensures (All-cons IsPart second [] c.in_ok-standard.ensures (All-nil IsPart)))
