use Rattle.std.proofs.Common.{◌≡◌, [], ◌∷◌, refl, subst}
use Rattle.cal_model.specs.Instances.Rows.{Numbered}
use Rattle.expand_limit.specs.SeenRows.{masters_from}
use Rattle.expand_limit.proofs.left.master_number.Goals as goal

pub returns-in-None : goal.returns-in-None
returns-in-None c = subst (λ cs. masters_from 0 cs ≡ []) c.as_slice.ensures c.in-None.ensures

pub returns-in-Some : goal.returns-in-Some
returns-in-Some c =
    let found = c.in-Some.found in
    let n : Numbered = record { number = found.1; component = found.0.now } in
    let rest = c.in-Some.ensures.0 in
    (n, rest, subst (λ cs. masters_from 0 cs ≡ n ∷ rest) c.as_slice.ensures c.in-Some.ensures.1, refl)
