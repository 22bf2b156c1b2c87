use Rattle.std.proofs.Common.{◌≡◌, ◌∷◌, sym, ap, ◌∙◌}
use Rattle.std.specs.Prelude.{filter}
use Rattle.cal_base.specs.Lists.NameMap.{value_at}
use Rattle.expand_limit.specs.NamedPicks.{said_by, is_prop}
use Rattle.expand_limit.proofs.PickLemmas.{said-next}
use Rattle.expand_limit.proofs.picks.add_props.Goals as goal

pub props-preserved : goal.props-preserved
props-preserved c = λ name.
    let split : c.props.rest.now ≡ c.in-Some.prop.now ∷ c.in-Some.behind.now = c.in-Some.ensures.cases.0 in
    ap (λ said. said_by said (filter (is_prop name) c.in-Some.behind.now)) (c.in_ok-add_prop.ensures name)
    ∙ said-next (value_at c.props.props name) (is_prop name) c.in-Some.prop.now c.in-Some.behind.now
    ∙ ap (λ props. said_by (value_at c.props.props name) (filter (is_prop name) props)) (sym split)
    ∙ c.props.invariant name
