use Rattle.std.proofs.Common.{◌+◌, ap, ◌∙◌, drop}
use Rattle.std.specs.Prelude.{filter, flat_map}
use Rattle.cal_base.specs.Lists.NameMap.{value_at}
use Rattle.expand_limit.specs.NamedPicks.{said_by, is_prop, named_props}
use Rattle.expand_limit.proofs.PickLemmas.{said-more, held}
use Rattle.expand_limit.proofs.picks.props_of.Goals as goal

pub picks-preserved : goal.picks-preserved
picks-preserved c = λ name.
    let picks = c.args.picks.now in
    let i = c.picks.pick-index in
    ap (λ said. said_by said (flat_map (named_props name) (held (drop (i + 1) picks)))) (c.in_ok-add_props.ensures name ∙ ap (λ props. said_by (value_at c.picks.props name) (filter (is_prop name) props)) c.as_slice.ensures)
    ∙ said-more name picks i c.pick-item.result (value_at c.picks.props name) c.picks-test.true c.pick-item.is
    ∙ c.picks.invariant name
