use Rattle.std.proofs.Common.{◌+◌, ◌++◌, drop, ap, ◌∙◌}
use Rattle.std.specs.Prelude.{filter, flat_map}
use Rattle.cal_base.specs.Lists.NameMap.{value_at}
use Rattle.expand_limit.specs.NamedPicks.{is_comp, named_comps, asked_at}
use Rattle.expand_limit.proofs.PickLemmas.{asked-more, held}
use Rattle.expand_limit.proofs.picks.grouped.Goals as goal

pub picks-preserved : goal.picks-preserved
picks-preserved c = record {
  asked = λ name.
      ap (λ those. those ++ flat_map (named_comps name) (held (drop (c.picks.pick-index + 1) c.args.picks.now))) (c.in_ok-add_comps.ensures.groups name ∙ ap (λ comps. asked_at (value_at c.picks.groups name) ++ filter (is_comp name) comps) c.as_slice.ensures)
      ∙ asked-more name c.args.picks.now c.picks.pick-index c.pick-item.result (asked_at (value_at c.picks.groups name)) c.picks-test.true c.pick-item.is
      ∙ c.picks.invariant.asked name;
  names = c.in_ok-add_comps.ensures.names c.picks.invariant.names;
}
