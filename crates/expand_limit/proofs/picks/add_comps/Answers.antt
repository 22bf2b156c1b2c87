use Rattle.std.proofs.Common.{◌+◌, ◌++◌, drop, ap, ◌∙◌}
use Rattle.std.specs.Prelude.{filter}
use Rattle.cal_base.specs.Lists.NameMap.{value_at}
use Rattle.expand_limit.specs.NamedPicks.{is_comp, asked_at}
use Rattle.expand_limit.proofs.PickLemmas.{comps-more}
use Rattle.expand_limit.proofs.picks.add_comps.Goals as goal

pub comps-preserved : goal.comps-preserved
comps-preserved c = record {
  asked = λ name.
      ap (λ those. those ++ filter (is_comp name) (drop (c.comps.comp-index + 1) c.args.named.now)) (c.in_ok-add_comp.ensures.groups name)
      ∙ comps-more name c.args.named.now c.comps.comp-index c.comp-item.result (asked_at (value_at c.comps.groups name)) c.comps-test.true c.comp-item.is
      ∙ c.comps.invariant.asked name;
  names = λ covered. c.in_ok-add_comp.ensures.names (c.comps.invariant.names covered);
}
