use Rattle.std.proofs.Common.{[], fold, ap, subst, sym, ◌∙◌, rules}
use Rattle.std.proofs.lemmas.List.Sorted.{answers_always}
use Rattle.std.specs.List.Sorted.{IsSortedByKey}
use Rattle.std.specs.Ordering.{int_cmp}
use Rattle.cal_model.specs.TimeZones.ZoneOnsets as zone
use Rattle.vtimezone.specs.declared.change.Change.{Change}
use Rattle.vtimezone.specs.Gathered as spec
use Rattle.vtimezone.proofs.TableLemmas.{fold-stable}
use Rattle.vtimezone.proofs.table.in_order.Goals as goal

pub returns-in-Ok-clause-sorted : goal.returns-in-Ok-clause-sorted
returns-in-Ok-clause-sorted c =
    subst (λ cs. IsSortedByKey (λ (x : Change). x.at) int_cmp cs) (sym c.from_vec.ensures)
    (c.in-Ok.ensures.sorted (λ (x : Change). x.at) (answers_always _ _ _ (λ f a r g h. search rules)))

pub returns-in-Ok-clause-same : goal.returns-in-Ok-clause-same
returns-in-Ok-clause-same c =
    ap (λ cs. fold zone.put_change [] (spec.changes_of cs)) c.from_vec.ensures
    ∙ (fold-stable c.into_vec-items.result.items c.sort_by_key.new.self.items
    (c.sort_by_key.ensures.stable (λ (x : Change). x.at) (answers_always _ _ _ (λ f a r g h. search rules)))
    ∙ ap (λ cs. fold zone.put_change [] (spec.changes_of cs)) c.into_vec-items.ensures)
