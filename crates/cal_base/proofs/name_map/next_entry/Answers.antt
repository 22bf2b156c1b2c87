use Rattle.std.proofs.Common.{◌∙◌, ap}
use Rattle.std.specs.List.{slice_get}
use Rattle.cal_base.proofs.Lists.NameMapLemmas.{entries_above-same}
use Rattle.cal_base.proofs.name_map.next_entry.Goals as goal

pub returns-in-Some : goal.returns-in-Some
returns-in-Some g c =
    c.first_behind.ensures
    ∙ ap (λ entries. slice_get entries 0) (entries_above-same (λ key. key.items) c.args.entries.now.entries c.args.name.now c.in-Some.key.now.items c.in-Some.ensures.same_key)
