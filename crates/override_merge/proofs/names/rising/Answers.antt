use Rattle.std.proofs.Common.{◌≡◌, ◌∙◌, rules}
use Rattle.std.specs.Ordering.{int_eq, int_cmp}
use Rattle.std.specs.List.{dedup}
use Rattle.std.specs.List.Sorted.{IsSorted}
use Rattle.std.proofs.lemmas.List.Filters.{dedup_is}
use Rattle.cal_model.proofs.Instances.SortedNumbers.{rising_is}
use Rattle.override_merge.proofs.names.rising.Goals as goal

pub returns : goal.returns
returns c =
    let made = c.into_vec-items.ensures in
    let sorted : IsSorted int_cmp c.sort.new.self.items = search rules in
    let kept : c.from_vec.result ≡ dedup int_eq c.sort.new.self.items = c.from_vec.ensures ∙ dedup_is int_eq c.sort.new.self.items c.dedup.new.self.items c.dedup.ensures.filtered in
    rising_is c.args.numbers c.sort.new.self.items c.from_vec.result (rw made at c.sort.ensures.permutation) sorted kept
