use Rattle.std.proofs.Common.{◌≡◌, sym, ap, length, rules, arith}
use Rattle.std.specs.Ordering.{int_eq, int_cmp}
use Rattle.std.specs.List.{dedup}
use Rattle.std.specs.List.Sorted.{IsSorted}
use Rattle.std.proofs.lemmas.Grind.{common_steps}
use Rattle.std.proofs.lemmas.List.Filters.{dedup_is}
use Rattle.cal_model.specs.Instances.Starts.{ascending}
use Rattle.cal_model.proofs.Instances.SortedNumbers.{rising_is}
use Rattle.cal_object.proofs.Doubles.{has_double-length}
use Rattle.cal_object.proofs.identifiers.has_double.Goals as goal

pub returns : goal.returns
returns c =
    let made = c.into_vec-items.ensures in
    let sorted : IsSorted int_cmp c.sort.new.self.items = search rules in
    let kept : c.dedup.new.self.items ≡ dedup int_eq c.sort.new.self.items = dedup_is int_eq c.sort.new.self.items c.dedup.new.self.items c.dedup.ensures.filtered in
    let up : c.dedup.new.self.items ≡ ascending c.args.numbers = rising_is c.args.numbers c.sort.new.self.items c.dedup.new.self.items (rw made at c.sort.ensures.permutation) sorted kept in
    let after = c.len.ensures in
    let before = c.len-count.ensures in
    let shorter : length c.dedup.new.self.items ≡ length (ascending c.args.numbers) = ap length up in
    let whole : length c.into_vec-items.result.items ≡ length c.args.numbers = ap length made in
    let left : c.len.result ≡ length (ascending c.args.numbers) = grind (arith, common_steps) in
    let all : c.len-count.result ≡ length c.args.numbers = grind (arith, common_steps) in
    rw (left, all) (sym (has_double-length c.args.numbers))
