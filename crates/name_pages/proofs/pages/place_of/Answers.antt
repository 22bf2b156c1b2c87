use Rattle.std.proofs.Common.{rules, true, false, ◌≡◌}
use Rattle.std.specs.List.Sorted.{IsPartitionPoint}
use Rattle.std.proofs.lemmas.List.Sorted.{IsPartitionPoint-from_clause}
use Rattle.name_pages.proofs.PlaceLemmas.{begins, parted, first_begins, place_found}
use Rattle.name_pages.proofs.pages.place_of.Goals as goal

pub overflow_sub-result : goal.overflow_sub-result
overflow_sub-result g c =
    first_begins c.args.name.now c.args.pages.now c.partition_point.result c.requires.pages
    (IsPartitionPoint-from_clause (begins c.args.name.now) c.args.pages.now c.partition_point.result c.partition_point.ensures.partitioned (parted c.args.name.now c.args.pages.now c.requires.pages.apart) (λ a r q k. search rules))

pub returns-clause-place : goal.returns-clause-place
returns-clause-place g c =
    let point : IsPartitionPoint (λ page. begins c.args.name.now page ≡ true) (λ page. begins c.args.name.now page ≡ false) c.args.pages.now c.partition_point.result =
    IsPartitionPoint-from_clause (begins c.args.name.now) c.args.pages.now c.partition_point.result c.partition_point.ensures.partitioned (parted c.args.name.now c.args.pages.now c.requires.pages.apart) (λ a r q k. search rules) in
    place_found c.args.name.now c.args.pages.now c.partition_point.result c.requires.pages point c.partition_point.ensures.bound
    (first_begins c.args.name.now c.args.pages.now c.partition_point.result c.requires.pages point)
