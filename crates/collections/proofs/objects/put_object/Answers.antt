use Rattle.std.proofs.Common.{rules, ◌≡◌}
use Rattle.cal_base.specs.Lists.NameMap.{with_value, without}
use Rattle.collections.proofs.IndexLemmas.{IsIndexed-same, IsIndexed-put, IsIndexed-put_back}
use Rattle.collections.proofs.objects.put_object.Goals as goal

pub returns-in-Ok-clause-indexed : goal.returns-in-Ok-clause-indexed
returns-in-Ok-clause-indexed c =
    let stored = c.args.stored.now in
    let names : c.insert-2.new.self ≡ with_value c.args.by_name.now stored.path.object (record { stored = stored; origin = c.args.origin }) = search rules in
    let uids : c.insert.new.self ≡ with_value c.args.by_uid.now stored.object.uid stored = search rules in
    IsIndexed-same _ _ _ _ names uids (IsIndexed-put c.args.by_name.now c.args.by_uid.now c.requires.indexed stored c.args.origin c.requires.alone)

pub returns-in-Err-clause-indexed : goal.returns-in-Err-clause-indexed
returns-in-Err-clause-indexed c =
    let stored = c.args.stored.now in
    let names : c.insert-2.new.self ≡ c.args.by_name.now = search rules in
    let back : c.remove-indexed.new.self ≡ without (with_value c.args.by_uid.now stored.object.uid stored) stored.object.uid = search rules in
    IsIndexed-same _ _ _ _ names back (IsIndexed-put_back c.args.by_name.now c.args.by_uid.now c.requires.indexed stored c.args.origin c.requires.alone (search rules))
