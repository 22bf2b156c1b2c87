use Rattle.std.proofs.Common.{rules, ◌≡◌, ◌∙◌, refl, sym, Some}
use Rattle.cal_base.specs.Lists.NameMap.{value_at, without}
use Rattle.collections.proofs.IndexLemmas.{IsIndexed-same, IsIndexed-taken, IsIndexed-absent}
use Rattle.collections.proofs.objects.take_object.Goals as goal

pub returns-in-Some-clause-indexed : goal.returns-in-Some-clause-indexed
returns-in-Some-clause-indexed c =
    let entry = c.in-Some.entry in
    let there : value_at c.args.by_name.now c.args.name.now ≡ Some entry = sym c.remove.ensures.value ∙ c.in-Some.is in
    let uids : c.remove-gone.new.self ≡ without c.args.by_uid.now entry.stored.object.uid = search rules in
    IsIndexed-same _ _ _ _ c.remove.ensures.rest uids (IsIndexed-taken c.args.by_name.now c.args.by_uid.now c.requires.indexed c.args.name.now entry there)

pub returns-in-None-clause-indexed : goal.returns-in-None-clause-indexed
returns-in-None-clause-indexed c =
    IsIndexed-same _ _ _ _ c.remove.ensures.rest refl (IsIndexed-absent c.args.by_name.now c.args.by_uid.now c.requires.indexed c.args.name.now (sym c.remove.ensures.value ∙ c.in-None.is))
