use Rattle.std.proofs.Common.{◌∙◌, ◌++◌, ap, map}
use Rattle.cal_base.specs.Lists.NameMap.{with_value}
use Rattle.cal_base.proofs.Lists.CopyLemmas.{one_more}
use Rattle.name_pages.proofs.map.NamePages.of.Goals as goal

pub pairs-preserved : goal.pairs-preserved
pairs-preserved g c =
    let name = c.in-Some.pair.0.now.items in
    let value = c.in-Some.pair.1.now in
    let rest = map (λ pair. (pair.0.items, pair.1)) c.next.new.self in
    ap (λ named. named ++ rest) (c.in_ok-insert.ensures.ok
    ∙ (ap (λ n. with_value c.pairs.pages n c.in_ok-value.value) (c.in_ok-name.ensures ∙ c.as_slice.ensures.value)
    ∙ ap (λ v. with_value c.pairs.pages name v) c.in_ok-value.ensures))
    ∙ one_more c.args.map.now c.pairs.pages (map (λ pair. (pair.0.items, pair.1)) c.pairs.pair-iterator) rest name value c.len-count.ensures.in_order c.pairs.invariant (ap (map (λ pair. (pair.0.items, pair.1))) c.in-Some.ensures.steps)
