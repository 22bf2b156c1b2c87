use Rattle.std.proofs.Common.{◌≡◌, ◌∙◌, ◌++◌, ◌∷◌, ap, map, length, arith, length-append}
use Rattle.cal_base.specs.Lists.NameMap.{with_value}
use Rattle.cal_base.proofs.Lists.CopyLemmas.{one_more}
use Rattle.name_pages.proofs.split.copy_next.Goals as goal

pub pairs-preserved : goal.pairs-preserved
pairs-preserved g c =
    let name = c.in-Some.pair.0.now.items in
    let value = c.in-Some.pair.1.now in
    let whole = map (λ pair. (pair.0.items, pair.1)) c.args.pairs.now in
    let left = map (λ pair. (pair.0.items, pair.1)) c.pairs.pairs in
    let rest = map (λ pair. (pair.0.items, pair.1)) c.next.new.self in
    let first : left ≡ (name, value) ∷ rest = ap (map (λ pair. (pair.0.items, pair.1))) c.in-Some.ensures.steps in
    let taken : c.insert.new.self ++ rest ≡ whole =
    ap (λ named. named ++ rest) (c.in_ok-insert-in-Some.ensures.ok
    ∙ (ap (λ n. with_value c.pairs.copy n c.in_ok-value-in-Some.value) (c.in_ok-name-in-Some.ensures ∙ c.as_slice.ensures.value)
    ∙ ap (λ v. with_value c.pairs.copy name v) c.in_ok-value-in-Some.ensures))
    ∙ one_more whole c.pairs.copy left rest name value c.requires.in_order c.pairs.invariant.2 first in
    (tt, tt, taken, omega (arith, length-append c.insert.new.self rest, length-append c.pairs.copy left, ap length taken, ap length c.pairs.invariant.2, ap length first, c.pairs.invariant.3))
