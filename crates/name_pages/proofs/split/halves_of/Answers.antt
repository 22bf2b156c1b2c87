use Rattle.std.proofs.Common.{◌∙◌, ◌++◌, sym, ap, subst, map}
use Rattle.cal_base.specs.Lists.NameMap.{IsInOrder}
use Rattle.name_pages.proofs.NamedLemmas.{in_order-parts}
use Rattle.name_pages.proofs.SplitLemmas.{all_taken}
use Rattle.name_pages.proofs.split.halves_of.Goals as goal

pub copy_next-requires-2 : goal.copy_next-requires-2
copy_next-requires-2 g c =
    record {
      in_order =
          (in_order-parts c.in_ok-lower.lower (map (λ pair. (pair.0.items, pair.1)) c.copy_next.new.pairs)
          (subst IsInOrder (sym (c.in_ok-lower.ensures.pairs ∙ c.iter-pairs.ensures.rest)) c.len-count.ensures.in_order)).1;
    }

pub returns-clause-pairs : goal.returns-clause-pairs
returns-clause-pairs g c =
    (λ i. c.in_ok-new.ensures i ++ c.in_ok-new-2.ensures i)
    ∙ all_taken c.in_ok-lower.lower (map (λ pair. (pair.0.items, pair.1)) c.copy_next.new.pairs) c.in_ok-upper.upper (map (λ pair. (pair.0.items, pair.1)) c.copy_next-2.new.pairs) c.args.page.now.names
    (c.in_ok-lower.ensures.pairs ∙ (c.iter-pairs.ensures.rest ∙ c.names-names.ensures)) c.in_ok-upper.ensures.pairs c.requires.full
    (λ less. ap (map (λ pair. (pair.0.items, pair.1))) (c.in_ok-lower.ensures.all less)) (λ less. ap (map (λ pair. (pair.0.items, pair.1))) (c.in_ok-upper.ensures.all less))
