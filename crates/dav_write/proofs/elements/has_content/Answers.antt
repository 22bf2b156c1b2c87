use Rattle.std.proofs.Common.{refl, sym, ◌∙◌, arith}
use Rattle.std.proofs.lemmas.Bool.{false≢true}
use Rattle.dav_write.proofs.ElementLemmas.{some_written, none_more}
use Rattle.dav_write.proofs.elements.has_content.Goals as goal

pub returns-then-is_written : goal.returns-then-is_written
returns-then-is_written c = (λ _. some_written c.args.items.now c.items.item-index c.item-item.result (omega arith) c.item-item.is (c.is_written.ensures.0 c.if-is_written.true), λ _. refl)

pub items-preserved : goal.items-preserved
items-preserved c = none_more c.args.items.now c.items.item-index c.item-item.result (omega arith) c.item-item.is c.items.invariant (λ some. false≢true (sym c.if-is_written.false ∙ c.is_written.ensures.1 some))
