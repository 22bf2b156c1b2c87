use Rattle.std.proofs.Common.{sym, subst, List, ℕ}
use Rattle.cal_model.specs.Instances.Rows.{Numbered, numbered}
use Rattle.filter_eval.specs.Links.{IsNext}
use Rattle.filter_eval.specs.Places.{component_keys}
use Rattle.filter_eval.proofs.SkippedItems.{kept_from, numbered_keys}
use Rattle.filter_eval.proofs.walks.first_component.Goals as goal

pub returns-in-Some : goal.returns-in-Some
returns-in-Some c =
    let object = c.args.subject.now.object.now in
    kept_from (λ (n : Numbered). n.component.child) (numbered object) c.args.child 0 c.first.result
    (subst (λ (keys : List ℕ). IsNext keys c.args.child 0 c.first.result) (sym (numbered_keys 0 object.components)) (c.first.ensures (component_keys object.components) (rw c.in-Some.is at c.requires.component_links)))
