use Rattle.std.proofs.Common.{List, [], map, ap, ◌∙◌, subst}
use Rattle.dav_write.proofs.Appending.{on_ok_then}
use Rattle.cal_model.specs.declared.property.PropName.{PropName}
use Rattle.cal_model.specs.Properties.PropertyTable.{answer}
use Rattle.multistatus.specs.Answered.{IsAnswered}
use Rattle.dav_props.specs.Finding.{asking, names_asked}
use Rattle.dav_props.specs.Subjects.{resource_of}
use Rattle.dav_props.proofs.telling.tell_asked.Goals as goal

pub returns-in-All : goal.returns-in-All
returns-in-All g c = rw c.in-All.is (on_ok_then c.tell_listed.result (λ tells unseen front href so_far. tells unseen front href [] so_far) c.tell_listed.ensures)

pub returns-in-Names : goal.returns-in-Names
returns-in-Names g c = rw c.in-Names.is (on_ok_then c.tell_listed-in-Names.result (λ tells unseen front href so_far. tells unseen front href [] so_far) c.tell_listed-in-Names.ensures)

pub returns-in-Some : goal.returns-in-Some
returns-in-Some g c =
    on_ok_then c.tell_named.result
    (λ tells unseen front href so_far. rw c.in-Some.is
    (subst (λ (names : List PropName). IsAnswered front href (map (answer (asking (g.V.View.directory c.args.seen.now.view.now) c.args.seen.now.who) (resource_of c.args.subject.now unseen)) names) c.tell_named.new.response c.tell_named.new.out)
    (c.requires.named ∙ ap names_asked c.in-Some.is) (tells unseen front href [] so_far)))
    c.tell_named.ensures
