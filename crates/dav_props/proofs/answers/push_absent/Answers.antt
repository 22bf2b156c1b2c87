use Rattle.dav_props.proofs.answers.push_absent.Goals as goal

pub returns-clause-element : goal.returns-clause-element
returns-clause-element c = c.in_ok-push_empty.ensures.element 404
