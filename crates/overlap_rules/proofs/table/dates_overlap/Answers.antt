use Rattle.overlap_rules.proofs.table.dates_overlap.Goals as goal

pub returns-in-Some-Some : goal.returns-in-Some-Some
returns-in-Some-Some c = λ s e. rw (c.in-Some-Some.is-0, c.in-Some-Some.is-1) (c.from_created_to_completed.ensures s e)
