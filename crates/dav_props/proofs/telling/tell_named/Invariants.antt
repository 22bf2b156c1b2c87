use Rattle.std.proofs.Common.{take}
use Rattle.dav_props.specs.declared.telling.Telling.TheVariants.{Every}
use Rattle.dav_props.specs.Finding.{Tells, asking}
use Rattle.dav_props.specs.Subjects.{Unseen, resource_of}
use Rattle.dav_props.proofs.telling.tell_named.Given as goal

-- so many names are answered
abbrev pub invariant-names : goal.invariant-names
invariant-names g l = (unseen : Unseen) → Tells (asking (g.V.View.directory l.seen.view.now) l.seen.who) (resource_of l.subject unseen) Every (take l.name-index l.named) l.initial.response l.initial.out l.response l.out
