use Rattle.std.proofs.Common.{map, take}
use Rattle.std.specs.Prelude.{filter}
use Rattle.dav_props.specs.Finding.{Tells, asking, lists}
use Rattle.dav_props.specs.Rows.{name_of, property_of}
use Rattle.dav_props.specs.Subjects.{Unseen, resource_of}
use Rattle.dav_props.proofs.telling.tell_rows.Given as goal

-- so many rows are answered
abbrev pub invariant-rows : goal.invariant-rows
invariant-rows g l = (unseen : Unseen) → Tells (asking (g.V.View.directory l.seen.view.now) l.seen.who) (resource_of l.subject unseen) l.telling
    (map name_of (filter (λ row. lists l.telling (property_of row (name_of row)).listed) (take l.row-index l.rows))) l.initial.response l.initial.out l.response l.out
