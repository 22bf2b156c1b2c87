use Rattle.std.proofs.Common.{take}
use Rattle.cal_model.specs.Properties.PropertyTable.{text_names}
use Rattle.dav_props.specs.Finding.{Tells, asking}
use Rattle.dav_props.specs.Subjects.{Unseen, resource_of, texts_of}
use Rattle.dav_props.proofs.telling.tell_texts.Given as goal

-- so many settings are answered
abbrev pub invariant-texts : goal.invariant-texts
invariant-texts g l = (unseen : Unseen) → Tells (asking (g.V.View.directory l.seen.view.now) l.seen.who) (resource_of l.subject unseen) l.telling
    (text_names (texts_of (take l.set-index l.texts))) l.initial.response l.initial.out l.response l.out
