use Rattle.std.proofs.Common.{◌++◌, [], codes, sym, ap, ◌∙◌}
use Rattle.cal_model.specs.Replies.Hrefs.{href, segment}
use Rattle.dav_write.proofs.PathLemmas.{step, written_calendar, written_object}
use Rattle.dav_write.proofs.reserved_paths.put_path.Goals as goal

pub returns-in-Principal-clause-items : goal.returns-in-Principal-clause-items
returns-in-Principal-clause-items c =
    c.put_collection.ensures.items ∙ ap (λ user. c.args.out.now.items ++ step (codes "/principals/") user) c.as_slice.ensures ∙ sym (ap (λ path. c.args.out.now.items ++ href path) c.in-Principal.is)

pub returns-in-Calendar-clause-items : goal.returns-in-Calendar-clause-items
returns-in-Calendar-clause-items c =
    let out = c.args.out.now.items in
    let p = c.in-Calendar in
    written_calendar p.user p.calendar out c.put_collection-in-Calendar.new.out.items c.put_collection-in-Calendar-2.new.out.items
    (c.put_collection-in-Calendar.ensures.items ∙ ap (λ user. out ++ step (codes "/calendars/") user) c.as_slice-in-Calendar.ensures)
    (c.put_collection-in-Calendar-2.ensures.items ∙ ap (λ calendar. c.put_collection-in-Calendar.new.out.items ++ step [] calendar) c.as_slice-in-Calendar-2.ensures)
    ∙ sym (ap (λ path. out ++ href path) p.is)

pub returns-in-Object-clause-items : goal.returns-in-Object-clause-items
returns-in-Object-clause-items c =
    let out = c.args.out.now.items in
    let p = c.in-Object in
    written_object p.user p.calendar p.object out c.put_collection-in-Object.new.out.items c.put_collection-in-Object-2.new.out.items c.put_segment.new.out.items
    (c.put_collection-in-Object.ensures.items ∙ ap (λ user. out ++ step (codes "/calendars/") user) c.as_slice-in-Object.ensures)
    (c.put_collection-in-Object-2.ensures.items ∙ ap (λ calendar. c.put_collection-in-Object.new.out.items ++ step [] calendar) c.as_slice-in-Object-2.ensures)
    (c.put_segment.ensures.items ∙ ap (λ object. c.put_collection-in-Object-2.new.out.items ++ segment object) c.as_slice-in-Object-3.ensures)
    ∙ sym (ap (λ path. out ++ href path) p.is)
