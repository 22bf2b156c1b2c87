use Rattle.std.proofs.Common.{◌≡◌, ℕ, List, ◌++◌, sym, ap, ◌∙◌, append_assoc}
use Rattle.std.specs.Prelude.{codes}
use Rattle.cal_model.specs.declared.path.Path.TheVariants.{Object}
use Rattle.cal_model.specs.Replies.Hrefs.{href}
use Rattle.cal_model.specs.Replies.ReplyElements.{href_element}
use Rattle.cal_model.specs.Replies.XmlText.{element}
use Rattle.cal_book.specs.Checking.Places.{path_beside}
use Rattle.dav_write.proofs.ErrorLemmas.{href_plain}
use Rattle.cal_book.proofs.changes.conflicts.conflict_with.Goals as goal

-- the condition as it is written
condition : (user calendar object : List ℕ)
    → element (codes "C:no-uid-conflict") (href_element (Object user calendar object))
    ≡ codes "<C:no-uid-conflict><D:href>" ++ (href (Object user calendar object) ++ codes "</D:href></C:no-uid-conflict>")
condition user calendar object =
    ap (λ text. element (codes "C:no-uid-conflict") (element (codes "D:href") text)) (href_plain (Object user calendar object))
    ∙ ap (λ text. codes "<C:no-uid-conflict><D:href>" ++ text) (append_assoc (href (Object user calendar object)) (codes "</D:href>") (codes "</C:no-uid-conflict>"))

pub returns : goal.returns
returns c =
    let target = c.args.target.now in
    c.in_ok-extend_from_slice.ensures.ok
    ∙ ap (λ text. text ++ codes "</D:href></C:no-uid-conflict>") (c.in_ok-append_beside.ensures ∙ ap (λ text. text ++ href (path_beside target c.args.name.now)) c.in_ok-text.ensures)
    ∙ sym (condition target.user.now target.place.calendar.now c.args.name.now)
