use Rattle.std.proofs.Common.{◌≡◌, ◌∷◌, [], ◌++◌, ◌∙◌, sym, ap, subst, map, length}
use Rattle.cal_model.specs.History.Origins.{origins_after}
use Rattle.cal_model.specs.State.Changes.{delete_object}
use Rattle.collections.specs.Kept.{origins_of}
use Rattle.cal_journal.specs.KeptEntries.{kept_entry}
use Rattle.cal_book.specs.Keeping.Deletions.{asked_entry}
use Rattle.cal_book.specs.Keeping.KeptHistories.{Kept, IsInStep, IsNext, IsShownAt, directory_in, state_in, origins_in}
use Rattle.cal_book.proofs.Keeping.EntryLemmas.{pushed, object_entry}
use Rattle.cal_book.proofs.Keeping.ShownLemmas.{still_shown}
use Rattle.cal_book.proofs.Keeping.StepLemmas.{one_more}
use Rattle.cal_book.proofs.history.History.delete_object.Goals as goal

pub invariant_of-self : goal.invariant_of-self
invariant_of-self c =
    let before = c.self.inside in
    let change = delete_object c.args.home c.args.calendar.now c.args.name.now in
    let kept = map kept_entry before.journal.items in
    let more = pushed before.journal.items c.deletion.result _ c.push.new.self c.push.ensures in
    record {
      step = subst (IsInStep before.users c.delete_object-stored.new.self)
          (sym (more ∙ ap (λ e. kept ++ e ∷ []) (ap kept_entry c.deletion.ensures ∙ (object_entry c.args.asked c.delete_object-stored.result c.args.home c.args.calendar.now c.args.name.now c.delete_object-stored.ensures.place))))
          (one_more before.users before.store c.delete_object-stored.new.self kept (asked_entry c.args.asked change) c.self.invariant.step
          (subst (λ (k : Kept). IsNext (directory_in k) (state_in k) (asked_entry c.args.asked change)) (sym c.self.view_is) c.requires.next)
          c.delete_object-stored.ensures.users c.delete_object-stored.ensures.state
          (λ home calendar object. c.delete_object-stored.ensures.origins home calendar object (length kept)));
      shown_at = subst (IsShownAt before.users before.shown before.followed) (sym more) (still_shown before.users kept (kept_entry c.deletion.result ∷ []) before.shown before.followed c.self.invariant.shown_at);
    }

pub returns-clause-origins : goal.returns-clause-origins
returns-clause-origins c h k o =
    subst (λ (kept : Kept). origins_of c.delete_object-stored.new.self h k o ≡ origins_after (delete_object c.args.home c.args.calendar.now c.args.name.now) (length kept.journal) (origins_in kept) h k o)
    c.self.view_is (c.delete_object-stored.ensures.origins h k o (length (map kept_entry c.self.inside.journal.items)))
