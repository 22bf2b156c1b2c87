use Rattle.std.proofs.Common.{[], ◌∷◌, ◌∙◌, sym, ap, subst, map}
use Rattle.std.proofs.lemmas.List.{length-map}
use Rattle.cal_model.specs.History.KeptChanges.{kept_change}
use Rattle.cal_model.specs.History.Origins.{origins_after}
use Rattle.collections.specs.Kept.{origins_of}
use Rattle.cal_journal.specs.KeptEntries.{kept_entry}
use Rattle.cal_book.specs.Keeping.KeptHistories.{Kept, IsInStep, IsNext, IsShownAt, directory_in, state_in}
use Rattle.cal_book.proofs.Keeping.EntryLemmas.{pushed}
use Rattle.cal_book.proofs.Keeping.ShownLemmas.{still_shown}
use Rattle.cal_book.proofs.Keeping.StepLemmas.{is_acceptable, is_sound, one_more}
use Rattle.cal_book.proofs.history.History.accept.Goals as goal

pub apply-requires-clause-acceptable : goal.apply-requires-clause-acceptable
apply-requires-clause-acceptable c =
    is_acceptable c.self.inside.users c.self.inside.store (map kept_entry c.self.inside.journal.items) (kept_entry c.args.entry) c.self.invariant.step
    (subst (λ (k : Kept). IsNext (directory_in k) (state_in k) (kept_entry c.args.entry)) (sym c.self.view_is) c.requires.next)

pub apply-requires-clause-sound : goal.apply-requires-clause-sound
apply-requires-clause-sound c =
    is_sound c.self.inside.users c.self.inside.store (map kept_entry c.self.inside.journal.items) (kept_entry c.args.entry) c.self.invariant.step
    (subst (λ (k : Kept). IsNext (directory_in k) (state_in k) (kept_entry c.args.entry)) (sym c.self.view_is) c.requires.next)

pub invariant_of-self-2 : goal.invariant_of-self-2
invariant_of-self-2 c =
    let before = c.self.inside in
    let kept = map kept_entry before.journal.items in
    let more = pushed before.journal.items c.args.entry _ c.push.new.self c.push.ensures in
    record {
      step = subst (IsInStep before.users c.apply.new.self) (sym more)
          (one_more before.users before.store c.apply.new.self kept (kept_entry c.args.entry) c.self.invariant.step
          (subst (λ (k : Kept). IsNext (directory_in k) (state_in k) (kept_entry c.args.entry)) (sym c.self.view_is) c.requires.next)
          c.apply.ensures.users c.in_ok-apply.ensures.state
          (λ home calendar object. c.in_ok-apply.ensures.origins home calendar object
          ∙ ap (λ n. origins_after (kept_change c.args.entry.change) n (origins_of before.store) home calendar object)
          (c.len-number.ensures ∙ sym (length-map before.journal.items kept_entry))));
      shown_at = subst (IsShownAt before.users before.shown before.followed) (sym more) (still_shown before.users kept (kept_entry c.args.entry ∷ []) before.shown before.followed c.self.invariant.shown_at);
    }
