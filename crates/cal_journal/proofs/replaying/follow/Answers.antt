use Rattle.std.proofs.Common.{◌∙◌, ◌+◌, length, min, sym, ap, subst, arith, map}
use Rattle.std.proofs.lemmas.List.{length-map}
use Rattle.std.proofs.lemmas.Result.{on_ok_weaker}
use Rattle.cal_journal.specs.Behind.{IsBehind}
use Rattle.cal_journal.specs.KeptEntries.{kept_entry}
use Rattle.cal_journal.proofs.replaying.follow.Goals as goal

pub end_of-end-requires : goal.end_of-end-requires
end_of-end-requires g c = omega (arith, c.requires.behind.within, c.len.ensures, length-map c.args.journal.now.items kept_entry)

pub apply_up_to-requires-clause-behind : goal.apply_up_to-requires-clause-behind
apply_up_to-requires-clause-behind g c =
    subst (λ entries. IsBehind (g.S.Applies.directory c.args.store.now) (map kept_entry entries) c.args.place.now (g.S.Applies.state c.args.store.now) (g.S.Applies.origins c.args.store.now)) (sym c.entries.ensures) c.requires.behind

pub apply_up_to-requires-clause-from : goal.apply_up_to-requires-clause-from
apply_up_to-requires-clause-from g c = omega (arith, c.end_of-end.ensures, c.requires.behind.within, c.len.ensures, length-map c.args.journal.now.items kept_entry)

pub apply_up_to-requires-clause-within : goal.apply_up_to-requires-clause-within
apply_up_to-requires-clause-within g c = omega (arith, c.end_of-end.ensures, c.len.ensures, ap length c.entries.ensures)

pub returns-clause-behind : goal.returns-clause-behind
returns-clause-behind g c =
    subst (λ entries. IsBehind (g.S.Applies.directory c.args.store.now) (map kept_entry entries) c.apply_up_to.new.place (g.S.Applies.state c.apply_up_to.new.store) (g.S.Applies.origins c.apply_up_to.new.store)) c.entries.ensures
    c.apply_up_to.ensures.behind

pub returns-clause-ok : goal.returns-clause-ok
returns-clause-ok g c =
    on_ok_weaker c.apply_up_to.result (λ e. e ∙ (c.end_of-end.ensures ∙ ap (min (c.args.place.now + c.args.most)) c.len.ensures)) c.apply_up_to.ensures.ok
