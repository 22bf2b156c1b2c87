use Rattle.std.proofs.Common.{◌≡◌, ◌∙◌, ap, subst, arith, map, take}
use Rattle.std.proofs.lemmas.List.{take_all, length-map}
use Rattle.cal_model.specs.History.Journal.{replay}
use Rattle.cal_model.specs.History.Origins.{AreLive}
use Rattle.cal_journal.specs.KeptEntries.{kept_entry}
use Rattle.cal_journal.proofs.replaying.replay.Goals as goal

pub follow-requires-clause-behind : goal.follow-requires-clause-behind
follow-requires-clause-behind g c = record { within = omega arith; state_is = c.requires.opening; live = c.requires.no_objects }

pub returns-in-Ok-clause-state : goal.returns-in-Ok-clause-state
returns-in-Ok-clause-state g c =
    let kept = map kept_entry c.args.journal.now.items in
    let whole : take c.follow.new.place kept ≡ kept = take_all c.follow.new.place kept (omega (arith, c.in-Ok.ensures.ok, c.len.ensures, length-map c.args.journal.now.items kept_entry)) in
    c.follow.ensures.behind.state_is ∙ ap (replay (g.S.Applies.directory c.args.store)) whole

pub returns-in-Ok-clause-origins : goal.returns-in-Ok-clause-origins
returns-in-Ok-clause-origins g c =
    let kept = map kept_entry c.args.journal.now.items in
    let whole : take c.follow.new.place kept ≡ kept = take_all c.follow.new.place kept (omega (arith, c.in-Ok.ensures.ok, c.len.ensures, length-map c.args.journal.now.items kept_entry)) in
    subst (λ them. AreLive them (g.S.Applies.origins c.follow.new.store)) whole c.follow.ensures.behind.live
