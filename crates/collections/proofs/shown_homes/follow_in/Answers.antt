use Rattle.std.proofs.Common.{◌≡◌, ◌∙◌, Some, sym, ap, subst}
use Rattle.std.specs.Prelude.{slice_get, slice_set}
use Rattle.std.proofs.lemmas.Result.{on_ok_weaker}
use Rattle.collections.specs.Following.{home_in, home_after}
use Rattle.collections.proofs.HomesLemmas.{in_home_some, in_home_none, home_lent, home_not_lent}
use Rattle.collections.proofs.shown_homes.follow_in.Goals as goal

pub follow-requires-clause-home : goal.follow-requires-clause-home
follow-requires-clause-home c =
    let there : slice_get c.args.homes.now.items (home_in c.args.change.now) ≡ Some c.in-Some.home.now =
    subst (λ n. slice_get c.args.homes.now.items n ≡ Some c.in-Some.home.now) c.home_of.ensures (home_lent c.args.homes.now.items c.home_of.result c.in-Some.home.now c.in-Some.ensures.item.3.0 c.in-Some.ensures.value) in
    c.requires.homes (home_in c.args.change.now) c.in-Some.home.now there

pub follow-requires-clause-room : goal.follow-requires-clause-room
follow-requires-clause-room c =
    let there : slice_get c.args.homes.now.items (home_in c.args.change.now) ≡ Some c.in-Some.home.now =
    subst (λ n. slice_get c.args.homes.now.items n ≡ Some c.in-Some.home.now) c.home_of.ensures (home_lent c.args.homes.now.items c.home_of.result c.in-Some.home.now c.in-Some.ensures.item.3.0 c.in-Some.ensures.value) in
    c.requires.room c.in-Some.home.now there

pub returns-in-Some-clause-ok : goal.returns-in-Some-clause-ok
returns-in-Some-clause-ok c =
    let number = home_in c.args.change.now in
    let there : slice_get c.args.homes.now.items number ≡ Some c.in-Some.home.now =
    subst (λ n. slice_get c.args.homes.now.items n ≡ Some c.in-Some.home.now) c.home_of.ensures (home_lent c.args.homes.now.items c.home_of.result c.in-Some.home.now c.in-Some.ensures.item.3.0 c.in-Some.ensures.value) in
    on_ok_weaker c.follow.result
    (λ e. ap (λ n. slice_set c.args.homes.now.items n c.follow.new.self) c.home_of.ensures
    ∙ (ap (slice_set c.args.homes.now.items number) e ∙ sym (in_home_some c.args.homes.now.items number (home_after c.args.change.now c.args.origin) c.in-Some.home.now there)))
    c.follow.ensures.ok

pub returns-in-None-clause-ok : goal.returns-in-None-clause-ok
returns-in-None-clause-ok c =
    let number = home_in c.args.change.now in
    let gone = ap (slice_get c.args.homes.now.items) (sym c.home_of.ensures) ∙ home_not_lent c.args.homes.now.items c.home_of.result (sym c.in-None.ensures.item.0) in
    sym (in_home_none c.args.homes.now.items number (home_after c.args.change.now c.args.origin) gone)
