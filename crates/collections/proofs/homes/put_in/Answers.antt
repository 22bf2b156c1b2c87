use Rattle.std.proofs.Common.{◌≡◌, ◌∙◌, Some, sym, ap, subst, length}
use Rattle.std.specs.Prelude.{slice_get, slice_set}
use Rattle.std.proofs.lemmas.Result.{on_ok_weaker}
use Rattle.cal_model.specs.declared.stored.Stored.{Stored}
use Rattle.collections.specs.declared.home.KeptHome.{KeptHome}
use Rattle.collections.specs.Homes.{charged, in_calendar, with_object}
use Rattle.collections.proofs.HomesLemmas.{in_home_some, home_lent}
use Rattle.collections.proofs.homes.put_in.Goals as goal

pub put-requires-clause-home : goal.put-requires-clause-home
put-requires-clause-home c =
    let there = subst (λ n. slice_get c.args.homes.now.items n ≡ Some c.in-Some.home.now) (ap (λ (s : Stored). s.path.home) c.deref.ensures) (home_lent c.args.homes.now.items c.deref.result.now.path.home c.in-Some.home.now c.in-Some.ensures.item.3.0 c.in-Some.ensures.value) in
    c.requires.homes c.args.stored.now.path.home c.in-Some.home.now there

pub put-requires-clause-room : goal.put-requires-clause-room
put-requires-clause-room c =
    let there = subst (λ n. slice_get c.args.homes.now.items n ≡ Some c.in-Some.home.now) (ap (λ (s : Stored). s.path.home) c.deref.ensures) (home_lent c.args.homes.now.items c.deref.result.now.path.home c.in-Some.home.now c.in-Some.ensures.item.3.0 c.in-Some.ensures.value) in
    c.requires.room c.in-Some.home.now there

pub put-requires-clause-alone : goal.put-requires-clause-alone
put-requires-clause-alone c =
    let there = subst (λ n. slice_get c.args.homes.now.items n ≡ Some c.in-Some.home.now) (ap (λ (s : Stored). s.path.home) c.deref.ensures) (home_lent c.args.homes.now.items c.deref.result.now.path.home c.in-Some.home.now c.in-Some.ensures.item.3.0 c.in-Some.ensures.value) in
    c.requires.alone c.in-Some.home.now there

pub returns-in-Some-clause-ok : goal.returns-in-Some-clause-ok
returns-in-Some-clause-ok c =
    let stored = c.args.stored.now in
    let number_is = ap (λ (s : Stored). s.path.home) c.deref.ensures in
    let there = subst (λ n. slice_get c.args.homes.now.items n ≡ Some c.in-Some.home.now) number_is (home_lent c.args.homes.now.items c.deref.result.now.path.home c.in-Some.home.now c.in-Some.ensures.item.3.0 c.in-Some.ensures.value) in
    let change : KeptHome → KeptHome = λ home. charged (length stored.octets) (in_calendar stored.path.calendar (with_object stored.path.object (record { octets = stored.octets; origin = c.args.origin })) home) in
    on_ok_weaker c.put.result
    (λ e. ap (λ n. slice_set c.args.homes.now.items n c.put.new.home) number_is ∙ (ap (slice_set c.args.homes.now.items stored.path.home) e ∙ sym (in_home_some c.args.homes.now.items stored.path.home change c.in-Some.home.now there)))
    c.put.ensures.ok
