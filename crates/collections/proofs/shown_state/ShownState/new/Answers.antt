use Rattle.std.proofs.Common.{◌≡◌, ◌∙◌, [], sym, ap, subst, length}
use Rattle.cal_model.specs.History.Origins.{AreLive}
use Rattle.cal_model.specs.Users.UsersFile.{Users}
use Rattle.collections.specs.Homes.{opening_homes}
use Rattle.collections.specs.Kept.{state_of, origins_of}
use Rattle.collections.specs.Stores.{IsStore}
use Rattle.collections.proofs.StoreLemmas.{kept}
use Rattle.collections.proofs.OpeningLemmas.{opening_store, opening_shown, opening_live}
use Rattle.collections.proofs.shown_state.ShownState.new.Goals as goal

pub invariant_of-result : goal.invariant_of-result
invariant_of-result c =
    let homes : c.in_ok-homes-2.homes ≡ opening_homes (length c.args.users.people) =
    c.in_ok-homes-2.ensures ∙ (c.in_ok-homes.ensures ∙ ap opening_homes (c.len.ensures.len ∙ ap (λ (users : Users). length users.people) c.deref.ensures)) in
    subst (λ hs. IsStore (kept c.args.users hs)) (sym homes) (opening_store c.args.users)

pub returns-clause-state : goal.returns-clause-state
returns-clause-state c =
    let homes : c.in_ok-homes-2.homes ≡ opening_homes (length c.args.users.people) =
    c.in_ok-homes-2.ensures ∙ (c.in_ok-homes.ensures ∙ ap opening_homes (c.len.ensures.len ∙ ap (λ (users : Users). length users.people) c.deref.ensures)) in
    ap (λ hs. state_of (kept c.args.users hs)) homes ∙ opening_shown c.args.users

pub returns-clause-no_objects : goal.returns-clause-no_objects
returns-clause-no_objects c =
    let homes : c.in_ok-homes-2.homes ≡ opening_homes (length c.args.users.people) =
    c.in_ok-homes-2.ensures ∙ (c.in_ok-homes.ensures ∙ ap opening_homes (c.len.ensures.len ∙ ap (λ (users : Users). length users.people) c.deref.ensures)) in
    subst (λ hs. AreLive [] (origins_of (kept c.args.users hs))) (sym homes) (opening_live c.args.users)
