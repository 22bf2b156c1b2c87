use Rattle.std.proofs.Common.{sym, subst}
use Rattle.cal_model.specs.History.KeptChanges.{kept_change, IsAcceptable}
use Rattle.cal_model.specs.State.SoundStates.{IsSoundChange}
use Rattle.collections.specs.Kept.{Kept, state_of, users_of}
use Rattle.collections.specs.Stores.{IsStore}
use Rattle.collections.proofs.FollowingLemmas.{room_for, short_in, followed}
use Rattle.collections.proofs.StoreLemmas.{kept, state_shown, origins_shown, store_shown}
use Rattle.collections.proofs.shown_state.ShownStateApplies.apply.Goals as goal

pub follow_homes-requires : goal.follow_homes-requires
follow_homes-requires c =
    let now = kept c.self.inside.users c.self.inside.homes in
    let ok = subst (λ (k : Kept). IsAcceptable (users_of k) (state_of k) (kept_change c.args.change.now)) (sym c.self.view_is) c.requires.acceptable in
    record {
      homes = c.self.invariant.homes;
      room = room_for now c.self.invariant c.args.change.now ok;
      short = short_in now c.self.invariant c.args.change.now ok;
    }

pub invariant_of-self : goal.invariant_of-self
invariant_of-self c = subst (λ homes. IsStore (kept c.self.inside.users homes)) (sym c.in_err-follow_homes.ensures.err) c.self.invariant

pub invariant_of-self-2 : goal.invariant_of-self-2
invariant_of-self-2 c =
    let done = followed (kept c.self.inside.users c.self.inside.homes) c.self.invariant c.args.origin c.args.change.now
    (subst (λ (k : Kept). IsAcceptable (users_of k) (state_of k) (kept_change c.args.change.now)) (sym c.self.view_is) c.requires.acceptable)
    (subst (λ (k : Kept). IsSoundChange (users_of k) (kept_change c.args.change.now)) (sym c.self.view_is) c.requires.sound) in
    store_shown c.self.inside.users c.self.inside.homes c.follow_homes.new.homes c.args.self.now c.self.view_is _ (kept_change c.args.change.now) c.args.origin done c.in_ok-follow_homes.ensures.ok

pub returns-clause-state : goal.returns-clause-state
returns-clause-state c =
    let done = followed (kept c.self.inside.users c.self.inside.homes) c.self.invariant c.args.origin c.args.change.now
    (subst (λ (k : Kept). IsAcceptable (users_of k) (state_of k) (kept_change c.args.change.now)) (sym c.self.view_is) c.requires.acceptable)
    (subst (λ (k : Kept). IsSoundChange (users_of k) (kept_change c.args.change.now)) (sym c.self.view_is) c.requires.sound) in
    state_shown c.self.inside.users c.self.inside.homes c.follow_homes.new.homes c.args.self.now c.self.view_is _ (kept_change c.args.change.now) c.args.origin done c.in_ok-follow_homes.ensures.ok

pub returns-clause-origins : goal.returns-clause-origins
returns-clause-origins c =
    let done = followed (kept c.self.inside.users c.self.inside.homes) c.self.invariant c.args.origin c.args.change.now
    (subst (λ (k : Kept). IsAcceptable (users_of k) (state_of k) (kept_change c.args.change.now)) (sym c.self.view_is) c.requires.acceptable)
    (subst (λ (k : Kept). IsSoundChange (users_of k) (kept_change c.args.change.now)) (sym c.self.view_is) c.requires.sound) in
    origins_shown c.self.inside.users c.self.inside.homes c.follow_homes.new.homes c.args.self.now c.self.view_is _ (kept_change c.args.change.now) c.args.origin done c.in_ok-follow_homes.ensures.ok
