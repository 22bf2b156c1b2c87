use Rattle.std.proofs.Common.{◌≡◌, None, sym, subst}
use Rattle.std.proofs.lemmas.Result.{on_ok_weaker}
use Rattle.cal_model.specs.State.ServerState.{calendar_at}
use Rattle.cal_model.specs.State.SoundStates.{IsSoundChange}
use Rattle.cal_model.specs.State.Changes.{make}
use Rattle.collections.specs.Kept.{Kept, state_of, users_of}
use Rattle.collections.specs.Stores.{HasRoomAt}
use Rattle.collections.proofs.StoreLemmas.{store_after, state_shown, origins_shown}
use Rattle.collections.proofs.OtherChanges.{made_make}
use Rattle.collections.proofs.store.Store.make.Goals as goal

pub invariant_of-self : goal.invariant_of-self
invariant_of-self c =
    let done = made_make (record { users = c.self.inside.users; homes = c.self.inside.homes.items }) c.self.invariant c.args.home c.args.name.now c.args.sets.now c.args.size 0
    (subst (λ (k : Kept). HasRoomAt (state_of k) c.args.home c.args.size) (sym c.self.view_is) c.requires.room)
    (subst (λ (k : Kept). calendar_at (state_of k) c.args.home c.args.name.now ≡ None) (sym c.self.view_is) c.requires.absent)
    (subst (λ (k : Kept). IsSoundChange (users_of k) (make c.args.home c.args.name.now c.args.sets.now c.args.size)) (sym c.self.view_is) c.requires.sound) in
    store_after c.self.inside.users c.self.inside.homes.items c.make_in.new.homes.items _ c.make_in.result c.make_in.ensures.ok c.make_in.ensures.err done.store c.self.invariant

pub returns-clause-state : goal.returns-clause-state
returns-clause-state c =
    let done = made_make (record { users = c.self.inside.users; homes = c.self.inside.homes.items }) c.self.invariant c.args.home c.args.name.now c.args.sets.now c.args.size 0
    (subst (λ (k : Kept). HasRoomAt (state_of k) c.args.home c.args.size) (sym c.self.view_is) c.requires.room)
    (subst (λ (k : Kept). calendar_at (state_of k) c.args.home c.args.name.now ≡ None) (sym c.self.view_is) c.requires.absent)
    (subst (λ (k : Kept). IsSoundChange (users_of k) (make c.args.home c.args.name.now c.args.sets.now c.args.size)) (sym c.self.view_is) c.requires.sound) in
    on_ok_weaker c.make_in.result (state_shown c.self.inside.users c.self.inside.homes.items c.make_in.new.homes.items c.args.self.now c.self.view_is _ (make c.args.home c.args.name.now c.args.sets.now c.args.size) 0 done) c.make_in.ensures.ok

pub returns-clause-origins : goal.returns-clause-origins
returns-clause-origins c =
    let done = made_make (record { users = c.self.inside.users; homes = c.self.inside.homes.items }) c.self.invariant c.args.home c.args.name.now c.args.sets.now c.args.size 0
    (subst (λ (k : Kept). HasRoomAt (state_of k) c.args.home c.args.size) (sym c.self.view_is) c.requires.room)
    (subst (λ (k : Kept). calendar_at (state_of k) c.args.home c.args.name.now ≡ None) (sym c.self.view_is) c.requires.absent)
    (subst (λ (k : Kept). IsSoundChange (users_of k) (make c.args.home c.args.name.now c.args.sets.now c.args.size)) (sym c.self.view_is) c.requires.sound) in
    on_ok_weaker c.make_in.result (origins_shown c.self.inside.users c.self.inside.homes.items c.make_in.new.homes.items c.args.self.now c.self.view_is _ (make c.args.home c.args.name.now c.args.sets.now c.args.size) 0 done) c.make_in.ensures.ok
