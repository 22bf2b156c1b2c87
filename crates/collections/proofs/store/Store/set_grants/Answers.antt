use Rattle.std.proofs.Common.{sym, subst}
use Rattle.std.proofs.lemmas.Result.{on_ok_weaker}
use Rattle.cal_model.specs.State.SoundStates.{IsSoundChange}
use Rattle.cal_model.specs.State.Changes.{acl}
use Rattle.collections.specs.Kept.{Kept, state_of, users_of}
use Rattle.collections.specs.Stores.{HasRoomAt}
use Rattle.collections.proofs.StoreLemmas.{store_after, state_shown, origins_shown}
use Rattle.collections.proofs.MadeLemmas.{room_kept}
use Rattle.collections.proofs.OtherChanges.{made_acl}
use Rattle.collections.proofs.store.Store.set_grants.Goals as goal

pub set_grants_in-requires : goal.set_grants_in-requires
set_grants_in-requires c = record { room = room_kept (record { users = c.self.inside.users; homes = c.self.inside.homes.items }) c.args.home c.args.size (subst (λ (k : Kept). HasRoomAt (state_of k) c.args.home c.args.size) (sym c.self.view_is) c.requires.room) }

pub invariant_of-self : goal.invariant_of-self
invariant_of-self c =
    let done = made_acl (record { users = c.self.inside.users; homes = c.self.inside.homes.items }) c.self.invariant c.args.home c.args.name.now c.args.size 0 c.args.grants.now
    (subst (λ (k : Kept). HasRoomAt (state_of k) c.args.home c.args.size) (sym c.self.view_is) c.requires.room)
    (subst (λ (k : Kept). IsSoundChange (users_of k) (acl c.args.home c.args.name.now c.args.grants.now c.args.size)) (sym c.self.view_is) c.requires.sound) in
    store_after c.self.inside.users c.self.inside.homes.items c.set_grants_in.new.homes.items _ c.set_grants_in.result c.set_grants_in.ensures.ok c.set_grants_in.ensures.err done.store c.self.invariant

pub returns-clause-state : goal.returns-clause-state
returns-clause-state c =
    let done = made_acl (record { users = c.self.inside.users; homes = c.self.inside.homes.items }) c.self.invariant c.args.home c.args.name.now c.args.size 0 c.args.grants.now
    (subst (λ (k : Kept). HasRoomAt (state_of k) c.args.home c.args.size) (sym c.self.view_is) c.requires.room)
    (subst (λ (k : Kept). IsSoundChange (users_of k) (acl c.args.home c.args.name.now c.args.grants.now c.args.size)) (sym c.self.view_is) c.requires.sound) in
    on_ok_weaker c.set_grants_in.result (state_shown c.self.inside.users c.self.inside.homes.items c.set_grants_in.new.homes.items c.args.self.now c.self.view_is _ (acl c.args.home c.args.name.now c.args.grants.now c.args.size) 0 done) c.set_grants_in.ensures.ok

pub returns-clause-origins : goal.returns-clause-origins
returns-clause-origins c =
    let done = made_acl (record { users = c.self.inside.users; homes = c.self.inside.homes.items }) c.self.invariant c.args.home c.args.name.now c.args.size 0 c.args.grants.now
    (subst (λ (k : Kept). HasRoomAt (state_of k) c.args.home c.args.size) (sym c.self.view_is) c.requires.room)
    (subst (λ (k : Kept). IsSoundChange (users_of k) (acl c.args.home c.args.name.now c.args.grants.now c.args.size)) (sym c.self.view_is) c.requires.sound) in
    on_ok_weaker c.set_grants_in.result (origins_shown c.self.inside.users c.self.inside.homes.items c.set_grants_in.new.homes.items c.args.self.now c.self.view_is _ (acl c.args.home c.args.name.now c.args.grants.now c.args.size) 0 done) c.set_grants_in.ensures.ok
