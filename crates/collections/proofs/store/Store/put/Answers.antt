use Rattle.std.proofs.Common.{refl, sym, subst, length}
use Rattle.std.proofs.lemmas.Result.{on_ok_weaker}
use Rattle.cal_model.specs.State.SoundStates.{IsSoundChange}
use Rattle.cal_model.specs.State.Changes.{put}
use Rattle.collections.specs.Kept.{Kept, state_of, users_of}
use Rattle.collections.specs.Stores.{HasRoomAt, MayBePut}
use Rattle.collections.proofs.StoreLemmas.{store_after, state_shown, origins_shown}
use Rattle.collections.proofs.MadeLemmas.{alone_kept, made_put}
use Rattle.collections.proofs.store.Store.put.Goals as goal

pub put_in-requires-clause-alone : goal.put_in-requires-clause-alone
put_in-requires-clause-alone c =
    alone_kept (record { users = c.self.inside.users; homes = c.self.inside.homes.items }) c.args.stored.now.path.home c.args.stored.now refl
    (subst (λ (k : Kept). MayBePut (state_of k) c.args.stored.now.path.home c.args.stored.now.path.calendar c.args.stored.now.path.object c.args.stored.now.octets) (sym c.self.view_is) c.requires.may)

pub invariant_of-self : goal.invariant_of-self
invariant_of-self c =
    let done = made_put (record { users = c.self.inside.users; homes = c.self.inside.homes.items }) c.self.invariant c.args.stored.now c.args.origin
    (subst (λ (k : Kept). HasRoomAt (state_of k) c.args.stored.now.path.home (length c.args.stored.now.octets)) (sym c.self.view_is) c.requires.room)
    (subst (λ (k : Kept). MayBePut (state_of k) c.args.stored.now.path.home c.args.stored.now.path.calendar c.args.stored.now.path.object c.args.stored.now.octets) (sym c.self.view_is) c.requires.may)
    (subst (λ (k : Kept). IsSoundChange (users_of k) (put c.args.stored.now.path.home c.args.stored.now.path.calendar c.args.stored.now.path.object c.args.stored.now.octets)) (sym c.self.view_is) c.requires.sound) in
    store_after c.self.inside.users c.self.inside.homes.items c.put_in.new.homes.items _ c.put_in.result c.put_in.ensures.ok c.put_in.ensures.err done.store c.self.invariant

pub returns-clause-state : goal.returns-clause-state
returns-clause-state c =
    let done = made_put (record { users = c.self.inside.users; homes = c.self.inside.homes.items }) c.self.invariant c.args.stored.now c.args.origin
    (subst (λ (k : Kept). HasRoomAt (state_of k) c.args.stored.now.path.home (length c.args.stored.now.octets)) (sym c.self.view_is) c.requires.room)
    (subst (λ (k : Kept). MayBePut (state_of k) c.args.stored.now.path.home c.args.stored.now.path.calendar c.args.stored.now.path.object c.args.stored.now.octets) (sym c.self.view_is) c.requires.may)
    (subst (λ (k : Kept). IsSoundChange (users_of k) (put c.args.stored.now.path.home c.args.stored.now.path.calendar c.args.stored.now.path.object c.args.stored.now.octets)) (sym c.self.view_is) c.requires.sound) in
    on_ok_weaker c.put_in.result (state_shown c.self.inside.users c.self.inside.homes.items c.put_in.new.homes.items c.args.self.now c.self.view_is _ (put c.args.stored.now.path.home c.args.stored.now.path.calendar c.args.stored.now.path.object c.args.stored.now.octets) c.args.origin done) c.put_in.ensures.ok

pub returns-clause-origins : goal.returns-clause-origins
returns-clause-origins c =
    let done = made_put (record { users = c.self.inside.users; homes = c.self.inside.homes.items }) c.self.invariant c.args.stored.now c.args.origin
    (subst (λ (k : Kept). HasRoomAt (state_of k) c.args.stored.now.path.home (length c.args.stored.now.octets)) (sym c.self.view_is) c.requires.room)
    (subst (λ (k : Kept). MayBePut (state_of k) c.args.stored.now.path.home c.args.stored.now.path.calendar c.args.stored.now.path.object c.args.stored.now.octets) (sym c.self.view_is) c.requires.may)
    (subst (λ (k : Kept). IsSoundChange (users_of k) (put c.args.stored.now.path.home c.args.stored.now.path.calendar c.args.stored.now.path.object c.args.stored.now.octets)) (sym c.self.view_is) c.requires.sound) in
    on_ok_weaker c.put_in.result (origins_shown c.self.inside.users c.self.inside.homes.items c.put_in.new.homes.items c.args.self.now c.self.view_is _ (put c.args.stored.now.path.home c.args.stored.now.path.calendar c.args.stored.now.path.object c.args.stored.now.octets) c.args.origin done) c.put_in.ensures.ok
