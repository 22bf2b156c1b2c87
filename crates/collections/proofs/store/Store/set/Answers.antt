use Rattle.std.proofs.Common.{sym, subst}
use Rattle.std.proofs.lemmas.Result.{on_ok_weaker}
use Rattle.cal_model.specs.State.Changes.{patch}
use Rattle.collections.specs.Kept.{Kept, state_of}
use Rattle.collections.specs.Stores.{HasRoomAt}
use Rattle.collections.proofs.StoreLemmas.{store_after, state_shown, origins_shown}
use Rattle.collections.proofs.MadeLemmas.{room_kept}
use Rattle.collections.proofs.OtherChanges.{made_patch}
use Rattle.collections.proofs.store.Store.set.Goals as goal

pub set_in-requires-clause-room : goal.set_in-requires-clause-room
set_in-requires-clause-room c = room_kept (record { users = c.self.inside.users; homes = c.self.inside.homes.items }) c.args.home c.args.size (subst (λ (k : Kept). HasRoomAt (state_of k) c.args.home c.args.size) (sym c.self.view_is) c.requires.room)

pub invariant_of-self : goal.invariant_of-self
invariant_of-self c =
    let done = made_patch (record { users = c.self.inside.users; homes = c.self.inside.homes.items }) c.self.invariant c.args.home c.args.name.now c.args.size 0 c.args.sets.now
    (subst (λ (k : Kept). HasRoomAt (state_of k) c.args.home c.args.size) (sym c.self.view_is) c.requires.room) in
    store_after c.self.inside.users c.self.inside.homes.items c.set_in.new.homes.items _ c.set_in.result c.set_in.ensures.ok c.set_in.ensures.err done.store c.self.invariant

pub returns-clause-state : goal.returns-clause-state
returns-clause-state c =
    let done = made_patch (record { users = c.self.inside.users; homes = c.self.inside.homes.items }) c.self.invariant c.args.home c.args.name.now c.args.size 0 c.args.sets.now
    (subst (λ (k : Kept). HasRoomAt (state_of k) c.args.home c.args.size) (sym c.self.view_is) c.requires.room) in
    on_ok_weaker c.set_in.result (state_shown c.self.inside.users c.self.inside.homes.items c.set_in.new.homes.items c.args.self.now c.self.view_is _ (patch c.args.home c.args.name.now c.args.sets.now c.args.size) 0 done) c.set_in.ensures.ok

pub returns-clause-origins : goal.returns-clause-origins
returns-clause-origins c =
    let done = made_patch (record { users = c.self.inside.users; homes = c.self.inside.homes.items }) c.self.invariant c.args.home c.args.name.now c.args.size 0 c.args.sets.now
    (subst (λ (k : Kept). HasRoomAt (state_of k) c.args.home c.args.size) (sym c.self.view_is) c.requires.room) in
    on_ok_weaker c.set_in.result (origins_shown c.self.inside.users c.self.inside.homes.items c.set_in.new.homes.items c.args.self.now c.self.view_is _ (patch c.args.home c.args.name.now c.args.sets.now c.args.size) 0 done) c.set_in.ensures.ok
