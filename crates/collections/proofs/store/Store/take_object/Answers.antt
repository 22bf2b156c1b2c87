use Rattle.std.proofs.Common.{◌∙◌, sym, ap}
use Rattle.cal_model.specs.State.ServerState.{octets_at}
use Rattle.cal_model.specs.State.Changes.{delete_object}
use Rattle.collections.specs.Kept.{Kept, state_of}
use Rattle.collections.proofs.StoreLemmas.{state_shown, origins_shown, store_shown}
use Rattle.collections.proofs.StateLemmas.{octets_shown}
use Rattle.collections.proofs.OtherChanges.{deleted}
use Rattle.collections.proofs.store.Store.take_object.Goals as goal

pub invariant_of-self : goal.invariant_of-self
invariant_of-self c =
    let done = deleted (record { users = c.self.inside.users; homes = c.self.inside.homes.items }) c.self.invariant c.args.home c.args.calendar.now c.args.name.now 0 in
    store_shown c.self.inside.users c.self.inside.homes.items c.delete_object_in.new.homes.items c.args.self.now c.self.view_is _ (delete_object c.args.home c.args.calendar.now c.args.name.now) 0 done c.delete_object_in.ensures.rest

pub returns-clause-state : goal.returns-clause-state
returns-clause-state c =
    let done = deleted (record { users = c.self.inside.users; homes = c.self.inside.homes.items }) c.self.invariant c.args.home c.args.calendar.now c.args.name.now 0 in
    state_shown c.self.inside.users c.self.inside.homes.items c.delete_object_in.new.homes.items c.args.self.now c.self.view_is _ (delete_object c.args.home c.args.calendar.now c.args.name.now) 0 done c.delete_object_in.ensures.rest

pub returns-clause-origins : goal.returns-clause-origins
returns-clause-origins c home calendar object n =
    let done = deleted (record { users = c.self.inside.users; homes = c.self.inside.homes.items }) c.self.invariant c.args.home c.args.calendar.now c.args.name.now n in
    origins_shown c.self.inside.users c.self.inside.homes.items c.delete_object_in.new.homes.items c.args.self.now c.self.view_is _ (delete_object c.args.home c.args.calendar.now c.args.name.now) n done c.delete_object_in.ensures.rest home calendar object

pub returns-clause-octets : goal.returns-clause-octets
returns-clause-octets c =
    c.delete_object_in.ensures.octets
    ∙ (sym (octets_shown c.self.inside.users c.self.inside.homes.items c.args.home c.args.calendar.now c.args.name.now) ∙ ap (λ (k : Kept). octets_at (state_of k) c.args.home c.args.calendar.now c.args.name.now) c.self.view_is)
