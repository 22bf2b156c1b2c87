use Rattle.std.proofs.Common.{ap}
use Rattle.cal_model.specs.State.ServerState.{calendar_at}
use Rattle.cal_model.specs.State.Changes.{delete_calendar}
use Rattle.collections.specs.Kept.{Kept, state_of}
use Rattle.collections.proofs.StoreLemmas.{state_shown, origins_shown, store_shown}
use Rattle.collections.specs.Kept.{kept_calendar}
use Rattle.collections.proofs.StateLemmas.{calendar_shown}
use Rattle.collections.proofs.LookLemmas.{some_name, own_name}
use Rattle.collections.proofs.OtherChanges.{made_delete_calendar}
use Rattle.collections.proofs.store.Store.take_calendar.Goals as goal

pub invariant_of-self : goal.invariant_of-self
invariant_of-self c =
    let done = made_delete_calendar (record { users = c.self.inside.users; homes = c.self.inside.homes.items }) c.self.invariant c.args.home c.args.name.now 0 in
    store_shown c.self.inside.users c.self.inside.homes.items c.delete_calendar_in.new.homes.items c.args.self.now c.self.view_is _ (delete_calendar c.args.home c.args.name.now) 0 done c.delete_calendar_in.ensures.rest

pub returns-clause-state : goal.returns-clause-state
returns-clause-state c =
    let done = made_delete_calendar (record { users = c.self.inside.users; homes = c.self.inside.homes.items }) c.self.invariant c.args.home c.args.name.now 0 in
    state_shown c.self.inside.users c.self.inside.homes.items c.delete_calendar_in.new.homes.items c.args.self.now c.self.view_is _ (delete_calendar c.args.home c.args.name.now) 0 done c.delete_calendar_in.ensures.rest

pub returns-clause-origins : goal.returns-clause-origins
returns-clause-origins c home calendar object n =
    let done = made_delete_calendar (record { users = c.self.inside.users; homes = c.self.inside.homes.items }) c.self.invariant c.args.home c.args.name.now n in
    origins_shown c.self.inside.users c.self.inside.homes.items c.delete_calendar_in.new.homes.items c.args.self.now c.self.view_is _ (delete_calendar c.args.home c.args.name.now) n done c.delete_calendar_in.ensures.rest home calendar object

pub returns-clause-some : goal.returns-clause-some
returns-clause-some c there =
    some_name (kept_calendar c.self.inside.homes.items c.args.home c.args.name.now) c.delete_calendar_in.result c.delete_calendar_in.ensures.name
    (calendar_shown c.self.inside.users c.self.inside.homes.items c.args.home c.args.name.now) (ap (λ (k : Kept). calendar_at (state_of k) c.args.home c.args.name.now) c.self.view_is) there

pub returns-clause-name : goal.returns-clause-name
returns-clause-name c =
    own_name c.self.inside.homes.items c.args.home c.args.name.now c.delete_calendar_in.result c.self.invariant.homes c.delete_calendar_in.ensures.name
