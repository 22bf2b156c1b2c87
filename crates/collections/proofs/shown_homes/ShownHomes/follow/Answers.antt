use Rattle.std.proofs.Common.{◌∙◌, sym, ap, subst}
use Rattle.std.proofs.lemmas.Result.{on_ok_weaker, on_err_weaker}
use Rattle.collections.specs.Following.{home_in, home_after, HasRoomFor}
use Rattle.collections.specs.Homes.{in_home, AreHomes, IfHome}
use Rattle.collections.proofs.shown_homes.ShownHomes.follow.Goals as goal

pub follow_in-requires : goal.follow_in-requires
follow_in-requires c = record {
  homes = subst AreHomes (sym c.self.view_is) c.requires.homes;
  room = subst (λ homes. IfHome homes (home_in c.args.change.now) (HasRoomFor c.args.change.now)) (sym c.self.view_is) c.requires.room;
  short = c.requires.short;
}

pub returns-clause-ok : goal.returns-clause-ok
returns-clause-ok c =
    on_ok_weaker c.follow_in.result (λ e. e ∙ ap (in_home (home_in c.args.change.now) (home_after c.args.change.now c.args.origin)) c.self.view_is) c.follow_in.ensures.ok

pub returns-clause-err : goal.returns-clause-err
returns-clause-err c = on_err_weaker c.follow_in.result (λ e. e ∙ c.self.view_is) c.follow_in.ensures.err
