use Rattle.std.proofs.Common.{◌<◌, ◌∙◌, ◌+◌, length, get_or, sym, ap, subst, arith, map}
use Rattle.cal_model.specs.State.ServerState.{ServerState}
use Rattle.cal_model.specs.State.SoundStates.{IsSoundChange}
use Rattle.cal_model.specs.History.KeptChanges.{IsAcceptable}
use Rattle.cal_journal.specs.Behind.{IsBehind}
use Rattle.cal_journal.specs.KeptEntries.{kept_entry}
use Rattle.cal_journal.proofs.ReplaySteps.{IsAcceptable-next, IsSoundChange-next, IsBehind-next}
use Rattle.cal_journal.proofs.replaying.apply_up_to.Goals as goal

pub apply-requires : goal.apply-requires
apply-requires g c =
    let within : c.entries.place < length c.args.entries.now = omega (arith, c.entries-test.true, c.requires.within) in
    let entry = get_or c.args.entries.now c.entries.place c.index-entries-at.result in
    let is = ap (get_or c.args.entries.now c.entries.place) c.index-entries-at.is in
    record {
      acceptable =
          subst (λ directory. IsAcceptable directory (g.S.Applies.state c.entries.store) (kept_entry entry).change) (sym c.entries.invariant.users)
          (IsAcceptable-next (g.S.Applies.directory c.args.store.now) c.args.entries.now c.entries.place entry c.requires.users c.requires.legal
          within is (g.S.Applies.state c.entries.store) (g.S.Applies.origins c.entries.store) c.entries.invariant.behind);
      sound =
          subst (λ directory. IsSoundChange directory (kept_entry entry).change) (sym c.entries.invariant.users)
          (IsSoundChange-next (g.S.Applies.directory c.args.store.now) c.args.entries.now c.entries.place entry c.requires.users c.requires.legal
          within is c.requires.sound);
    }

pub entries-preserved : goal.entries-preserved
entries-preserved g c =
    let within : c.entries.place < length c.args.entries.now = omega (arith, c.entries-test.true, c.requires.within) in
    let entry = get_or c.args.entries.now c.entries.place c.index-entries-at.result in
    let is = ap (get_or c.args.entries.now c.entries.place) c.index-entries-at.is in
    record {
      users = c.apply.ensures.users ∙ c.entries.invariant.users;
      behind =
          subst (λ (state : ServerState). IsBehind (g.S.Applies.directory c.args.store.now) (map kept_entry c.args.entries.now) (c.entries.place + 1) state (g.S.Applies.origins c.apply.new.self)) (sym c.in_ok-apply.ensures.state)
          (IsBehind-next (g.S.Applies.directory c.args.store.now) c.args.entries.now c.entries.place entry c.requires.users c.requires.legal
          within is (g.S.Applies.state c.entries.store) (g.S.Applies.origins c.entries.store) (g.S.Applies.origins c.apply.new.self)
          c.entries.invariant.behind c.in_ok-apply.ensures.origins);
      forward = omega (arith, c.entries.invariant.forward);
      most = omega (arith, c.entries-test.true);
    }

-- without memory the store is as it was behind the entries before
pub returns-in_err-apply-clause-users : goal.returns-in_err-apply-clause-users
returns-in_err-apply-clause-users g c = c.apply.ensures.users ∙ c.entries.invariant.users

pub returns-in_err-apply-clause-behind : goal.returns-in_err-apply-clause-behind
returns-in_err-apply-clause-behind g c =
    subst (λ store. IsBehind (g.S.Applies.directory c.args.store.now) (map kept_entry c.args.entries.now) c.entries.place (g.S.Applies.state store) (g.S.Applies.origins store)) (sym c.in_err-apply.ensures.unchanged) c.entries.invariant.behind
