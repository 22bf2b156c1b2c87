use Rattle.std.proofs.Common.{List, [], ◌∷◌, ◌++◌, length, ap, sym, subst, arith}
use Rattle.std.specs.List.{AllByRecursion}
use Rattle.caldav_server.specs.LoadJobs.{HasJoined}
use Rattle.caldav_server.specs.LoadSums.{AreAdded, IsBack, passes_of}
use Rattle.caldav_server.specs.declared.load_sessions.Done.{Done}
use Rattle.caldav_server.proofs.LoadDoneLemmas.{parts-more, parts-done, passes-more}
use Rattle.caldav_server.proofs.LoadPasses.{joined-none}
use Rattle.caldav_server.proofs.load_joins.joined.Goals as goal

pub joins-init : goal.joins-init
joins-init c = record {
  before = [];
  parts = sym c.from_vec-rest.ensures;
  pass = c.requires.pass;
  back = subst (AllByRecursion (λ (done : Done). IsBack c.args.service.now done.pass)) (sym c.from_vec-rest.ensures) c.requires.back;
  joined = joined-none c.args.pass.now;
  tally = c.nothing-tally.ensures;
}

pub joins-preserved : goal.joins-preserved
joins-preserved c =
    let kept = c.joins.invariant in
    let done = c.in-Some.done in
    record {
      before = kept.before ++ done ∷ [];
      parts = parts-more c.args.done.items kept.before c.joins.rest c.pop_front.new.self done kept.parts c.in-Some.ensures;
      pass = c.join_one.ensures.pass;
      back = (subst (AllByRecursion (λ (done : Done). IsBack c.args.service.now done.pass)) c.in-Some.ensures kept.back).1;
      joined = subst (HasJoined c.args.pass.now c.join_one.new.pass) (sym (passes-more kept.before done)) (c.join_one.ensures.joined c.args.pass.now (passes_of kept.before) kept.joined);
      tally = c.join_one.ensures.tally kept.before kept.tally;
    }

pub joins-smaller : goal.joins-smaller
joins-smaller c = let shorter = ap length c.in-Some.ensures in omega (arith, shorter)

pub returns : goal.returns
returns c =
    let kept = c.joins.invariant in
    let all = parts-done c.args.done.items kept.before c.joins.rest kept.parts c.in_default.ensures.0 in
    record {
      joined = subst (λ (done : List Done). HasJoined c.args.pass.now c.joins.pass (passes_of done)) all kept.joined;
      tally = subst (λ (done : List Done). AreAdded done c.joins.tally) all kept.tally;
    }
