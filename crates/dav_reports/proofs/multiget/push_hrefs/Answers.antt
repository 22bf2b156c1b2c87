use Rattle.std.proofs.Common.{◌≡◌, List, [], ◌∷◌, ◌+◌, ◌++◌, ◌<◌, length, sym, ap, ◌∙◌, subst, arith, append_assoc, append-nil}
use Rattle.std.specs.Prelude.{flat_map}
use Rattle.std.specs.List.{AllByRecursion}
use Rattle.cal_model.specs.Refusals.RequestLimits.{answer_limit}
use Rattle.cal_model.specs.Serving.ReportReplies.{href_response}
use Rattle.dav_reports.specs.CalendarObjects.{NamesAmong}
use Rattle.dav_reports.specs.SeenCalendars.{reported_of}
use Rattle.dav_reports.proofs.QueryWalks.{too_long}
use Rattle.dav_reports.proofs.multiget.push_hrefs.Goals as goal

pub returns-in_err-push_href-clause-steps : goal.returns-in_err-push_href-clause-steps
returns-in_err-push_href-clause-steps g c entries all =
    let among = NamesAmong (g.V.View.directory c.args.seen.now.view.now) (g.V.View.state c.args.seen.now.view.now) c.args.home c.args.calendar.now entries in
    let left = subst (AllByRecursion among) c.in-Some.ensures.cases.0 (c.hrefs.invariant.left entries all) in
    let so_far = c.hrefs.invariant.counted entries all in
    let now = c.push_href.ensures.at_most entries (subst among (sym c.as_slice.ensures) left.0) in
    omega (arith, so_far, now)

pub returns-then-len-gt-ANSWER_LIMIT-clause-steps : goal.returns-then-len-gt-ANSWER_LIMIT-clause-steps
returns-then-len-gt-ANSWER_LIMIT-clause-steps g c entries all =
    let among = NamesAmong (g.V.View.directory c.args.seen.now.view.now) (g.V.View.state c.args.seen.now.view.now) c.args.home c.args.calendar.now entries in
    let left = subst (AllByRecursion among) c.in-Some.ensures.cases.0 (c.hrefs.invariant.left entries all) in
    let so_far = c.hrefs.invariant.counted entries all in
    let now = c.push_href.ensures.at_most entries (subst among (sym c.as_slice.ensures) left.0) in
    omega (arith, so_far, now)

pub returns-then-len-gt-ANSWER_LIMIT-clause-written : goal.returns-then-len-gt-ANSWER_LIMIT-clause-written
returns-then-len-gt-ANSWER_LIMIT-clause-written g c k may =
    let said = href_response (reported_of (g.V.View.directory c.args.seen.now.view.now) c.args.seen.now.who c.args.home c.args.calendar.now k) c.args.select.now c.args.zone.now c.args.props.now in
    let behind = flat_map said c.in-Some.behind.now in
    let over : answer_limit < length c.push_href.new.out = omega arith in
    too_long c.hrefs.out c.push_href.new.out behind _ over (
    ap (λ out. out ++ behind) (c.in_ok-push_href.ensures.response k may (c.hrefs.invariant.said k may))
    ∙ append_assoc c.hrefs.out (said c.as_slice.result.now) behind
    ∙ ap (λ href. c.hrefs.out ++ (said href ++ behind)) c.as_slice.ensures
    ∙ ap (λ hrefs. c.hrefs.out ++ flat_map said hrefs) (sym c.in-Some.ensures.cases.0)
    ∙ c.hrefs.invariant.made k may)

pub hrefs-preserved : goal.hrefs-preserved
hrefs-preserved g c =
    let directory = g.V.View.directory c.args.seen.now.view.now in
    let state = g.V.View.state c.args.seen.now.view.now in
    record {
      within = c.in_ok-push_href.ensures.within;
      left = λ entries all. (subst (AllByRecursion (NamesAmong directory state c.args.home c.args.calendar.now entries)) c.in-Some.ensures.cases.0 (c.hrefs.invariant.left entries all)).1;
      counted = λ entries all.
          let among = NamesAmong directory state c.args.home c.args.calendar.now entries in
          let left = subst (AllByRecursion among) c.in-Some.ensures.cases.0 (c.hrefs.invariant.left entries all) in
          let so_far = c.hrefs.invariant.counted entries all in
          let now = c.in_ok-push_href.ensures.steps entries (subst among (sym c.as_slice.ensures) left.0) in
          omega (arith, so_far, now);
      said = λ k may. c.in_ok-push_href.ensures.said k may (c.hrefs.invariant.said k may);
      made = λ k may.
          let said = href_response (reported_of directory c.args.seen.now.who c.args.home c.args.calendar.now k) c.args.select.now c.args.zone.now c.args.props.now in
          let behind = flat_map said c.in-Some.behind.now in
          ap (λ out. out ++ behind) (c.in_ok-push_href.ensures.response k may (c.hrefs.invariant.said k may))
          ∙ append_assoc c.hrefs.out (said c.as_slice.result.now) behind
          ∙ ap (λ href. c.hrefs.out ++ (said href ++ behind)) c.as_slice.ensures
          ∙ ap (λ hrefs. c.hrefs.out ++ flat_map said hrefs) (sym c.in-Some.ensures.cases.0)
          ∙ c.hrefs.invariant.made k may;
    }

-- what was written is all, where nothing is left
all_said : {X Y : Type 0} (f : X → List Y) (out all : List Y) (rest : List X) → length rest ≡ 0 → out ++ flat_map f rest ≡ all → out ≡ all
all_said f out all [] none e = sym (append-nil out) ∙ e
all_said f out all (x ∷ rest) none e = absurd (omega (arith, none))

pub returns-clause-written : goal.returns-clause-written
returns-clause-written g c k may =
    let said = href_response (reported_of (g.V.View.directory c.args.seen.now.view.now) c.args.seen.now.who c.args.home c.args.calendar.now k) c.args.select.now c.args.zone.now c.args.props.now in
    all_said said c.hrefs.out _ c.hrefs.rest.now c.in_default.ensures.cases (c.hrefs.invariant.made k may)
