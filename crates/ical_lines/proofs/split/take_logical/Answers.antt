use Rattle.std.proofs.Common.{◌≡◌, ◌+◌, ◌-◌, ◌++◌, length, drop, arith, sym, ap, ◌∙◌}
use Rattle.std.proofs.lemmas.List.{take_rest}
use Rattle.ical_lines.proofs.LogicalSteps.{start_step, fold_step, end_step}
use Rattle.ical_lines.proofs.split.take_logical.Goals as goal

pub folds-init : goal.folds-init
folds-init c = record {
  shorter = c.first_physical.ensures.shorter;
  reads = λ done. start_step done c.args.place _ c.args.octets.now c.first_physical.result.0.now _ c.first_physical.result.1.now _ (c.first_physical.ensures.line c.args.place) c.in_ok-raw.ensures c.first_refused-refused.ensures;
}

pub folds-preserved : goal.folds-preserved
folds-preserved c =
    let at = c.args.place + (length c.args.octets.now - length c.folds.rest.now) in
    let text = c.first_physical-in-folds.result.0.now in
    let behind = c.first_physical-in-folds.result.1.now in
    let blank = sym c.begins_with_blank.ensures ∙ c.folds-test.true in
    let joined : c.extend_from_slice.new.self ≡ c.folds.raw ++ drop 1 text = c.in_ok-extend_from_slice.ensures.ok ∙ ap (λ more. c.folds.raw ++ more) (take_rest text 1) in
    let next : at + (length c.folds.rest.now - length behind) ≡ c.args.place + (length c.args.octets.now - length behind) = omega arith in
    record {
      shorter = omega arith;
      reads = λ done. rw (← next) (fold_step _ done c.args.place at _ c.folds.rest.now text behind c.folds.raw c.extend_from_slice.new.self c.folds.refused c.first_refused-refused-in-folds.result (c.folds.invariant.reads done) (c.first_physical-in-folds.ensures.line at) blank joined c.first_refused-refused-in-folds.ensures);
    }

pub returns-clause-reads : goal.returns-clause-reads
returns-clause-reads c = λ done. end_step _ done c.args.place (c.args.place + (length c.args.octets.now - length c.folds.rest.now)) c.folds.rest.now c.folds.raw c.folds.refused (c.folds.invariant.reads done) (sym c.begins_with_blank.ensures ∙ c.folds-test.false)
