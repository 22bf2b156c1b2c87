use Rattle.std.proofs.Common.{◌≡◌, ◌+◌, ◌-◌, ◌||◌, nat_lt, length, arith, refl, sym, ◌∙◌}
use Rattle.ical_lines.proofs.PlaceSteps.{fold_step, end_step}
use Rattle.ical_lines.proofs.split.first_logical.Goals as goal

pub more-preserved-then-has_text : goal.more-preserved-then-has_text
more-preserved-then-has_text c =
    let text = c.first_physical-in-more.result.0.now in
    let behind = c.first_physical-in-more.result.1.now in
    let blank = sym c.begins_with_blank.ensures ∙ c.more-test.true in
    record {
      shorter = omega arith;
      places = λ number place.
          let at = place + (length c.args.octets.now - length c.more.rest.now) in
          let next : at + (length c.more.rest.now - length behind) ≡ place + (length c.args.octets.now - length behind) = omega arith in
          let same : c.more.has_text ≡ (c.more.has_text || nat_lt 1 (length text)) = rw (c.if-has_text.true) refl in
          rw (← next) (fold_step _ number place at _ c.more.rest.now text behind c.more.has_text c.more.has_text (c.more.invariant.places number place) (c.first_physical-in-more.ensures.line at) blank same);
    }

pub more-preserved : goal.more-preserved
more-preserved c =
    let text = c.first_physical-in-more.result.0.now in
    let behind = c.first_physical-in-more.result.1.now in
    let blank = sym c.begins_with_blank.ensures ∙ c.more-test.true in
    record {
      shorter = omega arith;
      places = λ number place.
          let at = place + (length c.args.octets.now - length c.more.rest.now) in
          let next : at + (length c.more.rest.now - length behind) ≡ place + (length c.args.octets.now - length behind) = omega arith in
          let same : nat_lt 1 (length text) ≡ (c.more.has_text || nat_lt 1 (length text)) = rw (c.if-has_text.false) refl in
          rw (← next) (fold_step _ number place at _ c.more.rest.now text behind c.more.has_text (nat_lt 1 (length text)) (c.more.invariant.places number place) (c.first_physical-in-more.ensures.line at) blank same);
    }

pub returns-clause-places : goal.returns-clause-places
returns-clause-places c = λ number place. end_step _ number place (place + (length c.args.octets.now - length c.more.rest.now)) c.more.rest.now c.more.has_text (c.more.invariant.places number place) (sym c.begins_with_blank.ensures ∙ c.more-test.false)
