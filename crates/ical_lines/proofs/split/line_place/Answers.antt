use Rattle.std.proofs.Common.{◌-◌, length, sym, ap, ◌∙◌}
use Rattle.cal_base.specs.Texts.Octets.{line_feed}
use Rattle.cal_base.specs.Lines.ContentLines.{pieces, physical_from, groups}
use Rattle.ical_lines.specs.GroupReading.{place_among}
use borrow.Author.Tests.{true-eqb}
use Rattle.std.proofs.lemmas.List.{nil_from_length}
use Rattle.ical_lines.proofs.PlaceSteps.{found_step, place_among-filter, place_among-nil, place_placed}
use Rattle.ical_lines.proofs.split.line_place.Goals as goal

pub returns-then-left-eq0-clause-logical : goal.returns-then-left-eq0-clause-logical
returns-then-left-eq0-clause-logical c =
    let at = length c.args.octets.now - length c.logical.rest.now in
    let known = c.logical.invariant.places ∙ c.first_logical-has_text.ensures.places c.logical.left at in
    sym (found_step _ c.logical.left at _ _ known c.if-has_text.true c.if-left-eq0.true) ∙ place_among-filter c.args.number (groups (physical_from 0 (pieces line_feed c.args.octets.now)))

pub returns-then-left-eq0-clause-placed : goal.returns-then-left-eq0-clause-placed
returns-then-left-eq0-clause-placed c = λ whole. returns-then-left-eq0-clause-logical c ∙ place_placed c.args.octets.now c.args.number whole

pub returns-clause-logical : goal.returns-clause-logical
returns-clause-logical c =
    let end = nil_from_length c.logical.rest.now (true-eqb (length c.logical.rest.now) 0 (c.logical-test.ensures)) in
    let none = ap (λ rest. place_among c.logical.left (groups (physical_from (length c.args.octets.now - length rest) (pieces line_feed rest)))) end in
    sym (c.logical.invariant.places ∙ none ∙ place_among-nil c.logical.left) ∙ place_among-filter c.args.number (groups (physical_from 0 (pieces line_feed c.args.octets.now)))

pub returns-clause-placed : goal.returns-clause-placed
returns-clause-placed c = λ whole. returns-clause-logical c ∙ place_placed c.args.octets.now c.args.number whole
