use Rattle.std.proofs.Common.{◌-◌, length, arith, ap, ap₂, sym, ◌∙◌, ◌≡◌}
use Rattle.cal_base.specs.Texts.Octets.{line_feed}
use Rattle.cal_base.specs.Lines.ContentLines.{pieces, physical_from, groups}
use Rattle.ical_lines.specs.GroupReading.{read_groups}
use borrow.Author.Tests.{true-eqb}
use Rattle.std.proofs.lemmas.List.{nil_from_length}
use Rattle.ical_lines.proofs.OwnTexts.{lines_are_read}
use Rattle.ical_lines.proofs.GrammarLaw.{lines_are_the_grammar}
use Rattle.ical_lines.proofs.ReadingInOrder.{read_groups-all}
use Rattle.ical_lines.proofs.split.split_lines.Goals as goal

pub logical-init : goal.logical-init
logical-init c =
    let none : length c.args.octets.now - length c.args.octets.now ≡ 0 = omega arith in
    record {
      within = omega arith;
      reads = ap₂ (λ lines place. read_groups lines (groups (physical_from place (pieces line_feed c.args.octets.now)))) c.new-lines.ensures none ∙ read_groups-all c.args.octets.now;
    }

pub returns-in_err-logical-clause-grammar : goal.returns-in_err-logical-clause-grammar
returns-in_err-logical-clause-grammar c = lines_are_the_grammar

pub returns-in_err-line-clause-grammar : goal.returns-in_err-line-clause-grammar
returns-in_err-line-clause-grammar c = lines_are_the_grammar

pub returns-in_err-push-clause-grammar : goal.returns-in_err-push-clause-grammar
returns-in_err-push-clause-grammar c = lines_are_the_grammar

pub returns-clause-grammar : goal.returns-clause-grammar
returns-clause-grammar c = lines_are_the_grammar

pub returns-clause-own_texts : goal.returns-clause-own_texts
returns-clause-own_texts c =
    let end = nil_from_length c.logical.rest.now (true-eqb (length c.logical.rest.now) 0 (c.logical-test.ensures)) in
    let whole = ap (λ rest. read_groups c.logical.lines (groups (physical_from (length c.args.octets.now - length rest) (pieces line_feed rest)))) end in
    lines_are_read c.args.octets.now c.logical.lines (sym c.logical.invariant.reads ∙ whole)
