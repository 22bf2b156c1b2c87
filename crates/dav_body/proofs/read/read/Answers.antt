use Rattle.std.proofs.Common.{◌≡◌, ◌+◌, ◌-◌, [], ◌∷◌, length, sym, ap, subst, ◌∙◌, arith, rules}
use Rattle.std.specs.Prelude.{filter_map}
use borrow.Author.Tests.{true-eqb}
use Rattle.std.proofs.lemmas.List.{nil_from_length}
use Rattle.cal_base.specs.Xml.XmlMarkup.{markups, markup_of}
use Rattle.cal_base.specs.Xml.XmlFaults.{body_fault}
use Rattle.dav_body.specs.Keeping.{fault_with, element_with}
use Rattle.dav_body.specs.Kept.{kept_of}
use Rattle.dav_body.specs.Faults.{IsFaultOf}
use Rattle.dav_body.proofs.Answered.{err_moved}
use Rattle.dav_body.proofs.read.read.Goals as goal

pub markups-preserved : goal.markups-preserved
markups-preserved c =
    let octets = c.args.octets.now in
    let rest = c.markups.rest.now in
    let text = c.first_markup.result.0.now in
    let behind = c.first_markup.result.1.now in
    let step = c.in_ok-progress.ensures.step in
    let next : (length octets - length rest) + length text ≡ length octets - length behind = omega arith in
    record {
      within = omega arith;
      faults = ap (λ place. fault_with (length octets) (kept_of c.in_ok-progress.progress) place (markups behind)) (sym next)
          ∙ sym (step.faults (markups behind))
          ∙ ap (fault_with (length octets) (kept_of c.markups.progress) (length octets - length rest)) (sym c.first_markup.ensures.cut)
          ∙ c.markups.invariant.faults;
      elements = sym (step.elements (markups behind))
          ∙ ap (λ texts. element_with (kept_of c.markups.progress) (filter_map markup_of texts)) (sym c.first_markup.ensures.cut)
          ∙ c.markups.invariant.elements;
    }

pub returns-in_err-progress-clause-fault : goal.returns-in_err-progress-clause-fault
returns-in_err-progress-clause-fault c =
    let octets = c.args.octets.now in
    let rest = c.markups.rest.now in
    let behind = c.first_markup.result.1.now in
    let found : body_fault octets ≡ fault_with (length octets) (kept_of c.markups.progress) (length octets - length rest) (c.first_markup.result.0.now ∷ markups behind) =
    sym c.markups.invariant.faults ∙ ap (fault_with (length octets) (kept_of c.markups.progress) (length octets - length rest)) c.first_markup.ensures.cut in
    let told : IsFaultOf (body_fault octets) c.in_err-progress.field-0.0 =
    subst (λ fault. IsFaultOf fault c.in_err-progress.field-0.0) (sym found) (c.in_err-progress.ensures.stop (markups behind)) in
    search (rules, told)

pub returns-clause-fault : goal.returns-clause-fault
returns-clause-fault c =
    let octets = c.args.octets.now in
    let rest = c.markups.rest.now in
    let end : rest ≡ [] = nil_from_length rest (true-eqb (length rest) 0 (c.markups-test.ensures)) in
    let last : fault_with (length octets) (kept_of c.markups.progress) (length octets - length rest) [] ≡ body_fault octets =
    ap (λ left. fault_with (length octets) (kept_of c.markups.progress) (length octets - length rest) (markups left)) (sym end) ∙ c.markups.invariant.faults in
    err_moved c.finished.result _ _ (λ fault told. subst (λ found. IsFaultOf found fault) last (told (length octets - length rest))) c.finished.ensures.stop
