use Rattle.std.proofs.Common.{sym, ap, ◌∙◌, arith}
use Rattle.std.proofs.lemmas.Bool.Decides.{nat_tests}
use Rattle.cal_model.specs.Paths.TargetPaths.{path_of_text}
use Rattle.dav_write.proofs.SegmentLemmas.{target_of_text, text_without_slash, read_text, text_is, no_octets}
use Rattle.dav_write.proofs.targets.read_path.Goals as goal

pub returns-in_default : goal.returns-in_default
returns-in_default c =
    let text = text_is c.args.target.now c.without_query.result.now c.without_host-text.result.now c.without_query.ensures c.without_host-text.ensures in
    sym (target_of_text c.args.target.now c.without_host-text.result.now text ∙ ap path_of_text (no_octets c.without_host-text.result.now c.in_default.ensures.cases))

pub returns-then-first-eq47 : goal.returns-then-first-eq47
returns-then-first-eq47 c =
    let text = text_is c.args.target.now c.without_query.result.now c.without_host-text.result.now c.without_query.ensures c.without_host-text.ensures in
    read_text c.path_of_segments.result c.args.target.now c.in-Some.first.now c.in-Some.behind.now c.without_host-text.result.now text c.in-Some.ensures.cases.0 (grind (arith, nat_tests)) c.path_of_segments.ensures

pub returns-else-first-eq47 : goal.returns-else-first-eq47
returns-else-first-eq47 c =
    let text = text_is c.args.target.now c.without_query.result.now c.without_host-text.result.now c.without_query.ensures c.without_host-text.ensures in
    sym (target_of_text c.args.target.now c.without_host-text.result.now text ∙ ap path_of_text c.in-Some.ensures.cases.0 ∙ text_without_slash c.in-Some.first.now c.in-Some.behind.now (grind (arith, nat_tests)))
