use Rattle.std.proofs.Common.{◌++◌, ap, ◌∙◌, append_assoc}
use Rattle.std.specs.Prelude.{codes}
use Rattle.dav_write.proofs.Appending.{on_ok_then}
use Rattle.multistatus.specs.PropertyTags.{opened}
use Rattle.multistatus.proofs.TagLemmas.{named-empty}
use Rattle.dav_props.proofs.answers.push_empty.Goals as goal

pub returns-clause-element : goal.returns-clause-element
returns-clause-element c =
    let space = c.args.asked.now.space.now in
    let name = c.args.asked.now.name.now in
    let old = c.args.out.now in
    on_ok_then c.extend_from_slice.result
    (λ written status. written ∙ ap (λ text. text ++ codes "/>") c.in_ok-push_open.ensures.text ∙ append_assoc old (opened space name) (codes "/>") ∙ ap (λ text. old ++ text) (named-empty space name))
    c.extend_from_slice.ensures.ok
