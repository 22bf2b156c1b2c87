use Rattle.std.proofs.Common.{◌++◌, ap, ◌∙◌, append_assoc}
use Rattle.std.specs.Prelude.{codes}
use Rattle.dav_write.proofs.Appending.{on_ok_then}
use Rattle.multistatus.specs.PropertyTags.{opened}
use Rattle.multistatus.proofs.TagLemmas.{named-empty}
use Rattle.multistatus.proofs.propstats.push_empty_property.Goals as goal

pub returns-clause-element : goal.returns-clause-element
returns-clause-element c =
    let space = c.args.name.now.space in
    let name = c.args.name.now.name in
    let old = c.args.out.now in
    let tag = c.in_ok-push_open.ensures.text ∙ (λ i. old ++ opened (c.as_slice.ensures i) (c.as_slice-2.ensures i)) in
    on_ok_then c.extend_from_slice.result
    (λ written status. written ∙ ap (λ text. text ++ codes "/>") tag ∙ append_assoc old (opened space name) (codes "/>") ∙ ap (λ text. old ++ text) (named-empty space name))
    c.extend_from_slice.ensures.ok
