-- What a tag is, by the fault that is found of it.
use Rattle.std.proofs.Common.{sym, ap, ◌∙◌}
use Rattle.std.specs.Prelude.{option_map}
use Rattle.dav_body.specs.Faults.{why_told}
use Rattle.dav_body.proofs.TagFaults.{resolved_fault, resolved_open}
use Rattle.dav_body.proofs.resolve.resolve_scoped.Goals as goal

pub returns-in-Ok-Some : goal.returns-in-Ok-Some
returns-in-Ok-Some c =
    resolved_fault c.args.tag c.args.around.now c.as_slice.result.now c.in-Ok-Some.why c.requires.names c.requires.bindings (c.as_slice.ensures ∙ c.in_ok-attrs.ensures)
    (ap (option_map why_told) (sym c.in-Ok-Some.field-0-is) ∙ c.in-Ok-Some.ensures)

pub returns-in_ok-open_element-in-Ok-None : goal.returns-in_ok-open_element-in-Ok-None
returns-in_ok-open_element-in-Ok-None c =
    resolved_open c.args.tag c.args.around.now c.as_slice.result.now c.in_ok-open_element-in-Ok-None.field-0 c.requires.names c.requires.bindings (c.as_slice.ensures ∙ c.in_ok-attrs.ensures)
    (ap (option_map why_told) (sym c.in-Ok-None.field-0-is) ∙ c.in-Ok-None.ensures) c.in_ok-open_element-in-Ok-None.ensures
