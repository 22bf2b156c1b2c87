use Rattle.std.proofs.Common.{◌∙◌, sym}
use Rattle.http_wire.proofs.FieldSteps.{closing_option, other_option, last_option}
use Rattle.http_wire.proofs.fields.names_close.Goals as goal

pub returns-then-is_close : goal.returns-then-is_close
returns-then-is_close c = closing_option c.options.rest.now c.in-Some.option.now c.in-Some.behind.now c.in-Some.ensures.parts (sym c.is_close.ensures ∙ c.if-is_close.true) ∙ c.options.invariant

pub options-preserved : goal.options-preserved
options-preserved c = other_option c.options.rest.now c.in-Some.option.now c.in-Some.behind.now c.in-Some.ensures.parts (sym c.is_close.ensures ∙ c.if-is_close.false) ∙ c.options.invariant

pub returns : goal.returns
returns c = c.is_close-2.ensures ∙ last_option c.options.rest.now c.in_default.ensures.parts ∙ c.options.invariant
