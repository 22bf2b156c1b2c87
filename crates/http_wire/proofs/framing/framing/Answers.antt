use Rattle.std.proofs.Common.{◌∙◌, sym, ap, subst}
use Rattle.std.specs.Prelude.{codes, slice_get, option_map}
use Rattle.http_wire.specs.Parts.{text_there}
use Rattle.http_wire.specs.FieldTexts.{values_of}
use Rattle.http_wire.specs.HeadReading.{FramingReads, framed}
use Rattle.http_wire.proofs.Framings.{several_refused, framing_reads}
use Rattle.http_wire.proofs.framing.framing.Goals as goal

pub returns-then-repeats_single : goal.returns-then-repeats_single
returns-then-repeats_single c head e = several_refused c.args.fields.now head (sym c.repeats_single.ensures ∙ c.if-repeats_single.true) e

pub returns : goal.returns
returns c head e =
    let is = c.framed.ensures ∙ ap (λ o. framed o (option_map text_there c.first-2.result)) c.first.ensures ∙ ap (λ o. framed (slice_get (values_of (codes "transfer-encoding") c.args.fields.now) 0) o) c.first-2.ensures in
    subst (λ r. FramingReads r head) (sym is) (framing_reads c.args.fields.now head (sym c.repeats_single.ensures ∙ c.if-repeats_single.false) e)
