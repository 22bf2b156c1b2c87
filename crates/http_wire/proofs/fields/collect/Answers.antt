use Rattle.std.proofs.Common.{arith, sym, ap, ◌∙◌, Err}
use Rattle.httparse.specs.declared.spans.TheConstants.{EMPTY_HEADER_SPAN}
use Rattle.http_header.specs.Token.{lowercase}
use Rattle.http_header.specs.FieldValue.{plain_value}
use Rattle.http_wire.proofs.FieldValues.{field_at, map_more, length-append_le, value_count-append, append_same}
use Rattle.http_wire.proofs.fields.collect.Goals as goal

pub unreachable-requires : goal.unreachable-requires
unreachable-requires c =
    let valid = field_at c.args.block.now c.args.headers.now c.loop-header.header-index EMPTY_HEADER_SPAN c.loop-header-test.true c.requires.valid in
    c.from_bytes.ensures.invalid.0 (c.in-Err-Invalid.is ∙ ap Err c.in-Err-Invalid.field-0-is) (rw c.of.ensures valid.0)

pub unreachable-requires-in-Err-Invalid-from_bytes : goal.unreachable-requires-in-Err-Invalid-from_bytes
unreachable-requires-in-Err-Invalid-from_bytes c =
    let valid = field_at c.args.block.now c.args.headers.now c.loop-header.header-index EMPTY_HEADER_SPAN c.loop-header-test.true c.requires.valid in
    c.from_bytes-in-loop-header.ensures.invalid.0 (c.in-Err-Invalid-from_bytes.is ∙ ap Err c.in-Err-Invalid-from_bytes.field-0-is) (rw c.of-in-loop-header.ensures valid.1)

pub loop-header-preserved : goal.loop-header-preserved
loop-header-preserved c =
    let more = map_more c.args.block.now c.args.headers.now c.loop-header.header-index EMPTY_HEADER_SPAN c.loop-header-test.true in
    let done = c.in-Ok-append.ensures.ok in
    let name = c.in-Ok.ensures.ok ∙ ap lowercase c.of.ensures in
    let value = c.in-Ok-from_bytes.ensures.ok ∙ ap plain_value c.of-in-loop-header.ensures in (
      done ∙ append_same _ _ _ _ _ _ c.loop-header.invariant.0 name value ∙ sym more,
      rw done (omega (arith, length-append_le c.loop-header.by_name c.in-Ok.name c.in-Ok-from_bytes.value)),
      rw done (omega (arith, value_count-append c.loop-header.by_name c.in-Ok.name c.in-Ok-from_bytes.value)),
    )
