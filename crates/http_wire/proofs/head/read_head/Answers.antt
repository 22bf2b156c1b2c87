use Rattle.std.proofs.Common.{◌∙◌, sym, ap, subst, refl, arith}
use Rattle.std.specs.Prelude.{All}
use Rattle.cal_model.specs.Streams.HeadFields.{names_other_version}
use Rattle.http_wire.specs.FieldMaps.{IsRawField, fields_map}
use Rattle.http_wire.proofs.FieldHeads.{heads_can_stand}
use Rattle.http_wire.proofs.HeadBlocks.{many_fields, another_version, no_head, reads_head}
use Rattle.http_wire.proofs.head.read_head.Goals as goal

pub returns-then-line_feeds-gt-FEED_LIMIT : goal.returns-then-line_feeds-gt-FEED_LIMIT
returns-then-line_feeds-gt-FEED_LIMIT c = many_fields c.args.block.now (omega (arith, c.line_feeds.ensures, c.if-line_feeds-gt-FEED_LIMIT.true))

pub returns-then-names_other_version : goal.returns-then-names_other_version
returns-then-names_other_version c =
    another_version c.args.block.now (omega (arith, c.line_feeds.ensures, c.if-line_feeds-gt-FEED_LIMIT.false))
    (ap names_other_version (sym c.first_line.ensures) ∙ sym c.names_other_version.ensures ∙ c.if-names_other_version.true)

pub returns-in_default : goal.returns-in_default
returns-in_default c =
    no_head c.args.block.now (omega (arith, c.line_feeds.ensures, c.if-line_feeds-gt-FEED_LIMIT.false))
    (ap names_other_version (sym c.first_line.ensures) ∙ sym c.names_other_version.ensures ∙ c.if-names_other_version.false) (c.in_default.ensures.none refl)

pub collect-requires-clause-valid : goal.collect-requires-clause-valid
collect-requires-clause-valid c =
    let head = c.in-Some.ensures.head in
    let valid = heads_can_stand c.args.block.now head.0 head.1 (omega (arith, c.requires.short)) in
    subst (All IsRawField) (sym head.2.fields) valid

pub returns : goal.returns
returns c =
    let head = c.in-Some.ensures.head in
    reads_head c.args.block.now head.0 c.read_fields.result (omega (arith, c.line_feeds.ensures, c.if-line_feeds-gt-FEED_LIMIT.false))
    (ap names_other_version (sym c.first_line.ensures) ∙ sym c.names_other_version.ensures ∙ c.if-names_other_version.false) c.requires.begins head.1
    (c.read_fields.ensures head.0 (record { method = c.of.ensures ∙ head.2.method; target = c.of-2.ensures ∙ head.2.path; minor = head.2.version; fields_are = c.in-Ok.ensures ∙ ap fields_map head.2.fields }))
