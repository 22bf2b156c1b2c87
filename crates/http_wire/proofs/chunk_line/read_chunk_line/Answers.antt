use Rattle.std.proofs.Common.{◌∙◌, sym, ap, length, take, arith}
use Rattle.std.proofs.lemmas.List.{length-take}
use Rattle.cal_model.specs.Streams.Chunks.{begins_chunk_line, chunk_size, line_size}
use Rattle.http_wire.proofs.LineTexts.{whole_line, bad_line, bad_front, cut_front}
use Rattle.http_wire.proofs.chunk_line.read_chunk_line.Goals as goal

pub size_of_line-requires : goal.size_of_line-requires
size_of_line-requires c =
    omega (arith, ap length c.front.ensures, length-take c.in-Some.len c.at_most-near.result.now, ap length c.at_most-near.ensures, length-take 256 c.args.octets.now)

pub returns-in-Some-size_of_line : goal.returns-in-Some-size_of_line
returns-in-Some-size_of_line c =
    let near = c.at_most-near.ensures in
    whole_line c.args.octets.now c.in-Some.len c.in-Some-size_of_line.size (ap line_size (sym near) ∙ sym c.in-Some.ensures.size)
    (ap (λ l. chunk_size (take c.in-Some.len l)) (sym near) ∙ ap chunk_size (sym c.front.ensures) ∙ sym c.in-Some-size_of_line.ensures)

pub returns-in-None-size_of_line : goal.returns-in-None-size_of_line
returns-in-None-size_of_line c =
    let near = c.at_most-near.ensures in
    bad_line c.args.octets.now c.in-Some.len (ap line_size (sym near) ∙ sym c.in-Some.ensures.size)
    (ap (λ l. chunk_size (take c.in-Some.len l)) (sym near) ∙ ap chunk_size (sym c.front.ensures) ∙ sym c.in-None-size_of_line.ensures)

pub returns-then-begins_line : goal.returns-then-begins_line
returns-then-begins_line c =
    let near = c.at_most-near.ensures in
    cut_front c.args.octets.now (ap line_size (sym near) ∙ sym c.in-None.ensures.size) (ap begins_chunk_line (sym near) ∙ sym c.begins_line.ensures ∙ c.if-begins_line.true)

pub returns-else-begins_line : goal.returns-else-begins_line
returns-else-begins_line c =
    let near = c.at_most-near.ensures in
    bad_front c.args.octets.now (ap line_size (sym near) ∙ sym c.in-None.ensures.size) (ap begins_chunk_line (sym near) ∙ sym c.begins_line.ensures ∙ c.if-begins_line.false)
