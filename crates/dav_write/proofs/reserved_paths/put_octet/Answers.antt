use Rattle.std.proofs.Common.{◌≡◌, length, ap, ◌∙◌, arith}
use Rattle.dav_write.proofs.PathLemmas.{escape_length}
use Rattle.dav_write.proofs.reserved_paths.put_octet.Goals as goal

pub extend_from_slice-requires : goal.extend_from_slice-requires
extend_from_slice-requires c =
    let three : length c.as_bytes.result.now ≡ 3 = ap length (c.as_bytes.ensures.value ∙ c.percent_encode_byte.ensures) ∙ escape_length c.args.octet in
    omega arith

pub returns-else-is_kept-clause-room : goal.returns-else-is_kept-clause-room
returns-else-is_kept-clause-room c =
    let three : length c.as_bytes.result.now ≡ 3 = ap length (c.as_bytes.ensures.value ∙ c.percent_encode_byte.ensures) ∙ escape_length c.args.octet in
    omega arith
