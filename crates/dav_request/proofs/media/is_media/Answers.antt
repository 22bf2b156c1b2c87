use Rattle.std.proofs.Common.{ap, sym, ◌∙◌}
use Rattle.std.specs.Prelude.{bytes_eq}
use Rattle.std.specs.Str.{str_to_ascii_lowercase}
use Rattle.httparse.specs.Grammar.{trim_ows}
use Rattle.dav_request.proofs.CredentialSteps.{same_name}
use Rattle.dav_request.proofs.media.is_media.Goals as goal

pub returns : goal.returns
returns c =
    sym (same_name c.trimmed.result.now c.args.wanted.now c.eq_ignore_ascii_case.result c.eq_ignore_ascii_case.ensures.test)
    ∙ ap (λ lower. bytes_eq (str_to_ascii_lowercase c.trimmed.result.now) lower) c.requires
    ∙ ap (λ text. bytes_eq (str_to_ascii_lowercase text) c.args.wanted.now) (c.trimmed.ensures ∙ ap trim_ows c.text_before.ensures)
