use Rattle.std.proofs.Common.{◌∙◌, ap}
use Rattle.std.specs.Prelude.{bytes_eq, codes}
use Rattle.http_wire.proofs.fields.is_close.Goals as goal

pub returns : goal.returns
returns c = c.eq.ensures ∙ ap (λ t. bytes_eq c.trimmed.result.now t) c.as_slice.ensures ∙ ap (λ t. bytes_eq t (codes "close")) c.trimmed.ensures
