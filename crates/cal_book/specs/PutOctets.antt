-- The octets that a request puts, if it does (RFC 4791, 5.3.2).
use Rattle.std.specs.Prelude.{ℕ, List, Option, Some, None}
use Rattle.cal_model.specs.declared.request.Content.{Content}
use Rattle.cal_model.specs.declared.request.Content.TheVariants.{Put}

abbrev pub put_octets : Content → Option (List ℕ)
put_octets (Put media_ok octets) = Some octets
put_octets other = None
