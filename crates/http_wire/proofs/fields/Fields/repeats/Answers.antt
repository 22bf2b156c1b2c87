use Rattle.std.proofs.Common.{◌≡◌, ◌∙◌, refl, sym, ap, length}
use Rattle.std.specs.Prelude.{nat_lt}
use Rattle.std.proofs.lemmas.List.{length-map}
use Rattle.std.proofs.lemmas.Iterator.Consumers.{count_from_yields_List, YieldsList-from_first}
use Rattle.http_header.specs.FieldValue.{FieldValue}
use Rattle.http_wire.proofs.fields.Fields.repeats.Goals as goal

pub returns : goal.returns
returns c =
    let values = c.values.result in
    let counted : c.count.result ≡ length values = count_from_yields_List values c.count.result c.count.ensures.ran (YieldsList-from_first (λ value. value.now) (λ rest. rest) values refl) in
    ap (nat_lt 1) (counted ∙ sym (length-map values (λ (value : FieldValue). value.bytes)) ∙ ap length c.values.ensures)
