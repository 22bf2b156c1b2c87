use Rattle.std.proofs.Common.{ap, sym, ◌∙◌}
use Rattle.std.specs.Prelude.{bytes_eq}
use Rattle.cal_model.specs.Words.Namespaces.{dav}
use Rattle.dav_elements.proofs.SetLemmas.{no_set_beside}
use Rattle.dav_elements.proofs.aces.set_named.Goals as goal

pub returns-else-has_name : goal.returns-else-has_name
returns-else-has_name c =
    no_set_beside c.args.element.now (sym (c.is_text.ensures ∙ ap (λ space. bytes_eq space dav) c.as_slice.ensures) ∙ c.if-is_text.false) (sym c.has_name.ensures ∙ c.if-has_name.false)
