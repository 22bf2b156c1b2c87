use Rattle.std.proofs.Common.{ap, sym, ◌∙◌}
use Rattle.std.specs.Prelude.{bytes_eq, option_map}
use Rattle.cal_model.specs.declared.request.Tags.TheVariants.{Listed}
use Rattle.dav_request.proofs.TagSteps.{any_tag, listed_tags}
use Rattle.dav_request.proofs.tags.tags_of.Goals as goal

pub returns-then-eq : goal.returns-then-eq
returns-then-eq c = sym (any_tag c.args.value.now (sym (c.eq.ensures ∙ ap (λ star. bytes_eq c.args.value.now star) c.as_slice.ensures) ∙ c.if-eq.true))

pub returns-in-Some : goal.returns-in-Some
returns-in-Some c =
    ap (option_map Listed) (sym c.in-Some.is ∙ c.in_ok-tags.ensures)
    ∙ sym (listed_tags c.args.value.now (sym (c.eq.ensures ∙ ap (λ star. bytes_eq c.args.value.now star) c.as_slice.ensures) ∙ c.if-eq.false))

pub returns-in-None : goal.returns-in-None
returns-in-None c =
    ap (option_map Listed) (sym c.in-None.is ∙ c.in_ok-tags.ensures)
    ∙ sym (listed_tags c.args.value.now (sym (c.eq.ensures ∙ ap (λ star. bytes_eq c.args.value.now star) c.as_slice.ensures) ∙ c.if-eq.false))
