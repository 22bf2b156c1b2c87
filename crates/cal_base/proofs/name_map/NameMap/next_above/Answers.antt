use Rattle.std.proofs.Common.{◌∙◌, sym, ap, Some}
use Rattle.std.specs.Option.{option_map}
use Rattle.cal_base.specs.Lists.NameMap.{next_above}
use Rattle.cal_base.proofs.Lists.NameMapLemmas.{shown, next_above-shown}
use Rattle.cal_base.proofs.name_map.NameMap.next_above.Goals as goal

pub returns-in-Some : goal.returns-in-Some
returns-in-Some g c =
    ap (λ octets. Some (octets, c.in-Some.value.now)) c.as_slice.ensures.value
    ∙ (ap (option_map (shown (λ key. key.items))) c.in-Some.ensures
    ∙ (sym (next_above-shown (λ key. key.items) c.self.inside.entries.entries c.args.name.now)
    ∙ ap (λ named. next_above named c.args.name.now) c.self.view_is))

pub returns-in-None : goal.returns-in-None
returns-in-None g c =
    ap (option_map (shown (λ key. key.items))) c.in-None.ensures
    ∙ (sym (next_above-shown (λ key. key.items) c.self.inside.entries.entries c.args.name.now)
    ∙ ap (λ named. next_above named c.args.name.now) c.self.view_is)
