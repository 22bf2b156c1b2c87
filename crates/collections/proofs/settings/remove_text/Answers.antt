use Rattle.std.proofs.Common.{◌≡◌, ◌∙◌, sym, ap}
use Rattle.std.specs.Prelude.{slice_get}
use Rattle.std.specs.List.{remove}
use Rattle.cal_model.specs.State.PropertyTexts.{as_settings}
use Rattle.collections.specs.Settings.{place_in, is_named_at}
use Rattle.collections.proofs.SettingLemmas.{removed, absent}
use Rattle.collections.proofs.settings.remove_text.Goals as goal

pub returns-then-has_name_at-clause-texts : goal.returns-then-has_name_at-clause-texts
returns-then-has_name_at-clause-texts c texts in_order is =
    let name = c.args.name.now in
    let at = c.place_of-at.result in
    let place : at ≡ place_in (as_settings texts) name = c.place_of-at.ensures.place ∙ ap (λ them. place_in them name) (c.as_slice.ensures.value ∙ is) in
    let named : c.has_name_at.result ≡ is_named_at (slice_get (as_settings texts) (place_in (as_settings texts) name)) name =
    c.has_name_at.ensures ∙ (ap (λ them. is_named_at (slice_get them at) name) (c.as_slice-2.ensures.value ∙ is) ∙ ap (λ n. is_named_at (slice_get (as_settings texts) n) name) place) in
    c.remove-removed.ensures.items ∙ (ap (λ them. remove them at) is ∙ (ap (remove (as_settings texts)) place ∙ removed name texts (sym named ∙ c.if-has_name_at.true)))

pub returns-else-has_name_at-clause-texts : goal.returns-else-has_name_at-clause-texts
returns-else-has_name_at-clause-texts c texts in_order is =
    let name = c.args.name.now in
    let at = c.place_of-at.result in
    let place : at ≡ place_in (as_settings texts) name = c.place_of-at.ensures.place ∙ ap (λ them. place_in them name) (c.as_slice.ensures.value ∙ is) in
    let named : c.has_name_at.result ≡ is_named_at (slice_get (as_settings texts) (place_in (as_settings texts) name)) name =
    c.has_name_at.ensures ∙ (ap (λ them. is_named_at (slice_get them at) name) (c.as_slice-2.ensures.value ∙ is) ∙ ap (λ n. is_named_at (slice_get (as_settings texts) n) name) place) in
    is ∙ ap as_settings (sym (absent name texts in_order (sym named ∙ c.if-has_name_at.false)))
