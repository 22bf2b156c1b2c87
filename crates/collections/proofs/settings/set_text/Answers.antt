use Rattle.std.proofs.Common.{◌∙◌, sym, ap}
use Rattle.std.specs.Prelude.{slice_get, Some, if◌then◌else◌}
use Rattle.std.specs.List.{insert}
use Rattle.collections.specs.Settings.{place_in, is_named_at}
use Rattle.collections.proofs.SettingLemmas.{replaced_in, inserted_in}
use Rattle.collections.proofs.settings.set_text.Goals as goal

pub returns-then-has_name_at-clause-texts : goal.returns-then-has_name_at-clause-texts
returns-then-has_name_at-clause-texts c texts in_order is =
    let items = c.args.items.now.items in
    let at = c.place_of-at.result in
    replaced_in items texts c.args.name at c.args.value c.index_mut.result.now is (c.place_of-at.ensures.place ∙ ap (λ them. place_in them c.args.name) c.as_slice.ensures.value)
    (sym (c.has_name_at.ensures ∙ ap (λ them. is_named_at (slice_get them at) c.args.name) c.as_slice-2.ensures.value) ∙ c.if-has_name_at.true) c.index_mut.ensures.value

pub returns-else-has_name_at-clause-texts : goal.returns-else-has_name_at-clause-texts
returns-else-has_name_at-clause-texts c texts in_order is =
    let items = c.args.items.now.items in
    let at = c.place_of-at.result in
    c.insert-inserted.ensures.items
    ∙ (ap (λ done. if done then insert items at (record { name = c.args.name; value = Some c.args.value }) else items) (c.insert-inserted.ensures.succeeds c.requires.room)
    ∙ inserted_in items texts c.args.name at c.args.value is (c.place_of-at.ensures.place ∙ ap (λ them. place_in them c.args.name) c.as_slice.ensures.value)
    (sym (c.has_name_at.ensures ∙ ap (λ them. is_named_at (slice_get them at) c.args.name) c.as_slice-2.ensures.value) ∙ c.if-has_name_at.false))
