use Rattle.std.proofs.Common.{◌≡◌, ◌∙◌, ◌-◌, ◌+◌, sym, ap, arith, length, drop, get_or}
use Rattle.cal_model.specs.State.PropertyTexts.{as_settings}
use Rattle.dav_props.specs.KeptTexts.{kept_names, names_after}
use Rattle.dav_props.proofs.SettingLemmas.{kept_one, settings_length}
use Rattle.dav_props.proofs.kept_texts.kept_of.Goals as goal

pub loop-behind-preserved : goal.loop-behind-preserved
loop-behind-preserved c them s is =
    let behind = c.loop-behind.behind in
    let set = c.index-texts-texts.result in
    let size : length c.args.texts.now ≡ length them = ap length is ∙ settings_length them in
    let item : set ≡ get_or (as_settings them) (length them - 1 - behind) set = c.index-texts-texts.is ∙ (ap (λ items. get_or items (length c.args.texts.now - 1 - behind) set) is ∙ ap (λ n. get_or (as_settings them) (n - 1 - behind) set) size) in
    c.in_ok-keep.ensures
    ∙ (ap (λ kept. names_after kept set) (c.loop-behind.invariant them s is ∙ ap (λ n. kept_names (drop (n - behind) them)) size)
    ∙ (kept_one them behind set s (omega (arith, size, c.loop-behind-test.true)) item ∙ ap (λ n. kept_names (drop (n - (behind + 1)) them)) (sym size)))
