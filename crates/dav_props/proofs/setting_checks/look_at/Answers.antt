use Rattle.std.proofs.Common.{◌≡◌, ◌∙◌, sym, ap, false}
use Rattle.std.specs.Prelude.{option_map}
use Rattle.std.specs.List.Sorted.{IsStrictlySortedBy}
use Rattle.std.specs.Map.{keys_of}
use Rattle.cal_model.specs.State.PropertyTexts.{Texts, prop_order}
use Rattle.dav_props.specs.KeptTexts.{kept_names, names_after}
use Rattle.dav_props.specs.SettingChecks.{texts_passed}
use Rattle.dav_props.specs.SettingFaults.{refusal_of}
use Rattle.dav_props.proofs.SettingLemmas.{kept_after}
use Rattle.dav_props.proofs.FaultLemmas.{on_ok, passed_fine}
use Rattle.dav_props.proofs.setting_checks.look_at.Goals as goal

pub returns-in-None-clause-kept : goal.returns-in-None-clause-kept
returns-in-None-clause-kept c =
    let set = c.args.set.now in
    on_ok {A = c.keep.new.kept ≡ names_after c.args.kept.now set}
    {B = (texts : Texts) → IsStrictlySortedBy prop_order (keys_of texts) → c.args.kept.now ≡ kept_names texts → c.keep.new.kept ≡ kept_names (texts_passed false texts set)} c.keep.result
    (λ done texts s is.
    done
    ∙ (ap (λ kept. names_after kept set) is
    ∙ (kept_after texts set s ∙ ap kept_names (passed_fine false texts set (ap (option_map refusal_of) (sym c.in-None.is) ∙ c.in_ok-fault_of.ensures texts is)))))
    c.keep.ensures
