use Rattle.std.proofs.Common.{◌∙◌, sym, ap, rules, tests, ◌==◌, length}
use Rattle.std.specs.Prelude.{not}
use Rattle.std.specs.List.{list_all}
use Rattle.std.proofs.lemmas.Iterator.Search.{all_from_yields_List}
use Rattle.std.proofs.lemmas.Iterator.Splits.{YieldsList-from_slice_split}
use Rattle.cal_model.specs.Properties.Settings.{kind_number}
use Rattle.dav_props.proofs.SettingLemmas.{kinds_in_split}
use Rattle.dav_props.proofs.setting_faults.kinds_are_known.Goals as goal

pub returns : goal.returns
returns c =
    all_from_yields_List (λ name. not (length (kind_number name) == 0)) _ _ _ c.all.ensures.ran
    (YieldsList-from_slice_split _ (λ octet. octet == 44) c.args.value.now c.split.ensures.rest c.split.ensures.done c.split.ensures.closure (λ x b q k. search (rules, tests)))
    (λ x b q k. search (rules, tests))
    ∙ ap (list_all (λ name. not (length (kind_number name) == 0))) (sym (kinds_in_split c.args.value.now (sym c.is_empty.ensures ∙ c.if-is_empty.false)))
