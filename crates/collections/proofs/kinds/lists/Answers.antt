use Rattle.std.proofs.Common.{◌∙◌, sym, ap, rules, tests, ◌==◌}
use Rattle.std.specs.Prelude.{bytes_eq}
use Rattle.std.specs.List.{list_any}
use Rattle.std.proofs.lemmas.Iterator.Search.{any_from_yields_List}
use Rattle.std.proofs.lemmas.Iterator.Splits.{YieldsList-from_slice_split}
use Rattle.collections.proofs.KindLemmas.{kinds_in_split}
use Rattle.collections.proofs.kinds.lists.Goals as goal

pub returns : goal.returns
returns c =
    any_from_yields_List (bytes_eq c.args.name.now) _ _ _ c.any.ensures.ran
    (YieldsList-from_slice_split _ (λ octet. octet == 44) c.args.value.now c.split.ensures.rest c.split.ensures.done c.split.ensures.closure (λ x b q k. search (rules, tests)))
    (λ x b q k. search (rules, tests))
    ∙ ap (list_any (bytes_eq c.args.name.now)) (sym (kinds_in_split c.args.value.now (sym c.is_empty.ensures ∙ c.if-is_empty.false)))
