use Rattle.std.proofs.Common.{◌∙◌, sym, ap, true, false, arith}
use Rattle.std.specs.Prelude.{is_some}
use Rattle.cal_base.specs.Lists.NameMap.{value_at}
use Rattle.dav_props.proofs.SettingLemmas.{many_few, many_there}
use Rattle.dav_props.proofs.kept_texts.is_one_too_many.Goals as goal

pub returns-then-len-lt-TEXTS_LIMIT : goal.returns-then-len-lt-TEXTS_LIMIT
returns-then-len-lt-TEXTS_LIMIT c texts is = many_few c.args.kept.now texts c.args.name.now is (omega (arith, c.len.ensures.len, c.if-len-lt-TEXTS_LIMIT.true))

pub returns-in-Some : goal.returns-in-Some
returns-in-Some c texts is =
    many_there c.args.kept.now texts c.args.name.now true is (omega (arith, c.len.ensures.len, c.if-len-lt-TEXTS_LIMIT.false))
    (sym c.is_text.ensures ∙ c.if-not-is_text.false)
    (ap (λ name. is_some (value_at c.args.kept.now name)) (sym (c.as_slice.ensures ∙ c.in_ok-key.ensures)) ∙ sym (ap is_some c.in-Some.ensures))

pub returns : goal.returns
returns c texts is =
    many_there c.args.kept.now texts c.args.name.now false is (omega (arith, c.len.ensures.len, c.if-len-lt-TEXTS_LIMIT.false))
    (sym c.is_text.ensures ∙ c.if-not-is_text.false)
    (ap (λ name. is_some (value_at c.args.kept.now name)) (sym (c.as_slice.ensures ∙ c.in_ok-key.ensures)) ∙ sym (ap is_some c.in-None.ensures))
