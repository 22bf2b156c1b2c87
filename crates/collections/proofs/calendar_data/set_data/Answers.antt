use Rattle.std.proofs.Common.{◌∙◌, refl, sym, ap}
use Rattle.std.specs.Prelude.{unwrap_or}
use Rattle.collections.proofs.calendar_data.set_data.Goals as goal

pub returns-in-Some-clause-ok : goal.returns-in-Some-clause-ok
returns-in-Some-clause-ok c = record {
  owner = refl;
  acl = refl;
  kinds = c.kinds_behind-kept.ensures;
  zone = c.replace_zone.ensures ∙ ap (λ found. unwrap_or found c.args.kept.now.zone) (sym c.in-Some.is ∙ c.in_ok-zone.ensures);
  texts = c.in_ok-set_texts.ensures.ok;
}

pub returns-in_default-clause-ok : goal.returns-in_default-clause-ok
returns-in_default-clause-ok c = record {
  owner = refl;
  acl = refl;
  kinds = c.kinds_behind-kept.ensures;
  zone = ap (λ found. unwrap_or found c.args.kept.now.zone) (sym c.in_default.is ∙ c.in_ok-zone.ensures);
  texts = c.in_ok-set_texts.ensures.ok;
}
