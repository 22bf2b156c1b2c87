use Rattle.std.proofs.Common.{◌≡◌, ap, ap₂, ◌∙◌}
use Rattle.cal_base.specs.Lists.NameMap.{value_at, with_value}
use Rattle.ical_objects.proofs.Printed.{OnOk-then}
use Rattle.expand_limit.specs.NamedPicks.{with_prop}
use Rattle.expand_limit.proofs.PickLemmas.{put-prop}
use Rattle.expand_limit.proofs.picks.add_prop.Goals as goal

pub returns : goal.returns
returns c = OnOk-then c.insert.result (λ same name.
    let old = c.args.props.now in
    let prop = c.args.prop.now in
    let key : c.in_ok-key.key ≡ prop.name = c.in_ok-key.ensures ∙ c.as_slice-name.ensures.octets in
    let found : c.copied.result ≡ value_at old prop.name = cc (c.copied.ensures, c.get.ensures, c.as_slice-name.ensures.octets) in
    let whole : c.with_prop-whole.result ≡ with_prop (value_at old prop.name) prop.no_value = c.with_prop-whole.ensures ∙ ap (λ before. with_prop before prop.no_value) found in
    ap (λ named. value_at named name) same ∙ ap₂ (λ k v. value_at (with_value old k v) name) key whole ∙ put-prop old name prop) c.insert.ensures.ok
