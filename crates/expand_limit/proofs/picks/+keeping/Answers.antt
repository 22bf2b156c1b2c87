use Rattle.std.proofs.Common.{◌≡◌, ℕ, ◌-◌, ◌<◌, not, List, Some, length, take, sym, ap, subst, ◌∙◌, arith}
use Rattle.std.specs.Prelude.{if◌then◌else◌, bytes_eq, flat_map, IfSome}
use Rattle.std.specs.List.{list_any}
use Rattle.std.proofs.lemmas.List.{take_all}
use Rattle.cal_base.specs.Lists.NameMap.{value_at}
use Rattle.cal_model.specs.declared.selection.CompPick.{out-CompPick}
use Rattle.cal_model.specs.Words.Lists.{is_empty}
use Rattle.expand_limit.specs.declared.kept.Kept.{Kept}
use Rattle.expand_limit.specs.declared.kept.Kept.TheOpen.{Kept-F}
use Rattle.expand_limit.specs.KeptParts.{IsKeptBy, kept_at}
use Rattle.expand_limit.specs.NamedPicks.{asked_at, named_comps, IsNamed}
use Rattle.expand_limit.proofs.PickLemmas.{held, named-init, named-next, any-held, all_comps_in}
use Rattle.expand_limit.proofs.KeptBuilding.{SaysProps, kept-all_comps, kept-named}
use Rattle.expand_limit.proofs.picks.+keeping.Goals as goal

pub kept_by-names-init : goal.kept_by-names-init
kept_by-names-init t c = record {
  within = λ other. subst (λ places. IfSome (value_at places other) (λ p. p < length c.new-comps.result)) (sym c.new-places.ensures) tt;
  named = λ name. named-init (IsKeptBy (c.args.levels - 1)) c.new-places.result c.new-comps.result name (flat_map (named_comps name) (held c.args.picks.now)) c.new-places.ensures;
}

pub kept_by-names-preserved : goal.kept_by-names-preserved
kept_by-names-preserved t c = record {
  within = c.in_ok-add_inner.ensures.within;
  named = λ name.
      let Says = IsKeptBy (c.args.levels - 1) in
      let item = c.name-item.result in
      let asked = λ (n : List ℕ). flat_map (named_comps n) (held c.args.picks.now) in
      let says : Says c.in_ok-inner.inner (asked item) =
      subst (Says c.in_ok-inner.inner) (ap (λ n. asked_at (value_at c.in_ok-groups.groups.picks n)) c.as_slice.ensures ∙ c.in_ok-groups.ensures.groups item) c.in_ok-inner.ensures in
      named-next Says (kept_at c.names.places c.names.comps name) _ c.in_ok-inner.inner c.as_slice-name-items.result.now c.names.name-index item name asked c.names-test.true c.name-item.is
      (c.in_ok-add_inner.ensures.kept name ∙ ap (λ n. if bytes_eq name n then Some c.in_ok-inner.inner else kept_at c.names.places c.names.comps name) c.as_slice-in-names.ensures) says (c.names.invariant.named name);
}

pub kept_by-returns-then-all_comps : goal.kept_by-returns-then-all_comps
kept_by-returns-then-all_comps t c =
    let picks = held c.args.picks.now in
    let x : Kept-F Kept = record { all_props = c.some_keeps_props-all_props.result; props = c.in_ok-props.props; all_comps = c.some_keeps_comps-all_comps.result; places = c.new-places.result; comps = c.new-comps.result } in
    let says : SaysProps x picks = record { all = c.some_keeps_props-all_props.ensures ∙ any-held (λ pick. (out-CompPick pick).all_props) c.args.picks.now; named = c.in_ok-props.ensures } in
    let all : c.some_keeps_comps-all_comps.result ≡ all_comps_in picks = c.some_keeps_comps-all_comps.ensures ∙ any-held (λ pick. (out-CompPick pick).all_comps) c.args.picks.now in
    subst (λ kept. IsKeptBy c.args.levels kept picks) (sym c.put_together-then-all_comps.ensures) (kept-all_comps c.args.levels x picks says c.if-all_comps.true (sym all ∙ c.if-all_comps.true))

pub kept_by-returns : goal.kept_by-returns
kept_by-returns t c =
    let picks = held c.args.picks.now in
    let names = c.in_ok-groups.groups.names in
    let items = c.as_slice-name-items.result.now in
    let x : Kept-F Kept = record { all_props = c.some_keeps_props-all_props.result; props = c.in_ok-props.props; all_comps = c.some_keeps_comps-all_comps.result; places = c.names.places; comps = c.names.comps } in
    let says : SaysProps x picks = record { all = c.some_keeps_props-all_props.ensures ∙ any-held (λ pick. (out-CompPick pick).all_props) c.args.picks.now; named = c.in_ok-props.ensures } in
    let all : c.some_keeps_comps-all_comps.result ≡ all_comps_in picks = c.some_keeps_comps-all_comps.ensures ∙ any-held (λ pick. (out-CompPick pick).all_comps) c.args.picks.now in
    let whole : take c.names.name-index items ≡ names = take_all c.names.name-index items c.names-test.false ∙ c.as_slice-name-items.ensures in
    let some = c.if-levels-eq0.false in
    subst (λ kept. IsKeptBy c.args.levels kept picks) (sym c.put_together-2.ensures)
    (kept-named c.args.levels x picks (λ name. list_any (bytes_eq name) names) says (omega (arith, some)) c.if-all_comps.false (sym all ∙ c.if-all_comps.false)
    (λ name. c.in_ok-groups.ensures.names name ∙ ap (λ asked. not (is_empty asked)) (c.in_ok-groups.ensures.groups name))
    (λ name. subst (λ those. IsNamed (IsKeptBy (c.args.levels - 1)) (kept_at c.names.places c.names.comps name) (list_any (bytes_eq name) those) (flat_map (named_comps name) picks)) whole (c.names.invariant.named name)))
