use Rattle.std.proofs.Common.{◌≡◌, ◌+◌, ◌<◌, false, ◌∷◌, length, get_or, refl, sym, ap, subst, ◌∙◌, arith}
use Rattle.std.specs.Prelude.{◌||◌, All}
use Rattle.std.proofs.lemmas.List.Elements.{All-head, All-tail}
use Rattle.cal_model.specs.Objects.ObjectFacts.{IsReadComponent}
use Rattle.cal_model.proofs.Objects.ObjectFactLaws.{IsReadObject-read}
use Rattle.override_merge.specs.Conversions.{HasConvertibleRow}
use Rattle.expand_limit.specs.SeenRows.{is_place, left_at, left_from, nothing_seen}
use Rattle.expand_limit.proofs.LeftParts.{marked-next}
use Rattle.expand_limit.proofs.left.mark_all_left.Goals as goal

pub components-preserved : goal.components-preserved
components-preserved c =
    let held = c.components.invariant in
    let component = c.in-Some.component.now in
    let behind = c.in-Some.behind.now in
    let limit = c.args.limit.now in
    let seen = c.args.seen.now in
    let split : c.components.rest.now ≡ component ∷ behind = c.in-Some.ensures.cases.0 in
    let counted : c.components.number + length (component ∷ behind) ≡ length limit.object.now.components = subst (λ cs. c.components.number + length cs ≡ length limit.object.now.components) split held.counted in
    record {
      counted = omega (arith, counted);
      known = All-tail (IsReadComponent limit.object.now) component behind (subst (All (IsReadComponent limit.object.now)) split held.known);
      rows = All-tail (HasConvertibleRow (length c.args.zones.now)) component behind (subst (All (HasConvertibleRow (length c.args.zones.now))) split held.rows);
      size = c.mark_left.ensures.size ∙ held.size;
      marked = λ k within.
          marked-next k (get_or c.components.gone k false) (get_or c.mark_left.new.gone k false) (left_at limit c.args.ids (get_or seen c.components.number nothing_seen) component) (left_from limit c.args.ids seen (c.components.number + 1) behind)
          (c.mark_left.ensures.marked k (subst (λ n. k < n) (sym held.size) within))
          ∙ ap (λ cs. get_or c.components.gone k false || is_place k (left_from limit c.args.ids seen c.components.number cs)) (sym split) ∙ held.marked k within;
    }

pub mark_left-requires-clause-component : goal.mark_left-requires-clause-component
mark_left-requires-clause-component c =
    let limit = c.args.limit.now in
    All-head (IsReadComponent limit.object.now) c.in-Some.component.now c.in-Some.behind.now (subst (All (IsReadComponent limit.object.now)) c.in-Some.ensures.cases.0 c.components.invariant.known)

pub mark_left-requires-clause-row : goal.mark_left-requires-clause-row
mark_left-requires-clause-row c =
    All-head (HasConvertibleRow (length c.args.zones.now)) c.in-Some.component.now c.in-Some.behind.now (subst (All (HasConvertibleRow (length c.args.zones.now))) c.in-Some.ensures.cases.0 c.components.invariant.rows)

pub components-init : goal.components-init
components-init c =
    let limit = c.args.limit.now in
    let object = limit.object.now in
    let size : length c.as_slice-rest.result.now ≡ length object.components = ap length c.as_slice-rest.ensures in
    record {
      counted = omega (arith, size);
      known = subst (All (IsReadComponent object)) (sym c.as_slice-rest.ensures) (IsReadObject-read object c.requires.read).components;
      rows = subst (All (HasConvertibleRow (length c.args.zones.now))) (sym c.as_slice-rest.ensures) c.requires.rows;
      size = refl;
      marked = λ k within. ap (λ cs. get_or c.args.gone.now k false || is_place k (left_from limit c.args.ids c.args.seen.now 0 cs)) c.as_slice-rest.ensures;
    }

pub mark_left-requires-clause-seen : goal.mark_left-requires-clause-seen
mark_left-requires-clause-seen c =
    let limit = c.args.limit.now in
    let counted : c.components.number + length (c.in-Some.component.now ∷ c.in-Some.behind.now) ≡ length limit.object.now.components =
    subst (λ cs. c.components.number + length cs ≡ length limit.object.now.components) c.in-Some.ensures.cases.0 c.components.invariant.counted in
    let size = c.requires.size in
    c.requires.seen c.components.number (omega (arith, counted, size))
