use Rattle.std.proofs.Common.{◌≡◌, ◌<◌, Bool, false, List, [], ◌∷◌, ◌++◌, length, take, drop, get_or, refl, sym, ap, subst, ◌∙◌}
use Rattle.std.specs.Prelude.{◌||◌, All, option_to_list}
use Rattle.std.proofs.lemmas.List.Elements.{All-nil}
use Rattle.cal_moment.specs.Calendar.{IsCalendarMoment}
use Rattle.override_merge.specs.Conversions.{IsConvertible}
use Rattle.override_merge.proofs.ReadObjects.{HasConvertibleRows-read}
use Rattle.expand_limit.specs.declared.limit.Seen.{Seen}
use Rattle.expand_limit.specs.SeenRows.{is_place, left_from, nothing_seen}
use Rattle.expand_limit.proofs.SeenParts.{ids_there, places-same, seen-moment}
use Rattle.expand_limit.proofs.ShownTrees.{rows-at_hand}
use Rattle.expand_limit.proofs.left.places_left.Goals as goal

pub mark_all_left-requires-clause-ids : goal.mark_all_left-requires-clause-ids
mark_all_left-requires-clause-ids c =
    let object = c.args.limit.now.object.now in
    subst (λ o. All (IsConvertible (length c.args.zones.now)) (option_to_list o)) (sym c.ids_start.ensures)
    (ids_there (length c.args.zones.now) object (rows-at_hand object c.args.zones.now (sym c.requires.zones) (HasConvertibleRows-read object c.requires.read c.requires.few).components))

pub mark_all_left-requires-clause-rows : goal.mark_all_left-requires-clause-rows
mark_all_left-requires-clause-rows c =
    let object = c.args.limit.now.object.now in
    rows-at_hand object c.args.zones.now (sym c.requires.zones) (HasConvertibleRows-read object c.requires.read c.requires.few).components

pub mark_all_left-requires-clause-seen : goal.mark_all_left-requires-clause-seen
mark_all_left-requires-clause-seen c = λ k within.
    (let value = c.as_slice.ensures.value in
    let short : k < length c.args.limit.now.object.now.components = subst (λ n. k < n) (ap length value ∙ c.in_ok-seen.ensures.size) within in
    subst (λ (s : Seen). All IsCalendarMoment (option_to_list s.id)) (sym (ap (λ xs. get_or xs k nothing_seen) value ∙ c.in_ok-seen.ensures.seen k short))
    (seen-moment c.args.limit.now k c.args.rows.now nothing_seen c.requires.rows (All-nil IsCalendarMoment)))

take_front : (a c : List Bool) → take (length a) (a ++ c) ≡ a
take_front [] c = refl
take_front (x ∷ a) c = ap (λ xs. x ∷ xs) (take_front a c)

pub returns : goal.returns
returns c = λ k within.
    (let limit = c.args.limit.now in
    let object = limit.object.now in
    let gone = c.in_ok-gone.gone in
    let new = c.mark_all_left.new.gone in
    let size : gone.len ≡ length new = sym (c.mark_all_left.ensures.size ∙ c.as_mut_slice.ensures.len) in
    let whole : take gone.len (new ++ drop (length new) gone.items) ≡ new = ap (λ n. take n (new ++ drop (length new) gone.items)) size ∙ take_front new (drop (length new) gone.items) in
    let short : k < length c.as_mut_slice.result.now = subst (λ n. k < n) (sym (ap length c.as_mut_slice.ensures.value ∙ c.in_ok-gone.ensures.size ∙ c.len.ensures)) within in
    ap (λ xs. get_or xs k false) whole ∙ c.mark_all_left.ensures.marked k short
    ∙ ap (λ b. b || is_place k (left_from limit c.ids_start.result c.as_slice.result.now 0 object.components)) (ap (λ xs. get_or xs k false) c.as_mut_slice.ensures.value ∙ c.in_ok-gone.ensures.gone k)
    ∙ ap (λ xs. is_place k (left_from limit c.ids_start.result xs 0 object.components)) c.as_slice.ensures.value
    ∙ places-same limit c.args.rows.now c.in_ok-seen.seen.items c.ids_start.result k c.ids_start.ensures c.in_ok-seen.ensures.seen)
