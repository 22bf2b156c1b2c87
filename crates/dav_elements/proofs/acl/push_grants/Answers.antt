use Rattle.std.proofs.Common.{ℕ, List, Option, is_some, length, ap, sym, ◌∙◌}
use Rattle.std.specs.Prelude.{codes, option_map, option_to_list, IsNone}
use Rattle.std.specs.Borrow.{Bor}
use Rattle.cal_model.specs.Words.Namespaces.{dav}
use Rattle.cal_model.specs.Bodies.ElementParts.{has_name, item_elements}
use Rattle.cal_model.specs.Bodies.AclBodies.{is_kept, lacks_part, grants_of}
use Rattle.dav_elements.specs.AceAnswers.{refusal_by}
use Rattle.dav_elements.proofs.AclLemmas.{refused_found, refused_none_more, grants_more, count_more}
use Rattle.dav_elements.proofs.ListSteps.{fails_piece, flat_more, flat_split, kept_more, kept_split}
use Rattle.dav_elements.proofs.acl.push_grants.Goals as goal

pub push_grants_in-requires : goal.push_grants_in-requires
push_grants_in-requires c =
    fails_piece lacks_part (kept_split is_kept (kept_split (has_name dav (codes "ace")) (flat_split item_elements c.args.items.now c.items.item-index c.item-item.result c.items-test.true c.item-item.is))) c.requires

pub returns-in-Some-clause-refusal : goal.returns-in-Some-clause-refusal
returns-in-Some-clause-refusal c =
    refused_found c.args.users.now (length c.args.grants.now) (length c.items.grants) (refusal_by c.in-Some.condition)
    (kept_split is_kept (kept_split (has_name dav (codes "ace")) (flat_split item_elements c.args.items.now c.items.item-index c.item-item.result c.items-test.true c.item-item.is)))
    c.items.invariant.counted c.items.invariant.sound
    (ap (λ (found : Option (Bor (List ℕ))). option_to_list (option_map refusal_by found)) (sym c.in-Some.is) ∙ c.in_ok-condition.ensures.refusal)

pub items-preserved : goal.items-preserved
items-preserved c =
    let start = length c.args.grants.now in
    let more = kept_more is_kept (kept_more (has_name dav (codes "ace")) (flat_more item_elements c.args.items.now c.items.item-index c.item-item.result c.items-test.true c.item-item.is)) in
    let none : IsNone c.in_ok-condition.field-0 = ap is_some c.in_default.is in
    record {
      appended = grants_more (grants_of c.args.users.now) c.args.grants.now more c.items.invariant.appended (c.in_ok-condition.ensures.grants none);
      counted = count_more start (length c.items.grants) (length c.push_grants_in.new.grants) more c.items.invariant.counted (c.in_ok-condition.ensures.count none);
      sound =
          refused_none_more c.args.users.now start (length c.items.grants) more c.items.invariant.counted c.items.invariant.sound
          (ap (λ (found : Option (Bor (List ℕ))). option_to_list (option_map refusal_by found)) (sym c.in_default.is) ∙ c.in_ok-condition.ensures.refusal);
    }
