use Rattle.std.proofs.Common.{◌≡◌}
use Rattle.std.specs.Str.{bytes_eq}
use Rattle.std.specs.Vec.Iter.{into_iter_items}
use Rattle.cal_base.specs.Xml.XmlScopes.{has_repeat}
use Rattle.dav_body.proofs.SeenTexts.{repeats_after}
use Rattle.dav_body.proofs.repeats.has_repeat.Given as goal

-- with those that were seen the rest repeats as the whole
abbrev pub invariant-texts : goal.invariant-texts
invariant-texts l = record {
  can_next : (goal.iterator-texts).can_next l.text-iterator;
  is_finite : (goal.iterator-texts).is_finite l.text-iterator;
  rest : repeats_after l.seen (into_iter_items l.text-iterator) ≡ has_repeat bytes_eq l.fn.texts;
}
