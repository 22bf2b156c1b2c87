-- Names and bounds: what is below a bound is below all that is not.
use Rattle.std.proofs.Common.{◌≡◌, ℕ, List, [], ◌∷◌, false, refl, sym, ap, ◌∙◌}
use Rattle.std.specs.declared.cmp.Ordering.{Ordering}
use Rattle.std.specs.declared.cmp.Ordering.TheVariants.{Less, Equal, Greater}
use Rattle.std.specs.Ordering.{is_lt, ordering_reverse}
use Rattle.std.proofs.lemmas.Cmp.{nat_list_cmp_total, tied_itself}
use Rattle.cal_base.specs.Lists.NameMap.{name_order}
use Rattle.name_pages.specs.Pages.{IsBelow, IsFrom}

-- the same from the other side
pub above_is : (name bound : List ℕ) → IsBelow bound name → name_order bound name ≡ Greater
above_is name bound below = nat_list_cmp_total.antisymm bound name ∙ ap ordering_reverse below

pub from_above : (name bound : List ℕ) → IsBelow name bound → IsFrom bound name
from_above name bound below = ap is_lt (above_is bound name below)

pub from_itself : (bound : List ℕ) → IsFrom bound bound
from_itself bound = ap is_lt (tied_itself nat_list_cmp_total bound)

pub from_empty : (name : List ℕ) → IsFrom [] name
from_empty [] = refl
from_empty (octet ∷ name) = refl

-- below a bound, and so below what is not below that
pub below_from : (name bound other : List ℕ) → IsBelow bound name → IsFrom bound other → IsBelow other name
below_from name bound other below from = by (name_order other bound) refl from where
  by : (order : Ordering) → name_order other bound ≡ order → is_lt order ≡ false → IsBelow other name
  by Less is e = absurd cc
  by Equal is e = nat_list_cmp_total.antisymm name other ∙ ap ordering_reverse (nat_list_cmp_total.congr other bound name is ∙ above_is name bound below)
  by Greater is e = nat_list_cmp_total.trans name bound other below (nat_list_cmp_total.antisymm bound other ∙ ap ordering_reverse is)

-- not below a bound, which so is below what is above that
pub from_below : (bound name other : List ℕ) → IsFrom bound name → IsBelow other name → IsBelow other bound
from_below bound name other from below = by (name_order name bound) refl from where
  by : (order : Ordering) → name_order name bound ≡ order → is_lt order ≡ false → IsBelow other bound
  by Less is e = absurd cc
  by Equal is e = sym (nat_list_cmp_total.congr name bound other is) ∙ below
  by Greater is e = nat_list_cmp_total.trans bound name other (nat_list_cmp_total.antisymm bound name ∙ ap ordering_reverse is) below
