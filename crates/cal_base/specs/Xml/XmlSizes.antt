-- How much an element holds: four for each element in it, itself too, and the octets of its text and of its attributes' values.
-- An element that a body spells holds no more than the body has octets, which bounds what is made of a body.
use Rattle.std.specs.Prelude.{ℕ, ◌+◌, length, sum, sum_by}
use Rattle.cal_base.specs.declared.element.Attr.{Attr}
use Rattle.cal_base.specs.declared.element.Element.{Element}
use Rattle.cal_base.specs.declared.element.Item.{Item-F}
use Rattle.cal_base.specs.declared.element.Item.TheOpen.{Element-F}
use Rattle.cal_base.specs.declared.element.Item.TheFolds.{fold-Element}

abbrev pub value_size : Attr → ℕ
value_size attr = length attr.value

abbrev pub item_size_step : Item-F ℕ ℕ → ℕ
item_size_step (Item-F.Element size) = size
item_size_step (Item-F.Text text) = length text

abbrev pub element_size_step : Element-F ℕ ℕ → ℕ
element_size_step element = 4 + sum_by value_size element.attrs + sum element.items

abbrev pub element_size : Element → ℕ
element_size = fold-Element ℕ ℕ item_size_step element_size_step
