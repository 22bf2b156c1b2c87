-- What is made ready so that the items of a list with one key are found without a look at the others: a place for each key, and one for each item.
use Rattle.std.specs.Prelude.{◌≡◌, ℕ, ◌+◌, ◌<◌, ◌≤◌, List, length, get_or}
use Rattle.filter_eval.specs.declared.links.Links.{Links}

-- a place at or behind another, and between them no item has the key
pub record IsNext (keys : List ℕ) (key from at : ℕ) : Type 0 where
  pub ahead : from ≤ at
  pub within : at ≤ length keys
  pub skipped : (place : ℕ) → from ≤ place → place < at → get_or keys place 0 ≡ key → ⊥

-- the places that are there lead from one on to the first item of each key, and from each item behind it to the next one of its key
pub record AreLinked (keys firsts nexts : List ℕ) (from : ℕ) : Type 0 where
  pub first : (key : ℕ) → key < length firsts → IsNext keys key from (get_or firsts key 0)
  pub next : (place : ℕ) → from ≤ place → place < length nexts → IsNext keys (get_or keys place 0) (place + 1) (get_or nexts place 0)

abbrev pub AreLinks : Links → List ℕ → Type 0
AreLinks links keys = AreLinked keys links.firsts.items links.nexts.items 0
