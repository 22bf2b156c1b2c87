-- One moment of those that rise by a gap from a first one: it lies at the low bound or after it, and before the high one. Then of which first moments on some does.
use Rattle.std.specs.Prelude.{ℕ, suc, ◌*◌, ◌≤◌, ℤ, pos, negsuc, ◌+ℤ◌, ◌≤ℤ◌, ◌<ℤ◌}

pub record IsRepeatIn (first : ℤ) (gap : ℕ) (low high : ℤ) (k : ℕ) : Type 0 where
  pub from_low : low ≤ℤ (first +ℤ pos (k * gap))
  pub before_high : (first +ℤ pos (k * gap)) <ℤ high

-- from no first moment at another or after it do such moments, up to the last one, come to lie there
abbrev pub NoneReaches : ℕ → ℕ → ℤ → ℤ → ℤ → Type 0
NoneReaches gap last low high from = (first : ℤ) (k : ℕ) → from ≤ℤ first → k ≤ last → IsRepeatIn first gap low high k → ⊥

-- from this one they do, and from none before it
pub record IsFirstToReach (gap last : ℕ) (low high from at : ℤ) : Type 0 where
  pub ahead : from ≤ℤ at
  pub reaches : (k : ℕ) × (k ≤ last) × IsRepeatIn at gap low high k
  pub none : (first : ℤ) (k : ℕ) → from ≤ℤ first → first <ℤ at → k ≤ last → IsRepeatIn first gap low high k → ⊥

-- how far a gap that goes backwards leads, so many times
abbrev pub way_back : ℤ → ℕ → ℕ
way_back (pos n) last = 0
way_back (negsuc n) last = last * suc n
