-- The limits of this server, beside those that its formats have. They are its own and stand in no standard.
use Rattle.std.specs.Prelude.{ℕ, ◌+◌, ℤ, pos, neg_ℤ}

-- what all accepted changes of one home may cost
abbrev pub home_limit : ℕ
home_limit = 33_554_432

-- what a change costs whose request has a body of so many octets
abbrev pub change_cost : ℕ → ℕ
change_cost size = size + 256

-- the most octets of one frame's payload
abbrev pub payload_limit : ℕ
payload_limit = 1_048_576

-- the last moment that a clock or a frame tells, 99991231T235959Z
abbrev pub last_moment : ℕ
last_moment = 253_402_300_799

-- the moments of stored events and of ranges lie from 16000101T000000Z to 21001231T235959Z
abbrev pub first_date : ℤ
first_date = neg_ℤ (pos 11_676_096_000)

abbrev pub last_date : ℤ
last_date = pos 4_133_980_799
