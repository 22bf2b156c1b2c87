-- Examples of the definitions of what is held in memory, each computed.
use Rattle.std.proofs.Common.{◌≡◌, ◌-◌, ◌^◌, [], ◌∷◌, true, false, Some, None, refl, pos}
use Rattle.cal_base.specs.World.Memory.{is_listed, counted, given_len, supply_behind, source_read_fails, content_of, accept_fails, new_door, no_calls}

-- calls are counted from 0, so the number 1 is the second call
first_call : is_listed (record { failing = 1 ∷ []; made = 0; faults = 0 }) ≡ false
first_call = refl

second_call : is_listed (record { failing = 1 ∷ []; made = 1; faults = 0 }) ≡ true
second_call = refl

-- the order in the list says nothing
listed_last : is_listed (record { failing = 4 ∷ 2 ∷ []; made = 2; faults = 1 }) ≡ true
listed_last = refl

-- a count stays at its last value
counted_once : counted 7 ≡ 8
counted_once = refl

counted_at_last : counted (2 ^ 64 - 1) ≡ 2 ^ 64 - 1
counted_at_last = refl

-- a read gives what fits, what is left or what is allowed, whichever is least
fits_least : given_len (record { rest = 97 ∷ 98 ∷ 99 ∷ []; allowance = 9 }) 1 ≡ 1
fits_least = refl

left_least : given_len (record { rest = 97 ∷ 98 ∷ 99 ∷ []; allowance = 9 }) 5 ≡ 3
left_least = refl

allowed_least : given_len (record { rest = 97 ∷ 98 ∷ 99 ∷ []; allowance = 2 }) 5 ≡ 2
allowed_least = refl

-- the octets taken are the first
after_one : supply_behind (record { rest = 97 ∷ 98 ∷ 99 ∷ []; allowance = 9 }) 1 ≡ record { rest = 98 ∷ 99 ∷ []; allowance = 8 }
after_one = refl

-- a spent allowance fails a read also where nothing is left and nothing is listed
spent : source_read_fails (record { supply = record { rest = []; allowance = 0 }; calls = no_calls [] }) ≡ true
spent = refl

-- but an empty rest alone does not
empty : source_read_fails (record { supply = record { rest = []; allowance = 1 }; calls = no_calls [] }) ≡ false
empty = refl

-- of two files with one path the first counts
first_file : content_of ((97 ∷ [], 49 ∷ []) ∷ (97 ∷ [], 50 ∷ []) ∷ []) (97 ∷ []) ≡ Some (49 ∷ [])
first_file = refl

-- a path is compared whole
no_prefix : content_of ((97 ∷ 98 ∷ [], 49 ∷ []) ∷ []) (97 ∷ []) ≡ None
no_prefix = refl

-- a door without links fails an accept
no_links : accept_fails (new_door [] (pos 0) []) ≡ true
no_links = refl
