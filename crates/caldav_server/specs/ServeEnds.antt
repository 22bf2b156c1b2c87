-- The statuses of the command `serve`.
use Rattle.std.specs.Prelude.{◌≡◌, ◌⊎◌, ℕ}

-- 0 as many connections were asked for as the first session serves; 2 the words are not taken; 3 the users file is too long or has a bad line; 4 a file or the door failed; 7 there was no memory, or a thread could not be started
abbrev pub IsServeStatus : ℕ → Type 0
IsServeStatus status = (status ≡ 0) ⊎ (status ≡ 2) ⊎ (status ≡ 3) ⊎ (status ≡ 4) ⊎ (status ≡ 7)

-- those that come behind the users file
abbrev pub IsServedStatus : ℕ → Type 0
IsServedStatus status = (status ≡ 0) ⊎ (status ≡ 4) ⊎ (status ≡ 7)
