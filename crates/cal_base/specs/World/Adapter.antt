-- What contracts see of the adapters over real things.
use Rattle.std.specs.Prelude.{ℕ, ◌^◌, Bool, false}
use Rattle.cal_base.specs.declared.files.FileFault.{FileFault}
use Rattle.cal_base.specs.declared.files.FileFault.TheVariants as Told
use Rattle.cal_base.specs.declared.read_whole.ReadEnd.{ReadEnd}
use Rattle.cal_base.specs.declared.read_whole.ReadEnd.TheVariants as Met

-- a stream: how many of its calls failed, how many octets it may still give, whether its end was met
pub record StreamState : Type 0 where
  pub faults : ℕ
  pub allowance : ℕ
  pub ended : Bool

-- of which nothing was asked yet
abbrev pub new_stream : StreamState
new_stream = record { faults = 0; allowance = 2 ^ 62; ended = false }

-- what the reading of a file tells, by how the reading of its octets ended
abbrev pub fault_told : ReadEnd → FileFault
fault_told Met.Failed = Told.Failed
fault_told Met.TooLong = Told.TooLong
fault_told Met.NoMemory = Told.NoMemory

-- a listener: how many of its calls failed, how often a connection was asked for
pub record ListenerState : Type 0 where
  pub faults : ℕ
  pub tries : ℕ
