-- How a script at a journal file ends, by its status.
-- Given: the users; what the disk, the input and the output told before and after.
use Rattle.std.specs.Prelude.{ℕ, List, Option}
use Rattle.cal_model.specs.History.Journal.{Entry}
use Rattle.cal_model.specs.Users.UsersFile.{Users}
use Rattle.cal_keeper.specs.Disks.CrashModel.{Past}
use Rattle.cal_script.specs.ScriptEnds.{RunTold}
use Rattle.cal_script.specs.declared.running.FrameEnd.{FrameEnd}
use Rattle.cal_script.specs.declared.running.FrameEnd.TheVariants as frames
use Rattle.cal_script.specs.declared.running.FramesOn.TheVariants.{End, Broken}
use Rattle.command_ends.specs.declared.ScriptEnd.{ScriptEnd}
use Rattle.caldav_server.specs.KeptRuns.{StoodFor, IsFileRefused, IsAnswered}
use Rattle.caldav_server.specs.declared.kept_script.JournalEnd.{JournalEnd}
use Rattle.caldav_server.specs.declared.kept_script.JournalEnd.TheVariants.{Frames, Failed, Refused, NoMemory}

-- Statuses of a script

-- the end of frames that were answered at a desk that did not break
abbrev pub frames_end : FrameEnd → ScriptEnd
frames_end (frames.Done place) = record { status = 0; place = place }
frames_end (frames.Frame place) = record { status = 6; place = place }
frames_end frames.Input = record { status = 4; place = 0 }
frames_end frames.Output = record { status = 5; place = 0 }
frames_end frames.NoMemory = record { status = 7; place = 0 }

-- the end of a run at a journal file: 8 where a call of the disk failed, 9 where the file is refused
abbrev pub script_end : JournalEnd → ScriptEnd
script_end (Frames (End ended)) = frames_end ended
script_end (Frames (Broken fault)) = record { status = 8; place = 0 }
script_end Failed = record { status = 8; place = 0 }
script_end (Refused place) = record { status = 9; place = place }
script_end NoMemory = record { status = 7; place = 0 }

-- What is said of the end of a run at a journal file is so.
abbrev pub HasRun : {D : Type 0} → (D → Option Past) → (D → ℕ) → Users → D → D → JournalEnd → RunTold → Type 0
HasRun past faults users disk left (Frames ended) told = (before : List Entry) × StoodFor users before (past disk) × IsAnswered users before (past left) ended told
HasRun past faults users disk left (Refused place) told = IsFileRefused past faults users disk left place
HasRun past faults users disk left other told = Unit {0}

-- the frames were not come to
abbrev pub IsBeforeFrames : JournalEnd → Type 0
IsBeforeFrames (Frames ended) = ⊥
IsBeforeFrames other = Unit {0}

-- a call of the disk failed
abbrev pub IsDiskFault : JournalEnd → Type 0
IsDiskFault (Frames (End ended)) = ⊥
IsDiskFault (Frames (Broken fault)) = Unit {0}
IsDiskFault Failed = Unit {0}
IsDiskFault other = ⊥
