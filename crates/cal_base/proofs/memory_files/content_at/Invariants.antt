use Rattle.std.proofs.Common.{◌≡◌, drop}
use Rattle.cal_base.specs.World.Memory.{content_of}
use Rattle.cal_base.proofs.memory_files.content_at.Given as goal

-- no file so far has the path
abbrev pub invariant-files : goal.invariant-files
invariant-files l = content_of l.files l.path ≡ content_of (drop l.file-index l.files) l.path
