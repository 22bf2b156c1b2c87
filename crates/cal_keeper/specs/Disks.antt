-- A disk with one file on it that is written in place: what its calls do, and what a crash may leave of the file. It is this project's own.
-- Given: nothing. The public contracts of `Disk` and `MemoryDisk` cite these. Read CrashModel first, which is what has to be believed of a file system, then DiskCalls, which is what a write does; these two are the answer.
-- MemoryDisks says how a disk in memory has such a past, and what it leaves where it is stopped; PossibleImages proves a law that each disk owes.
pub mod CrashModel
pub mod DiskCalls
pub mod MemoryDisks
pub mod PossibleImages
