-- What is still to be read of a body: for each part that can stand next, the body that some octets then give.
use Rattle.std.specs.Prelude.{◌≡◌, ℕ, ◌+◌, ◌≤◌, ◌<◌, ◌==◌, ◌||◌, ◌&&◌, nat_le, if◌then◌else◌, List, [], ◌∷◌, ◌++◌, length, take, drop, codes, Some, None}
use Rattle.cal_model.specs.declared.wire.WireFault.TheVariants.{BadChunk}
use Rattle.cal_model.specs.Streams.WireLimits.{head_limit}
use Rattle.cal_model.specs.Streams.Heads.{head_end}
use Rattle.cal_model.specs.Streams.Chunks.{Chunked, whole, unfinished, faulty, with_front, behind_line, chunks_behind}
use Rattle.cal_model.specs.Streams.ChunkGrammar.{WrittenLine, line_text, IsLineOf}
use Rattle.http_wire.specs.declared.part.Part.{Part}
use Rattle.http_wire.specs.declared.part.Part.TheVariants.{Sized, Line, Data, Trailer}
use Rattle.http_wire.specs.declared.chunk_line.ChunkLine.{ChunkLine}
use Rattle.http_wire.specs.declared.chunk_line.ChunkLine.TheVariants.{Whole as WholeLine, Cut, Bad}
use Rattle.http_wire.specs.declared.body.Step.{Step}
use Rattle.http_wire.specs.declared.body.Step.TheVariants.{On, Whole as WholeStep, Need as NeedStep, Fault as FaultStep, NoMemory as NoMemoryStep}
use Rattle.http_wire.specs.declared.body.Progress.{Progress}
use Rattle.http_wire.specs.declared.body.Progress.TheVariants.{Whole as WholeBody, Need as NeedBody, Fault as FaultBody, NoMemory as NoMemoryBody}

-- a body of so many octets
abbrev pub sized_reads : ℕ → List ℕ → Chunked
sized_reads size octets = if nat_le size (length octets) then whole (take size octets) (drop size octets) else unfinished

-- so many octets of a chunk and its CRLF, and then chunks, where all up to there have so many octets
abbrev pub data_reads : ℕ → ℕ → List ℕ → Chunked
data_reads left total octets = behind_line left octets (chunks_behind (drop (left + 2) octets) 0 total)

-- the end of a trailer: an empty line behind a line feed, where so many octets stand before
abbrev pub trailer_reads : ℕ → List ℕ → Chunked
trailer_reads seen octets = elim (head_end octets) [
  | Some n ↦ if nat_le (seen + n) (head_limit + 1) then whole [] (drop n octets) else faulty BadChunk
  | None ↦ elim (head_end (octets ++ codes "\n\n")) [
    | Some n ↦ if nat_le (seen + n) (head_limit + 1) then unfinished else faulty BadChunk
    | None ↦ faulty BadChunk
  ]
]

-- how many octets of two line feeds behind the last octets of a trailer stand before its end
abbrev pub closing : List ℕ → ℕ
closing [] = 2
closing (b ∷ []) = if b == 10 then 1 else 2
closing (b ∷ c ∷ more) = if (c == 10) || ((b == 10) && (c == 13)) then 1 else 2

-- what some octets give where a part stands next and the body has so many octets
abbrev pub part_reads : Part → ℕ → List ℕ → Chunked
part_reads (Sized left) before octets = sized_reads left octets
part_reads Line before octets = chunks_behind octets 0 before
part_reads (Data left) before octets = data_reads left (before + left) octets
part_reads (Trailer seen) before octets = trailer_reads seen octets

-- the whole body, where it has these octets
abbrev pub reads : Part → List ℕ → List ℕ → Chunked
reads part body octets = with_front body (part_reads part (length body) octets)

-- whatever follows, the reading goes on alike
abbrev pub GoesOn : Part → List ℕ → List ℕ → Part → List ℕ → List ℕ → Type 0
GoesOn part body octets next longer rest = (more : List ℕ) → reads part body (octets ++ more) ≡ reads next longer (rest ++ more)

-- what the octets at a chunk line are
abbrev pub LineReads : ChunkLine → List ℕ → Type 0
LineReads (WholeLine len size) octets = (line : WrittenLine) × IsLineOf line size × (len ≡ length (line_text line)) × (octets ≡ line_text line ++ drop len octets)
LineReads Cut octets = (before : ℕ) → chunks_behind octets 0 before ≡ unfinished
LineReads Bad octets = (before : ℕ) (more : List ℕ) → chunks_behind (octets ++ more) 0 before ≡ faulty BadChunk

-- a step of a reading that stands at a part with a body, over these octets, and leaves a body
abbrev pub StepReads : Step → Part → List ℕ → List ℕ → List ℕ → Type 0
StepReads (On next n) part body octets longer = (0 < n) × (n ≤ length octets) × GoesOn part body octets next longer (drop n octets)
StepReads (WholeStep n) part body octets longer = (n ≤ length octets) × ((more : List ℕ) → reads part body (octets ++ more) ≡ whole longer (drop n octets ++ more))
StepReads (NeedStep next n) part body octets longer = (n ≤ length octets) × (reads part body octets ≡ unfinished) × GoesOn part body octets next longer (drop n octets)
StepReads (FaultStep why) part body octets longer = (more : List ℕ) → reads part body (octets ++ more) ≡ faulty why
StepReads NoMemoryStep part body octets longer = longer ≡ body

-- all steps that some octets allow
abbrev pub Progressed : Progress → Part → List ℕ → List ℕ → List ℕ → Type 0
Progressed (WholeBody n) part body octets longer = (n ≤ length octets) × ((more : List ℕ) → reads part body (octets ++ more) ≡ whole longer (drop n octets ++ more))
Progressed (NeedBody next n) part body octets longer = (n ≤ length octets) × (reads part body octets ≡ unfinished) × GoesOn part body octets next longer (drop n octets)
Progressed (FaultBody why) part body octets longer = (more : List ℕ) → reads part body (octets ++ more) ≡ faulty why
Progressed (NoMemoryBody next n) part body octets longer = (n ≤ length octets) × GoesOn part body octets next longer (drop n octets)
