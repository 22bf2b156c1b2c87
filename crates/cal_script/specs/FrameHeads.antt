-- The line at the front of a frame, the numbers in it, and the start of a frame that is not whole yet.
use Rattle.std.specs.Prelude.{◌≡◌, ◌≢◌, ◌⊎◌, ℕ, ◌<◌, ◌≤◌, ◌^◌, List, ◌∷◌, ◌++◌, length, slice_index, All, codes, decimal}
use Rattle.cal_model.specs.Words.Limits.{payload_limit, last_moment}
use Rattle.cal_model.specs.Transcripts.ScriptFrames.{WorkerStep, claim, expand, publish, abandon, step_word, last_connection, last_slot}
use Rattle.cal_script.specs.declared.head.Action.{Action}
use Rattle.cal_script.specs.declared.head.Action.TheVariants.{Claim, Expand, Publish, Abandon}
use Rattle.cal_script.specs.declared.head.Coming.{Coming}
use Rattle.cal_script.specs.declared.head.Head.{Head}
use Rattle.cal_script.specs.declared.head.Head.TheVariants.{Bytes, Worker}

-- the octet stands nowhere in the text
abbrev pub Lacks : ℕ → List ℕ → Type 0
Lacks octet text = All (λ c. c ≢ octet) text

-- the text spells no number below 2^64
abbrev pub SpellsNoNumber : List ℕ → Type 0
SpellsNoNumber text = (n : ℕ) → n < 2 ^ 64 → text ≢ decimal n

-- the text begins as a number does: with a digit, and with a zero where it is 0
pub record IsNumberFront (text : List ℕ) : Type 0 where
  pub some : 0 < length text
  pub from : 48 ≤ slice_index text 0
  pub to : slice_index text 0 ≤ 57
  pub zero_alone : slice_index text 0 ≡ 48 → length text ≡ 1

-- Lines

abbrev pub step_of : Action → WorkerStep
step_of Claim = claim
step_of Expand = expand
step_of Publish = publish
step_of Abandon = abandon

-- the word of a worker's line
abbrev pub action_word : Action → List ℕ
action_word action = step_word (step_of action)

-- the numbers in the line of octets that come
unfoldable pub coming_numbers : Coming → List ℕ
coming_numbers coming = decimal coming.connection ++ (32 ∷ (decimal coming.moment ++ (32 ∷ decimal coming.size)))

abbrev pub word_of : Head → List ℕ
word_of (Bytes coming) = codes "bytes"
word_of (Worker action slot) = action_word action

abbrev pub numbers_of : Head → List ℕ
numbers_of (Bytes coming) = coming_numbers coming
numbers_of (Worker action slot) = decimal slot

-- the line of a frame, without its line feed
abbrev pub head_line : Head → List ℕ
head_line head = word_of head ++ (32 ∷ numbers_of head)

pub record IsWithin (coming : Coming) : Type 0 where
  pub connection_to : coming.connection ≤ last_connection
  pub moment_to : coming.moment ≤ last_moment
  pub size_to : coming.size ≤ payload_limit

abbrev pub InBounds : Head → Type 0
InBounds (Bytes coming) = IsWithin coming
InBounds (Worker action slot) = slot ≤ last_slot

-- the line is that of such a frame, within the bounds
pub record IsHead (line : List ℕ) (head : Head) : Type 0 where
  pub spelled : line ≡ head_line head
  pub bounds : InBounds head

-- the line is that of no frame
abbrev pub IsNoHead : List ℕ → Type 0
IsNoHead line = (head : Head) → ¬ IsHead line head

-- numbers as they stand in the line of octets that come
pub record AreNumbersOf (numbers : List ℕ) (coming : Coming) : Type 0 where
  pub spelled : numbers ≡ coming_numbers coming
  pub bounds : IsWithin coming

-- the number of a slot
pub record IsSlotNumber (text : List ℕ) (slot : ℕ) : Type 0 where
  pub spelled : text ≡ decimal slot
  pub bounds : slot ≤ last_slot

-- Starts of frames

-- the most octets of a frame's line, which are those of `bytes 15 253402300799 1048576`
abbrev pub longest_line : ℕ
longest_line = 29

-- a line that has not ended yet, and is not longer than the longest line of a frame
pub record IsOpenLine (octets : List ℕ) : Type 0 where
  pub lacks : Lacks 10 octets
  pub short : length octets ≤ longest_line

-- the line of octets that come, and behind it no more octets than these are
pub record IsOpenPayload (octets : List ℕ) : Type 0 where
  pub line : List ℕ
  pub coming : Coming
  pub rest : List ℕ
  pub spelled : octets ≡ line ++ (10 ∷ rest)
  pub head : IsHead line (Bytes coming)
  pub short : length rest ≤ coming.size

-- the octets may go on as a frame, and are no whole one
abbrev pub IsFrameStart : List ℕ → Type 0
IsFrameStart octets = IsOpenLine octets ⊎ IsOpenPayload octets
