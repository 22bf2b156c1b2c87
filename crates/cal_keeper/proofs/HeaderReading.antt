-- The header that is read of a file.
use Rattle.std.proofs.Common.{◌≡◌, ◌≢◌, ℕ, ◌<◌, ◌^◌, true, List, ◌++◌, length, take, drop, get_or, Option, Some, None, Ok, Err, IfSome, refl, sym, ◌∙◌, ap, arith, length-append, append_assoc}
use Rattle.std.specs.Int.{w32, to_be_bytes, from_be_bytes}
use Rattle.std.proofs.lemmas.Nat.{from_be_bytes-to_be_bytes_4}
use Rattle.std.proofs.lemmas.List.{take_at}
use Rattle.cal_keeper.specs.declared.opening.NoHeader.TheVariants.{NotJournal}
use Rattle.cal_keeper.specs.Disks.CrashModel.{Past, reading}
use Rattle.cal_keeper.specs.Files.Headers.{mark, header_with}
use Rattle.cal_keeper.specs.Steps.HeaderSteps.{ReadsHeader}
use Rattle.cal_keeper.specs.Steps.RecordSteps.{IsFilledFrom}
use Rattle.cal_keeper.proofs.Reading.{further, size_octets}

-- a header by its parts
parts : (text rest octets : List ℕ) → octets ≡ header_with text ++ rest → octets ≡ mark ++ (to_be_bytes w32 (length text) ++ (text ++ rest))
parts text rest octets is = is ∙ append_assoc (mark ++ to_be_bytes w32 (length text)) text rest ∙ append_assoc mark (to_be_bytes w32 (length text)) (text ++ rest)

-- a file that does not begin with the mark
pub not_marked : (told : Option Past) (front : List ℕ) → length front ≡ 16 → front ≢ mark → IsFilledFrom 0 true front told → ReadsHeader (Err NotJournal) told
not_marked None front size other filled = tt
not_marked (Some past) front size other filled = λ text has.
    let whole = parts text has.1 (reading past) has.2 in
    other (sym (take_at front filled.0 16 size) ∙ ap (take 16) (sym filled.1 ∙ whole))

-- a header whose text was read
pub header_read : (told : Option Past) (front octets text : List ℕ) (size : ℕ) → front ≡ mark → length octets ≡ 4 → ((i : ℕ) → get_or octets i 0 < 256) → size ≡ from_be_bytes w32 octets → size < 2 ^ 32
    → length text ≡ size → IsFilledFrom 0 true front told → IsFilledFrom 16 true octets told → IsFilledFrom 20 true text told → ReadsHeader (Ok text) told
header_read None front octets text size marked four small is few sized at_mark at_size at_text = tt
header_read (Some past) front octets text size marked four small is few sized at_mark at_size at_text =
    let r = reading past in
    let sixteen : length front ≡ 16 = ap length marked in
    let behind_mark = further 0 16 (reading past) front at_mark.0 sixteen at_mark.1 in
    let behind_size = further 16 4 (reading past) octets at_size.0 four at_size.1 in
    let be : to_be_bytes w32 (length text) ≡ octets = ap (λ (n : ℕ). to_be_bytes w32 n) sized ∙ size_octets octets size four small is in
    let whole : reading past ≡ front ++ (octets ++ (text ++ at_text.0)) =
    at_mark.1 ∙ ap (λ (xs : List ℕ). front ++ xs) (sym behind_mark ∙ at_size.1 ∙ ap (λ (xs : List ℕ). octets ++ xs) (sym behind_size ∙ at_text.1)) in (
      omega (arith, sized, few),
      at_text.0,
      whole
          ∙ ap (λ (xs : List ℕ). xs ++ (octets ++ (text ++ at_text.0))) marked
          ∙ ap (λ (xs : List ℕ). mark ++ (xs ++ (text ++ at_text.0))) (sym be)
          ∙ sym (append_assoc mark (to_be_bytes w32 (length text)) (text ++ at_text.0))
          ∙ sym (append_assoc (mark ++ to_be_bytes w32 (length text)) text at_text.0),
    )

pub text_cut : (told : Option Past) (octets : List ℕ) (size : ℕ) → length octets ≡ 4 → size ≡ from_be_bytes w32 octets → IsFilledFrom 16 true octets told → IfSome told (λ p. length (drop 20 (reading p)) < size)
    → ReadsHeader (Err NotJournal) told
text_cut None octets size four is at_size short = tt
text_cut (Some past) octets size four is at_size short = λ text has.
    let whole = parts text has.1 (reading past) has.2 in
    let behind = further 0 16 (reading past) mark (to_be_bytes w32 (length text) ++ (text ++ has.1)) refl whole in
    let same : octets ≡ to_be_bytes w32 (length text) = sym (take_at octets at_size.0 4 four) ∙ ap (take 4) (sym at_size.1 ∙ behind) in
    let sized : size ≡ length text = is ∙ ap (from_be_bytes w32) same ∙ from_be_bytes-to_be_bytes_4 (length text) has.0 in
    let rest = further 16 4 (reading past) (to_be_bytes w32 (length text)) (text ++ has.1) refl behind in
    omega (arith, short, sized, ap length rest, length-append text has.1)
