-- A journal file that is written whole, whatever its header and its payloads are.
use Rattle.std.proofs.Common.{◌≡◌, ◌⊎◌, inl, inr, ⊎_elim, ℕ, ◌+◌, ◌-◌, ◌<◌, ◌≤◌, Bool, true, false, IsTrue, List, [], ◌∷◌, ◌++◌, length, get_or, take, drop, flat_map, Option, Some, None, option_map, refl, sym, ◌∙◌, ap, subst, arith, length-append, length-take, append_assoc, take-append-drop}
use Rattle.std.specs.Int.{w32, to_be_bytes}
use Rattle.std.proofs.lemmas.Bool.{false≢true, cases_eq}
use Rattle.std.proofs.lemmas.List.{append-nil, get_or-take, get_or-append-add}
use Rattle.std.proofs.lemmas.List.Prefix.{front_from_reads, at_from_reads}
use Rattle.cal_keeper.specs.Disks.CrashModel.{Past, wrote, synced, reading, IsTorn, moment, LeftSince, LeavesOnly, with_piece}
use Rattle.cal_keeper.specs.Disks.DiskCalls.{after_write, MayTear}
use Rattle.cal_keeper.specs.Files.Drafts.{blank, with_blank, StaysBlank, IsDraft}
use Rattle.cal_keeper.specs.Files.Headers.{mark}
use Rattle.cal_keeper.specs.Files.Opening.{IsNoJournal}
use Rattle.cal_keeper.specs.Files.Payloads.{long_text}
use Rattle.cal_keeper.specs.Files.RecordForm.{counted_payload, open_record, front_of, IsFile, IsKept}
use Rattle.cal_keeper.specs.Steps.Drafting.{LaysText, LaysBlank, IsNoneOrFile, Seals}
use Rattle.cal_keeper.specs.Steps.WriteRuns.{IsSpared, Spares, PutsText, Puts, ReplacesPiece, Replaces}
use Rattle.cal_keeper.proofs.Commits.{only_now, front_longer}
use Rattle.cal_keeper.proofs.Gates.{get_same}
use Rattle.cal_keeper.proofs.Pieces.{piece_behind}
use Rattle.cal_keeper.proofs.Runs.{is_there, spares_less}

-- What begins with the blank

pub blank_is_no_journal : (octets : List ℕ) → take 16 octets ≡ blank → IsNoJournal octets
blank_is_no_journal octets begins = λ text has.
    let marked : take 16 octets ≡ mark = ap (take 16) has.2 in
    let other : 0 ≡ 99 = ap (λ (xs : List ℕ). get_or xs 0 0) (sym begins ∙ marked) in
    absurd (omega (arith, other))

-- what is spared from the blank on begins with it too
spared_blank : (old image : List ℕ) → IsSpared 16 old image → take 16 old ≡ blank → take 16 image ≡ blank
spared_blank old image spared begins =
    let long : 16 ≤ length old = omega (arith, length-take 16 old, ap length begins) in
    let end : 15 < length image = is_there old image 15 (omega arith) (spared.stays 15 (omega arith) (omega arith)) in
    let reads : (i : ℕ) → i < 16 → get_or image i 0 ≡ get_or blank i 0 = λ i less.
    get_same image old i (spared.stays i (omega arith) less) ∙ sym (get_or-take 16 old i 0 less) ∙ ap (λ (xs : List ℕ). get_or xs i 0) begins in
    let whole : image ≡ blank ++ drop 16 image = front_from_reads 0 image blank (omega arith) reads in
    ap (take 16) whole

pub blank_stays : (old new : Past) → Spares 16 old new → StaysBlank old → StaysBlank new
blank_stays old new spares stays image may = let a = spares.now image may in spared_blank a.0 image a.2 (stays a.0 a.1)

-- Where all was written behind the blank, a crash leaves no journal.
pub leaves_no_journal : (old new : Past) → Spares 16 old new → StaysBlank old → LeavesOnly IsNoJournal old new
leaves_no_journal old new spares stays = record {
  later = spares.later;
  each = λ image left. ⊎_elim (λ was. blank_is_no_journal image (stays image (only_now old image was))) (λ has. has) (since (moment old) image (omega arith) left);
  before = since;
}
  where
    since : (start : ℕ) (image : List ℕ) → start ≤ moment old → LeftSince start new image → LeftSince start old image ⊎ IsNoJournal image
    since start image early left = ⊎_elim
        (λ was. inl was)
        (λ came. inr (blank_is_no_journal image (spared_blank came.0 image came.2 (stays came.0 came.1))))
        (spares.since start image early left)

-- A draft that is begun

-- the write of the blank failed
pub blank_torn : (text : List ℕ) (old new : Option Past) → MayTear 0 16 old new → LaysBlank text false old new
blank_torn text None new same = same
blank_torn text (Some old) new (inl same) = (old, same, λ empty. inl (refl, inl refl))
blank_torn text (Some old) new (inr (octets, torn, is)) = (wrote old 0 16 octets, is, λ empty. inl (refl, inr (octets, refl)))

-- the sync behind it failed
pub blank_unsettled : (text : List ℕ) (old mid new : Option Past) → mid ≡ option_map (after_write 0 blank) old → new ≡ mid → LaysBlank text false old new
blank_unsettled text None mid new is same = same ∙ is
blank_unsettled text (Some old) mid new is same = (after_write 0 blank old, same ∙ is, λ empty. inl (refl, inr (with_piece 0 blank (reading old), refl)))

-- behind that sync a text of users is put behind the blank
text_behind : (text : List ℕ) (ok : Bool) (laid new : Past) → reading laid ≡ blank → StaysBlank laid → PutsText 16 (long_text text) ok laid new
    → LeavesOnly IsNoJournal laid new × (IsTrue ok → IsDraft (blank ++ long_text text) [] (20 + length text) new)
text_behind text ok laid new there stays puts =
    let sixteen : 16 ≡ length (reading laid) = sym (ap length there) in
    let size = length-append (to_be_bytes w32 (length text)) text in (
      leaves_no_journal laid new puts.spares stays,
      λ went. record {
        place_is = omega (arith, size, ap length (append-nil (blank ++ long_text text)));
        reads =
            puts.stands went (omega (arith, sixteen))
            ∙ piece_behind 16 (long_text text) (reading laid) sixteen
            ∙ ap (λ (xs : List ℕ). xs ++ long_text text) there
            ∙ sym (append-nil (blank ++ long_text text));
        stays_blank = blank_stays laid new puts.spares stays;
      },
    )

pub draft_begun : (text : List ℕ) (ok : Bool) (old laid settled new : Option Past) → laid ≡ option_map (after_write 0 blank) old → Puts 16 (long_text text) ok settled new → settled ≡ option_map synced laid → LaysBlank text ok old new
draft_begun text ok None laid settled new is puts settles = subst (λ (told : Option Past). Puts 16 (long_text text) ok told new) (settles ∙ ap (option_map synced) is) puts
draft_begun text ok (Some old) laid settled new is puts settles =
    let puts : Puts 16 (long_text text) ok (Some (with_blank old)) new = subst (λ (told : Option Past). Puts 16 (long_text text) ok told new) (settles ∙ ap (option_map synced) is) puts in (
      puts.0,
      puts.1,
      λ empty. inr (from_empty puts.0 puts.2 empty),
    )
  where
    from_empty : (last : Past) → PutsText 16 (long_text text) ok (with_blank old) last → reading old ≡ [] → LaysText text ok old last
    from_empty last puts empty =
        let there : reading (with_blank old) ≡ blank = ap (λ (xs : List ℕ). with_piece 0 blank xs) empty ∙ piece_behind 0 blank [] refl in
        let both = text_behind text ok (with_blank old) last there (λ image may. ap (take 16) (may ∙ there)) puts in
        record { leaves = both.0; drafted = both.1 }

-- A draft that is written on

module _ (text : List ℕ) (payloads : List (List ℕ)) (place : ℕ) (old : Past) (draft : IsDraft (blank ++ text) payloads place old) where
  pub behind_blank : 16 ≤ place
  behind_blank = let place_is = draft.place_is in omega arith

  pub draft_longer : (payload : List ℕ) (next : ℕ) (new : Past) → next ≡ place + 5 + length payload → PutsText place (open_record payload) true old new → IsDraft (blank ++ text) (payloads ++ payload ∷ []) next new
  draft_longer payload next new next_is puts =
      let place_is = draft.place_is in
      let here : place ≡ length (reading old) = place_is ∙ sym (ap length draft.reads) in
      let counted : length (counted_payload payload) ≡ 4 + length payload = length-append (to_be_bytes w32 (length payload)) payload in
      record {
        place_is = omega (arith, next_is, counted, ap length (front_longer (blank ++ text) payloads payload), length-append (front_of (blank ++ text) payloads) (open_record payload));
        reads =
            puts.stands refl (omega (arith, here))
            ∙ piece_behind place (open_record payload) (reading old) here
            ∙ ap (λ (xs : List ℕ). xs ++ open_record payload) draft.reads
            ∙ sym (front_longer (blank ++ text) payloads payload);
        stays_blank = blank_stays old new (spares_less 16 place old new behind_blank puts.spares) draft.stays_blank;
      }

  pub draft_leaves : (piece : List ℕ) (ok : Bool) (new : Past) → PutsText place piece ok old new → LeavesOnly IsNoJournal old new
  draft_leaves piece ok new puts = leaves_no_journal old new (spares_less 16 place old new behind_blank puts.spares) draft.stays_blank

-- The mark in the place of the blank

-- texts are the same or not
cases_same : (xs ys : List ℕ) → (xs ≡ ys) ⊎ (xs ≡ ys → ⊥)
cases_same [] [] = inl refl
cases_same [] (y ∷ ys) = inr (λ same. absurd (omega (arith, ap length same)))
cases_same (x ∷ xs) [] = inr (λ same. absurd (omega (arith, ap length same)))
cases_same (x ∷ xs) (y ∷ ys) = both (cases_eq x y) (cases_same xs ys)
  where
    both : (x ≡ y) ⊎ (x ≡ y → ⊥) → (xs ≡ ys) ⊎ (xs ≡ ys → ⊥) → (x ∷ xs ≡ y ∷ ys) ⊎ (x ∷ xs ≡ y ∷ ys → ⊥)
    both (inl first) (inl rest) = inl (ap (λ (z : ℕ). z ∷ xs) first ∙ ap (λ (zs : List ℕ). y ∷ zs) rest)
    both (inl first) (inr other) = inr (λ same. other (ap (drop 1) same))
    both (inr other) rest = inr (λ same. other (ap (λ (zs : List ℕ). get_or zs 0 0) same))

-- a front that is torn leaves what stands behind it
torn_front : (front body image : List ℕ) (count : ℕ) → count ≡ length front → 0 < length body → IsTorn 0 count (front ++ body) image → image ≡ take count image ++ (body ++ drop (count + length body) image)
torn_front front body image count count_is some torn =
    let size : length (front ++ body) ≡ count + length body = omega (arith, length-append front body) in
    let last : count + length body - 1 < length image = is_there (front ++ body) image (count + length body - 1) (omega arith) (torn.stays (count + length body - 1) (omega arith) (inr (omega arith))) in
    let reads : (i : ℕ) → i < length body → get_or image (count + i) 0 ≡ get_or body i 0 = λ i less.
    get_same image (front ++ body) (count + i) (torn.stays (count + i) (omega arith) (inr (omega arith)))
    ∙ ap (λ (n : ℕ). get_or (front ++ body) (n + i) 0) count_is
    ∙ get_or-append-add front body i 0 in
    let back = at_from_reads 0 image body count (omega arith) reads in
    sym (take-append-drop count image) ∙ ap (λ (xs : List ℕ). take count image ++ xs) back

module _ (text : List ℕ) (payloads : List (List ℕ)) (place : ℕ) (old mid : Past) (draft : IsDraft (blank ++ text) payloads place old) (puts : PutsText place (0 ∷ []) true old mid) where
  gate_there : reading mid ≡ blank ++ ((text ++ flat_map open_record payloads) ++ 0 ∷ [])
  gate_there =
      let here : place ≡ length (reading old) = draft.place_is ∙ sym (ap length draft.reads) in
      puts.stands refl (omega (arith, here)) ∙ piece_behind place (0 ∷ []) (reading old) here ∙ ap (λ (xs : List ℕ). xs ++ 0 ∷ []) draft.reads

  marked_file : (rest image : List ℕ) → image ≡ mark ++ (((text ++ flat_map open_record payloads) ++ 0 ∷ []) ++ rest) → IsFile (mark ++ text) payloads image
  marked_file rest image is = record {
    gate = 0;
    rest = rest;
    is_closed = λ same. absurd (omega (arith, same));
    octets_are = is ∙ ap (λ (xs : List ℕ). mark ++ xs) (append_assoc (text ++ flat_map open_record payloads) (0 ∷ []) rest);
  }

  torn_mark : (image : List ℕ) → IsTorn 0 16 (reading mid) image → IsNoneOrFile (mark ++ text) payloads image
  torn_mark image torn =
      let here : IsTorn 0 16 (blank ++ ((text ++ flat_map open_record payloads) ++ 0 ∷ [])) image = subst (λ (xs : List ℕ). IsTorn 0 16 xs image) gate_there torn in
      let some : 0 < length ((text ++ flat_map open_record payloads) ++ 0 ∷ []) = omega (arith, length-append (text ++ flat_map open_record payloads) (0 ∷ [])) in
      let whole = torn_front blank ((text ++ flat_map open_record payloads) ++ 0 ∷ []) image 16 refl some here in
      ⊎_elim
      (λ (same : take 16 image ≡ mark). inr (marked_file _ image (whole ∙ ap (λ (xs : List ℕ). xs ++ (((text ++ flat_map open_record payloads) ++ 0 ∷ []) ++ drop (16 + length ((text ++ flat_map open_record payloads) ++ 0 ∷ [])) image)) same)))
      (λ (other : take 16 image ≡ mark → ⊥). inl (λ users has. other (ap (take 16) has.2)))
      (cases_same (take 16 image) mark)

  sealed_leaves : (ok : Bool) (new : Past) → ReplacesPiece 0 mark ok mid new → LeavesOnly (IsNoneOrFile (mark ++ text) payloads) old new
  sealed_leaves ok new replaces =
      let gate_leaves = draft_leaves text payloads place old draft (0 ∷ []) true mid puts in
      record {
        later = omega (arith, gate_leaves.later, replaces.later);
        each = λ image left. ⊎_elim (λ was. inl (gate_leaves.each image was)) (λ torn. torn_mark image torn) (replaces.since (moment old) image gate_leaves.later left);
        before = λ start image early left. ⊎_elim
            (λ was. ⊎_elim (λ before. inl before) (λ none. inr (inl none)) (gate_leaves.before start image early was))
            (λ torn. inr (torn_mark image torn))
            (replaces.since start image (omega (arith, early, gate_leaves.later)) left);
      }

  sealed_kept : (new : Past) → ReplacesPiece 0 mark true mid new → IsKept (mark ++ text) payloads place new
  sealed_kept new replaces = record {
    place_is = draft.place_is;
    file = marked_file [] (reading new) (
        replaces.stands refl
        ∙ ap (λ (xs : List ℕ). with_piece 0 mark xs) gate_there
        ∙ ap (λ (xs : List ℕ). mark ++ xs) (sym (append-nil ((text ++ flat_map open_record payloads) ++ 0 ∷ []))));
    settled = replaces.settled refl;
  }

-- what has one property has another
only_no_journal : (header : List ℕ) (payloads : List (List ℕ)) (old new : Past) → LeavesOnly IsNoJournal old new → LeavesOnly (IsNoneOrFile header payloads) old new
only_no_journal header payloads old new leaves = record {
  later = leaves.later;
  each = λ image left. inl (leaves.each image left);
  before = λ start image early left. ⊎_elim (λ was. inl was) (λ none. inr (inl none)) (leaves.before start image early left);
}

-- a gate that was not written
pub seal_ungated : (place : ℕ) (old new : Option Past) → Puts place (0 ∷ []) false old new → Seals place false old new
seal_ungated place None new same = same
seal_ungated place (Some old) new puts = (
  puts.0,
  puts.1,
  record {
    any_moment = λ text payloads draft. only_no_journal (mark ++ text) payloads old puts.0 (draft_leaves text payloads place old draft (0 ∷ []) false puts.0 puts.2);
    whole = λ went. absurd (false≢true went);
  },
)

-- a gate that was, and the mark
pub seal_gated : (place : ℕ) (ok : Bool) (old mid new : Option Past) → Puts place (0 ∷ []) true old mid → Replaces 0 mark ok mid new → Seals place ok old new
seal_gated place ok None mid new puts replaces = subst (λ (told : Option Past). Replaces 0 mark ok told new) puts replaces
seal_gated place ok (Some old) mid new puts replaces =
    let replaces = subst (λ (told : Option Past). Replaces 0 mark ok told new) puts.1 replaces in (
      replaces.0,
      replaces.1,
      record {
        any_moment = λ text payloads draft. sealed_leaves text payloads place old puts.0 draft puts.2 ok replaces.0 replaces.2;
        whole = λ went text payloads draft. sealed_kept text payloads place old puts.0 draft puts.2 replaces.0 (subst (λ (through : Bool). ReplacesPiece 0 mark through puts.0 replaces.0) went replaces.2);
      },
    )
