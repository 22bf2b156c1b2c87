-- Where the parts of a frame's line end.
use Rattle.std.proofs.Common.{◌≡◌, ℕ, ◌⊎◌, ◌+◌, ◌<◌, ◌≤◌, ◌^◌, List, [], ◌∷◌, ◌++◌, length, drop, take, slice_index, Some, None, position, ◌==◌, codes, suc, add-one, rules, refl, sym, ap, ap₂, ◌∙◌, subst, ◌≢◌, arith, length-append, length-take, eqb-true, Bool, false}
use Rattle.std.proofs.lemmas.Bool.{eqb-false, false≢true}
use Rattle.std.proofs.lemmas.Slice.Eq.{bytes_eq-Decides}
use Rattle.std.specs.Bool.{Decides}
use Rattle.std.specs.Str.{bytes_eq}
use Rattle.std.proofs.lemmas.Bool.Decides.{nat_tests}
use Rattle.std.proofs.lemmas.List.Quantifiers.{position-Some}
use Rattle.std.proofs.lemmas.List.Sums.{fails_before_first}
use Rattle.std.proofs.lemmas.Fmt.{decimal_is_IsNumeral, decimal_injective, length-decimal-le}
use Rattle.std.proofs.lemmas.List.{get_or-take, take-append-drop}
use Rattle.std.proofs.Math.Seq.{drop-cons}
use Rattle.std.proofs.lemmas.List.Elements.{All-nil, All-cons, All-head, All-tail, All-append, All-from_recursion, All-from_get_or}
use Rattle.std.proofs.lemmas.Str.Parse.{digit_from_value}
use Rattle.std.specs.Fmt.{decimal}
use Rattle.std.specs.List.{position_or_len}
use Rattle.std.specs.Str.Parse.{AllDigits}
use Rattle.cal_model.specs.Words.Limits.{payload_limit, last_moment}
use Rattle.cal_model.specs.Transcripts.ScriptFrames.{last_connection, last_slot}
use Rattle.cal_script.specs.FrameHeads.{Lacks, SpellsNoNumber, action_word, coming_numbers, word_of, numbers_of, head_line, IsWithin, InBounds, IsHead, IsNoHead, AreNumbersOf, IsSlotNumber, longest_line}
use Rattle.cal_script.specs.declared.head.Action.{Action}
use Rattle.cal_script.specs.declared.head.Action.TheVariants.{Claim, Expand, Publish, Abandon}
use Rattle.cal_script.specs.declared.head.Coming.{Coming}
use Rattle.cal_script.specs.declared.head.Head.{Head}
use Rattle.cal_script.specs.declared.head.Head.TheVariants.{Bytes, Worker}

-- the first octets of equal texts, and what follows them
heads : {a b : ℕ} {front back : List ℕ} → a ∷ front ≡ b ∷ back → a ≡ b
heads e = ap (λ octets. slice_index octets 0) e

tails : {a b : ℕ} {front back : List ℕ} → a ∷ front ≡ b ∷ back → front ≡ back
tails e = ap (drop 1) e

-- an octet has one first place
pub first_place : (octet : ℕ) (left right a b : List ℕ) → Lacks octet left → Lacks octet right
    → left ++ (octet ∷ a) ≡ right ++ (octet ∷ b) → (left ≡ right) × (a ≡ b)
first_place octet [] [] a b p q e = (refl, tails e)
first_place octet [] (d ∷ right) a b p q e = absurd (All-head (λ c. c ≢ octet) d right q (sym (heads e)))
first_place octet (c ∷ left) [] a b p q e = absurd (All-head (λ c. c ≢ octet) c left p (heads e))
first_place octet (c ∷ left) (d ∷ right) a b p q e =
    let rest = first_place octet left right a b (All-tail (λ c. c ≢ octet) c left p) (All-tail (λ c. c ≢ octet) d right q) (tails e) in
    (ap₂ (λ x xs. x ∷ xs) (heads e) rest.0, rest.1)

-- it stands where it is put
pub no_place : (octet : ℕ) (left a : List ℕ) → ¬ Lacks octet (left ++ (octet ∷ a))
no_place octet [] a p = All-head (λ c. c ≢ octet) octet a p refl
no_place octet (c ∷ left) a p = no_place octet left a (All-tail (λ c. c ≢ octet) c (left ++ (octet ∷ a)) p)

-- digits are no control and no blank
digits_lack : (octet : ℕ) → octet < 48 → (digits : List ℕ) → AllDigits 10 digits → Lacks octet digits
digits_lack octet low [] h = All-nil (λ c. c ≢ octet)
digits_lack octet low (d ∷ digits) h =
    All-cons (λ c. c ≢ octet) d digits (λ e. omega (arith, e, digit_from_value d h.0)) (digits_lack octet low digits h.1)

pub decimal_lacks : (octet : ℕ) → octet < 48 → (n : ℕ) → n < 2 ^ 64 → Lacks octet (decimal n)
decimal_lacks octet low n h = digits_lack octet low (decimal n) (decimal_is_IsNumeral n h).0.1

-- Words of lines

action_lacks : (action : Action) → Lacks 32 (action_word action)
action_lacks Claim = All-from_recursion (λ c. c ≢ 32) (action_word Claim) (search rules)
action_lacks Expand = All-from_recursion (λ c. c ≢ 32) (action_word Expand) (search rules)
action_lacks Publish = All-from_recursion (λ c. c ≢ 32) (action_word Publish) (search rules)
action_lacks Abandon = All-from_recursion (λ c. c ≢ 32) (action_word Abandon) (search rules)

word_lacks : (head : Head) → Lacks 32 (word_of head)
word_lacks (Bytes coming) = All-from_recursion (λ c. c ≢ 32) (codes "bytes") (search rules)
word_lacks (Worker action slot) = action_lacks action

-- a word that was compared
pub is_not_bytes : (word right : List ℕ) (same : Bool) → same ≡ bytes_eq word right → right ≡ codes "bytes" → same ≡ false → word ≢ codes "bytes"
is_not_bytes word right same e f none is =
    let decides : Decides (bytes_eq word right) (word ≡ right) = bytes_eq-Decides word right in
    false≢true (sym none ∙ (e ∙ decides.1 (is ∙ sym f)))

-- a line cut at its first blank
pub record IsCutAtBlank (line word numbers : List ℕ) : Type 0 where
  pub cut : Lacks 32 word × (line ≡ word ++ (32 ∷ numbers))

-- its parts are those of the head that it is the line of
parts_of : (line word numbers : List ℕ) (head : Head) → IsCutAtBlank line word numbers → IsHead line head → (word ≡ word_of head) × (numbers ≡ numbers_of head)
parts_of line word numbers head c h = first_place 32 word (word_of head) numbers (numbers_of head) c.cut.0 (word_lacks head) (sym c.cut.1 ∙ h.spelled)

-- a line is none of a frame: without a blank, or by its word
pub no_head_without_blank : (line : List ℕ) → Lacks 32 line → IsNoHead line
no_head_without_blank line lacks head h = no_place 32 (word_of head) (numbers_of head) (subst (Lacks 32) h.spelled lacks)

bytes_is_no_action : (action : Action) → codes "bytes" ≢ action_word action
bytes_is_no_action Claim e = omega (arith, ap (λ octets. slice_index octets 0) e)
bytes_is_no_action Expand e = omega (arith, ap (λ octets. slice_index octets 0) e)
bytes_is_no_action Publish e = omega (arith, ap (λ octets. slice_index octets 0) e)
bytes_is_no_action Abandon e = omega (arith, ap (λ octets. slice_index octets 0) e)

pub no_head_by_word : (line word numbers : List ℕ) → IsCutAtBlank line word numbers → word ≢ codes "bytes" → ((action : Action) → word ≢ action_word action) → IsNoHead line
no_head_by_word line word numbers c other none (Bytes coming) h = other (parts_of line word numbers (Bytes coming) c h).0
no_head_by_word line word numbers c other none (Worker action slot) h = none action (parts_of line word numbers (Worker action slot) c h).0

-- The numbers of octets that come

-- numbers cut at their first blank, and what follows at the next
pub record IsCutTwice (numbers connection rest moment size : List ℕ) : Type 0 where
  pub first : Lacks 32 connection × (numbers ≡ connection ++ (32 ∷ rest))
  pub second : Lacks 32 moment × (rest ≡ moment ++ (32 ∷ size))

behind_first : (numbers connection rest : List ℕ) (coming : Coming) → Lacks 32 connection × (numbers ≡ connection ++ (32 ∷ rest)) → AreNumbersOf numbers coming
    → (connection ≡ decimal coming.connection) × (rest ≡ decimal coming.moment ++ (32 ∷ decimal coming.size))
unfolding coming_numbers
behind_first numbers connection rest coming c a =
    first_place 32 connection (decimal coming.connection) rest (decimal coming.moment ++ (32 ∷ decimal coming.size)) c.0
    (decimal_lacks 32 (omega arith) coming.connection (omega (arith, a.bounds.connection_to))) (sym c.1 ∙ a.spelled)

numbers_in : (numbers connection rest moment size : List ℕ) (coming : Coming) → IsCutTwice numbers connection rest moment size → AreNumbersOf numbers coming
    → (connection ≡ decimal coming.connection) × (moment ≡ decimal coming.moment) × (size ≡ decimal coming.size)
numbers_in numbers connection rest moment size coming c a =
    let front = behind_first numbers connection rest coming c.first a in
    let back = first_place 32 moment (decimal coming.moment) size (decimal coming.size) c.second.0
    (decimal_lacks 32 (omega arith) coming.moment (omega (arith, a.bounds.moment_to))) (sym c.second.1 ∙ front.1) in
    (front.0, back.0, back.1)

pub no_coming_without_blank : (numbers : List ℕ) → Lacks 32 numbers → (coming : Coming) → ¬ AreNumbersOf numbers coming
unfolding coming_numbers
no_coming_without_blank numbers lacks coming a = no_place 32 (decimal coming.connection) _ (subst (Lacks 32) a.spelled lacks)

pub no_coming_without_second : (numbers connection rest : List ℕ) → Lacks 32 connection × (numbers ≡ connection ++ (32 ∷ rest)) → Lacks 32 rest → (coming : Coming) → ¬ AreNumbersOf numbers coming
no_coming_without_second numbers connection rest c lacks coming a =
    no_place 32 (decimal coming.moment) (decimal coming.size) (subst (Lacks 32) (behind_first numbers connection rest coming c a).1 lacks)

pub no_coming_by_connection : (numbers connection rest moment size : List ℕ) → IsCutTwice numbers connection rest moment size → SpellsNoNumber connection → (coming : Coming) → ¬ AreNumbersOf numbers coming
no_coming_by_connection numbers connection rest moment size c none coming a =
    none coming.connection (omega (arith, a.bounds.connection_to)) (numbers_in numbers connection rest moment size coming c a).0

pub no_coming_by_moment : (numbers connection rest moment size : List ℕ) → IsCutTwice numbers connection rest moment size → SpellsNoNumber moment → (coming : Coming) → ¬ AreNumbersOf numbers coming
no_coming_by_moment numbers connection rest moment size c none coming a =
    none coming.moment (omega (arith, a.bounds.moment_to)) (numbers_in numbers connection rest moment size coming c a).1

pub no_coming_by_size : (numbers connection rest moment size : List ℕ) → IsCutTwice numbers connection rest moment size → SpellsNoNumber size → (coming : Coming) → ¬ AreNumbersOf numbers coming
no_coming_by_size numbers connection rest moment size c none coming a =
    none coming.size (omega (arith, a.bounds.size_to)) (numbers_in numbers connection rest moment size coming c a).2

-- nor where one of the numbers passes its bound
pub no_coming_by_bounds : (numbers connection rest moment size : List ℕ) (k t n : ℕ) → IsCutTwice numbers connection rest moment size
    → connection ≡ decimal k → moment ≡ decimal t → size ≡ decimal n → k < 2 ^ 64 → t < 2 ^ 64 → n < 2 ^ 64
    → (last_connection < k) ⊎ ((last_moment < t) ⊎ (payload_limit < n)) → (coming : Coming) → ¬ AreNumbersOf numbers coming
no_coming_by_bounds numbers connection rest moment size k t n c p q r hk ht hn past coming a =
    let all = numbers_in numbers connection rest moment size coming c a in
    let one : k ≡ coming.connection = decimal_injective k coming.connection hk (omega (arith, a.bounds.connection_to)) (sym p ∙ all.0) in
    let two : t ≡ coming.moment = decimal_injective t coming.moment ht (omega (arith, a.bounds.moment_to)) (sym q ∙ all.1) in
    let three : n ≡ coming.size = decimal_injective n coming.size hn (omega (arith, a.bounds.size_to)) (sym r ∙ all.2) in
    omega (arith, past, a.bounds.connection_to, a.bounds.moment_to, a.bounds.size_to)

pub coming_of : (numbers connection rest moment size : List ℕ) (coming : Coming) → IsCutTwice numbers connection rest moment size
    → connection ≡ decimal coming.connection → moment ≡ decimal coming.moment → size ≡ decimal coming.size → IsWithin coming → AreNumbersOf numbers coming
unfolding coming_numbers
coming_of numbers connection rest moment size coming c p q r bounds = record {
  spelled = c.first.1 ∙ ap₂ (λ x y. x ++ (32 ∷ y)) p (c.second.1 ∙ ap₂ (λ x y. x ++ (32 ∷ y)) q r);
  bounds = bounds;
}

-- The number of a slot

pub no_slot_by_bound : (text : List ℕ) (n : ℕ) → text ≡ decimal n → n < 2 ^ 64 → last_slot < n → (slot : ℕ) → ¬ IsSlotNumber text slot
no_slot_by_bound text n e h past slot a =
    let same : n ≡ slot = decimal_injective n slot h (omega (arith, a.bounds)) (sym e ∙ a.spelled) in
    omega (arith, past, a.bounds)

-- Whole lines

-- a line is no longer than that of the last connection and moment and the most octets
length-coming : (coming : Coming) → IsWithin coming → length (coming_numbers coming) ≤ 23
unfolding coming_numbers
length-coming coming h =
    omega (
      arith,
      length-append (decimal coming.connection) (32 ∷ (decimal coming.moment ++ (32 ∷ decimal coming.size))),
      length-append (decimal coming.moment) (32 ∷ decimal coming.size),
      length-decimal-le 2 coming.connection (omega arith) (omega (arith, h.connection_to)) (omega arith),
      length-decimal-le 12 coming.moment (omega arith) (omega (arith, h.moment_to)) (omega arith),
      length-decimal-le 7 coming.size (omega arith) (omega (arith, h.size_to)) (omega arith),
    )

length-action : (action : Action) → length (action_word action) ≤ 7
length-action Claim = omega arith
length-action Expand = omega arith
length-action Publish = omega arith
length-action Abandon = omega arith

pub length-head_line : (head : Head) → InBounds head → length (head_line head) ≤ longest_line
length-head_line (Bytes coming) h = omega (arith, length-append (codes "bytes") (32 ∷ coming_numbers coming), length-coming coming h)
length-head_line (Worker action slot) h =
    omega (arith, length-append (action_word action) (32 ∷ decimal slot), length-action action, length-decimal-le 2 slot (omega arith) (omega (arith, h)) (omega arith))

-- it has no line feed
coming_lacks_feed : (coming : Coming) → IsWithin coming → Lacks 10 (coming_numbers coming)
unfolding coming_numbers
coming_lacks_feed coming h =
    All-append (λ c. c ≢ 10) (decimal coming.connection) (32 ∷ (decimal coming.moment ++ (32 ∷ decimal coming.size))) (decimal_lacks 10 (omega arith) coming.connection (omega (arith, h.connection_to)))
    (All-cons (λ c. c ≢ 10) 32 (decimal coming.moment ++ (32 ∷ decimal coming.size)) (λ e. omega (arith, e))
    (All-append (λ c. c ≢ 10) (decimal coming.moment) (32 ∷ decimal coming.size) (decimal_lacks 10 (omega arith) coming.moment (omega (arith, h.moment_to)))
    (All-cons (λ c. c ≢ 10) 32 (decimal coming.size) (λ e. omega (arith, e)) (decimal_lacks 10 (omega arith) coming.size (omega (arith, h.size_to))))))

numbers_lack_feed : (head : Head) → InBounds head → Lacks 10 (numbers_of head)
numbers_lack_feed (Bytes coming) h = coming_lacks_feed coming h
numbers_lack_feed (Worker action slot) h = decimal_lacks 10 (omega arith) slot (omega (arith, h))

action_lacks_feed : (action : Action) → Lacks 10 (action_word action)
action_lacks_feed Claim = All-from_recursion (λ c. c ≢ 10) (action_word Claim) (search rules)
action_lacks_feed Expand = All-from_recursion (λ c. c ≢ 10) (action_word Expand) (search rules)
action_lacks_feed Publish = All-from_recursion (λ c. c ≢ 10) (action_word Publish) (search rules)
action_lacks_feed Abandon = All-from_recursion (λ c. c ≢ 10) (action_word Abandon) (search rules)

word_lacks_feed : (head : Head) → Lacks 10 (word_of head)
word_lacks_feed (Bytes coming) = All-from_recursion (λ c. c ≢ 10) (codes "bytes") (search rules)
word_lacks_feed (Worker action slot) = action_lacks_feed action

pub head_line_lacks_feed : (head : Head) → InBounds head → Lacks 10 (head_line head)
head_line_lacks_feed head h =
    All-append (λ c. c ≢ 10) (word_of head) (32 ∷ numbers_of head) (word_lacks_feed head)
    (All-cons (λ c. c ≢ 10) 32 (numbers_of head) (λ e. omega (arith, e)) (numbers_lack_feed head h))

-- numbers that are spelled alike have one size
size_of : (coming other : Coming) → IsWithin coming → AreNumbersOf (coming_numbers coming) other → coming.size ≡ other.size
unfolding coming_numbers
size_of coming other h a =
    let c : IsCutTwice (coming_numbers coming) (decimal coming.connection) (decimal coming.moment ++ (32 ∷ decimal coming.size)) (decimal coming.moment) (decimal coming.size) = record {
      first = (decimal_lacks 32 (omega arith) coming.connection (omega (arith, h.connection_to)), refl);
      second = (decimal_lacks 32 (omega arith) coming.moment (omega (arith, h.moment_to)), refl);
    } in
    decimal_injective coming.size other.size (omega (arith, h.size_to)) (omega (arith, a.bounds.size_to)) (numbers_in _ _ _ _ _ other c a).2

-- the line of octets that come is that of no worker, and of no other size
pub bytes_line_of : (coming : Coming) (head : Head) → IsWithin coming → InBounds head → head_line (Bytes coming) ≡ head_line head
    → (other : Coming) × (head ≡ Bytes other) × (other.size ≡ coming.size)
bytes_line_of coming (Bytes other) h k e =
    let parts = first_place 32 (codes "bytes") (codes "bytes") (coming_numbers coming) (coming_numbers other) (word_lacks (Bytes coming)) (word_lacks (Bytes other)) e in
    (other, refl, sym (size_of coming other h (record { spelled = parts.1; bounds = k })))
bytes_line_of coming (Worker action slot) h k e =
    absurd (bytes_is_no_action action (first_place 32 (codes "bytes") (action_word action) (coming_numbers coming) (decimal slot) (word_lacks (Bytes coming)) (action_lacks action) e).0)

-- Places of octets

-- where no octet passes, the octet stands nowhere
pub no_such_octet : (octet : ℕ) (text : List ℕ) → position (λ c. c == octet) text ≡ None → Lacks octet text
no_such_octet octet text e k d h same =
    let all : length text ≤ position_or_len (λ c. c == octet) text = grind (arith, nat_tests, e) in
    eqb-false _ _ (fails_before_first (λ c. c == octet) text k d (omega arith)) same

-- a text is cut at its first such octet
pub split_there : (octet : ℕ) (text : List ℕ) (at : ℕ) → position (λ c. c == octet) text ≡ Some at
    → (at < length text) × Lacks octet (take at text) × (text ≡ take at text ++ (octet ∷ drop (at + 1) text))
split_there octet text at e =
    let found = position-Some (λ c. c == octet) text at 0 e in
    let here : slice_index text at ≡ octet = eqb-true _ _ found.1 in
    let rest : drop at text ≡ octet ∷ drop (at + 1) text = rw (add-one) (drop-cons text at 0 found.0 ∙ ap (λ c. c ∷ drop (suc at) text) here) in (
      found.0,
      All-from_get_or (λ c. c ≢ octet) (take at text) 0 (λ k h same.
          let below : k < at = omega (arith, length-take at text) in
          eqb-false _ _ (found.2 k below) (sym (get_or-take at text k 0 below) ∙ same)),
      sym (take-append-drop at text) ∙ ap (λ xs. take at text ++ xs) rest,
    )
