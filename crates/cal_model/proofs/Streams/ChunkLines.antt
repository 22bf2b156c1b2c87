-- A chunk line is one of the grammar, and every front of one begins one.
use Rattle.std.proofs.Common.{◌≡◌, ℕ, ◌+◌, ◌*◌, ◌≤◌, Bool, true, false, cond, not, ◌==◌, ◌&&◌, ◌||◌, List, [], ◌∷◌, ◌++◌, map, length, take, drop, Option, Some, None, refl, sym, ap, subst, ◌∙◌, arith, ◌⊎◌, inl, inr, ⊎_elim, append_assoc, append-nil, length-append}
use Rattle.std.specs.Prelude.{option_map, option_and_then, codes, is_some}
use Rattle.std.specs.List.{list_all, fold}
use Rattle.std.proofs.lemmas.Option.{same_Some}
use Rattle.std.proofs.lemmas.Bool.Decides.{nat_tests}
use Rattle.std.proofs.lemmas.List.{take_all}
use Rattle.std.proofs.lemmas.List.Folds.{list_all-append}
use Rattle.std.proofs.lemmas.List.Sums.{list_all-from_AllPass, AllPass-from_list_all}
use Rattle.httparse.specs.Grammar.{is_extension_byte, print_extension, IsExtension}
use Rattle.cal_base.specs.Lines.ContentLines.{every}
use Rattle.cal_base.specs.Xml.XmlMarkup.{digit_value, number_of_digits}
use Rattle.cal_base.specs.Texts.Octets.{line_feed, carriage_return, semicolon}
use Rattle.cal_model.specs.Words.Cuts.{cut_at}
use Rattle.cal_model.specs.Streams.WireLimits.{chunk_line_limit}
use Rattle.cal_model.specs.Streams.Chunks.{before_extension, size_of, before_break, text_size, chunk_size, begins_chunk_line, has_front, is_broken}
use Rattle.cal_model.specs.Streams.ChunkGrammar.{WrittenLine, line_text, IsLineOf, LinesAreTheGrammar}
use Rattle.cal_model.proofs.Streams.StreamFronts.{bool_cases, none_some}
use Rattle.cal_model.proofs.Streams.ChunkFronts.{le_cases, left_or, right_or}
use Rattle.cal_model.proofs.Streams.HeadLaws.{Free, both, other, cut_free, cut_is}
use Rattle.cal_model.proofs.Streams.HeadLaws.{cut_none}

-- CRLF at the end

pub break_back : (text : List ℕ) → before_break (text ++ 13 ∷ 10 ∷ []) ≡ Some text
break_back [] = refl
break_back (a ∷ []) = refl
break_back (a ∷ b ∷ text) = next a b text (break_back (b ∷ text))
  where
    next : (a b : ℕ) (text : List ℕ) → before_break (b ∷ text ++ 13 ∷ 10 ∷ []) ≡ Some (b ∷ text) → before_break (a ∷ b ∷ text ++ 13 ∷ 10 ∷ []) ≡ Some (a ∷ b ∷ text)
    next a b [] h = ap (option_map (λ t. a ∷ t)) h
    next a b (c ∷ text) h = ap (option_map (λ t. a ∷ t)) h

pub break_is : (line text : List ℕ) → before_break line ≡ Some text → line ≡ text ++ 13 ∷ 10 ∷ []
break_is [] text e = none_some text e
break_is (a ∷ []) text e = none_some text e
break_is (a ∷ b ∷ []) text e =
    ⊎_elim
    (λ yes.
    let each = both (a == carriage_return) (b == line_feed) yes in
    let same = same_Some _ _ (rw yes at e) in
    ap (λ x. x ∷ b ∷ []) (number a 13 each.0) ∙ ap (λ x. 13 ∷ x ∷ []) (number b 10 each.1) ∙ ap (λ t. t ++ 13 ∷ 10 ∷ []) same)
    (λ fails. none_some text (rw fails at e))
    (bool_cases ((a == carriage_return) && (b == line_feed)))
  where
    number : (x n : ℕ) → (x == n) ≡ true → x ≡ n
    number x n h = Prim.grind (arith, nat_tests)
break_is (a ∷ b ∷ c ∷ line) text e = later (before_break (b ∷ c ∷ line)) (λ t h. break_is (b ∷ c ∷ line) t h) e
  where
    later : (o : Option (List ℕ)) → ((t : List ℕ) → o ≡ Some t → b ∷ c ∷ line ≡ t ++ 13 ∷ 10 ∷ []) → option_map (λ t. a ∷ t) o ≡ Some text → a ∷ b ∷ c ∷ line ≡ text ++ 13 ∷ 10 ∷ []
    later None h k = none_some text k
    later (Some t) h k = ap (λ l. a ∷ l) (h t refl) ∙ ap (λ l. l ++ 13 ∷ 10 ∷ []) (same_Some _ _ k)

-- Digits

-- all values, if the first is there
one_more : {Y : Type 0} → Option Y → Option (List Y) → Option (List Y)
one_more None rest = None
one_more (Some y) rest = option_map (λ ys. y ∷ ys) rest

every-cons : {X Y : Type 0} (f : X → Option Y) (x : X) (xs : List X) → every (map f (x ∷ xs)) ≡ one_more (f x) (every (map f xs))
unfolding one_more
every-cons {Y = Y} f x xs = by (f x)
  where
    by : (o : Option Y) → every (o ∷ map f xs) ≡ one_more o (every (map f xs))
    by None = refl
    by (Some y) = refl

both_there : {Y : Type 0} (o : Option Y) (p : Option (List Y)) (ys : List Y) → one_more o p ≡ Some ys → (y : Y) × (zs : List Y) × (o ≡ Some y) × (p ≡ Some zs)
unfolding one_more
both_there None p ys e = none_some ys e
both_there (Some y) None ys e = none_some ys e
both_there (Some y) (Some zs) ys e = (y, zs, refl, refl)

-- a front of a list whose values are all there
all_some : {X Y : Type 0} (f : X → Option Y) (a b : List X) (ys : List Y) → every (map f (a ++ b)) ≡ Some ys → (zs : List Y) × (every (map f a) ≡ Some zs)
unfolding one_more
all_some f [] b ys e = ([], refl)
all_some f (x ∷ a) b ys e =
    let there = both_there (f x) (every (map f (a ++ b))) ys (sym (every-cons f x (a ++ b)) ∙ e) in
    let more = all_some f a b there.1 there.3 in
    (there.0 ∷ more.0, every-cons f x a ∙ ap (λ o. one_more o (every (map f a))) there.2 ∙ ap (one_more (Some there.0)) more.1)

pub digits_apart : (s : ℕ) → digit_value 16 s ≡ None → (ds ys : List ℕ) → every (map (digit_value 16) ds) ≡ Some ys → Free s ds
unfolding Free
digits_apart s none [] ys e = tt
digits_apart s none (c ∷ ds) ys e =
    let there = both_there (digit_value 16 c) (every (map (digit_value 16) ds)) ys (sym (every-cons (digit_value 16) c ds) ∙ e) in
    (other c s (λ same. none_some there.0 (sym none ∙ ap (digit_value 16) (sym same) ∙ there.2)), digits_apart s none ds there.1 there.3)

free_extension : (ds : List ℕ) → Free 10 ds → Free 13 ds → list_all is_extension_byte ds ≡ true
unfolding Free
free_extension [] f g = refl
free_extension (c ∷ ds) f g =
    let here : is_extension_byte c ≡ true = rw (f.0, g.0) refl in
    ap (λ b. b && list_all is_extension_byte ds) here ∙ free_extension ds f.1 g.1

-- the values of digits that make a number
pub digits_there : (ds : List ℕ) (v : ℕ) → number_of_digits 16 ds ≡ Some v → (ys : List ℕ) × (every (map (digit_value 16) ds) ≡ Some ys) × (1 ≤ length ds)
digits_there [] v e = none_some v e
digits_there (c ∷ ds) v e = by (every (map (digit_value 16) (c ∷ ds))) e
  where
    by : (o : Option (List ℕ)) → option_map (fold (λ number digit. number * 16 + digit) 0) o ≡ Some v → (ys : List ℕ) × (o ≡ Some ys) × (1 ≤ length (c ∷ ds))
    by None k = none_some v k
    by (Some ys) k = (ys, refl, omega arith)

-- digits that are there make a number
digits_number : (c : ℕ) (ds ys : List ℕ) → every (map (digit_value 16) (c ∷ ds)) ≡ Some ys → (w : ℕ) × (number_of_digits 16 (c ∷ ds) ≡ Some w)
digits_number c ds ys e = (fold (λ number digit. number * 16 + digit) 0 ys, ap (option_map (fold (λ number digit. number * 16 + digit) 0)) e)

-- The text of a line

abbrev pub text_of : WrittenLine → List ℕ
text_of line = line.digits ++ print_extension line.extension

fits : (ds : List ℕ) (v : ℕ) → number_of_digits 16 ds ≡ Some v → length ds ≤ 8 → size_of ds ≡ Some v
fits ds v e most = ⊎_elim (λ yes. ap (λ b. cond b (number_of_digits 16 ds) None) yes.0 ∙ e) (λ over. let far = over.1 in absurd (omega arith)) (le_cases (length ds) 8)

sized_text : (text : List ℕ) (ds : List ℕ) (v : ℕ) → list_all is_extension_byte text ≡ true → before_extension text ≡ ds → size_of ds ≡ Some v → text_size text ≡ Some v
sized_text text ds v all before size = ap (λ b. cond b (size_of (before_extension text)) None) all ∙ ap size_of before ∙ size

pub before_cut : (text : List ℕ) (parts : List ℕ × List ℕ) → cut_at semicolon text ≡ Some parts → before_extension text ≡ parts.0
before_cut text parts h = rw (h, before_extension) refl

pub before_none : (text : List ℕ) → cut_at semicolon text ≡ None → before_extension text ≡ text
before_none text h = rw (h, before_extension) refl

-- digits and perhaps more
digits_text : (ds : List ℕ) (v : ℕ) → number_of_digits 16 ds ≡ Some v → length ds ≤ 8 → text_size ds ≡ Some v
digits_text ds v e most =
    let there = digits_there ds v e in
    sized_text ds ds v (free_extension ds (digits_apart 10 refl ds there.0 there.1) (digits_apart 13 refl ds there.0 there.1))
    (before_none ds (cut_none 59 ds (digits_apart 59 refl ds there.0 there.1))) (fits ds v e most)

extended_text : (ds x : List ℕ) (v : ℕ) → number_of_digits 16 ds ≡ Some v → length ds ≤ 8 → list_all is_extension_byte x ≡ true → text_size (ds ++ 59 ∷ x) ≡ Some v
extended_text ds x v e most all =
    let there = digits_there ds v e in
    sized_text (ds ++ 59 ∷ x) ds v
    (list_all-append is_extension_byte ds (59 ∷ x) ∙ ap (λ b. b && list_all is_extension_byte (59 ∷ x)) (free_extension ds (digits_apart 10 refl ds there.0 there.1) (digits_apart 13 refl ds there.0 there.1)) ∙ all)
    (before_cut (ds ++ 59 ∷ x) (ds, x) (cut_free 59 ds x refl (digits_apart 59 refl ds there.0 there.1))) (fits ds v e most)

front_passes : (test : ℕ → Bool) (a b : List ℕ) → list_all test (a ++ b) ≡ true → list_all test a ≡ true
front_passes test a b h = (both (list_all test a) (list_all test b) (sym (list_all-append test a b) ∙ h)).0

-- where a text ends within a longer one
pub split_at : (a b ds : List ℕ) (c : ℕ) (x : List ℕ) → a ++ b ≡ ds ++ c ∷ x → ((h : List ℕ) × (ds ≡ a ++ h)) ⊎ ((y : List ℕ) × (a ≡ ds ++ c ∷ y) × (x ≡ y ++ b))
split_at [] b ds c x e = inl (ds, refl)
split_at (p ∷ a) b [] c x e = inr (a, ap (λ l. l ++ a) (ap (take 1) e), sym (ap (drop 1) e))
split_at (p ∷ a) b (q ∷ ds) c x e =
    let head : p ∷ [] ≡ q ∷ [] = ap (take 1) e in
    ⊎_elim
    (λ within. inl (within.0, ap (λ l. q ∷ l) within.1 ∙ ap (λ l. l ++ (a ++ within.0)) (sym head)))
    (λ beyond. inr (beyond.0, ap (λ l. l ++ a) head ∙ ap (λ l. q ∷ l) beyond.1, beyond.2))
    (split_at a b ds c x (ap (drop 1) e))

-- a front of digits, if it has any
digits_front : (a h : List ℕ) (v : ℕ) → 1 ≤ length a → number_of_digits 16 (a ++ h) ≡ Some v → length (a ++ h) ≤ 8 → (w : ℕ) × (text_size a ≡ Some w)
digits_front [] h v some e most = absurd (omega arith)
digits_front (c ∷ a) h v some e most =
    let there = digits_there (c ∷ a ++ h) v e in
    let front = all_some (digit_value 16) (c ∷ a) h there.0 there.1 in
    let number = digits_number c a front.0 front.1 in
    let l = length-append (c ∷ a) h in
    (number.0, digits_text (c ∷ a) number.0 number.1 (omega arith))

pub text_front : (line : WrittenLine) (size : ℕ) → IsLineOf line size → (a b : List ℕ) → 1 ≤ length a → a ++ b ≡ text_of line → (w : ℕ) × (text_size a ≡ Some w)
text_front line size is a b some e = by line.extension is.extension e
  where
    by : (x : Option (List ℕ)) → IsExtension x → a ++ b ≡ line.digits ++ print_extension x → (w : ℕ) × (text_size a ≡ Some w)
    by None h e =
        let split = e ∙ append-nil line.digits in
        digits_front a b size some (ap (number_of_digits 16) split ∙ is.value) (subst (λ l. length l ≤ 8) (sym split) is.most)
    by (Some x) h e =
        ⊎_elim
        (λ within. digits_front a within.0 size some (ap (number_of_digits 16) (sym within.1) ∙ is.value) (subst (λ l. length l ≤ 8) within.1 is.most))
        (λ beyond. (
          size,
          ap text_size beyond.1 ∙ extended_text line.digits beyond.0 size is.value is.most
              (front_passes is_extension_byte beyond.0 b (ap (list_all is_extension_byte) (sym beyond.2) ∙ list_all-from_AllPass is_extension_byte x h)),
        ))
        (split_at a b line.digits 59 x e)

-- the whole text
pub whole_text : (line : WrittenLine) (size : ℕ) → IsLineOf line size → text_size (text_of line) ≡ Some size
whole_text line size is = by line.extension is.extension
  where
    by : (x : Option (List ℕ)) → IsExtension x → text_size (line.digits ++ print_extension x) ≡ Some size
    by None h = ap text_size (append-nil line.digits) ∙ digits_text line.digits size is.value is.most
    by (Some x) h = extended_text line.digits x size is.value is.most (list_all-from_AllPass is_extension_byte x h)

-- Lines

pub line_sized : (text : List ℕ) (size : ℕ) → length (text ++ 13 ∷ 10 ∷ []) ≤ chunk_line_limit → text_size text ≡ Some size → chunk_size (text ++ 13 ∷ 10 ∷ []) ≡ Some size
unfolding chunk_size
line_sized text size short e =
    ⊎_elim
    (λ yes. ap (λ b. cond b (option_and_then text_size (before_break (text ++ 13 ∷ 10 ∷ []))) None) yes.0 ∙ ap (option_and_then text_size) (break_back text) ∙ e)
    (λ over. let far = over.1 in absurd (omega arith))
    (le_cases (length (text ++ 13 ∷ 10 ∷ [])) chunk_line_limit)

pub chunk_size_of : (line : WrittenLine) (size : ℕ) → IsLineOf line size → chunk_size (line_text line) ≡ Some size
chunk_size_of line size is = line_sized (text_of line) size is.within (whole_text line size is)

there_is : (o : Option ℕ) (n : ℕ) → o ≡ Some n → is_some o ≡ true
there_is o n h = rw h refl

pub begins_empty : begins_chunk_line [] ≡ true
unfolding chunk_size cut_at
begins_empty = refl

pub begins_text : (a : List ℕ) (w : ℕ) → text_size a ≡ Some w → length (a ++ 13 ∷ 10 ∷ []) ≤ chunk_line_limit → begins_chunk_line a ≡ true
begins_text a w e short =
    right_or (is_some (chunk_size (a ++ codes "0\r\n"))) _ (left_or (is_some (chunk_size (a ++ codes "\r\n"))) _ (there_is (chunk_size (a ++ codes "\r\n")) w (line_sized a w short e)))

pub begins_return : (text : List ℕ) (w : ℕ) → chunk_size (text ++ 13 ∷ 10 ∷ []) ≡ Some w → begins_chunk_line (text ++ 13 ∷ []) ≡ true
begins_return text w e =
    right_or (is_some (chunk_size ((text ++ 13 ∷ []) ++ codes "0\r\n"))) _ (right_or (is_some (chunk_size ((text ++ 13 ∷ []) ++ codes "\r\n"))) _
    (left_or (is_some (chunk_size ((text ++ 13 ∷ []) ++ codes "\n"))) _ (there_is (chunk_size ((text ++ 13 ∷ []) ++ codes "\n")) w (ap chunk_size (append_assoc text (13 ∷ []) (10 ∷ [])) ∙ e))))

-- no front passes
no_front : (test : List ℕ → Bool) (done xs : List ℕ) → ((a b : List ℕ) → xs ≡ a ++ b → test (done ++ a) ≡ false) → has_front test done xs ≡ false
no_front test done [] h = ap test (sym (append-nil done)) ∙ h [] [] refl
no_front test done (x ∷ xs) h =
    ap (λ b. b || has_front test (done ++ x ∷ []) xs) (ap test (sym (append-nil done)) ∙ h [] (x ∷ xs) refl)
    ∙ no_front test (done ++ x ∷ []) xs (λ a b e. ap test (append_assoc done (x ∷ []) a) ∙ h (x ∷ a) b (ap (λ l. x ∷ l) e))

-- a line of the grammar is not broken
pub not_broken : (line : WrittenLine) (size : ℕ) → IsLineOf line size → is_broken (text_of line ++ 13 ∷ []) ≡ false
unfolding is_broken
not_broken line size is =
    let text = text_of line in
    let long = length-append text (13 ∷ 10 ∷ []) in
    let one = length-append text (13 ∷ []) in
    let within = is.within in
    let short : length (text ++ 13 ∷ []) ≤ chunk_line_limit = omega arith in
    ap (has_front (λ front. not (begins_chunk_line front)) []) (take_all chunk_line_limit (text ++ 13 ∷ []) short)
    ∙ no_front (λ front. not (begins_chunk_line front)) [] (text ++ 13 ∷ []) (λ a b e. ap not (begins a b (sym e)))
  where
    by_text : (a b : List ℕ) → a ++ b ≡ text_of line → begins_chunk_line a ≡ true
    by_text [] b e = begins_empty
    by_text (c ∷ a) b e =
        let front = text_front line size is (c ∷ a) b (omega arith) e in
        let l = ap length e ∙ refl in
        let m = length-append (c ∷ a) b in
        let k = length-append (text_of line) (13 ∷ 10 ∷ []) in
        let i = length-append (c ∷ a) (13 ∷ 10 ∷ []) in
        let within = is.within in
        begins_text (c ∷ a) front.0 front.1 (omega arith)

    begins : (a b : List ℕ) → a ++ b ≡ text_of line ++ 13 ∷ [] → begins_chunk_line a ≡ true
    begins a b e =
        ⊎_elim
        (λ front. by_text a front.0 (sym front.1))
        (λ beyond.
        let none : beyond.0 ≡ [] = front_of_nothing beyond.0 b (sym beyond.2) in
        ap begins_chunk_line (beyond.1 ∙ ap (λ y. text_of line ++ 13 ∷ y) none) ∙ begins_return (text_of line) size (chunk_size_of line size is))
        (split_at a b (text_of line) 13 [] e)
      where
        front_of_nothing : (y z : List ℕ) → y ++ z ≡ [] → y ≡ []
        front_of_nothing [] z h = refl
        front_of_nothing (c ∷ y) z h = cc

-- and each line that states a size is one
size_fits : (ds : List ℕ) (v : ℕ) → size_of ds ≡ Some v → (number_of_digits 16 ds ≡ Some v) × (length ds ≤ 8)
size_fits ds v e =
    ⊎_elim
    (λ yes. (sym (ap (λ b. cond b (number_of_digits 16 ds) None) yes.0) ∙ e, yes.1))
    (λ over. none_some v (sym (ap (λ b. cond b (number_of_digits 16 ds) None) over.0) ∙ e))
    (le_cases (length ds) 8)

Written : List ℕ → ℕ → Type 0
Written text size = (line : WrittenLine) × (text_of line ≡ text) × (number_of_digits 16 line.digits ≡ Some size) × (length line.digits ≤ 8) × IsExtension line.extension

text_is : (text : List ℕ) (size : ℕ) → text_size text ≡ Some size → Written text size
unfolding Written
text_is text size e =
    ⊎_elim
    (λ yes. by_cut (cut_at semicolon text) (λ p h. cut_is semicolon text p h) (λ h. before_none text h) (λ p h. before_cut text p h) yes (sym (ap (λ b. cond b (size_of (before_extension text)) None) yes) ∙ e))
    (λ fails. none_some size (sym (ap (λ b. cond b (size_of (before_extension text)) None) fails) ∙ e))
    (bool_cases (list_all is_extension_byte text))
  where
    by_cut : (o : Option (List ℕ × List ℕ)) → ((p : List ℕ × List ℕ) → o ≡ Some p → text ≡ p.0 ++ 59 ∷ p.1) → (o ≡ None → before_extension text ≡ text) → ((p : List ℕ × List ℕ) → o ≡ Some p → before_extension text ≡ p.0)
        → list_all is_extension_byte text ≡ true → size_of (before_extension text) ≡ Some size → Written text size
    by_cut None split none some all size_is =
        let fit = size_fits text size (ap size_of (sym (none refl)) ∙ size_is) in
        (record { digits = text; extension = None }, append-nil text, fit.0, fit.1, tt)
    by_cut (Some p) split none some all size_is =
        let fit = size_fits p.0 size (ap size_of (sym (some p refl)) ∙ size_is) in
        let whole = sym (list_all-append is_extension_byte p.0 (59 ∷ p.1)) ∙ ap (list_all is_extension_byte) (sym (split p refl)) ∙ all in
        (record { digits = p.0; extension = Some p.1 }, sym (split p refl), fit.0, fit.1, AllPass-from_list_all is_extension_byte p.1 (both (list_all is_extension_byte p.0) (list_all is_extension_byte p.1) whole).1)

line_is_written : (line : List ℕ) (size : ℕ) → chunk_size line ≡ Some size → (written : WrittenLine) × IsLineOf written size × (line_text written ≡ line)
unfolding chunk_size Written
line_is_written line size e =
    ⊎_elim
    (λ yes. by_break yes.1 (before_break line) (λ t h. break_is line t h) (sym (ap (λ b. cond b (option_and_then text_size (before_break line)) None) yes.0) ∙ e))
    (λ over. none_some size (sym (ap (λ b. cond b (option_and_then text_size (before_break line)) None) over.0) ∙ e))
    (le_cases (length line) chunk_line_limit)
  where
    by_break : length line ≤ chunk_line_limit → (o : Option (List ℕ)) → ((t : List ℕ) → o ≡ Some t → line ≡ t ++ 13 ∷ 10 ∷ []) → option_and_then text_size o ≡ Some size → (written : WrittenLine) × IsLineOf written size × (line_text written ≡ line)
    by_break short None h k = none_some size k
    by_break short (Some t) h k =
        let w = text_is t size k in
        let same : line_text w.0 ≡ line = ap (λ l. l ++ 13 ∷ 10 ∷ []) w.1 ∙ sym (h t refl) in
        (w.0, record { value = w.2; most = w.3; extension = w.4; within = subst (λ l. length l ≤ chunk_line_limit) (sym same) short }, same)

pub lines_are_the_grammar : LinesAreTheGrammar
lines_are_the_grammar line size =
    (λ e. line_is_written line size e, λ w. ap chunk_size (sym w.2) ∙ chunk_size_of w.0 size w.1)
