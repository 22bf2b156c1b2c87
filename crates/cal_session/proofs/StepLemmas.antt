-- What is taken, written, looked up and noted goes on by one answer.
use Rattle.std.proofs.Common.{◌≡◌, ℕ, ◌+◌, inl, inr, List, [], ◌∷◌, ◌++◌, length, map, arith, refl, sym, ap, subst, ◌∙◌, Option, Some, None}
use Rattle.std.specs.Prelude.{filter}
use Rattle.std.proofs.lemmas.List.{append-nil, append_assoc}
use Rattle.std.proofs.lemmas.List.Elements.{filter-append}
use Rattle.cal_base.specs.World.Outside.{Takes, Adds}
use Rattle.cal_model.specs.Replies.WireReplies.{answer_octets}
use Rattle.cal_model.specs.Users.UsersFile.{Users}
use Rattle.cal_session.specs.Connections.{replies_from, replies_of}
use Rattle.cal_session.specs.Turns.{Answer, is_given, places_given, IsWithin, LooksUp}

-- Octets

pub adds_on : (first second third : Option (List ℕ)) (p q : List ℕ) → Adds first p second → Adds second q third → Adds first (p ++ q) third
adds_on None second third p q h g = tt
adds_on (Some xs) second third p q h g = subst (λ (w : Option (List ℕ)). Adds w q third) h g ∙ ap (λ l. Some l) (append_assoc xs p q)

pub adds_none : (written : Option (List ℕ)) → Adds written [] written
adds_none None = tt
adds_none (Some xs) = ap (λ l. Some l) (sym (append-nil xs))

pub takes_on : (first second third : Option (List ℕ)) (p q : List ℕ) → Takes first p second → Takes second q third → Takes first (p ++ q) third
takes_on None second third p q h g = tt
takes_on (Some xs) second third p q (ys, is, parts) g =
    let on = subst (λ (w : Option (List ℕ)). Takes w q third) is g in
    (on.0, on.1, parts ∙ (ap (λ l. p ++ l) on.2 ∙ sym (append_assoc p q on.0)))

pub takes_none : (left : Option (List ℕ)) → Takes left [] left
takes_none None = tt
takes_none (Some xs) = (xs, refl, refl)

-- Replies

further_from : (n : ℕ) (answers : List Answer) (a : Answer) → replies_from n (answers ++ a ∷ []) ≡ replies_from n answers ++ answer_octets (n + length answers) a.wire a.reply a.turn.moment
further_from n [] a = append-nil (answer_octets n a.wire a.reply a.turn.moment) ∙ ap (λ m. answer_octets m a.wire a.reply a.turn.moment) (omega arith)
further_from n (b ∷ answers) a =
    ap (λ l. answer_octets n b.wire b.reply b.turn.moment ++ l) (further_from (n + 1) answers a)
    ∙ (sym (append_assoc (answer_octets n b.wire b.reply b.turn.moment) (replies_from (n + 1) answers) (answer_octets ((n + 1) + length answers) a.wire a.reply a.turn.moment))
    ∙ ap (λ m. (answer_octets n b.wire b.reply b.turn.moment ++ replies_from (n + 1) answers) ++ answer_octets m a.wire a.reply a.turn.moment) (omega arith))

pub replies_further : (answers : List Answer) (a : Answer) → replies_of (answers ++ a ∷ []) ≡ replies_of answers ++ answer_octets (length answers) a.wire a.reply a.turn.moment
replies_further answers a = further_from 0 answers a ∙ ap (λ m. replies_of answers ++ answer_octets m a.wire a.reply a.turn.moment) (omega arith)

pub map_further : {X Y : Type 0} (f : X → Y) (xs : List X) (x : X) → map f (xs ++ x ∷ []) ≡ map f xs ++ f x ∷ []
map_further f [] x = refl
map_further f (y ∷ xs) x = ap (λ l. f y ∷ l) (map_further f xs x)

pub map_len : {X Y : Type 0} (f : X → Y) (xs : List X) → length (map f xs) ≡ length xs
map_len f [] = refl
map_len f (x ∷ xs) = let e = map_len f xs in omega (arith, e)

-- Looks

within_before : (ys xs zs : List ℕ) → IsWithin xs zs → IsWithin xs (ys ++ zs)
within_before [] xs zs h = h
within_before (y ∷ ys) [] zs h = tt
within_before (y ∷ ys) (x ∷ xs) zs h = inr (within_before ys (x ∷ xs) zs h)

within_both : (ys xs zs us : List ℕ) → IsWithin xs ys → IsWithin us zs → IsWithin (xs ++ us) (ys ++ zs)
within_both ys [] zs us h g = within_before ys us zs g
within_both [] (x ∷ xs) zs us h g = absurd h
within_both (y ∷ ys) (x ∷ xs) zs us (inl (same, h)) g = inl (same, within_both ys xs zs us h g)
within_both (y ∷ ys) (x ∷ xs) zs us (inr h) g = inr (within_both ys (x ∷ xs) zs us h g)

map_both : (xs ys : List Answer) → map (λ (answer : Answer). answer.turn.at) (xs ++ ys) ≡ map (λ (answer : Answer). answer.turn.at) xs ++ map (λ (answer : Answer). answer.turn.at) ys
map_both [] ys = refl
map_both (x ∷ xs) ys = ap (λ l. x.turn.at ∷ l) (map_both xs ys)

places_both : (users : Users) (xs ys : List Answer) → places_given users (xs ++ ys) ≡ places_given users xs ++ places_given users ys
places_both users xs ys = ap (λ l. map (λ (answer : Answer). answer.turn.at) l) (filter-append (is_given users) xs ys) ∙ map_both (filter (is_given users) xs) (filter (is_given users) ys)

pub looks_on : (users : Users) (before now after : List ℕ) (answers more : List Answer) → LooksUp users before answers now → LooksUp users now more after → LooksUp users before (answers ++ more) after
looks_on users before now after answers more h g = record {
  looks = h.looks ++ g.looks;
  grown = g.grown ∙ (ap (λ l. l ++ g.looks) h.grown ∙ append_assoc before h.looks g.looks);
  within = subst (λ l. IsWithin l (h.looks ++ g.looks)) (sym (places_both users answers more)) (within_both h.looks (places_given users answers) g.looks (places_given users more) h.within g.within);
}

pub looks_none : (users : Users) (looks : List ℕ) → LooksUp users looks [] looks
looks_none users looks = record { looks = []; grown = sym (append-nil looks); within = tt }
