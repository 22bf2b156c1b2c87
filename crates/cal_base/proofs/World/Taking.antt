-- What several calls on a stream do one after the other.
use Rattle.std.proofs.Common.{◌≡◌, ℕ, ◌+◌, ◌≤◌, arith, sym, ap, subst, ◌∙◌, List, [], ◌++◌, length, take, drop, length-append, Option, Some, None}
use Rattle.std.proofs.lemmas.List.{append_assoc}
use Rattle.std.proofs.Math.Seq.{take-add}
use Rattle.cal_base.specs.World.Outside.{Takes, TakesUpTo, Goes, Adds}

-- two pieces one after the other
pub Takes-more : (old mid new : Option (List ℕ)) (xs ys : List ℕ) → Takes old xs mid → Takes mid ys new → Takes old (xs ++ ys) new
Takes-more None mid new xs ys t u = tt
Takes-more (Some zs) mid new xs ys (rest, e, f) u =
    let v : Takes (Some rest) ys new = subst (λ m. Takes m ys new) e u in
    (v.0, v.1, f ∙ (ap (λ r. xs ++ r) v.2 ∙ sym (append_assoc xs ys v.0)))

-- first one piece, and then more
pub Goes-more : (old mid new : Option (List ℕ)) (xs ys zs : List ℕ) → Goes old mid xs ys → Goes mid new ys zs → Goes old new xs zs
Goes-more old mid new xs ys zs (ps, t, e) (qs, u, f) =
    (ps ++ qs, Takes-more old mid new ps qs t u, f ∙ (ap (λ l. l ++ qs) e ∙ append_assoc xs ps qs))

-- what went to an empty list was taken
pub Goes-takes : (old new : Option (List ℕ)) (all : List ℕ) → Goes old new [] all → Takes old all new
Goes-takes old new all (ps, t, e) = subst (λ l. Takes old l new) (sym e) t

-- it is no more than the list has
pub Goes-up_to : (n : ℕ) (old new : Option (List ℕ)) (all : List ℕ) → Goes old new [] all → length all ≤ n → TakesUpTo n old new
Goes-up_to n old new all g h = (all, Goes-takes old new all g, h)

-- and with what was taken afterwards no more than both
pub Goes-then : (n spare : ℕ) (old mid new : Option (List ℕ)) (all : List ℕ) →
    Goes old mid [] all → TakesUpTo spare mid new → length all + spare ≤ n → TakesUpTo n old new
Goes-then n spare old mid new all g (qs, u, h) k =
    (all ++ qs, Takes-more old mid new all qs (Goes-takes old mid all g) u, omega (arith, length-append all qs))

-- two pieces written one after the other
pub Adds-more : (old mid new : Option (List ℕ)) (xs ys : List ℕ) → Adds old xs mid → Adds mid ys new → Adds old (xs ++ ys) new
Adds-more None mid new xs ys a b = tt
Adds-more (Some zs) mid new xs ys e b =
    let v : Adds (Some (zs ++ xs)) ys new = subst (λ m. Adds m ys new) e b in
    v ∙ ap (λ (l : List ℕ). Some l) (append_assoc zs xs ys)

-- the next part of a piece
pub Adds-next : (old mid new : Option (List ℕ)) (piece rest : List ℕ) (done n : ℕ) → rest ≡ drop done piece →
    Adds old (take done piece) mid → Adds mid (take n rest) new → Adds old (take (done + n) piece) new
Adds-next old mid new piece rest done n e a b =
    let both : Adds old (take done piece ++ take n rest) new = Adds-more old mid new (take done piece) (take n rest) a b in
    subst (λ l. Adds old l new) (ap (λ r. take done piece ++ take n r) e ∙ sym (take-add done n piece)) both
