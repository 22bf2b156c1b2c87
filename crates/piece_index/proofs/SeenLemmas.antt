-- The index as its contracts see it, after a node was taken out or put in.
use Rattle.std.proofs.Common.{◌≡◌, ℕ, ◌==◌, if◌then◌else◌, cond, List, [], ◌∷◌, Option, Some, None, IsSome, refl, sym, ap, ◌∙◌, subst, inl, inr, arith}
use Rattle.std.proofs.lemmas.Bool.{cases_eq}
use Rattle.std.specs.Option.{option_map}
use Rattle.std.specs.List.{AllByRecursion}
use Rattle.std.specs.Ordering.{nat_cmp}
use Rattle.std.specs.Map.{lookup}
use Rattle.std.specs.BTreeMap as btree
use Rattle.std.specs.BTreeMap.{BTreeMap, is_at}
use Rattle.std.proofs.lemmas.Bool.Decides.{nat_tests}
use Rattle.piece_index.specs.Firsts.{first_at}
use Rattle.slab.specs.Slab.{Slab, get}
use Rattle.cal_model.specs.declared.piece.Piece.{Piece}
use Rattle.piece_index.specs.declared.node.Node.{Node}
use Rattle.piece_index.specs.Chains.{past}
use Rattle.piece_index.specs.Nodes.{piece_at}
use Rattle.piece_index.specs.Entries.{piece_of, removed, entries_of, or_else, IsIndexed, IsTaken, IsPut}
use Rattle.piece_index.proofs.IndexLemmas.{entries_of_indexed, indexed_as_seen, indexed_cut, indexed_join, piece_found}

some_is : {X : Type 0} (o : Option X) → IsSome o → (x : X) × (o ≡ Some x)
some_is None h = absurd (cc)
some_is (Some x) h = (x, refl)

there : (nodes : Slab Node) (k : ℕ) (p : Piece) (es : List (ℕ × Piece)) → piece_of k es ≡ Some p → AllByRecursion (λ (e : ℕ × Piece). piece_at nodes e.0 ≡ Some e.1) es → get nodes k ≡ None → ⊥
there nodes k p [] found h none = cc
there nodes k p (e ∷ es) found h none =
    elim (cases_eq e.0 k) [
      | inl same ↦ (let f : Some e.1 ≡ None = sym h.0 ∙ ap (piece_at nodes) same ∙ ap (option_map (λ (n : Node). n.piece)) none in cc)
      | inr far ↦ (let later : piece_of k es ≡ Some p = grind arith in there nodes k p es later h.1 none)
    ]

-- a number among the entries is that of a node
pub never_missing : (nodes : Slab Node) (first_of : ℕ → Option ℕ) (newest oldest : Option ℕ) (es : List (ℕ × Piece)) (k : ℕ) → IsIndexed nodes first_of newest oldest es → IsSome (piece_of k es) → get nodes k ≡ None → ⊥
never_missing nodes first_of newest oldest es k i some none =
    let found = some_is (piece_of k es) some in there nodes k found.0 es found.1 i.pieces none

pub record Afterwards (nodes : Slab Node) (first_of : ℕ → Option ℕ) (newest oldest : Option ℕ) (es : List (ℕ × Piece)) : Type 0 where
  pub indexed : IsIndexed nodes first_of newest oldest (entries_of nodes newest)
  pub seen : entries_of nodes newest ≡ es

pub after_cut : (old new : Slab Node) (k : ℕ) (gone : Node) → IsTaken old new k gone → (first_of first_of' : ℕ → Option ℕ) (newest oldest : Option ℕ) (es : List (ℕ × Piece)) → IsSome (piece_of k es) → ((o : ℕ) → first_of' o ≡ (if o == gone.piece.origin then past k gone.next (first_of o) else first_of o)) → IsIndexed old first_of newest oldest es → Afterwards new first_of' (past k gone.older newest) (past k gone.newer oldest) (removed k es)
after_cut old new k gone taken first_of first_of' newest oldest es some moved i =
    let found = some_is (piece_of k es) some in
    let after = indexed_cut old new k gone taken first_of first_of' newest oldest es found.0 found.1 moved i in
    record { indexed = indexed_as_seen new first_of' _ _ _ after; seen = entries_of_indexed new first_of' _ _ _ after }

pub piece_taken : (old new : Slab Node) (k : ℕ) (gone : Node) → IsTaken old new k gone → (first_of : ℕ → Option ℕ) (newest oldest : Option ℕ) (es : List (ℕ × Piece)) → IsSome (piece_of k es) → IsIndexed old first_of newest oldest es → Some gone.piece ≡ piece_of k es
piece_taken old new k gone taken first_of newest oldest es some i =
    let found = some_is (piece_of k es) some in
    sym (found.1 ∙ ap Some (piece_found old new k gone taken es found.0 found.1 i.pieces))

-- more room, and a map with the same values
pub roomier : (nodes roomy : Slab Node) (first_of first_of' : ℕ → Option ℕ) (newest oldest : Option ℕ) → roomy ≡ record nodes { capacity = roomy.capacity } → ((o : ℕ) → first_of' o ≡ first_of o) → IsIndexed nodes first_of newest oldest (entries_of nodes newest) → IsIndexed roomy first_of' newest oldest (entries_of roomy newest)
roomier nodes roomy first_of first_of' newest oldest grown same i =
    let P : Slab Node → Type 0 = λ n. IsIndexed n first_of' newest oldest (entries_of n newest) in
    subst P (sym grown)
    (record {
      apart = i.apart;
      pieces = i.pieces;
      by_age = i.by_age;
      ages_agree = i.ages_agree;
      by_object = i.by_object;
      objects_agree = i.objects_agree;
      firsts = λ o. same o ∙ i.firsts o;
      newest_is = i.newest_is;
      oldest_is = i.oldest_is;
      size = i.size;
    })

pub seen_roomier : (nodes roomy : Slab Node) (newest : Option ℕ) → roomy ≡ record nodes { capacity = roomy.capacity } → entries_of roomy newest ≡ entries_of nodes newest
seen_roomier nodes roomy newest grown = ap (λ n. entries_of n newest) grown

-- a query of the map by its key
pub is_at-nat : (a q : ℕ) → is_at (nat_cmp a) q ≡ (q == a)
is_at-nat a q = grind (arith, nat_tests)

pub first_at_inserted : (old new : BTreeMap ℕ ℕ) (a k : ℕ) → ((q : ℕ) → btree.get nat_cmp new q ≡ cond (is_at (nat_cmp a) q) (Some k) (btree.get nat_cmp old q)) → (o : ℕ) → first_at new o ≡ (if o == a then Some k else first_at old o)
first_at_inserted old new a k h o = h o ∙ ap (λ b. cond b (Some k) (first_at old o)) (is_at-nat a o)

pub first_at_kept : (old new : BTreeMap ℕ ℕ) → new.entries ≡ old.entries → (o : ℕ) → first_at new o ≡ first_at old o
first_at_kept old new same o = ap (lookup (is_at (nat_cmp o))) same

pub after_join : (old new : Slab Node) (k : ℕ) (node : Node) → IsPut old new k node → (first_of first_of' : ℕ → Option ℕ) (newest oldest : Option ℕ) (es : List (ℕ × Piece)) → node.newer ≡ None → node.previous ≡ None → node.older ≡ newest → node.next ≡ first_of node.piece.origin → ((o : ℕ) → first_of' o ≡ (if o == node.piece.origin then Some k else first_of o)) → IsIndexed old first_of newest oldest es → Afterwards new first_of' (Some k) (or_else oldest k) ((k, node.piece) ∷ es)
after_join old new k node is_put first_of first_of' newest oldest es no_newer no_previous before_newest before_first moved i =
    let after = indexed_join old new k node is_put first_of first_of' newest oldest es no_newer no_previous before_newest before_first moved i in
    record { indexed = indexed_as_seen new first_of' _ _ _ after; seen = entries_of_indexed new first_of' _ _ _ after }
