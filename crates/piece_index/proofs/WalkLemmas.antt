-- Going along a chain.
use Rattle.std.proofs.Common.{◌≡◌, ℕ, zero, suc, ◌≤◌, ◌<◌, Bool, true, false, ◌&&◌, ◌==◌, if◌then◌else◌, List, [], ◌∷◌, map, filter, length, Option, Some, None, refl, sym, ap, ◌∙◌, subst, arith}
use Rattle.std.specs.Prelude.{ℤ, filter_map}
use Rattle.std.specs.Ordering.{int_eq}
use Rattle.std.proofs.lemmas.List.{length-map}
use Rattle.std.proofs.lemmas.List.Sums.{length-filter, count_by-le-length}
use Rattle.slab.specs.Slab.{Slab, get, slab_len}
use Rattle.cal_model.specs.declared.piece.Piece.{Piece}
use Rattle.cal_model.specs.declared.row.Row.{Row}
use Rattle.piece_index.specs.declared.node.Node.{Node}
use Rattle.piece_index.specs.Chains.{first, IsPath}
use Rattle.piece_index.specs.Nodes.{next, piece_at}
use Rattle.piece_index.specs.Entries.{keys, is_of, keys_of, walk, entry_at, IsIndexed}
use Rattle.cal_model.specs.Pieces.PieceLists.{rows_at}
use Rattle.piece_index.specs.Walks.{IsWalked, rows_of_window, entries_from}
use Rattle.piece_index.proofs.IndexLemmas.{listed, all_filter}

walk_more : (after : ℕ → Option ℕ) (n : ℕ) (at : Option ℕ) → at ≡ first (walk n after at) → IsPath after (walk n after at) → walk (suc n) after at ≡ walk n after at
walk_more after zero None start path = refl
walk_more after zero (Some k) start path = absurd (cc)
walk_more after (suc n) None start path = refl
walk_more after (suc n) (Some k) start path = ap (λ ks. k ∷ ks) (walk_more after n (after k) path.0 path.1)

walk_end : (after : ℕ → Option ℕ) (n : ℕ) → walk n after None ≡ []
walk_end after zero = refl
walk_end after (suc n) = refl

-- one step along
pub walk_on : (after : ℕ → Option ℕ) (n : ℕ) (k : ℕ) → IsWalked after n (Some k) → walk n after (Some k) ≡ k ∷ walk n after (after k)
walk_on after zero k w = absurd (let e = w.start in cc)
walk_on after (suc n) k w = ap (λ ks. k ∷ ks) (sym (walk_more after n (after k) w.path.0 w.path.1))

pub walked_on : (after : ℕ → Option ℕ) (n : ℕ) (k : ℕ) → IsWalked after n (Some k) → IsWalked after n (after k)
walked_on after n k w =
    let path = subst (IsPath after) (walk_on after n k w) w.path in
    record { start = path.0; path = path.1 }

pub walk_enough : (after : ℕ → Option ℕ) (n : ℕ) (ks : List ℕ) → length ks ≤ n → IsPath after ks → walk n after (first ks) ≡ ks
walk_enough after zero [] enough path = refl
walk_enough after (suc n) [] enough path = refl
walk_enough after zero (k ∷ ks) enough path = absurd (omega arith)
walk_enough after (suc n) (k ∷ ks) enough path =
    ap (λ xs. k ∷ xs) (ap (walk n after) path.0 ∙ walk_enough after n ks (omega arith) path.1)

-- the entries from a node on: its own, and those from the next one on
pub entries_step : (nodes : Slab Node) (k : ℕ) (node : Node) → get nodes k ≡ Some node → IsWalked (next nodes) (slab_len nodes) (Some k) → entries_from nodes (Some k) ≡ (k, node.piece) ∷ entries_from nodes node.next
entries_step nodes k node found w =
    let on : filter_map (entry_at nodes) (k ∷ walk (slab_len nodes) (next nodes) (next nodes k)) ≡ (k, node.piece) ∷ entries_from nodes node.next = rw found refl in
    ap (filter_map (entry_at nodes)) (walk_on (next nodes) (slab_len nodes) k w) ∙ on

pub entries_at_end : (nodes : Slab Node) → entries_from nodes None ≡ []
entries_at_end nodes = ap (filter_map (entry_at nodes)) (walk_end (next nodes) (slab_len nodes))

pub rows_step : (nodes : Slab Node) (window : ℤ) (k : ℕ) (node : Node) → get nodes k ≡ Some node → IsWalked (next nodes) (slab_len nodes) (Some k) → rows_of_window window (entries_from nodes (Some k)) ≡ (if int_eq node.piece.window window then Some node.piece.rows else rows_of_window window (entries_from nodes node.next))
rows_step nodes window k node found w = ap (rows_of_window window) (entries_step nodes k node found w)

-- the walk from the next one on is shorter
pub walk_shorter : (nodes : Slab Node) (k : ℕ) → IsWalked (next nodes) (slab_len nodes) (Some k) → length (walk (slab_len nodes) (next nodes) (next nodes k)) < length (walk (slab_len nodes) (next nodes) (Some k))
walk_shorter nodes k w = omega (arith, ap length (walk_on (next nodes) (slab_len nodes) k w))

pub rows_at_end : (nodes : Slab Node) (window : ℤ) → rows_of_window window (entries_from nodes None) ≡ None
rows_at_end nodes window = ap (rows_of_window window) (entries_at_end nodes)

-- What an index gives

length-keys : (es : List (ℕ × Piece)) → length (keys es) ≡ length es
length-keys es = grind (arith, length-map)

length-filter-le : (p : ℕ × Piece → Bool) (es : List (ℕ × Piece)) → length (filter p es) ≤ length es
length-filter-le p es = omega (arith, length-filter p es, count_by-le-length p es)

rows_of_object : (origin : ℕ) (window : ℤ) (es : List (ℕ × Piece)) → rows_of_window window (filter (is_of origin) es) ≡ rows_at origin window (map (λ (e : ℕ × Piece). e.1) es)
rows_of_object origin window [] = refl
rows_of_object origin window (e ∷ es) =
    elim (e.1.origin == origin) as (λ b. rows_of_window window (if b then e ∷ filter (is_of origin) es else filter (is_of origin) es) ≡ (if b && int_eq e.1.window window then Some e.1.rows else rows_at origin window (map (λ (e : ℕ × Piece). e.1) es))) [
      | true ↦ ap (λ (r : Option (List Row)). if int_eq e.1.window window then Some e.1.rows else r) (rows_of_object origin window es)
      | false ↦ rows_of_object origin window es
    ]

-- what is found of an object is found among its own pieces
pub rows_of_own : (origin : ℕ) (window : ℤ) (es : List (ℕ × Piece)) → rows_at origin window (map (λ (e : ℕ × Piece). e.1) (filter (is_of origin) es)) ≡ rows_at origin window (map (λ (e : ℕ × Piece). e.1) es)
rows_of_own origin window [] = refl
rows_of_own origin window (e ∷ es) =
    by_test (e.1.origin == origin) refl (rows_of_own origin window es)
  where
    by_test : (b : Bool) → (e.1.origin == origin) ≡ b → rows_at origin window (map (λ (e : ℕ × Piece). e.1) (filter (is_of origin) es)) ≡ rows_at origin window (map (λ (e : ℕ × Piece). e.1) es) → rows_at origin window (map (λ (e : ℕ × Piece). e.1) (if b then e ∷ filter (is_of origin) es else filter (is_of origin) es)) ≡ (if b && int_eq e.1.window window then Some e.1.rows else rows_at origin window (map (λ (e : ℕ × Piece). e.1) es))
    by_test true is rest =
        ap (λ t. if t && int_eq e.1.window window then Some e.1.rows else rows_at origin window (map (λ (e : ℕ × Piece). e.1) (filter (is_of origin) es))) is
        ∙ ap (λ (r : Option (List Row)). if int_eq e.1.window window then Some e.1.rows else r) rest
    by_test false is rest = rest

module _ (nodes : Slab Node) (first_of : ℕ → Option ℕ) (newest oldest : Option ℕ) (es : List (ℕ × Piece)) (i : IsIndexed nodes first_of newest oldest es) (origin : ℕ) where
  walk_object : walk (slab_len nodes) (next nodes) (first_of origin) ≡ keys_of origin es
  walk_object =
      ap (walk (slab_len nodes) (next nodes)) (i.firsts origin)
      ∙ walk_enough (next nodes) (slab_len nodes) (keys_of origin es) (omega (arith, i.size, length-keys (filter (is_of origin) es), length-filter-le (is_of origin) es)) (i.by_object origin).path

  pub walked_object : IsWalked (next nodes) (slab_len nodes) (first_of origin)
  walked_object =
      record {
        start = i.firsts origin ∙ sym (ap first walk_object);
        path = subst (IsPath (next nodes)) (sym walk_object) (i.by_object origin).path;
      }

  pub entries_found : entries_from nodes (first_of origin) ≡ filter (is_of origin) es
  entries_found =
      ap (filter_map (entry_at nodes)) walk_object ∙ listed nodes (filter (is_of origin) es) (all_filter (λ (e : ℕ × Piece). piece_at nodes e.0 ≡ Some e.1) (is_of origin) es i.pieces)

  pub rows_found : (window : ℤ) → rows_of_window window (entries_from nodes (first_of origin)) ≡ rows_at origin window (map (λ (e : ℕ × Piece). e.1) es)
  rows_found window = ap (rows_of_window window) entries_found ∙ rows_of_object origin window es
