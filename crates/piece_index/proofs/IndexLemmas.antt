-- The index stays linked when a node is taken out or put in.
use Rattle.std.proofs.Common.{◌≡◌, ◌≢◌, ◌↔◌, ℕ, Bool, true, false, ◌==◌, if◌then◌else◌, List, [], ◌∷◌, filter, length, Option, Some, None, refl, sym, ap, ◌∙◌, subst, inl, inr, arith}
use Rattle.std.proofs.lemmas.Bool.{cases_eq}
use Rattle.std.proofs.lemmas.List.{length-map}
use Rattle.std.specs.Prelude.{filter_map}
use Rattle.std.specs.Option.{option_and_then, option_map}
use Rattle.std.specs.List.{last_or, AllByRecursion}
use Rattle.slab.specs.Slab.{Slab, get, slab_len}
use Rattle.cal_model.specs.declared.piece.Piece.{Piece}
use Rattle.piece_index.specs.declared.node.Node.{Node}
use Rattle.piece_index.specs.Chains.{first, past, IsAbsent, IsApart, IsMutual, IsChain, IsCut, IsJoin}
use Rattle.piece_index.specs.Nodes.{spliced, closed, older, newer, previous, next, piece_at}
use Rattle.piece_index.specs.Entries.{keys, is_of, keys_of, piece_of, removed, walk, entry_at, entries_of, joined, or_else, IsIndexed, IsTaken, IsPut}
use Rattle.piece_index.proofs.ChainLemmas.{past_same, past_other, past_absent, first_cut, chain_cut, mutual_cut, last_cut, spliced_here, spliced_else, cases_some, path_joined, mutual_join}
use Rattle.piece_index.proofs.EntryLemmas.{filter_own, filter_other, removed_else, keys-removed, keys_of-removed, absent_filter, apart_without, absent_first, apart_filter, not_to_itself, member_of, member, absent_elsewhere, length-removed, walk_path, last_or_else}

-- What the nodes show is the entries

pub listed : (nodes : Slab Node) (es : List (ℕ × Piece)) → AllByRecursion (λ (e : ℕ × Piece). piece_at nodes e.0 ≡ Some e.1) es → filter_map (entry_at nodes) (keys es) ≡ es
listed nodes [] h = refl
listed nodes (e ∷ es) h = rw h.0 (ap (λ xs. e ∷ xs) (listed nodes es h.1))

pub entries_of_indexed : (nodes : Slab Node) (first_of : ℕ → Option ℕ) (newest oldest : Option ℕ) (es : List (ℕ × Piece)) → IsIndexed nodes first_of newest oldest es → entries_of nodes newest ≡ es
entries_of_indexed nodes first_of newest oldest es i =
    let walked : walk (slab_len nodes) (older nodes) newest ≡ keys es =
    ap (λ n. walk n (older nodes) newest) (i.size ∙ sym (keys_length es)) ∙ ap (walk (length (keys es)) (older nodes)) i.newest_is ∙ walk_path (older nodes) (keys es) i.by_age.path in
    ap (filter_map (entry_at nodes)) walked ∙ listed nodes es i.pieces
  where
    keys_length : (xs : List (ℕ × Piece)) → length (keys xs) ≡ length xs
    keys_length xs = grind (arith, length-map)

-- the same index, as the model sees it
pub indexed_as_seen : (nodes : Slab Node) (first_of : ℕ → Option ℕ) (newest oldest : Option ℕ) (es : List (ℕ × Piece)) → IsIndexed nodes first_of newest oldest es → IsIndexed nodes first_of newest oldest (entries_of nodes newest)
indexed_as_seen nodes first_of newest oldest es i = subst (IsIndexed nodes first_of newest oldest) (sym (entries_of_indexed nodes first_of newest oldest es i)) i

-- Taking a node out

closes : (k j : ℕ) (b a x : Option ℕ) → (b ≡ Some j → x ≡ Some k) → (x ≡ Some k → b ≡ Some j) → spliced b j a x ≡ past k a x
closes k j b a x forth back =
    elim (cases_some b j) [
      | inl at ↦ ap (λ c. spliced c j a x) at ∙ spliced_here j a x ∙ sym (ap (past k a) (forth at) ∙ past_same k a)
      | inr off ↦ spliced_else b j a x off ∙ kept x (λ e. off (back e))
    ]
  where
    kept : (x : Option ℕ) → x ≢ Some k → x ≡ past k a x
    kept None h = refl
    kept (Some n) h = sym (past_other k a n (λ e. h (ap Some e)))

module _ (old new : Slab Node) (k : ℕ) (gone : Node) (taken : IsTaken old new k gone) where
  -- along any link f, whose way back is b
  link_cut : (f b : Node → Option ℕ) → ((j : ℕ) (n : Node) → f (closed gone j n) ≡ spliced (b gone) j (f gone) (f n)) → ((j m : ℕ) → (option_and_then f (get old j) ≡ Some m) ↔ (option_and_then b (get old m) ≡ Some j)) → (j : ℕ) → j ≢ k → option_and_then f (get new j) ≡ past k (option_and_then f (get old k)) (option_and_then f (get old j))
  link_cut f b closes_link agree j far =
      ap (option_and_then f) (taken.others j far) ∙ by_node (get old j) refl
    where
      by_node : (o : Option Node) → get old j ≡ o → option_and_then f (option_map (closed gone j) o) ≡ past k (option_and_then f (get old k)) (option_and_then f o)
      by_node None e = refl
      by_node (Some n) e =
          closes_link j n
          ∙ closes k j (b gone) (f gone) (f n)
          (λ at. sym (ap (option_and_then f) e) ∙ (agree j k).1 (ap (option_and_then b) taken.was ∙ at))
          (λ at. sym (ap (option_and_then b) taken.was) ∙ (agree j k).0 (ap (option_and_then f) e ∙ at))
          ∙ ap (λ x. past k x (f n)) (sym (ap (option_and_then f) taken.was))

  age_cut : IsMutual (newer old) (older old) → IsCut (newer old) (older old) (newer new) (older new) k
  age_cut agree =
      record {
        after_gone = ap (option_and_then (λ (n : Node). n.older)) taken.is_gone;
        before_gone = ap (option_and_then (λ (n : Node). n.newer)) taken.is_gone;
        after_cut = link_cut (λ n. n.older) (λ n. n.newer) (λ j n. refl) agree;
        before_cut = link_cut (λ n. n.newer) (λ n. n.older) (λ j n. refl) (λ j m. ((agree m j).1, (agree m j).0));
      }

  object_cut : IsMutual (previous old) (next old) → IsCut (previous old) (next old) (previous new) (next new) k
  object_cut agree =
      record {
        after_gone = ap (option_and_then (λ (n : Node). n.next)) taken.is_gone;
        before_gone = ap (option_and_then (λ (n : Node). n.previous)) taken.is_gone;
        after_cut = link_cut (λ n. n.next) (λ n. n.previous) (λ j n. refl) agree;
        before_cut = link_cut (λ n. n.previous) (λ n. n.next) (λ j n. refl) (λ j m. ((agree m j).1, (agree m j).0));
      }

  piece_kept : (j : ℕ) → j ≢ k → piece_at new j ≡ piece_at old j
  piece_kept j far = ap (option_map (λ (n : Node). n.piece)) (taken.others j far) ∙ by_node (get old j)
    where
      by_node : (o : Option Node) → option_map (λ (n : Node). n.piece) (option_map (closed gone j) o) ≡ option_map (λ (n : Node). n.piece) o
      by_node None = refl
      by_node (Some n) = refl

  pieces_kept : (es : List (ℕ × Piece)) → IsAbsent k (keys es) → AllByRecursion (λ (e : ℕ × Piece). piece_at old e.0 ≡ Some e.1) es → AllByRecursion (λ (e : ℕ × Piece). piece_at new e.0 ≡ Some e.1) es
  pieces_kept [] absent h = tt
  pieces_kept (e ∷ es) absent h = (piece_kept e.0 absent.0 ∙ h.0, pieces_kept es absent.1 h.1)

  pieces_cut : (es : List (ℕ × Piece)) → IsApart (keys es) → AllByRecursion (λ (e : ℕ × Piece). piece_at old e.0 ≡ Some e.1) es → AllByRecursion (λ (e : ℕ × Piece). piece_at new e.0 ≡ Some e.1) (removed k es)
  pieces_cut [] apart h = tt
  pieces_cut (e ∷ es) apart h =
      elim (cases_eq e.0 k) [
        | inl same ↦
            let here : removed k (e ∷ es) ≡ es = grind arith in
            subst (AllByRecursion (λ (e : ℕ × Piece). piece_at new e.0 ≡ Some e.1)) (sym here) (pieces_kept es (subst (λ n. IsAbsent n (keys es)) same apart.0) h.1)
        | inr far ↦
            subst (AllByRecursion (λ (e : ℕ × Piece). piece_at new e.0 ≡ Some e.1)) (sym (removed_else k e es far))
            (piece_kept e.0 far ∙ h.0, pieces_cut es apart.1 h.1)
      ]

  -- the piece of the entry is that of the node
  pub piece_found : (es : List (ℕ × Piece)) (p : Piece) → piece_of k es ≡ Some p → AllByRecursion (λ (e : ℕ × Piece). piece_at old e.0 ≡ Some e.1) es → p ≡ gone.piece
  piece_found [] p found h = absurd (cc)
  piece_found (e ∷ es) p found h =
      elim (cases_eq e.0 k) [
        | inl same ↦
            let here : e.1 ≡ p = grind arith in
            let shown : Some gone.piece ≡ Some e.1 = sym (ap (option_map (λ (n : Node). n.piece)) taken.was) ∙ ap (piece_at old) (sym same) ∙ h.0 in
            cc
        | inr far ↦
            let later : piece_of k es ≡ Some p = grind arith in
            piece_found es p later h.1
      ]

  pub indexed_cut : (first_of first_of' : ℕ → Option ℕ) (newest oldest : Option ℕ) (es : List (ℕ × Piece)) (p : Piece) → piece_of k es ≡ Some p → ((o : ℕ) → first_of' o ≡ (if o == gone.piece.origin then past k gone.next (first_of o) else first_of o)) → IsIndexed old first_of newest oldest es → IsIndexed new first_of' (past k gone.older newest) (past k gone.newer oldest) (removed k es)
  indexed_cut first_of first_of' newest oldest es p found moved i =
      let same : p ≡ gone.piece = piece_found es p found i.pieces in
      let age = age_cut i.ages_agree in
      let object = object_cut i.objects_agree in
      let aged : older old k ≡ gone.older = ap (option_and_then (λ (n : Node). n.older)) taken.was in
      let newer_is : newer old k ≡ gone.newer = ap (option_and_then (λ (n : Node). n.newer)) taken.was in
      let next_is : next old k ≡ gone.next = ap (option_and_then (λ (n : Node). n.next)) taken.was in
      let names = keys-removed k es in
      let chains = (λ (o : ℕ). keys_of-removed o k es i.apart) in
      let loose = not_to_itself (older old) k (keys es) i.apart i.by_age.path (member k p es found) in
      let loose_object = not_to_itself (next old) k (keys_of p.origin es) (apart_filter (is_of p.origin) es i.apart) (i.by_object p.origin).path (member_of k p es found) in
      let passed = λ (o : ℕ). ap (λ a. past k a (first_of o)) (sym next_is) ∙ ap (past k (next old k)) (i.firsts o) ∙ sym (first_cut _ _ _ _ k object (keys_of o es) (i.by_object o).path) ∙ ap first (sym (chains o)) in
      let elsewhere = λ (o : ℕ) (far : p.origin ≢ o). i.firsts o ∙ sym (past_absent k gone.next (keys_of o es) (absent_elsewhere o k p es i.apart found far)) ∙ ap (past k gone.next) (sym (i.firsts o)) in
      let first_moved : (o : ℕ) → (if o == gone.piece.origin then past k gone.next (first_of o) else first_of o) ≡ first (keys_of o (removed k es)) = λ o.
      elim (cases_eq o gone.piece.origin) [
        | inl at ↦ grind (arith, passed o)
        | inr off ↦
            let far : p.origin ≢ o = λ e. off (sym e ∙ ap (λ (q : Piece). q.origin) same) in
            grind (arith, passed o, elsewhere o far)
      ] in
      record {
        apart = subst IsApart (sym names) (apart_without k (keys es) i.apart);
        pieces = pieces_cut es i.apart i.pieces;
        by_age = subst (IsChain (newer new) (older new)) (sym names) (chain_cut _ _ _ _ k age i.ages_agree (keys es) i.apart i.by_age);
        ages_agree = mutual_cut _ _ _ _ k age i.ages_agree loose;
        by_object = λ o. subst (IsChain (previous new) (next new)) (sym (chains o)) (chain_cut _ _ _ _ k object i.objects_agree (keys_of o es) (apart_filter (is_of o) es i.apart) (i.by_object o));
        objects_agree = mutual_cut _ _ _ _ k object i.objects_agree loose_object;
        firsts = λ o. moved o ∙ first_moved o;
        newest_is = ap (λ a. past k a newest) (sym aged) ∙ ap (past k (older old k)) i.newest_is ∙ sym (first_cut _ _ _ _ k age (keys es) i.by_age.path) ∙ ap first (sym names);
        oldest_is = ap (λ a. past k a oldest) (sym newer_is) ∙ ap (past k (newer old k)) i.oldest_is ∙ sym (last_cut _ _ _ _ k age i.ages_agree None (keys es) (λ e. cc) i.apart i.by_age.path (λ y e. sym (ap (option_and_then (newer old)) e) ∙ i.by_age.head)) ∙ ap (last_or None) (sym names);
        size = omega (arith, taken.size, i.size, length-removed k p es found);
      }

-- Putting a node in

pub all_filter : (P : ℕ × Piece → Type 0) (p : ℕ × Piece → Bool) (es : List (ℕ × Piece)) → AllByRecursion P es → AllByRecursion P (filter p es)
all_filter P p [] h = tt
all_filter P p (e ∷ es) h =
    elim (p e) as (λ b. AllByRecursion P (if b then e ∷ filter p es else filter p es)) [
      | true ↦ (h.0, all_filter P p es h.1)
      | false ↦ all_filter P p es h.1
    ]

module _ (old new : Slab Node) (k : ℕ) (node : Node) (is_put : IsPut old new k node) where
  not_listed : (es : List (ℕ × Piece)) → AllByRecursion (λ (e : ℕ × Piece). piece_at old e.0 ≡ Some e.1) es → IsAbsent k (keys es)
  not_listed [] h = tt
  not_listed (e ∷ es) h =
      ((λ same. (let f : None ≡ Some e.1 = sym (ap (option_map (λ (n : Node). n.piece)) is_put.was_vacant) ∙ ap (piece_at old) (sym same) ∙ h.0 in cc)), not_listed es h.1)

  -- the first of some entries is a node
  first_there : (es : List (ℕ × Piece)) → AllByRecursion (λ (e : ℕ × Piece). piece_at old e.0 ≡ Some e.1) es → (j : ℕ) → first (keys es) ≡ Some j → get old j ≡ None → ⊥
  first_there [] h j at none = cc
  first_there (e ∷ es) h j at none =
      let same : e.0 ≡ j = cc in
      let f : Some e.1 ≡ None = sym h.0 ∙ ap (piece_at old) same ∙ ap (option_map (λ (n : Node). n.piece)) none in
      cc

  link_kept : (f : Node → Option ℕ) → ((j : ℕ) (n : Node) → f (joined k node.older node.next j n) ≡ f n) → (j : ℕ) → j ≢ k → option_and_then f (get new j) ≡ option_and_then f (get old j)
  link_kept f keeps j far = ap (option_and_then f) (is_put.others j far) ∙ by_node (get old j)
    where
      by_node : (o : Option Node) → option_and_then f (option_map (joined k node.older node.next j) o) ≡ option_and_then f o
      by_node None = refl
      by_node (Some n) = keeps j n

  link_joined : (h : Option ℕ) (f : Node → Option ℕ) → ((j : ℕ) (n : Node) → f (joined k node.older node.next j n) ≡ spliced h j (Some k) (f n)) → ((j : ℕ) → h ≡ Some j → get old j ≡ None → ⊥) → (j : ℕ) → j ≢ k → option_and_then f (get new j) ≡ spliced h j (Some k) (option_and_then f (get old j))
  link_joined h f joins there j far = ap (option_and_then f) (is_put.others j far) ∙ by_node (get old j) refl
    where
      by_node : (o : Option Node) → get old j ≡ o → option_and_then f (option_map (joined k node.older node.next j) o) ≡ spliced h j (Some k) (option_and_then f o)
      by_node None e = sym (spliced_else h j (Some k) None (λ at. there j at e))
      by_node (Some n) e = joins j n

  piece_stays : (j : ℕ) → j ≢ k → piece_at new j ≡ piece_at old j
  piece_stays j far = ap (option_map (λ (n : Node). n.piece)) (is_put.others j far) ∙ by_node (get old j)
    where
      by_node : (o : Option Node) → option_map (λ (n : Node). n.piece) (option_map (joined k node.older node.next j) o) ≡ option_map (λ (n : Node). n.piece) o
      by_node None = refl
      by_node (Some n) = refl

  pieces_stay : (es : List (ℕ × Piece)) → IsAbsent k (keys es) → AllByRecursion (λ (e : ℕ × Piece). piece_at old e.0 ≡ Some e.1) es → AllByRecursion (λ (e : ℕ × Piece). piece_at new e.0 ≡ Some e.1) es
  pieces_stay [] absent h = tt
  pieces_stay (e ∷ es) absent h = (piece_stays e.0 absent.0 ∙ h.0, pieces_stay es absent.1 h.1)

-- the first of an object's nodes has a piece of that object
first_origin : (nodes : Slab Node) (o : ℕ) (es : List (ℕ × Piece)) (j : ℕ) → AllByRecursion (λ (e : ℕ × Piece). piece_at nodes e.0 ≡ Some e.1) es → first (keys_of o es) ≡ Some j → option_map (λ (q : Piece). q.origin) (piece_at nodes j) ≡ Some o
first_origin nodes o [] j h at = absurd (cc)
first_origin nodes o (e ∷ es) j h at =
    elim (cases_eq e.1.origin o) [
      | inl same ↦
          let kept : filter (is_of o) (e ∷ es) ≡ e ∷ filter (is_of o) es = grind arith in
          let here : Some e.0 ≡ Some j = sym (ap (λ (xs : List (ℕ × Piece)). first (keys xs)) kept) ∙ at in
          let number : e.0 ≡ j = cc in
          ap (λ n. option_map (λ (q : Piece). q.origin) (piece_at nodes n)) (sym number) ∙ ap (option_map (λ (q : Piece). q.origin)) h.0 ∙ ap Some same
      | inr far ↦
          let left_out : filter (is_of o) (e ∷ es) ≡ filter (is_of o) es = grind arith in
          first_origin nodes o es j h.1 (sym (ap (λ (xs : List (ℕ × Piece)). first (keys xs)) left_out) ∙ at)
    ]

module _ (old new : Slab Node) (k : ℕ) (node : Node) (is_put : IsPut old new k node) where
  other_head : (first_of : ℕ → Option ℕ) (newest oldest : Option ℕ) (es : List (ℕ × Piece)) → IsIndexed old first_of newest oldest es → IsJoin (previous old) (next old) (previous new) (next new) k node.next → node.next ≡ first (keys_of node.piece.origin es) → IsAbsent k (keys es) → (o : ℕ) → node.piece.origin ≢ o → (x : Option ℕ) → first (keys_of o es) ≡ x → option_and_then (previous new) x ≡ None
  other_head first_of newest oldest es i object placed absent o far None e = refl
  other_head first_of newest oldest es i object placed absent o far (Some z) e =
      let apart : z ≢ k = λ f. absent_first k (keys_of o es) (absent_filter (is_of o) k es absent) (e ∙ ap Some f) in
      let off : node.next ≢ Some z = λ f. (
      let a = first_origin old node.piece.origin es z i.pieces (sym placed ∙ f) in
      let b = first_origin old o es z i.pieces e in
      far (cc)) in
      object.before_joined z apart ∙ spliced_else node.next z (Some k) (previous old z) off ∙ ap (option_and_then (previous old)) (sym e) ∙ (i.by_object o).head

  pub indexed_join : (first_of first_of' : ℕ → Option ℕ) (newest oldest : Option ℕ) (es : List (ℕ × Piece)) → node.newer ≡ None → node.previous ≡ None → node.older ≡ newest → node.next ≡ first_of node.piece.origin → ((o : ℕ) → first_of' o ≡ (if o == node.piece.origin then Some k else first_of o)) → IsIndexed old first_of newest oldest es → IsIndexed new first_of' (Some k) (or_else oldest k) ((k, node.piece) ∷ es)
  indexed_join first_of first_of' newest oldest es no_newer no_previous before_newest before_first moved i =
      let absent = not_listed old new k node is_put es i.pieces in
      let own = node.piece.origin in
      let aged : node.older ≡ first (keys es) = before_newest ∙ i.newest_is in
      let placed : node.next ≡ first (keys_of own es) = before_first ∙ i.firsts own in
      let here : get new k ≡ Some node = is_put.put (λ e. absent_first k (keys es) absent (sym aged ∙ e)) (λ e. absent_first k (keys_of own es) (absent_filter (is_of own) k es absent) (sym placed ∙ e)) in
      let object_pieces = λ (o : ℕ). all_filter (λ (e : ℕ × Piece). piece_at old e.0 ≡ Some e.1) (is_of o) es i.pieces in
      let age : IsJoin (newer old) (older old) (newer new) (older new) k node.older =
      record {
        after_new = ap (option_and_then (λ (n : Node). n.older)) here;
        before_new = ap (option_and_then (λ (n : Node). n.newer)) here ∙ no_newer;
        after_kept = link_kept old new k node is_put (λ n. n.older) (λ j n. refl);
        before_joined = link_joined old new k node is_put node.older (λ n. n.newer) (λ j n. refl) (λ j at. first_there old new k node is_put es i.pieces j (sym aged ∙ at));
      } in
      let object : IsJoin (previous old) (next old) (previous new) (next new) k node.next =
      record {
        after_new = ap (option_and_then (λ (n : Node). n.next)) here;
        before_new = ap (option_and_then (λ (n : Node). n.previous)) here ∙ no_previous;
        after_kept = link_kept old new k node is_put (λ n. n.next) (λ j n. refl);
        before_joined = link_joined old new k node is_put node.next (λ n. n.previous) (λ j n. refl) (λ j at. first_there old new k node is_put (filter (is_of own) es) (object_pieces own) j (sym placed ∙ at));
      } in
      record {
        apart = (absent, i.apart);
        pieces = (ap (option_map (λ (n : Node). n.piece)) here, pieces_stay old new k node is_put es absent i.pieces);
        by_age = record { head = age.before_new; path = (age.after_new ∙ aged, path_joined _ _ _ _ k node.older age (keys es) absent i.by_age.path) };
        ages_agree = mutual_join _ _ _ _ k node.older age i.ages_agree (ap (option_and_then (λ (n : Node). n.older)) is_put.was_vacant) (ap (option_and_then (λ (n : Node). n.newer)) is_put.was_vacant) (λ e. absent_first k (keys es) absent (sym aged ∙ e)) (ap (option_and_then (newer old)) aged ∙ i.by_age.head);
        by_object = λ o.
            elim (cases_eq own o) [
              | inl same ↦
                  subst (IsChain (previous new) (next new)) (sym (ap keys (filter_own o k node.piece es same)))
                  (record {
                    head = object.before_new;
                    path = (object.after_new ∙ placed ∙ ap (λ n. first (keys_of n es)) same, path_joined _ _ _ _ k node.next object (keys_of o es) (absent_filter (is_of o) k es absent) (i.by_object o).path);
                  })
              | inr far ↦
                  subst (IsChain (previous new) (next new)) (sym (ap keys (filter_other o k node.piece es far)))
                  (record {
                    head = other_head first_of newest oldest es i object placed absent o far _ refl;
                    path = path_joined _ _ _ _ k node.next object (keys_of o es) (absent_filter (is_of o) k es absent) (i.by_object o).path;
                  })
            ];
        objects_agree = mutual_join _ _ _ _ k node.next object i.objects_agree (ap (option_and_then (λ (n : Node). n.next)) is_put.was_vacant) (ap (option_and_then (λ (n : Node). n.previous)) is_put.was_vacant) (λ e. absent_first k (keys_of own es) (absent_filter (is_of own) k es absent) (sym placed ∙ e)) (ap (option_and_then (previous old)) placed ∙ (i.by_object own).head);
        firsts = λ o. moved o ∙
            elim (cases_eq own o) [
              | inl same ↦ let e = ap (λ xs. first (keys xs)) (filter_own o k node.piece es same) in grind (arith, e)
              | inr far ↦ let e = ap (λ xs. first (keys xs)) (filter_other o k node.piece es far) in grind (arith, e, i.firsts o)
            ];
        newest_is = refl;
        oldest_is = ap (λ x. or_else x k) i.oldest_is ∙ sym (last_or_else k (keys es));
        size = omega (arith, is_put.size, i.size);
      }
