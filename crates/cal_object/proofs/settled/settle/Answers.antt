use Rattle.std.proofs.Common.{◌≡◌, ℕ, zero, suc, ◌+◌, ◌<◌, List, [], ◌∷◌, ◌++◌, length, map, take, drop, refl, ap, arith, slice_set, slice_index_or}
use Rattle.cal_model.specs.Objects.ObjectReading as spec
use Rattle.cal_object.proofs.settled.settle.Goals as goal

-- a list whose items up to one are mapped, once that one is mapped too
map_next : {X : Type 0} (f : X → X) (xs : List X) (n : ℕ) (x : X) → n < length xs →
    slice_set (map f (take n xs) ++ drop n xs) n (f (slice_index_or (map f (take n xs) ++ drop n xs) n x)) ≡ map f (take (suc n) xs) ++ drop (suc n) xs
map_next f [] n x below = absurd (omega arith)
map_next f (y ∷ ys) zero x below = refl
map_next f (y ∷ ys) (suc n) x below = ap (λ those. f y ∷ those) (map_next f ys n x (omega arith))

pub loop-component-preserved : goal.loop-component-preserved
loop-component-preserved c =
    let behind : c.loop-component.component-index + 1 ≡ suc c.loop-component.component-index = omega arith in
    rw (c.is_like.ensures, c.loop-component.invariant, behind)
    (map_next (spec.settled_component c.args.ids) _ c.loop-component.component-index c.component-item.result c.loop-component-test.true)
