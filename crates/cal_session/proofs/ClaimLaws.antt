-- Claims and their ends leave the journal as it is.
use Rattle.std.proofs.Common.{◌≡◌, ap}
use Rattle.std.specs.Prelude.{List, Result, Ok, Err, OnOk, OnErr}
use Rattle.cal_model.specs.History.Claims.{Pair, Work}
use Rattle.cal_book.specs.Cores.{Core}
use Rattle.cal_book.specs.Publishing.{IsPublished}
use Rattle.cal_book.specs.declared.claims.Expanded.{Expanded}
use Rattle.cal_book.specs.declared.claims.Publish.{Publish}
use Rattle.cal_book.specs.declared.claims.Publish.TheVariants.{Published, Stale, NoMemory}

pub claim_keeps : {T E : Type 0} (old new : Core) (out : List Pair) (claimed : Result T E) → OnOk claimed (new.work ≡ record old.work { out = out }) → OnErr claimed (new ≡ old)
    → new.work.journal ≡ old.work.journal
claim_keeps old new out (Ok claim) work err = ap (λ (w : Work). w.journal) work
claim_keeps old new out (Err none) work err = ap (λ (core : Core). core.work.journal) err

pub publish_keeps : (expanded : Expanded) (old new : Work) (end : Publish) → IsPublished expanded old new end → new.journal ≡ old.journal
publish_keeps expanded old new Published published = ap (λ (w : Work). w.journal) published.1
publish_keeps expanded old new (Stale now) published = ap (λ (w : Work). w.journal) published.2
publish_keeps expanded old new NoMemory published = ap (λ (w : Work). w.journal) published.1
