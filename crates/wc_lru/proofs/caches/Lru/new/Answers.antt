use Rattle.wc_lru.proofs.HeldLemmas.{none_held}
use Rattle.wc_lru.proofs.caches.Lru.new.Goals as goal

-- src/caches.rt:32:5
pub returns-clause-empty : goal.returns-clause-empty
returns-clause-empty c = λ s. none_held c.args.cache.now.sets s c.in_ok-vec.field-0.items c.empty.result (c.in_ok-vec.ensures.items_if_clones_equal (λ _ same. same)) c.empty.ensures.lines
