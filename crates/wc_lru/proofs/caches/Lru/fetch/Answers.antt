use Rattle.std.proofs.Common.{◌≡◌, ◌/◌, ◌%◌, map, rules, set, subst}
use Rattle.wc_model.specs.Cache.Lru.{cache_fetched}
use Rattle.wc_lru.specs.Filled.{Filled, held_in}
use Rattle.wc_lru.proofs.HeldLemmas.{set_fetched}
use Rattle.wc_lru.specs.Inner.Sets.{lines_of}
use Rattle.wc_lru.proofs.caches.Lru.fetch.Goals as goal

-- src/caches.rt:43:5
pub returns-clause-held : goal.returns-clause-held
returns-clause-held c =
    let cache = c.self.inside.cache in
    let line = c.args.at / cache.line in
    let sets = c.self.inside.sets.items in
    subst (λ (v : Filled). held_in (record { cache = cache; sets = map lines_of (set sets (line % cache.sets) c.fetch.new.self) }) ≡ cache_fetched v.cache c.args.at (held_in v)) c.self.view_is
    (λ i s. set_fetched cache.ways line sets (line % cache.sets) s c.index_mut.result.now c.fetch.new.self (search rules) c.index_mut.ensures.value c.fetch.ensures.lines i)
