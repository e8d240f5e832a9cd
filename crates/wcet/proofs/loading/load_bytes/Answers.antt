use Rattle.std.proofs.Common.{◌≡◌, Err, inl, refl, ap}
use Rattle.wc_io.specs.declared.whole.ReadWhole.{ReadWhole}
use Rattle.wc_io.specs.declared.whole.ReadWhole.TheVariants.{Long}
use Rattle.wcet.proofs.LoadingLemmas.{long_bytes, may_be}
use Rattle.wcet.proofs.loading.load_bytes.Goals as goal

pub returns-in-Ok-clause-file : goal.returns-in-Ok-clause-file
returns-in-Ok-clause-file g c =
    (c.in-Ok.ensures.house.rows, (c.in-Ok.bytes.items, may_be _ _ _ c.in-Ok.ensures.bytes c.in-Ok.ensures.there, (c.in-Ok.ensures.short, refl)))

pub returns-in-Err-Long-clause-file : goal.returns-in-Err-Long-clause-file
returns-in-Err-Long-clause-file g c =
    let was : c.in-Err-Long.field-0 ≡ Long = c.in-Err-Long.field-0-is in
    let is = ap (λ (e : ReadWhole). Err e) was in
    let some = long_bytes (g.H.House.file c.args.house.now c.args.path.now) (g.H.House.tells c.args.house.now) 16777216 (c.in-Err-Long.ensures.long is) (c.in-Err-Long.ensures.long_there is) in
    (rw was at c.in-Err-Long.ensures.house.rows, (some.0, some.1, inl (some.2, refl)))
